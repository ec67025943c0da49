-- The type of a store behind a commit, and where nothing is laid.
use Rattle.std.proofs.Common.{◌≡◌, inl, inr, ℕ, ◌≤◌, List, [], length, map, refl, sym, ◌∙◌, ap, subst, arith}
use Rattle.std.specs.Prelude.{IsTrue}
use Rattle.std.specs.List.{IsDistinct}
use Rattle.std.proofs.lemmas.List.{length-map}
use Rattle.dd_block.specs.declared.geometry.Geometry.{Geometry}
use Rattle.dd_block.specs.declared.print.Fp.{Fp}
use Rattle.dd_block.specs.Geometry.{slot_count}
use Rattle.dd_rig.specs.World.{World}
use Rattle.dd_slots.specs.declared.usage.Usage.{Usage}
use Rattle.dd_slots.specs.Slots.{SlotsView, freed, settled}
use Rattle.dd_record.specs.declared.rec.Rec.{Rec}
use Rattle.dd_model.specs.State.{State}
use Rattle.dd_journal.specs.Regions.{AreRows}
use Rattle.dd_journal.specs.Sitting.{JournalView}
use Rattle.dd_store.specs.Committing.{committed_store}
use Rattle.dd_store.specs.Keeping.{StoreView, IsStore, Kept}
use Rattle.dd_store.specs.Saving.{AreSlotsOf}
use Rattle.dd_store.specs.Serving.{unlaid}
use Rattle.dd_store.proofs.Uses.{used_then}
use Rattle.dd_store.specs.Meaning.{Basis}

-- what is laid is forgotten
pub unlaid_is : (store : StoreView) → IsStore store → IsStore (unlaid store)
unfolding IsDistinct
unlaid_is store is = record {
  journal_up = is.journal_up;
  version = is.version;
  rows = is.rows;
  fit = is.fit;
  few = is.few;
  records = is.records;
  counted = is.counted;
  sized = is.sized;
  used = is.used;
  named = is.named;
  dirty = is.dirty;
  laid = λ address never. absurd (cc never);
  laid_once = tt;
  few_laid = omega arith;
  laid_alone = inl refl;
}

pub kept_unlaid : (basis : Basis) (print : List ℕ → Fp) (store : StoreView) (world : World) (c s : State) → Kept basis print store world c s → Kept basis print (unlaid store) world c s
kept_unlaid basis print store world c s kept = record {
  up = kept.up;
  pace = kept.pace;
  holds = record { means = kept.holds.means; laid = λ address never. absurd (cc never) };
  counted = kept.counted;
  stands = kept.stands;
  rows = kept.rows;
  sits = kept.sits;
  fit = kept.fit;
  replayed = kept.replayed;
  slots_stable = kept.slots_stable;
  slots_kept = kept.slots_kept;
  blocks_committed = kept.blocks_committed;
  blocks_held = kept.blocks_held;
}

-- behind a commit
pub committed_is : (store : StoreView) (journal : JournalView) → IsStore store → IsTrue journal.is_up → journal.geo ≡ store.journal.geo → journal.version ≡ store.journal.version → journal.committed ≡ store.count
    → IsStore (committed_store store journal)
committed_is store journal is up same version counted = record {
  journal_up = up;
  version = version ∙ is.version;
  rows = subst (λ (g : Geometry). AreRows g journal.version store.table) (sym same) (subst (λ v. AreRows store.journal.geo v store.table) (sym version) is.rows);
  fit = is.fit;
  few = omega arith;
  records = tt;
  counted = omega (arith, counted);
  sized = length-map store.uses freed ∙ is.sized ∙ ap (λ (g : Geometry). slot_count g) (sym same);
  used = λ slot. used_then slot store.uses ∙ is.used slot;
  named = tt;
  dirty = is.dirty;
  laid = is.laid;
  laid_once = is.laid_once;
  few_laid = subst (λ (g : Geometry). length store.laid ≤ g.group) (sym same) is.few_laid;
  laid_alone = inr refl;
}

-- the store as its fields are then
pub flushed_is : (P : StoreView → Type 0) (store : StoreView) (journal : JournalView) (pending : List Rec) (uses : List Usage) (laid : List ℕ) → pending ≡ [] → uses ≡ map freed store.uses → laid ≡ []
    → P (committed_store (unlaid store) journal) → P (record store { journal = journal; pending = pending; uses = uses; laid = laid })
flushed_is P store journal pending uses laid no_pending free no_laid h =
    subst (λ (recs : List Rec). P (record store { journal = journal; pending = recs; uses = uses; laid = laid })) (sym no_pending)
    (subst (λ (us : List Usage). P (record store { journal = journal; pending = []; uses = us; laid = laid })) (sym free)
    (subst (λ (ns : List ℕ). P (record store { journal = journal; pending = []; uses = map freed store.uses; laid = ns })) (sym no_laid) h))

-- slots that were settled lie where they lay
pub settled_placed : (geo : Geometry) (slots : SlotsView) → AreSlotsOf geo slots → AreSlotsOf geo (settled slots)
settled_placed geo slots placed = record { from = placed.from; size = placed.size; count = length-map slots.uses freed ∙ placed.count }
