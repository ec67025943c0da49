-- A reference whose record fits and whose content is there: what it answers.
use Rattle.std.proofs.Common.{◌≡◌, ◌⊎◌, ⊎_elim, Bool, true, false, List, ℕ, refl, sym, ◌∙◌, ap, if◌then◌else◌}
use Rattle.dd_block.specs.declared.print.Fp.{Fp}
use Rattle.dd_rig.specs.World.{World}
use Rattle.dd_record.specs.declared.rec.Rec.{Rec}
use Rattle.dd_record.specs.declared.row.Link.TheVariants.{Lost}
use Rattle.dd_record.specs.Table.{link_at}
use Rattle.dd_record.specs.Replay.{Touch}
use Rattle.dd_model.specs.declared.kind.Kind.TheVariants.{Dup, Join}
use Rattle.dd_model.specs.State.{State, content, is_at_hand}
use Rattle.dd_model.specs.Reference.{Tells}
use Rattle.dd_store.specs.Meaning.{sizes_of}
use Rattle.dd_store.specs.Keeping.{StoreView, IsStore, Holds}
use Rattle.dd_store.specs.Referring.{RecordFits, Refers, kind_of, done_of}
use Rattle.dd_store.specs.Bringing.{Carries, answer_for}
use Rattle.dd_store.proofs.Telling.{tells_read, tells_write, kind_dup, kind_join}

pub refers_of : (print : List ℕ → Fp) (store : StoreView) (flash : List ℕ) (s : State) (its : Rec) (touch : Touch) (block : List ℕ) → RecordFits store its touch → Carries print store flash s touch block
    → Refers print store flash s its touch block
refers_of print store flash s its touch block fits carries = record {
  fits = fits;
  below = carries.below;
  long = carries.long;
  there = carries.there;
  placed = carries.placed;
  read = carries.read;
}

module _ (print : List ℕ → Fp) (store : StoreView) (world : World) (s : State) (is : IsStore store) (holds : Holds print store world s)
    (its : Rec) (touch : Touch) (block : List ℕ) (refers : Refers print store world.flash.shown s its touch block) where
  pub tells_as : kind_of its ≡ (answer_for touch.dirty (sizes_of store.journal.geo) s touch.address block).kind
      → Tells print (done_of store its touch) (answer_for touch.dirty (sizes_of store.journal.geo) s touch.address block)
  tells_as kind = by_dirty touch.dirty refl kind
    where
      by_dirty : (b : Bool) → touch.dirty ≡ b → kind_of its ≡ (answer_for b (sizes_of store.journal.geo) s touch.address block).kind
          → Tells print (done_of store its touch) (answer_for b (sizes_of store.journal.geo) s touch.address block)
      by_dirty true e kind = tells_write print store world s is holds its touch block refers kind
      by_dirty false e kind = tells_read print store world s is holds its touch block refers (refers.read e) kind

-- a reference with a block that is at hand, of an address that isn't linked or is written
pub kind_at_hand : (print : List ℕ → Fp) (store : StoreView) (world : World) (s : State) (is : IsStore store) (holds : Holds print store world s) (address : ℕ) (block : List ℕ) (dirty : Bool)
    → (dirty ≡ true) ⊎ (link_at address store.table.a ≡ Lost) → (dirty ≡ false → block ≡ content s.array address) → is_at_hand block s.blocks ≡ true
    → (if dirty then Dup else Join) ≡ (answer_for dirty (sizes_of store.journal.geo) s address block).kind
kind_at_hand print store world s is holds address block true anew read at_hand = sym (kind_dup print store world s is holds block at_hand)
kind_at_hand print store world s is holds address block false anew read at_hand = sym (⊎_elim
    (λ never. absurd (cc never))
    (λ lost. kind_join print store world s is holds address lost (ap (λ (x : List ℕ). is_at_hand x s.blocks) (sym (read refl)) ∙ at_hand))
    anew)
