-- What a store that served lines has paid and holds, by the counts and the devices alone.
use Rattle.std.proofs.Common.{◌≡◌, ℕ, ◌<◌, ◌≤◌, false, List, [], length, sym, ◌∙◌, ap, subst, arith, refl, Ok, Err}
use Rattle.std.specs.Prelude.{Result, IfOk, IfErr}
use Rattle.std.proofs.lemmas.List.{ext_get_or, length-map, nil_from_length}
use Rattle.dd_block.specs.declared.print.Fp.{Fp}
use Rattle.dd_block.specs.declared.geometry.Geometry.{Geometry}
use Rattle.dd_rig.specs.declared.tallies.Counts.{Counts}
use Rattle.dd_rig.specs.World.{World}
use Rattle.dd_record.specs.Table.{Table, is_dirty_at}
use Rattle.dd_model.specs.Rows.{entry_of}
use Rattle.dd_model.specs.State.{Sizes, State, array_of}
use Rattle.dd_model.proofs.Arrays.{array_block, length-array_of}
use Rattle.dd_script.specs.Counting.{dirty_after}
use Rattle.dd_script.proofs.Counting.{dirty_more}
use Rattle.dd_store.specs.Keeping.{StoreView, Kept}
use Rattle.dd_store.specs.Meaning.{Basis, Means, sizes_of}
use Rattle.dd_loop.specs.Answering.{Pays}
use Rattle.dd_loop.specs.Standing.{IsHeld}
use Rattle.dd_answers.specs.Answering.{KeptSince}
use Rattle.dd_answers.specs.Costs.{CostsLines, HasArray, HasArrayBehind}
use Rattle.dd_answers.specs.Serving.{LinesPaid}

-- what a store has paid whose dirty addresses were no more than these
pub spent_by : (listed : ℕ) (old new : StoreView) (before after : Counts) → length old.dirty ≤ listed → (lines : List (List ℕ)) (more : ℕ) → Pays (CostsLines old new) before after lines more → LinesPaid listed before after lines more
spent_by listed old new before after few lines more paid = (
  record {
    hits = paid.0.hits;
    whole = λ none fine.
        let whole = paid.0.whole none fine in
        record { loads = omega (arith, whole.loads, few); calm = λ calm. omega (arith, whole.calm calm) };
  },
  paid.1,
)

-- as many addresses are listed as there are rows
pub listed_rows : (basis : Basis) (print : List ℕ → Fp) (store : StoreView) (world : World) (c s : State) → Kept basis print store world c s → length store.table.a ≡ length s.addresses
listed_rows basis print store world c s kept = sym (length-map store.table.a entry_of) ∙ ap length (sym kept.holds.means.lists.addresses)

-- the disk has the array where no address is dirty
array_held : (geo : Geometry) (print : List ℕ → Fp) (flash disk : List ℕ) (table : Table) (count : ℕ) (s : State) → Means print geo flash disk table count s → ((address : ℕ) → is_dirty_at address table.a ≡ false)
    → array_of geo.block geo.blocks disk ≡ s.array
array_held geo print flash disk table count s means none =
    let size : length (array_of geo.block geo.blocks disk) ≡ geo.blocks = length-array_of geo.block geo.blocks disk in
    ext_get_or [] (array_of geo.block geo.blocks disk) s.array (size ∙ sym means.array_length)
    (λ address h.
    let below : address < geo.blocks = omega (arith, h, size) in
    array_block geo.block geo.blocks disk address below ∙ sym (means.clean address below (none address)))

-- and so behind lines that leave none dirty
pub drained_by : (print : List ℕ → Fp) (old new : StoreView) (first world : World) (before after : Counts) → sizes_of new.journal.geo ≡ sizes_of old.journal.geo → length old.dirty ≤ old.journal.geo.acap
    → (new.dirty ≡ [] → (address : ℕ) → is_dirty_at address new.table.a ≡ false) → (lines : List (List ℕ)) (s : State) → Pays (CostsLines old new) before after lines 0 → IsHeld (λ committed held. KeptSince print new first world committed held) s
    → HasArrayBehind (sizes_of old.journal.geo) world lines s
drained_by print old new first world before after same few known lines s paid held = λ none.
    let acap : ℕ = old.journal.geo.acap in
    let end : length new.dirty ≤ dirty_after acap (length old.dirty) lines = paid.0.dirty refl few in
    let empty : new.dirty ≡ [] = nil_from_length new.dirty (omega (arith, end, dirty_more acap (length old.dirty) acap lines few, none)) in
    subst (λ (sizes : Sizes). HasArray sizes world s) same (array_held new.journal.geo print world.flash.shown world.disk.shown new.table new.count s held.1.2.holds.means (known empty))

pub ok_map : {T E : Type 0} (result : Result T E) (P Q : T → Type 0) → ((x : T) → P x → Q x) → IfOk result P → IfOk result Q
ok_map (Ok x) P Q f h = f x h
ok_map (Err e) P Q f h = tt

pub err_map : {T E : Type 0} (result : Result T E) (P Q : E → Type 0) → ((e : E) → P e → Q e) → IfErr result P → IfErr result Q
err_map (Ok x) P Q f h = tt
err_map (Err e) P Q f h = f e h
