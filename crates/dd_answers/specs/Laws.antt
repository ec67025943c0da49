-- What an emit leaves of a store, that one which may answer some lines may answer fewer, and what lines cost together: the laws that
-- `Cache` of dd_loop asks for.
use Rattle.std.proofs.Common.{◌≡◌, ℕ, ◌≤◌, List, [], ◌∷◌, ◌++◌, length, refl, ◌∙◌, ap, arith, sym, subst}
use Rattle.dd_block.specs.declared.print.Fp.{Fp}
use Rattle.dd_rig.specs.Device.{Device}
use Rattle.dd_rig.specs.World.{World}
use Rattle.dd_rig.specs.declared.device.Dev.{Dev}
use Rattle.dd_rig.specs.declared.device.Dev.TheVariants as dev
use Rattle.dd_rig.specs.declared.tallies.Calls.{Calls}
use Rattle.dd_rig.specs.declared.tallies.Counts.{Counts}
use Rattle.dd_model.specs.State.{Entry, State}
use Rattle.dd_script.specs.Text.{lists_text}
use Rattle.dd_store.specs.Keeping.{StoreView, Kept}
use Rattle.dd_script.specs.Counting.{dirty_after}
use Rattle.dd_script.proofs.Counting.{faults_both, hits_both, loads_both, updates_both, calm_both, dirty_both, dirty_more, dirty_few, lists_counted, lists_dirty}
use Rattle.dd_answers.specs.Answering.{MayAnswer}
use Rattle.dd_answers.specs.Costs.{CostsWhole, CostsLines}
use Rattle.dd_store.specs.Meaning.{Basis}

-- over the same devices with another output
said_other : (basis : Basis) (print : List ℕ → Fp) (store : StoreView) (flash disk : Device) (one another : List ℕ) (c s : State)
    → Kept basis print store (record { flash = flash; disk = disk; said = one }) c s → Kept basis print store (record { flash = flash; disk = disk; said = another }) c s
said_other basis print store flash disk one another c s k = record {
  up = k.up;
  pace = k.pace;
  holds = record { means = k.holds.means; laid = k.holds.laid };
  counted = k.counted;
  stands = k.stands;
  rows = k.rows;
  sits = record { stable = k.sits.stable; each = k.sits.each };
  fit = k.fit;
  replayed = k.replayed;
  slots_stable = k.slots_stable;
  slots_kept = k.slots_kept;
  blocks_committed = k.blocks_committed;
  blocks_held = k.blocks_held;
}

-- the output is no part of what is kept
pub kept_unsaid : (basis : Basis) (print : List ℕ → Fp) (store : StoreView) (old new : World) (c s : State) → new.flash ≡ old.flash → new.disk ≡ old.disk → Kept basis print store old c s → Kept basis print store new c s
kept_unsaid basis print store old new c s e f k =
    subst (λ (flash : Device). Kept basis print store (record { flash = flash; disk = new.disk; said = new.said }) c s) (sym e)
    (subst (λ (disk : Device). Kept basis print store (record { flash = old.flash; disk = disk; said = new.said }) c s) (sym f) (said_other basis print store old.flash old.disk old.said new.said c s k))

pub answers_fewer : (store : StoreView) (n m : ℕ) (size : Dev → ℕ) → m ≤ n → MayAnswer store n size → MayAnswer store m size
answers_fewer store n m size le h = record { up = h.up; count = omega (arith, h.count, le); epoch = omega (arith, h.epoch, le); flash = h.flash; disk = h.disk }

-- no line costs nothing
pub costs_none : (store : StoreView) (counts : Counts) → CostsLines store store [] 0 counts counts
costs_none store counts = record {
  acap = refl;
  hits = omega arith;
  dirty = λ whole few. omega arith;
  whole = λ whole fine. record { loads = omega arith; calm = λ calm. omega arith };
}

-- nor does a line that tells both lists
pub costs_lists : (store : StoreView) (entries : List Entry) (prints : List Fp) (counts : Counts) → CostsLines store store (lists_text entries prints ∷ []) 0 counts counts
costs_lists store entries prints counts =
    let told = lists_counted entries prints in
    record {
      acap = refl;
      hits = omega (arith, told.hits);
      dirty = λ whole few. omega (arith, lists_dirty store.journal.geo.acap (length store.dirty) entries prints);
      whole = λ whole fine. record { loads = omega arith; calm = λ calm. omega arith };
    }

-- lines, and further ones
pub costs_both : (one two three : StoreView) (lines others : List (List ℕ)) (more : ℕ) (p q r : Counts) → CostsLines one two lines 0 p q → CostsLines two three others more q r → CostsLines one three (lines ++ others) more p r
costs_both one two three lines others more p q r h k =
    let acap : ℕ = one.journal.geo.acap in
    let loads = loads_both lines others in
    let updates = updates_both lines others in
    record {
      acap = k.acap ∙ h.acap;
      hits = omega (arith, h.hits, k.hits, hits_both lines others);
      dirty = λ whole few.
          let middle : length two.dirty ≤ dirty_after acap (length one.dirty) lines = h.dirty refl few in
          let still : length two.dirty ≤ two.journal.geo.acap = omega (arith, middle, dirty_few acap (length one.dirty) lines few, h.acap) in
          let end : length three.dirty ≤ dirty_after acap (length two.dirty) others = subst (λ n. length three.dirty ≤ dirty_after n (length two.dirty) others) h.acap (k.dirty whole still) in
          omega (arith, end, dirty_more acap (length two.dirty) (dirty_after acap (length one.dirty) lines) others middle, dirty_both acap (length one.dirty) lines others);
      whole = λ whole fine.
          let flash = faults_both dev.Flash lines others in
          let disk = faults_both dev.Disk lines others in
          let first = h.whole refl (omega (arith, flash, fine.0), omega (arith, disk, fine.1)) in
          let second = k.whole whole (omega (arith, flash, fine.0), omega (arith, disk, fine.1)) in
          record {
            loads = omega (arith, first.loads, second.loads, loads, updates);
            calm = λ calm. let both = calm_both lines others calm in omega (arith, first.calm both.0, second.calm both.1, loads);
          };
    }

-- saying something is no call of a device
pub costs_idle : (one two : StoreView) (lines : List (List ℕ)) (more : ℕ) (p q r : Counts) → r.flash ≡ q.flash → r.disk ≡ q.disk → CostsLines one two lines more p q → CostsLines one two lines more p r
costs_idle one two lines more p q r flash disk h = record {
  acap = h.acap;
  hits = omega (arith, h.hits, ap (λ (k : Calls). k.reads) flash);
  dirty = h.dirty;
  whole = λ whole fine. subst (λ (k : Calls). CostsWhole lines one two p.disk k) (sym disk) (h.whole whole fine);
}

-- a line that isn't said was begun
pub costs_cut : (one two : StoreView) (line : List ℕ) (p q : Counts) → CostsLines one two (line ∷ []) 0 p q → CostsLines one two [] 1 p q
costs_cut one two line p q h = record {
  acap = h.acap;
  hits = omega (arith, h.hits);
  dirty = λ whole. absurd (cc whole);
  whole = λ whole. absurd (cc whole);
}

pub costs_begun : (one two : StoreView) (lines : List (List ℕ)) (p q : Counts) → CostsLines one two lines 0 p q → CostsLines one two lines 1 p q
costs_begun one two lines p q h = record {
  acap = h.acap;
  hits = h.hits;
  dirty = λ whole. absurd (cc whole);
  whole = λ whole. absurd (cc whole);
}
