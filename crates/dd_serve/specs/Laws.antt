-- What a scratch keeps and what its lines cost, along a script: the laws that `Cache` of dd_loop asks for.
use Rattle.std.proofs.Common.{◌≡◌, inl, ℕ, ◌+◌, ◌*◌, ◌<◌, ◌≤◌, Bool, true, false, cond, List, [], ◌∷◌, ◌++◌, refl, sym, ◌∙◌, ap, subst, arith, if◌then◌else◌}
use Rattle.std.specs.Prelude.{filter, nat_lt, slice_index}
use Rattle.std.specs.Str.{bytes_eq}
use Rattle.std.proofs.lemmas.Slice.Eq.{bytes_eq-Decides}
use Rattle.dd_block.specs.declared.print.Fp.{Fp}
use Rattle.dd_rig.specs.declared.device.Dev.{Dev}
use Rattle.dd_rig.specs.declared.device.Dev.TheVariants as dev
use Rattle.dd_rig.specs.declared.tallies.Calls.{Calls}
use Rattle.dd_rig.specs.declared.tallies.Counts.{Counts}
use Rattle.dd_rig.specs.Device.{Device, IsOutside, IsImage}
use Rattle.dd_rig.specs.World.{World}
use Rattle.dd_model.specs.State.{Entry, Sizes, State}
use Rattle.dd_script.specs.Answers.{faults_in}
use Rattle.dd_script.specs.Counting.{is_hit, is_load, is_miss, hits_in, loads_in, misses_in}
use Rattle.dd_script.proofs.Counting.{faults_both, hits_both, loads_both, misses_both}
use Rattle.dd_script.specs.Text.{fault_text, lists_text}
use Rattle.dd_loop.specs.Saying.{IsIdle}
use Rattle.dd_loop.specs.Standing.{AllStand}
use Rattle.dd_serve.specs.Answering.{MayAnswer, HoldsState, StaysBy, CostsLines}
use Rattle.dd_serve.specs.Calls.{AsksForLines, OnlyBlocks, WritesBlocks, looks_in}
use Rattle.dd_serve.specs.Scratch.{ScratchView, Scratched, KeepsImages, scratch_sizes}

-- lines, and further ones
pub looks_both : (lines others : List (List ℕ)) → looks_in (lines ++ others) ≡ looks_in lines + looks_in others
looks_both lines others = omega (arith, loads_both lines others, faults_both dev.Flash lines others, faults_both dev.Disk lines others)

times_sum : (k m n more : ℕ) → k * (m + 0) + k * (n + more) ≡ k * (m + n + more)
times_sum k m n more = grind arith

asks_both : (sizes : Sizes) (lines others : List (List ℕ)) (more : ℕ) (p q r : Counts) → AsksForLines sizes lines 0 p q → AsksForLines sizes others more q r → AsksForLines sizes (lines ++ others) more p r
asks_both sizes lines others more p q r h k =
    let hits = hits_both lines others in
    let looks = looks_both lines others in
    let misses = misses_both lines others in
    let reads = times_sum sizes.bcap (looks_in lines) (looks_in others) more ∙ ap (λ n. sizes.bcap * (n + more)) (sym looks) in
    let bytes = times_sum sizes.block (misses_in lines) (misses_in others) more ∙ ap (λ n. sizes.block * (n + more)) (sym misses) in (
      omega (arith, h.0, k.0, hits),
      (
        (omega (arith, h.1.0.0, k.1.0.0, hits, reads), omega (arith, h.1.0.1, k.1.0.1, misses), omega (arith, h.1.0.2, k.1.0.2, bytes)),
        (omega (arith, h.1.1.0, k.1.1.0, looks), omega (arith, h.1.1.1, k.1.1.1), omega (arith, h.1.1.2, k.1.1.2)),
      ),
    )

-- nothing was asked behind
pub asks_still : (sizes : Sizes) (lines : List (List ℕ)) (more : ℕ) (before a b : Counts) → IsIdle a b → AsksForLines sizes lines more before a → AsksForLines sizes lines more before b
asks_still sizes lines more before a b idle h =
    subst (λ (k : Calls). AsksForLines sizes lines more before (record { flash = b.flash; disk = k; failed_emits = a.failed_emits })) (sym idle.1)
    (subst (λ (k : Calls). AsksForLines sizes lines more before (record { flash = k; disk = a.disk; failed_emits = a.failed_emits })) (sym idle.0) h)

-- no line was said
pub asks_early : (sizes : Sizes) (before between : Counts) → before.flash.reads ≤ between.flash.reads → between.flash.reads ≤ before.flash.reads → between.flash.writes ≤ before.flash.writes → between.flash.written ≤ before.flash.written
    → between.disk.reads ≤ before.disk.reads → between.disk.writes ≤ before.disk.writes → between.disk.written ≤ before.disk.written → AsksForLines sizes [] 0 before between
asks_early sizes before between least reads writes written disk_reads disk_writes disk_written = (
  omega (arith, least),
  (
    (omega (arith, reads), omega (arith, writes), omega (arith, written)),
    (omega (arith, disk_reads), omega (arith, disk_writes), omega (arith, disk_written)),
  ),
)

times_le : (k m n : ℕ) → n ≤ 1 → k * (m + 0) + k * n ≤ k * (m + 1)
times_le k m n h = grind arith

-- or no command was begun
pub asks_weaker : (sizes : Sizes) (lines : List (List ℕ)) (before a : Counts) → AsksForLines sizes lines 0 before a → AsksForLines sizes lines 1 before a
asks_weaker sizes lines before a h =
    let reads = times_le sizes.bcap (looks_in lines) 0 (omega arith) in
    let bytes = times_le sizes.block (misses_in lines) 0 (omega arith) in (
      omega (arith, h.0),
      (
        (omega (arith, h.1.0.0, reads), omega (arith, h.1.0.1), omega (arith, h.1.0.2, bytes)),
        (omega (arith, h.1.1.0), omega (arith, h.1.1.1), omega (arith, h.1.1.2)),
      ),
    )

-- each line is at most one hit, one look and one miss
one_if : (b : Bool) → 0 + (if b then 1 else 0) ≤ 1
one_if true = omega arith
one_if false = omega arith

same_text : (line text : List ℕ) → bytes_eq line text ≡ true → line ≡ text
same_text line text e = (bytes_eq-Decides line text).0 e

look_one : (a b : Bool) (line : List ℕ) → bytes_eq line (fault_text dev.Flash) ≡ a → bytes_eq line (fault_text dev.Disk) ≡ b → looks_in (line ∷ []) ≤ 1
look_one true b line e f = subst (λ (l : List ℕ). looks_in (l ∷ []) ≤ 1) (sym (same_text line (fault_text dev.Flash) e)) (omega arith)
look_one false true line e f = subst (λ (l : List ℕ). looks_in (l ∷ []) ≤ 1) (sym (same_text line (fault_text dev.Disk) f)) (omega arith)
look_one false false line e f =
    let flash : faults_in dev.Flash (line ∷ []) ≡ 0 = ap (λ (x : Bool). 0 + (if x then 1 else 0)) e in
    let disk : faults_in dev.Disk (line ∷ []) ≡ 0 = ap (λ (x : Bool). 0 + (if x then 1 else 0)) f in
    let load : loads_in (line ∷ []) ≤ 1 = one_if (is_load line) in
    omega (arith, flash, disk, load)

times_one : (k n : ℕ) → n ≤ 1 → k * (n + 0) ≤ k * (0 + 1)
times_one k n h = grind arith

asks_cut : (sizes : Sizes) (line : List ℕ) (p q : Counts) → AsksForLines sizes (line ∷ []) 0 p q → AsksForLines sizes [] 1 p q
asks_cut sizes line p q h =
    let hit : hits_in (line ∷ []) ≤ 1 = one_if (is_hit line) in
    let look : looks_in (line ∷ []) ≤ 1 = look_one (bytes_eq line (fault_text dev.Flash)) (bytes_eq line (fault_text dev.Disk)) line refl refl in
    let miss : misses_in (line ∷ []) ≤ 1 = one_if (is_miss line) in
    let reads = times_one sizes.bcap (looks_in (line ∷ [])) look in
    let bytes = times_one sizes.block (misses_in (line ∷ [])) miss in (
      omega (arith, h.0),
      (
        (omega (arith, h.1.0.0, reads, hit), omega (arith, h.1.0.1, miss), omega (arith, h.1.0.2, bytes)),
        (omega (arith, h.1.1.0, look), omega (arith, h.1.1.1), omega (arith, h.1.1.2)),
      ),
    )

-- what lines cost
pub costs_none : (scratch : ScratchView) (counts : Counts) → CostsLines scratch scratch [] 0 counts counts
costs_none scratch counts = record { same = refl; asks = asks_early (scratch_sizes scratch) counts counts (omega arith) (omega arith) (omega arith) (omega arith) (omega arith) (omega arith) (omega arith) }

pub costs_lists : (scratch : ScratchView) (entries : List Entry) (prints : List Fp) (counts : Counts) → CostsLines scratch scratch (lists_text entries prints ∷ []) 0 counts counts
costs_lists scratch entries prints counts =
    record { same = refl; asks = asks_early (scratch_sizes scratch) counts counts (omega arith) (omega arith) (omega arith) (omega arith) (omega arith) (omega arith) (omega arith) }

pub costs_both : (one two three : ScratchView) (lines others : List (List ℕ)) (more : ℕ) (p q r : Counts) → CostsLines one two lines 0 p q → CostsLines two three others more q r → CostsLines one three (lines ++ others) more p r
costs_both one two three lines others more p q r h k = record {
  same = k.same ∙ h.same;
  asks = asks_both (scratch_sizes one) lines others more p q r h.asks (subst (λ (z : Sizes). AsksForLines z others more q r) h.same k.asks);
}

pub costs_idle : (one two : ScratchView) (lines : List (List ℕ)) (more : ℕ) (p q r : Counts) → r.flash ≡ q.flash → r.disk ≡ q.disk → CostsLines one two lines more p q → CostsLines one two lines more p r
costs_idle one two lines more p q r flash disk h = record { same = h.same; asks = asks_still (scratch_sizes one) lines more p q r (flash, disk) h.asks }

pub costs_cut : (one two : ScratchView) (line : List ℕ) (p q : Counts) → CostsLines one two (line ∷ []) 0 p q → CostsLines one two [] 1 p q
costs_cut one two line p q h = record { same = h.same; asks = asks_cut (scratch_sizes one) line p q h.asks }

pub costs_begun : (one two : ScratchView) (lines : List (List ℕ)) (p q : Counts) → CostsLines one two lines 0 p q → CostsLines one two lines 1 p q
costs_begun one two lines p q h = record { same = h.same; asks = asks_weaker (scratch_sizes one) lines p q h.asks }

-- no call writes nothing, and calls behind others write in blocks where both do
pub only_none : (block : ℕ) (counts : Counts) → OnlyBlocks block counts counts
only_none block counts = record { flash = record { writes = omega arith; written = omega arith; bytes = λ few short. refl }; disk = refl }

pub only_both : (block : ℕ) (p q r : Counts) → OnlyBlocks block p q → OnlyBlocks block q r → OnlyBlocks block p r
only_both block p q r h k = record {
  flash = record {
    writes = omega (arith, h.flash.writes, k.flash.writes);
    written = omega (arith, h.flash.written, k.flash.written);
    bytes = λ few short.
        let first = h.flash.bytes (omega (arith, few, k.flash.writes)) (omega (arith, short, k.flash.written)) in
        let second = k.flash.bytes few short in
        omega (arith, first, second);
  };
  disk = k.disk ∙ h.disk;
}

pub only_said : (block : ℕ) (p q r : Counts) → r.flash ≡ q.flash → r.disk ≡ q.disk → OnlyBlocks block p q → OnlyBlocks block p r
only_said block p q r flash disk h = record {
  flash = subst (λ (k : Calls). WritesBlocks block p.flash k) (sym flash) h.flash;
  disk = ap (λ (k : Calls). k.writes) disk ∙ h.disk;
}

pub answers_fewer : (scratch : ScratchView) (other n m : ℕ) (size : Dev → ℕ) → m ≤ n → MayAnswer scratch other n size → MayAnswer scratch other m size
answers_fewer scratch other n m size le h = record { fits = h.fits; count = omega (arith, h.count, le); room = h.room }

-- of the first 64 bytes only the ranges that begin in them matter
front_less_at : (b : Bool) (range : ℕ × ℕ) (rest front : List (ℕ × ℕ)) (place : ℕ) → (IsOutside rest place → IsOutside front place) → IsOutside (range ∷ rest) place → IsOutside (cond b (range ∷ front) front) place
front_less_at true range rest front place h out = (out.0, h out.1)
front_less_at false range rest front place h out = h out.1

front_less : (ranges : List (ℕ × ℕ)) (place : ℕ) → IsOutside ranges place → IsOutside (filter (λ range. nat_lt range.0 64) ranges) place
front_less [] place out = tt
front_less (range ∷ ranges) place out = front_less_at (nat_lt range.0 64) range ranges (filter (λ range. nat_lt range.0 64) ranges) place (front_less ranges place) out

front_more_at : (b : Bool) (range : ℕ × ℕ) (rest front : List (ℕ × ℕ)) (place : ℕ) → place < 64 → nat_lt range.0 64 ≡ b → (IsOutside front place → IsOutside rest place) → IsOutside (cond b (range ∷ front) front) place → IsOutside (range ∷ rest) place
front_more_at true range rest front place k e h out = (out.0, h out.1)
front_more_at false range rest front place k e h out = (inl (omega (arith, k, not_less range.0 64 e)), h out)
  where
    not_less : (a b : ℕ) → nat_lt a b ≡ false → b ≤ a
    not_less a b h = grind arith

front_more : (ranges : List (ℕ × ℕ)) (place : ℕ) → place < 64 → IsOutside (filter (λ range. nat_lt range.0 64) ranges) place → IsOutside ranges place
front_more [] place k out = tt
front_more (range ∷ ranges) place k out = front_more_at (nat_lt range.0 64) range ranges (filter (λ range. nat_lt range.0 64) ranges) place k refl (front_more ranges place k) out

-- a crash now, behind calls that only wrote behind the first 64 bytes
pub keeps_images : (first now : World) → Scratched first now → (flash disk : List ℕ) → IsImage now.flash flash → IsImage now.disk disk → KeepsImages first flash disk
keeps_images first now kept flash disk flash_image disk_image = record {
  front = λ place k out.
      let here : IsOutside now.flash.ranges place = front_more now.flash.ranges place k (subst (λ (r : List (ℕ × ℕ)). IsOutside r place) (sym kept.ranges) (front_less first.flash.ranges place out)) in
      flash_image.same_outside place here ∙ ap (λ (l : List ℕ). slice_index l place) kept.stable;
  disk = subst (λ d. IsImage d disk) kept.disk disk_image;
}

-- what a crash leaves of a later world
pub keeps_sooner : (first now : World) → Scratched first now → (flash disk : List ℕ) → KeepsImages now flash disk → KeepsImages first flash disk
keeps_sooner first now kept flash disk left = record {
  front = λ place k out.
      let here : IsOutside now.flash.ranges place = front_more now.flash.ranges place k (subst (λ (r : List (ℕ × ℕ)). IsOutside r place) (sym kept.ranges) (front_less first.flash.ranges place out)) in
      left.front place k here ∙ ap (λ (l : List ℕ). slice_index l place) kept.stable;
  disk = subst (λ d. IsImage d disk) kept.disk left.disk;
}

pub scratched_self : (w : World) → Scratched w w
scratched_self w = record { disk = refl; front = refl; stable = refl; ranges = refl }

pub scratched_both : (a b d : World) → Scratched a b → Scratched b d → Scratched a d
scratched_both a b d h k = record { disk = k.disk ∙ h.disk; front = k.front ∙ h.front; stable = k.stable ∙ h.stable; ranges = k.ranges ∙ h.ranges }

-- the output is no part of it
with_said : (first : World) (flash disk : Device) (one another : List ℕ) → Scratched first (record { flash = flash; disk = disk; said = one }) → Scratched first (record { flash = flash; disk = disk; said = another })
with_said first flash disk one another h = record { disk = h.disk; front = h.front; stable = h.stable; ranges = h.ranges }

pub scratched_said : (one two three : World) → three.flash ≡ two.flash → three.disk ≡ two.disk → Scratched one two → Scratched one three
scratched_said one two three e f h =
    subst (λ (flash : Device). Scratched one (record { flash = flash; disk = three.disk; said = three.said })) (sym e)
    (subst (λ (disk : Device). Scratched one (record { flash = two.flash; disk = disk; said = three.said })) (sym f) (with_said one two.flash two.disk two.said three.said h))

said_other : (print : List ℕ → Fp) (scratch : ScratchView) (first : World) (flash disk : Device) (one another : List ℕ) (s : State)
    → HoldsState print scratch first (record { flash = flash; disk = disk; said = one }) s → HoldsState print scratch first (record { flash = flash; disk = disk; said = another }) s
unfolding with_said
said_other print scratch first flash disk one another s h = record { sound = h.sound; is = h.is; since = with_said first flash disk one another h.since }

pub holds_unsaid : (print : List ℕ → Fp) (scratch : ScratchView) (first old new : World) (s : State) → new.flash ≡ old.flash → new.disk ≡ old.disk → HoldsState print scratch first old s → HoldsState print scratch first new s
holds_unsaid print scratch first old new s e f h =
    subst (λ (flash : Device). HoldsState print scratch first (record { flash = flash; disk = new.disk; said = new.said }) s) (sym e)
    (subst (λ (disk : Device). HoldsState print scratch first (record { flash = old.flash; disk = disk; said = new.said }) s) (sym f) (said_other print scratch first old.flash old.disk old.said new.said s h))

-- whatever a crash leaves now is what a replay may leave
pub holds_stood : (print : List ℕ → Fp) (scratch : ScratchView) (first now : World) (committed held : State) → HoldsState print scratch first now held → AllStand (StaysBy first) now committed
holds_stood print scratch first now committed held h = λ flash disk flash_image disk_image. keeps_images first now h.since flash disk flash_image disk_image
