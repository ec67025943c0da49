-- How often the devices were asked for lines.
use Rattle.std.proofs.Common.{◌≡◌, ℕ, ◌+◌, ◌*◌, Bool, true, false, cond, not, List, [], ◌∷◌, ◌++◌, refl, sym, ◌∙◌, ap, subst, arith, if◌then◌else◌}
use Rattle.std.specs.Prelude.{Option}
use Rattle.dd_block.specs.declared.print.Fp.{Fp}
use Rattle.dd_rig.specs.declared.device.Dev.{Dev}
use Rattle.dd_rig.specs.declared.device.Dev.TheVariants as dev
use Rattle.dd_rig.specs.declared.tallies.Counts.{Counts}
use Rattle.dd_rig.specs.Counts.{up_to}
use Rattle.dd_model.specs.declared.kind.Kind.{Kind}
use Rattle.dd_model.specs.declared.kind.Kind.TheVariants.{Hit, Join, Miss, Dup, New}
use Rattle.dd_model.specs.State.{Sizes, is_zero_block}
use Rattle.dd_script.specs.declared.line.BadKind.{BadKind}
use Rattle.dd_script.specs.declared.line.BadKind.TheVariants as bad_is
use Rattle.dd_script.specs.declared.reply.Stop.{Stop}
use Rattle.dd_script.specs.declared.reply.Stop.TheVariants as stop
use Rattle.dd_script.specs.Text.{read_text, bye_text, stat_text, bad_text, fault_text, stop_text}
use Rattle.dd_script.specs.Counting.{hits_in, misses_in}
use Rattle.dd_script.proofs.Counting.{hits_both, misses_both}
use Rattle.dd_script.proofs.ZeroTexts.{zeros_told}
use Rattle.dd_serve.specs.Laws.{looks_both}
use Rattle.dd_serve.specs.Calls.{Asks, AsksFor, AsksForLine, AsksForLines, looks_in, slots_for, looks_for, writes_for}

-- what a line says of itself
record Tells (line : List ℕ) (h q m : ℕ) : Type 0 where
  hits : hits_in (line ∷ []) ≡ h
  looks : looks_in (line ∷ []) ≡ q
  misses : misses_in (line ∷ []) ≡ m

-- a hit is counted where its block isn't zeros
hit_counted : (b : Bool) → 0 + (if not b then 1 else 0) ≡ cond b 0 1
hit_counted true = refl
hit_counted false = refl

read_tells : (kind : Kind) (block : List ℕ) (out : Option ℕ) (drop : Option Fp) → Tells (read_text kind block out drop) (slots_for kind block) (looks_for kind) (writes_for kind)
unfolding read_text
read_tells Hit block out drop = record { hits = ap (λ b. 0 + (if not b then 1 else 0)) (zeros_told block out drop) ∙ hit_counted (is_zero_block block); looks = refl; misses = refl }
read_tells Join block out drop = record { hits = refl; looks = refl; misses = refl }
read_tells Miss block out drop = record { hits = refl; looks = refl; misses = refl }
read_tells Dup block out drop = record { hits = refl; looks = refl; misses = refl }
read_tells New block out drop = record { hits = refl; looks = refl; misses = refl }

fault_tells : (device : Dev) → Tells (fault_text device) 0 1 0
fault_tells dev.Flash = record { hits = refl; looks = refl; misses = refl }
fault_tells dev.Disk = record { hits = refl; looks = refl; misses = refl }

bye_tells : (n : ℕ) → Tells (bye_text n) 0 0 0
bye_tells n = record { hits = refl; looks = refl; misses = refl }

stat_tells : (count addresses blocks : ℕ) → Tells (stat_text count addresses blocks) 0 0 0
stat_tells count addresses blocks = record { hits = refl; looks = refl; misses = refl }

bad_tells : (kind : BadKind) → Tells (bad_text kind) 0 0 0
bad_tells bad_is.Long = record { hits = refl; looks = refl; misses = refl }
bad_tells bad_is.Word = record { hits = refl; looks = refl; misses = refl }
bad_tells bad_is.Address = record { hits = refl; looks = refl; misses = refl }
bad_tells (bad_is.Text fault) = record { hits = refl; looks = refl; misses = refl }
bad_tells bad_is.Rest = record { hits = refl; looks = refl; misses = refl }

stop_tells : (why : Stop) → Tells (stop_text why) 0 0 0
stop_tells stop.Flash = record { hits = refl; looks = refl; misses = refl }
stop_tells stop.Disk = record { hits = refl; looks = refl; misses = refl }
stop_tells stop.Script = record { hits = refl; looks = refl; misses = refl }
stop_tells stop.Length = record { hits = refl; looks = refl; misses = refl }
stop_tells stop.Memory = record { hits = refl; looks = refl; misses = refl }

for_line : (sizes : Sizes) (line : List ℕ) (h q m : ℕ) (a b : Counts) → Tells line h q m → AsksFor sizes.block sizes.bcap h q m a b → AsksForLine sizes line a b
for_line sizes line h q m a b told asks =
    subst (λ n. AsksFor sizes.block sizes.bcap (hits_in (line ∷ [])) (looks_in (line ∷ [])) n a b) (sym told.misses)
    (subst (λ n. AsksFor sizes.block sizes.bcap (hits_in (line ∷ [])) n m a b) (sym told.looks)
    (subst (λ n. AsksFor sizes.block sizes.bcap n q m a b) (sym told.hits) asks))

pub asks_read : (sizes : Sizes) (kind : Kind) (block : List ℕ) (out : Option ℕ) (drop : Option Fp) (a b : Counts) → AsksFor sizes.block sizes.bcap (slots_for kind block) (looks_for kind) (writes_for kind) a b
    → AsksForLine sizes (read_text kind block out drop) a b
asks_read sizes kind block out drop a b asks = for_line sizes (read_text kind block out drop) _ _ _ a b (read_tells kind block out drop) asks

pub asks_fault : (sizes : Sizes) (device : Dev) (a b : Counts) → AsksFor sizes.block sizes.bcap 0 1 0 a b → AsksForLine sizes (fault_text device) a b
asks_fault sizes device a b asks = for_line sizes (fault_text device) 0 1 0 a b (fault_tells device) asks

-- no call was made
none_asked : (block bcap : ℕ) (a : Counts) → AsksFor block bcap 0 0 0 a a
none_asked block bcap a = (omega arith, ((omega arith, omega arith, omega arith), (omega arith, omega arith, omega arith)))

pub asks_bye : (sizes : Sizes) (n : ℕ) (a : Counts) → AsksForLine sizes (bye_text n) a a
asks_bye sizes n a = for_line sizes (bye_text n) 0 0 0 a a (bye_tells n) (none_asked sizes.block sizes.bcap a)

pub asks_stat : (sizes : Sizes) (count addresses blocks : ℕ) (a : Counts) → AsksForLine sizes (stat_text count addresses blocks) a a
asks_stat sizes count addresses blocks a = for_line sizes (stat_text count addresses blocks) 0 0 0 a a (stat_tells count addresses blocks) (none_asked sizes.block sizes.bcap a)

pub asks_bad : (sizes : Sizes) (kind : BadKind) (a : Counts) → AsksForLine sizes (bad_text kind) a a
asks_bad sizes kind a = for_line sizes (bad_text kind) 0 0 0 a a (bad_tells kind) (none_asked sizes.block sizes.bcap a)

-- the line with which a run stops asks for nothing
pub asks_stop : (sizes : Sizes) (lines : List (List ℕ)) (why : Stop) (more : ℕ) (before a : Counts) → AsksForLines sizes lines more before a → AsksForLines sizes (lines ++ stop_text why ∷ []) more before a
asks_stop sizes lines why more before a h =
    let told = stop_tells why in
    let hits : hits_in (lines ++ stop_text why ∷ []) ≡ hits_in lines + 0 = hits_both lines (stop_text why ∷ []) ∙ ap (λ n. hits_in lines + n) told.hits in
    let looks : looks_in (lines ++ stop_text why ∷ []) ≡ looks_in lines + 0 = looks_both lines (stop_text why ∷ []) ∙ ap (λ n. looks_in lines + n) told.looks in
    let misses : misses_in (lines ++ stop_text why ∷ []) ≡ misses_in lines + 0 = misses_both lines (stop_text why ∷ []) ∙ ap (λ n. misses_in lines + n) told.misses in
    let hits_same : hits_in lines ≡ hits_in (lines ++ stop_text why ∷ []) = omega (arith, hits) in
    let looks_same : looks_in lines ≡ looks_in (lines ++ stop_text why ∷ []) = omega (arith, looks) in
    let misses_same : misses_in lines ≡ misses_in (lines ++ stop_text why ∷ []) = omega (arith, misses) in
    let A : ℕ → ℕ → ℕ → Type 0 = λ p q r. Asks p (up_to (p + more + sizes.bcap * (q + more)) (r + more) (sizes.block * (r + more))) (up_to (q + more) 0 0) before a in
    subst (λ p. A p (looks_in (lines ++ stop_text why ∷ [])) (misses_in (lines ++ stop_text why ∷ []))) hits_same
    (subst (λ q. A (hits_in lines) q (misses_in (lines ++ stop_text why ∷ []))) looks_same
    (subst (λ r. A (hits_in lines) (looks_in lines) r) misses_same h))

-- the calls for one line are those for it alone
pub line_asks : (sizes : Sizes) (line : List ℕ) (a b : Counts) → AsksForLine sizes line a b → AsksForLines sizes (line ∷ []) 0 a b
line_asks sizes line a b h =
    let reads = times_still sizes.bcap (looks_in (line ∷ [])) in
    let bytes = times_still sizes.block (misses_in (line ∷ [])) in (
      omega (arith, h.0),
      (
        (omega (arith, h.1.0.0, reads), omega (arith, h.1.0.1), omega (arith, h.1.0.2, bytes)),
        (omega (arith, h.1.1.0), omega (arith, h.1.1.1), omega (arith, h.1.1.2)),
      ),
    )
  where
    times_still : (k n : ℕ) → k * (n + 0) ≡ k * n
    times_still k n = grind arith

-- no line, and one that was begun
pub begun_asks : (sizes : Sizes) (a b : Counts) → AsksFor sizes.block sizes.bcap 0 1 1 a b → AsksForLines sizes [] 1 a b
begun_asks sizes a b k = (
  omega (arith, k.0),
  (
    (omega (arith, k.1.0.0), omega (arith, k.1.0.1), omega (arith, k.1.0.2)),
    (omega (arith, k.1.1.0), omega (arith, k.1.1.1), omega (arith, k.1.1.2)),
  ),
)
