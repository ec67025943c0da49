-- What lines count: those of two outputs together, and each line that a reply may be.
use Rattle.std.proofs.Common.{◌≡◌, ℕ, zero, suc, ◌+◌, ◌-◌, ◌≤◌, Bool, true, false, cond, not, List, [], ◌∷◌, ◌++◌, replicate, refl, sym, ◌∙◌, ap, arith, if◌then◌else◌, Some, None, append_assoc}
use Rattle.std.specs.Prelude.{Option, ◌||◌, ◌&&◌, codes}
use Rattle.std.specs.Str.{bytes_eq}
use Rattle.std.proofs.lemmas.List.Folds.{list_all-append}
use Rattle.std.proofs.lemmas.List.Sums.{sum_by-append}
use Rattle.dd_block.specs.declared.print.Fp.{Fp}
use Rattle.dd_block.specs.Text.{block_text}
use Rattle.dd_rig.specs.declared.device.Dev.{Dev}
use Rattle.dd_rig.specs.declared.device.Dev.TheVariants as dev
use Rattle.dd_model.specs.declared.kind.Kind.{Kind}
use Rattle.dd_model.specs.declared.kind.Kind.TheVariants.{Hit, Join, Miss, Dup, New}
use Rattle.dd_model.specs.State.{Entry, is_zero_block}
use Rattle.dd_script.specs.Answers.{begins, faults_in}
use Rattle.dd_script.specs.Counting.{is_hit, is_load, is_miss, is_update, hits_in, loads_in, misses_in, updates_in, mentions, is_calm, all_calm, dirty_behind, dirty_after}
use Rattle.dd_script.specs.Text.{kind_word, out_text, drop_text, read_text, write_text, flushed_text, cleaned_text, ticked_text, lists_text, stat_text, bye_text, bad_text, fault_text, stop_text}
use Rattle.dd_script.specs.declared.reply.Stop.{Stop}
use Rattle.dd_script.specs.declared.reply.Stop.TheVariants as stop
use Rattle.dd_script.specs.declared.line.BadKind.{BadKind}
use Rattle.dd_script.specs.declared.line.BadKind.TheVariants as bad_is
use Rattle.dd_script.proofs.ZeroTexts.{zeros_told}

-- lines, and further ones
pub faults_both : (device : Dev) (lines others : List (List ℕ)) → faults_in device (lines ++ others) ≡ faults_in device lines + faults_in device others
faults_both device lines others = sum_by-append (λ l. if bytes_eq l (fault_text device) then 1 else 0) lines others

pub hits_both : (lines others : List (List ℕ)) → hits_in (lines ++ others) ≡ hits_in lines + hits_in others
hits_both lines others = sum_by-append (λ l. if is_hit l then 1 else 0) lines others

pub loads_both : (lines others : List (List ℕ)) → loads_in (lines ++ others) ≡ loads_in lines + loads_in others
loads_both lines others = sum_by-append (λ l. if is_load l then 1 else 0) lines others

pub misses_both : (lines others : List (List ℕ)) → misses_in (lines ++ others) ≡ misses_in lines + misses_in others
misses_both lines others = sum_by-append (λ l. if is_miss l then 1 else 0) lines others

pub updates_both : (lines others : List (List ℕ)) → updates_in (lines ++ others) ≡ updates_in lines + updates_in others
updates_both lines others = sum_by-append (λ l. if is_update l then 1 else 0) lines others

and_true : (a b : Bool) → (a && b) ≡ true → (a ≡ true) × (b ≡ true)
and_true true b e = (refl, e)
and_true false b e = absurd (cc)

pub calm_both : (lines others : List (List ℕ)) → all_calm (lines ++ others) ≡ true → (all_calm lines ≡ true) × (all_calm others ≡ true)
calm_both lines others e = and_true (all_calm lines) (all_calm others) (sym (list_all-append is_calm lines others) ∙ e)

pub dirty_both : (acap n : ℕ) (lines others : List (List ℕ)) → dirty_after acap n (lines ++ others) ≡ dirty_after acap (dirty_after acap n lines) others
dirty_both acap n [] others = refl
dirty_both acap n (line ∷ lines) others = dirty_both acap (dirty_behind acap n line) lines others

more_behind : (acap n m : ℕ) (update clean tick : Bool) → n ≤ m
    → (if update then acap else (if clean then 0 else (if tick then n - 1 else n))) ≤ (if update then acap else (if clean then 0 else (if tick then m - 1 else m)))
more_behind acap n m true clean tick h = omega arith
more_behind acap n m false true tick h = omega arith
more_behind acap n m false false true h = grind arith
more_behind acap n m false false false h = h

-- where more may be dirty in front, more may be behind
pub dirty_more : (acap n m : ℕ) (lines : List (List ℕ)) → n ≤ m → dirty_after acap n lines ≤ dirty_after acap m lines
dirty_more acap n m [] h = h
dirty_more acap n m (line ∷ lines) h =
    dirty_more acap (dirty_behind acap n line) (dirty_behind acap m line) lines (more_behind acap n m (is_update line) (bytes_eq line cleaned_text) (bytes_eq line ticked_text) h)

few_behind : (acap n : ℕ) (update clean tick : Bool) → n ≤ acap → (if update then acap else (if clean then 0 else (if tick then n - 1 else n))) ≤ acap
few_behind acap n true clean tick h = omega arith
few_behind acap n false true tick h = omega arith
few_behind acap n false false true h = grind arith
few_behind acap n false false false h = h

-- never more than are listed
pub dirty_few : (acap n : ℕ) (lines : List (List ℕ)) → n ≤ acap → dirty_after acap n lines ≤ acap
dirty_few acap n [] h = h
dirty_few acap n (line ∷ lines) h = dirty_few acap (dirty_behind acap n line) lines (few_behind acap n (is_update line) (bytes_eq line cleaned_text) (bytes_eq line ticked_text) h)

-- none may be dirty where the line before the last is `cleaned`
pub none_cleaned : (acap n count : ℕ) (front : List (List ℕ)) → dirty_after acap n (front ++ cleaned_text ∷ bye_text count ∷ []) ≡ 0
none_cleaned acap n count front = dirty_both acap n front (cleaned_text ∷ bye_text count ∷ [])

one_less : (n k : ℕ) → n - 1 - k ≡ n - suc k
one_less n k = grind arith

ticks : (acap n count k : ℕ) → dirty_after acap n (replicate k ticked_text ++ bye_text count ∷ []) ≡ n - k
ticks acap n count zero = grind arith
ticks acap n count (suc k) = ticks acap (n - 1) count k ∙ one_less n k

-- nor where the lines before it are `ticked`, as many as may be listed
pub none_ticked : (acap n count : ℕ) (front : List (List ℕ)) → n ≤ acap → dirty_after acap n (front ++ (replicate acap ticked_text ++ bye_text count ∷ [])) ≡ 0
none_ticked acap n count front h =
    let few = dirty_few acap n front h in
    dirty_both acap n front (replicate acap ticked_text ++ bye_text count ∷ []) ∙ ticks acap (dirty_after acap n front) count acap ∙ none few
  where
    none : {k : ℕ} → k ≤ acap → k - acap ≡ 0
    none h = grind arith

-- what a line counts
pub record Counted (line : List ℕ) (h j w : ℕ) : Type 0 where
  pub hits : hits_in (line ∷ []) ≡ h
  pub loads : loads_in (line ∷ []) ≡ j
  pub updates : updates_in (line ∷ []) ≡ w

-- a hit of a block that isn't zeros
abbrev pub hit_of : Kind → List ℕ → ℕ
hit_of Hit block = cond (is_zero_block block) 0 1
hit_of Join block = 0
hit_of Miss block = 0
hit_of Dup block = 0
hit_of New block = 0

-- a join or a miss
abbrev pub load_of : Kind → ℕ
load_of Hit = 0
load_of Join = 1
load_of Miss = 1
load_of Dup = 0
load_of New = 0

-- a write
abbrev pub update_of : Kind → ℕ
update_of Hit = 0
update_of Join = 0
update_of Miss = 0
update_of Dup = 1
update_of New = 1

hit_counted : (b : Bool) → 0 + (if not b then 1 else 0) ≡ cond b 0 1
hit_counted true = refl
hit_counted false = refl

pub read_counted : (kind : Kind) (block : List ℕ) (out : Option ℕ) (drop : Option Fp) → Counted (read_text kind block out drop) (hit_of kind block) (load_of kind) (update_of kind)
unfolding read_text
read_counted Hit block out drop = record { hits = ap (λ b. 0 + (if not b then 1 else 0)) (zeros_told block out drop) ∙ hit_counted (is_zero_block block); loads = refl; updates = refl }
read_counted Join block out drop = record { hits = refl; loads = refl; updates = refl }
read_counted Miss block out drop = record { hits = refl; loads = refl; updates = refl }
read_counted Dup block out drop = record { hits = refl; loads = refl; updates = refl }
read_counted New block out drop = record { hits = refl; loads = refl; updates = refl }

pub dup_counted : (out : Option ℕ) (drop : Option Fp) → Counted (write_text Dup out drop) 0 0 1
unfolding write_text
dup_counted out drop = record { hits = refl; loads = refl; updates = refl }

pub new_counted : (out : Option ℕ) (drop : Option Fp) → Counted (write_text New out drop) 0 0 1
unfolding write_text
new_counted out drop = record { hits = refl; loads = refl; updates = refl }

pub flushed_counted : (count : ℕ) → Counted (flushed_text count) 0 0 0
flushed_counted count = record { hits = refl; loads = refl; updates = refl }

pub bye_counted : (count : ℕ) → Counted (bye_text count) 0 0 0
bye_counted count = record { hits = refl; loads = refl; updates = refl }

pub cleaned_counted : Counted cleaned_text 0 0 0
cleaned_counted = record { hits = refl; loads = refl; updates = refl }

pub ticked_counted : Counted ticked_text 0 0 0
ticked_counted = record { hits = refl; loads = refl; updates = refl }

pub lists_counted : (entries : List Entry) (prints : List Fp) → Counted (lists_text entries prints) 0 0 0
lists_counted entries prints = record { hits = refl; loads = refl; updates = refl }

pub stat_counted : (count addresses blocks : ℕ) → Counted (stat_text count addresses blocks) 0 0 0
stat_counted count addresses blocks = record { hits = refl; loads = refl; updates = refl }

pub bad_counted : (kind : BadKind) → Counted (bad_text kind) 0 0 0
bad_counted bad_is.Long = record { hits = refl; loads = refl; updates = refl }
bad_counted bad_is.Word = record { hits = refl; loads = refl; updates = refl }
bad_counted bad_is.Address = record { hits = refl; loads = refl; updates = refl }
bad_counted (bad_is.Text fault) = record { hits = refl; loads = refl; updates = refl }
bad_counted bad_is.Rest = record { hits = refl; loads = refl; updates = refl }

pub fault_counted : (device : Dev) → Counted (fault_text device) 0 0 0
fault_counted dev.Flash = record { hits = refl; loads = refl; updates = refl }
fault_counted dev.Disk = record { hits = refl; loads = refl; updates = refl }

pub stop_counted : (why : Stop) → Counted (stop_text why) 0 0 0
stop_counted stop.Flash = record { hits = refl; loads = refl; updates = refl }
stop_counted stop.Disk = record { hits = refl; loads = refl; updates = refl }
stop_counted stop.Script = record { hits = refl; loads = refl; updates = refl }
stop_counted stop.Length = record { hits = refl; loads = refl; updates = refl }
stop_counted stop.Memory = record { hits = refl; loads = refl; updates = refl }

-- behind which as many may be dirty
pub read_dirty : (acap n : ℕ) (kind : Kind) (block : List ℕ) (out : Option ℕ) (drop : Option Fp) → n ≤ acap → n ≤ dirty_behind acap n (read_text kind block out drop)
unfolding read_text
read_dirty acap n Hit block out drop h = omega arith
read_dirty acap n Join block out drop h = omega arith
read_dirty acap n Miss block out drop h = omega arith
read_dirty acap n Dup block out drop h = h
read_dirty acap n New block out drop h = h

pub dup_dirty : (acap n : ℕ) (out : Option ℕ) (drop : Option Fp) → dirty_behind acap n (write_text Dup out drop) ≡ acap
unfolding write_text
dup_dirty acap n out drop = refl

pub new_dirty : (acap n : ℕ) (out : Option ℕ) (drop : Option Fp) → dirty_behind acap n (write_text New out drop) ≡ acap
unfolding write_text
new_dirty acap n out drop = refl

pub flushed_dirty : (acap n count : ℕ) → dirty_behind acap n (flushed_text count) ≡ n
flushed_dirty acap n count = refl

pub bye_dirty : (acap n count : ℕ) → dirty_behind acap n (bye_text count) ≡ n
bye_dirty acap n count = refl

pub lists_dirty : (acap n : ℕ) (entries : List Entry) (prints : List Fp) → dirty_behind acap n (lists_text entries prints) ≡ n
lists_dirty acap n entries prints = refl

pub stat_dirty : (acap n count addresses blocks : ℕ) → dirty_behind acap n (stat_text count addresses blocks) ≡ n
stat_dirty acap n count addresses blocks = refl

pub bad_dirty : (acap n : ℕ) (kind : BadKind) → dirty_behind acap n (bad_text kind) ≡ n
bad_dirty acap n bad_is.Long = refl
bad_dirty acap n bad_is.Word = refl
bad_dirty acap n bad_is.Address = refl
bad_dirty acap n (bad_is.Text fault) = refl
bad_dirty acap n bad_is.Rest = refl

pub fault_dirty : (acap n : ℕ) (device : Dev) → dirty_behind acap n (fault_text device) ≡ n
fault_dirty acap n dev.Flash = refl
fault_dirty acap n dev.Disk = refl

mentions_right : (word front back : List ℕ) → mentions word back ≡ true → mentions word (front ++ back) ≡ true
mentions_right word [] back h = h
mentions_right word (b ∷ front) back h = ap (λ (x : Bool). begins (b ∷ (front ++ back)) word || x) (mentions_right word front back h) ∙ or_true (begins (b ∷ (front ++ back)) word)
  where
    or_true : (a : Bool) → (a || true) ≡ true
    or_true true = refl
    or_true false = refl

calm_parts : (out drop clean tick : Bool) → not (out || drop || clean || tick) ≡ true → (out ≡ false) × (drop ≡ false)
calm_parts true drop clean tick e = absurd (cc)
calm_parts false true clean tick e = absurd (cc)
calm_parts false false clean tick e = (refl, refl)

-- a text that ends in what fell off is calm where nothing did
text_calm : (front : List ℕ) (out : Option ℕ) (drop : Option Fp) → is_calm (front ++ out_text out ++ drop_text drop) ≡ true → (out ≡ None) × (drop ≡ None)
text_calm front None None e = (refl, refl)
text_calm front (Some address) drop e =
    let line : List ℕ = front ++ out_text (Some address) ++ drop_text drop in
    let says : mentions (codes " out ") line ≡ true = ap (mentions (codes " out ")) (append_assoc front (out_text (Some address)) (drop_text drop)) ∙ mentions_right (codes " out ") front (out_text (Some address) ++ drop_text drop) refl in
    let none = (calm_parts (mentions (codes " out ") line) (mentions (codes " drop ") line) (bytes_eq line cleaned_text) (bytes_eq line ticked_text) e).0 in
    absurd (differ (sym says ∙ none))
  where
    differ : true ≡ false → ⊥
    differ h = cc
text_calm front None (Some fp) e =
    let line : List ℕ = front ++ out_text None ++ drop_text (Some fp) in
    let says : mentions (codes " drop ") line ≡ true = mentions_right (codes " drop ") (front ++ out_text None) (drop_text (Some fp)) refl in
    let none = (calm_parts (mentions (codes " out ") line) (mentions (codes " drop ") line) (bytes_eq line cleaned_text) (bytes_eq line ticked_text) e).1 in
    absurd (differ (sym says ∙ none))
  where
    differ : true ≡ false → ⊥
    differ h = cc

-- a calm reply tells nothing that fell off
pub read_calm : (kind : Kind) (block : List ℕ) (out : Option ℕ) (drop : Option Fp) → is_calm (read_text kind block out drop) ≡ true → (out ≡ None) × (drop ≡ None)
unfolding read_text
read_calm kind block out drop e = text_calm (kind_word kind ++ codes " " ++ block_text block) out drop e

pub write_calm : (kind : Kind) (out : Option ℕ) (drop : Option Fp) → is_calm (write_text kind out drop) ≡ true → (out ≡ None) × (drop ≡ None)
unfolding write_text
write_calm kind out drop e = text_calm (kind_word kind) out drop e

pub cleaned_calm : is_calm cleaned_text ≡ false
cleaned_calm = refl

pub ticked_calm : is_calm ticked_text ≡ false
ticked_calm = refl
