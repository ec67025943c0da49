-- Texts have no LF.
use Rattle.std.proofs.Common.{rules, ◌≡◌, ℕ, zero, suc, ◌+◌, ◌/◌, ◌%◌, ◌==◌, Bool, true, false, if◌then◌else◌, List, [], ◌∷◌, ◌++◌, take, refl, arith, Some, None, codes, decimal}
use Rattle.std.specs.Prelude.{Option, nat_lt}
use Rattle.std.specs.List.{slice_index, flat_map}
use Rattle.std.specs.Fmt.{digit_glyph, digits, digits_onto}
use Rattle.hex.specs.Hex.{lower_digits, encode_with, encode_lower}
use Rattle.dd_block.specs.declared.print.Fp.{Fp}
use Rattle.dd_block.specs.Text.{block_text, text_or_zero, without_zeros}
use Rattle.dd_model.specs.State.{Entry}
use Rattle.dd_model.specs.declared.kind.Kind.{Kind}
use Rattle.dd_model.specs.declared.kind.Kind.TheVariants.{Hit, Join, Miss, Dup, New}
use Rattle.dd_script.specs.declared.reply.Sums.{Sums}
use Rattle.dd_script.specs.Text.{HasNoEnd, kind_word, out_text, drop_text, read_text, write_text, place_text, small_text, address_text, print_text, lists_text, stat_text, counted_text, sum_text}

pub both_no_end : (xs ys : List ℕ) → HasNoEnd xs → HasNoEnd ys → HasNoEnd (xs ++ ys)
both_no_end [] ys h k = k
both_no_end (x ∷ xs) ys h k = (h.0, both_no_end xs ys h.1 k)

glyph_no_end : (d : ℕ) → (digit_glyph false d == 10) ≡ false
glyph_no_end d = by_size (nat_lt d 10)
  where
    by_size : (b : Bool) → ((if b then 48 + d else 87 + d) == 10) ≡ false
    by_size true = grind arith
    by_size false = grind arith

onto_no_end : (k n : ℕ) (acc : List ℕ) → HasNoEnd acc → HasNoEnd (digits_onto k 10 false n acc)
onto_no_end zero n acc h = h
onto_no_end (suc k) n acc h = by_rest (n / 10 == 0) (onto_no_end k (n / 10) (digit_glyph false (n % 10) ∷ acc) (glyph_no_end (n % 10), h))
  where
    by_rest : (b : Bool) → HasNoEnd (digits_onto k 10 false (n / 10) (digit_glyph false (n % 10) ∷ acc))
        → HasNoEnd (if b then digit_glyph false (n % 10) ∷ acc else digits_onto k 10 false (n / 10) (digit_glyph false (n % 10) ∷ acc))
    by_rest true more = (glyph_no_end (n % 10), h)
    by_rest false more = more

pub decimal_no_end : (n : ℕ) → HasNoEnd (decimal n)
unfolding digits
decimal_no_end n = onto_no_end 64 n [] tt

no_end_at : (xs : List ℕ) → HasNoEnd xs → (k : ℕ) → (slice_index xs k == 10) ≡ false
no_end_at [] h k = refl
no_end_at (x ∷ xs) h zero = h.0
no_end_at (x ∷ xs) h (suc k) = no_end_at xs h.1 k

lower_no_end : HasNoEnd lower_digits
lower_no_end = search rules

pub encoded_no_end : (bytes : List ℕ) → HasNoEnd (encode_lower bytes)
unfolding encode_with
encoded_no_end [] = tt
encoded_no_end (b ∷ bytes) = (no_end_at lower_digits lower_no_end (b / 16), (no_end_at lower_digits lower_no_end (b % 16), encoded_no_end bytes))

text_no_end : (bytes : List ℕ) → HasNoEnd (text_or_zero bytes)
text_no_end [] = (refl, (refl, tt))
text_no_end (b ∷ bytes) = encoded_no_end (b ∷ bytes)

pub block_no_end : (block : List ℕ) → HasNoEnd (block_text block)
unfolding block_text
block_no_end block = text_no_end (without_zeros block)

kind_no_end : (kind : Kind) → HasNoEnd (kind_word kind)
kind_no_end Hit = search rules
kind_no_end Join = search rules
kind_no_end Miss = search rules
kind_no_end Dup = search rules
kind_no_end New = search rules

-- a word and a number
pub numbered_no_end : (word : List ℕ) (n : ℕ) → HasNoEnd word → HasNoEnd (word ++ decimal n)
numbered_no_end word n h = both_no_end word (decimal n) h (decimal_no_end n)

drop_no_end : (drop : Option Fp) → HasNoEnd (drop_text drop)
drop_no_end None = tt
drop_no_end (Some fp) = both_no_end (codes " drop ") (encode_lower (take 8 fp.0)) (search rules) (encoded_no_end (take 8 fp.0))

pub read_no_end : (kind : Kind) (block : List ℕ) (out : Option ℕ) (drop : Option Fp) → HasNoEnd (out_text out) → HasNoEnd (read_text kind block out drop)
unfolding read_text
read_no_end kind block out drop h =
    both_no_end (kind_word kind ++ codes " " ++ block_text block ++ out_text out) (drop_text drop)
    (both_no_end (kind_word kind ++ codes " " ++ block_text block) (out_text out)
    (both_no_end (kind_word kind ++ codes " ") (block_text block)
    (both_no_end (kind_word kind) (codes " ") (kind_no_end kind) (search rules)) (block_no_end block)) h) (drop_no_end drop)

pub write_no_end : (kind : Kind) (out : Option ℕ) (drop : Option Fp) → HasNoEnd (out_text out) → HasNoEnd (write_text kind out drop)
unfolding write_text
write_no_end kind out drop h = both_no_end (kind_word kind ++ out_text out) (drop_text drop) (both_no_end (kind_word kind) (out_text out) (kind_no_end kind) h) (drop_no_end drop)

-- words and a place in a region
pub place_no_end : (words : List ℕ) (region at : ℕ) → HasNoEnd words → HasNoEnd (words ++ place_text region at)
place_no_end words region at h =
    both_no_end words (place_text region at) h
    (both_no_end (decimal region ++ codes " ") (decimal at) (both_no_end (decimal region) (codes " ") (decimal_no_end region) (search rules)) (decimal_no_end at))

pub small_no_end : (device : List ℕ) (need have : ℕ) → HasNoEnd device → HasNoEnd (small_text device need have)
small_no_end device need have h =
    both_no_end (codes "refused " ++ device ++ codes " small " ++ decimal need ++ codes " ") (decimal have)
    (both_no_end (codes "refused " ++ device ++ codes " small " ++ decimal need) (codes " ")
    (both_no_end (codes "refused " ++ device ++ codes " small ") (decimal need)
    (both_no_end (codes "refused " ++ device) (codes " small ")
    (both_no_end (codes "refused ") device (search rules) h) (search rules)) (decimal_no_end need)) (search rules)) (decimal_no_end have)

-- a listed address, and the fingerprint of a listed block
pub address_no_end : (address : ℕ) (linked : Bool) → HasNoEnd (address_text address linked)
address_no_end address linked = both_no_end (codes " " ++ decimal address) (if linked then [] else codes "-") (numbered_no_end (codes " ") address (search rules)) (dash linked)
  where
    dash : (linked : Bool) → HasNoEnd (if linked then [] else codes "-")
    dash true = tt
    dash false = (refl, tt)

pub print_no_end : (fp : Fp) → HasNoEnd (print_text fp)
print_no_end fp = both_no_end (codes " ") (encode_lower (take 8 fp.0)) (search rules) (encoded_no_end (take 8 fp.0))

pub stat_no_end : (count addresses blocks : ℕ) → HasNoEnd (stat_text count addresses blocks)
stat_no_end count addresses blocks =
    both_no_end (codes "stat n " ++ decimal count ++ codes " addresses " ++ decimal addresses ++ codes " blocks ") (decimal blocks)
    (both_no_end (codes "stat n " ++ decimal count ++ codes " addresses " ++ decimal addresses) (codes " blocks ")
    (both_no_end (codes "stat n " ++ decimal count ++ codes " addresses ") (decimal addresses)
    (both_no_end (codes "stat n " ++ decimal count) (codes " addresses ")
    (numbered_no_end (codes "stat n ") count (search rules)) (search rules)) (decimal_no_end addresses)) (search rules)) (decimal_no_end blocks)

-- the counts of a large run
pub sum_no_end : (sums : Sums) → HasNoEnd (sum_text sums)
sum_no_end sums =
    both_no_end (counted_text (codes "sum hit ") sums.hits ++ counted_text (codes " join ") sums.joins ++ counted_text (codes " miss ") sums.misses ++ counted_text (codes " dup ") sums.dups ++ counted_text (codes " new ") sums.news ++ counted_text (codes " out ") sums.outs) (counted_text (codes " drop ") sums.drops)
    (both_no_end (counted_text (codes "sum hit ") sums.hits ++ counted_text (codes " join ") sums.joins ++ counted_text (codes " miss ") sums.misses ++ counted_text (codes " dup ") sums.dups ++ counted_text (codes " new ") sums.news) (counted_text (codes " out ") sums.outs)
    (both_no_end (counted_text (codes "sum hit ") sums.hits ++ counted_text (codes " join ") sums.joins ++ counted_text (codes " miss ") sums.misses ++ counted_text (codes " dup ") sums.dups) (counted_text (codes " new ") sums.news)
    (both_no_end (counted_text (codes "sum hit ") sums.hits ++ counted_text (codes " join ") sums.joins ++ counted_text (codes " miss ") sums.misses) (counted_text (codes " dup ") sums.dups)
    (both_no_end (counted_text (codes "sum hit ") sums.hits ++ counted_text (codes " join ") sums.joins) (counted_text (codes " miss ") sums.misses)
    (both_no_end (counted_text (codes "sum hit ") sums.hits) (counted_text (codes " join ") sums.joins)
    (numbered_no_end (codes "sum hit ") sums.hits (search rules)) (numbered_no_end (codes " join ") sums.joins (search rules)))
    (numbered_no_end (codes " miss ") sums.misses (search rules)))
    (numbered_no_end (codes " dup ") sums.dups (search rules)))
    (numbered_no_end (codes " new ") sums.news (search rules)))
    (numbered_no_end (codes " out ") sums.outs (search rules)))
    (numbered_no_end (codes " drop ") sums.drops (search rules))

-- both lists
pub lists_no_end : (entries : List Entry) (prints : List Fp) → HasNoEnd (lists_text entries prints)
lists_no_end entries prints =
    both_no_end (codes "A" ++ flat_map (λ entry. address_text entry.address entry.linked) entries ++ codes " B") (flat_map print_text prints)
    (both_no_end (codes "A" ++ flat_map (λ entry. address_text entry.address entry.linked) entries) (codes " B")
    (both_no_end (codes "A") (flat_map (λ entry. address_text entry.address entry.linked) entries) (search rules) (all_addresses entries)) (search rules)) (all_prints prints)
  where
    all_addresses : (entries : List Entry) → HasNoEnd (flat_map (λ entry. address_text entry.address entry.linked) entries)
    all_addresses [] = tt
    all_addresses (entry ∷ entries) = both_no_end (address_text entry.address entry.linked) (flat_map (λ entry. address_text entry.address entry.linked) entries) (address_no_end entry.address entry.linked) (all_addresses entries)

    all_prints : (prints : List Fp) → HasNoEnd (flat_map print_text prints)
    all_prints [] = tt
    all_prints (fp ∷ prints) = both_no_end (print_text fp) (flat_map print_text prints) (print_no_end fp) (all_prints prints)
