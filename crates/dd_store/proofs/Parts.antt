-- Parts of two lists of bytes that differ in one range alone, and ranges that lie apart.
use Rattle.std.proofs.Common.{◌≡◌, ◌⊎◌, inl, inr, ⊎_elim, ℕ, ◌+◌, ◌*◌, ◌<◌, ◌≤◌, List, length, drop, get_or, sym, ◌∙◌, arith, length-take, length-drop}
use Rattle.std.proofs.lemmas.List.{get_or-take, get_or-drop, ext_get_or}
use Rattle.dd_block.specs.Bytes.{part}
use Rattle.dd_block.specs.declared.geometry.Geometry.{Geometry}
use Rattle.dd_block.specs.Geometry.{slot_count}
use Rattle.dd_layout.specs.Layout.{slot_at, flash_need, disk_need, region_at}
use Rattle.dd_rig.specs.Leaves.{SameOutside}
use Rattle.dd_journal.specs.Sitting.{regions_size}

-- two parts are the same where each byte is
pub same_bytes : (one another : List ℕ) (at n : ℕ) → length one ≡ length another → ((k : ℕ) → k < n → get_or one (at + k) 0 ≡ get_or another (at + k) 0) → part one at n ≡ part another at n
same_bytes one another at n long each = ext_get_or 0 (part one at n) (part another at n) longs
    (λ k lt. get_or-take n (drop at one) k 0 (within k lt)
    ∙ get_or-drop at one k 0
    ∙ each k (within k lt)
    ∙ sym (get_or-drop at another k 0)
    ∙ sym (get_or-take n (drop at another) k 0 (within k lt)))
  where
    longs : length (part one at n) ≡ length (part another at n)
    longs = omega (arith, long, length-take n (drop at one), length-drop at one, length-take n (drop at another), length-drop at another)

    within : (k : ℕ) → k < length (part one at n) → k < n
    within k lt = omega (arith, length-take n (drop at one))

-- a part that lies apart from a range
abbrev pub LiesApart : (at size from n : ℕ) → Type 0
LiesApart at size from n = (from + n ≤ at) ⊎ (at + size ≤ from)

-- a part is the same where only a range apart from it differs
pub part_outside : (at size from n : ℕ) (one another : List ℕ) → length one ≡ length another → SameOutside at size one another → LiesApart at size from n → part another from n ≡ part one from n
part_outside at size from n one another long same apart =
    same_bytes another one from n (sym long) (λ k lt. same (from + k) (⊎_elim (λ before. inl (omega arith)) (λ behind. inr (omega arith)) apart))

-- and so is what lies behind it
pub behind_same : (need at size : ℕ) (one another : List ℕ) → length one ≡ length another → SameOutside at size one another → at + size ≤ need → drop need another ≡ drop need one
behind_same need at size one another long same within = ext_get_or 0 (drop need another) (drop need one) (omega (arith, long, length-drop need one, length-drop need another))
    (λ k lt. get_or-drop need another k 0 ∙ same (need + k) (inr (omega (arith, within))) ∙ sym (get_or-drop need one k 0))

-- two slots, or two blocks, lie apart
times_apart : (s t n : ℕ) → s < t → s * n + n ≤ t * n
times_apart s t n h = grind arith

one_way : (s t : ℕ) → (s ≡ t → ⊥) → (s < t) ⊎ (t < s)
one_way s t h = grind arith

pub blocks_apart : (s t n : ℕ) → (s ≡ t → ⊥) → LiesApart (s * n) n (t * n) n
blocks_apart s t n h = ⊎_elim (λ (lt : s < t). inr (times_apart s t n lt)) (λ (gt : t < s). inl (times_apart t s n gt)) (one_way s t h)

pub slots_apart : (geo : Geometry) (s t : ℕ) → (s ≡ t → ⊥) → LiesApart (slot_at geo s) geo.block (slot_at geo t) geo.block
slots_apart geo s t h = ⊎_elim (λ before. inl (omega arith)) (λ behind. inr (omega arith)) (blocks_apart s t geo.block h)

-- and lie within the device
pub slot_within : (geo : Geometry) (slot : ℕ) → slot < geo.bcap + geo.spare → slot_at geo slot + geo.block ≤ flash_need geo
slot_within geo slot below =
    let here : slot * geo.block + geo.block ≤ slot_count geo * geo.block = times_apart slot (slot_count geo) geo.block below in
    omega (arith, here)

pub block_within : (geo : Geometry) (address : ℕ) → address < geo.blocks → address * geo.block + geo.block ≤ disk_need geo
block_within geo address below = times_apart address geo.blocks geo.block below

-- the superblock and the regions lie in front of the slots
pub regions_before : (geo : Geometry) (slot : ℕ) → region_at geo 0 + regions_size geo ≤ slot_at geo slot
regions_before geo slot = omega arith
