-- Two values with one text are one.
use Rattle.std.proofs.Common.{◌≡◌, ℕ, List, [], refl, sym, ap, ◌∙◌, arith}
use Rattle.dd_block.specs.Bytes.{part, u32_at, u64_at}
use Rattle.dd_block.specs.declared.geometry.Geometry.{Geometry}
use Rattle.dd_block.specs.declared.print.Fp.{Fp}
use Rattle.dd_block.proofs.Fields.{u32_read, u64_read}
use Rattle.dd_record.specs.declared.head.Head.{Head}
use Rattle.dd_record.specs.declared.row.ARow.{ARow}
use Rattle.dd_record.specs.declared.row.BRow.{BRow}
use Rattle.dd_record.specs.declared.rec.Rec.{Rec}
use Rattle.dd_record.specs.Spelling.{head_text, a_text, b_text, rec_text, IsHead, IsA, IsB, IsRec}
use Rattle.dd_record.specs.Faults.{are_dirty_flags, link_of_fields}
use Rattle.dd_record.proofs.RowLaws.{a_back, b_back}
use Rattle.dd_record.proofs.Sound.{version_small}
use Rattle.dd_record.proofs.RecordLaws.{rec_back, AreFields}

pub b_text_same : (geo : Geometry) (x y : BRow) → IsB geo x → IsB geo y → b_text x ≡ b_text y → x ≡ y
b_text_same geo x y is_x is_y e =
    let read : BRow = record { slot = u32_at (b_text x) 0; fp = record { 0 = part (b_text x) 4 32 } } in
    sym (b_back geo x read (b_text x) is_x refl refl refl) ∙ b_back geo y read (b_text x) is_y e refl refl

pub a_text_same : (geo : Geometry) (version : ℕ) (x y : ARow) → IsA geo version x → IsA geo version y → a_text x ≡ a_text y → x ≡ y
a_text_same geo version x y is_x is_y e =
    let read : ARow = record {
      address = u32_at (a_text x) 0;
      link = link_of_fields (u32_at (a_text x) 4) (u32_at (a_text x) 8);
      dirty = are_dirty_flags (u32_at (a_text x) 4);
      fp = record { 0 = part (a_text x) 12 32 };
    } in
    sym (a_back geo version x read (a_text x) is_x refl refl refl refl refl) ∙ a_back geo version y read (a_text x) is_y e refl refl refl refl

pub rec_text_same : (geo : Geometry) (version : ℕ) (x y : Rec) → IsRec geo version x → IsRec geo version y → rec_text x ≡ rec_text y → x ≡ y
rec_text_same geo version x y is_x is_y e =
    let print : Fp = record { 0 = part (rec_text x) 16 32 } in
    let are : AreFields (rec_text x) (u32_at (rec_text x) 0) (u32_at (rec_text x) 4) (u32_at (rec_text x) 8) (u32_at (rec_text x) 12) print =
    record { kind_is = refl; dirty_is = refl; address_is = refl; slot_is = refl; print_is = refl } in
    sym (rec_back geo version x (rec_text x) _ _ _ _ _ is_x refl are) ∙ rec_back geo version y (rec_text x) _ _ _ _ _ is_y e are

head_same : (x y : Head) → x.version ≡ y.version → x.epoch ≡ y.epoch → x.count ≡ y.count → x.len_a ≡ y.len_a → x.len_b ≡ y.len_b → x ≡ y
head_same x y version epoch count len_a len_b = λ i. record { version = version i; epoch = epoch i; count = count i; len_a = len_a i; len_b = len_b i }

-- a header is what is read of its text
pub head_back : (geo : Geometry) (head read : Head) (bytes : List ℕ) → IsHead geo head → bytes ≡ head_text head
    → read.version ≡ u32_at bytes 4 → read.epoch ≡ u64_at bytes 8 → read.count ≡ u64_at bytes 16 → read.len_a ≡ u32_at bytes 24 → read.len_b ≡ u32_at bytes 28 → read ≡ head
head_back geo head read bytes is e version epoch count len_a len_b = head_same read head
    (version ∙ ap (λ xs. u32_at xs 4) e ∙ u32_read head.version [] (version_small head.version is.version))
    (epoch ∙ ap (λ xs. u64_at xs 8) e ∙ u64_read head.epoch [] is.epoch)
    (count ∙ ap (λ xs. u64_at xs 16) e ∙ u64_read head.count [] is.count)
    (len_a ∙ ap (λ xs. u32_at xs 24) e ∙ u32_read head.len_a [] (omega (arith, is.len_a)))
    (len_b ∙ ap (λ xs. u32_at xs 28) e ∙ u32_read head.len_b [] (omega (arith, is.len_b)))

pub head_text_same : (geo : Geometry) (x y : Head) → IsHead geo x → IsHead geo y → head_text x ≡ head_text y → x ≡ y
head_text_same geo x y is_x is_y e =
    let text = head_text x in
    let read : Head = record { version = u32_at text 4; epoch = u64_at text 8; count = u64_at text 16; len_a = u32_at text 24; len_b = u32_at text 28 } in
    sym (head_back geo x read text is_x refl refl refl refl refl refl) ∙ head_back geo y read text is_y e refl refl refl refl refl
