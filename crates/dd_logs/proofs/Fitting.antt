-- Rows of two blocks and three addresses that fit each other.
use Rattle.std.proofs.Common.{◌≡◌, ◌==◌, IsTrue, false, [], ◌∷◌}
use Rattle.std.specs.List.{IsDistinct}
use Rattle.dd_record.specs.declared.row.ARow.{ARow}
use Rattle.dd_record.specs.declared.row.BRow.{BRow}
use Rattle.dd_record.specs.Table.{RowsFit, link_fits}

pub five_fit : (b c : BRow) (x y z : ARow) → (b.slot == c.slot) ≡ false → (x.address == y.address) ≡ false → (x.address == z.address) ≡ false → (y.address == z.address) ≡ false
    → IsTrue (link_fits (b ∷ c ∷ []) x) → IsTrue (link_fits (b ∷ c ∷ []) y) → IsTrue (link_fits (b ∷ c ∷ []) z) → RowsFit (record { b = b ∷ c ∷ []; a = x ∷ y ∷ z ∷ [] })
unfolding IsDistinct
five_fit b c x y z slots xy xz yz first second third = record {
  slots = ((slots, tt), (tt, tt));
  addresses = ((xy, (xz, tt)), ((yz, tt), (tt, tt)));
  links = (first, (second, (third, tt)));
}
