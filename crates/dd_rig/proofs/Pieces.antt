-- A long write in pieces: a crash within it leaves what a crash within one write of it all may.
use Rattle.std.proofs.Common.{◌≡◌, inl, inr, ⊎_elim, ℕ, ◌+◌, ◌-◌, ◌≤◌, List, ◌++◌, length, take, drop, refl, sym, ◌∙◌, ap, subst, arith, slice_range, length-take, length-drop}
use Rattle.std.proofs.Math.Seq.{take-add}
use Rattle.dd_rig.specs.declared.device.Dev.{Dev}
use Rattle.dd_rig.specs.declared.device.Dev.TheVariants.{Flash, Disk}
use Rattle.dd_rig.specs.Device.{Device, IsImage, overwrite, add_range, write_bytes}
use Rattle.dd_rig.specs.World.{World, Outcome, device_of, shown, on_device, WithinWrite}
use Rattle.dd_rig.specs.Leaves.{Partly}
use Rattle.dd_rig.proofs.Images.{image_before}
use Rattle.dd_rig.proofs.Leaving.{nothing_left, write_leaves, leaves_both}

-- the front of a list and the next part of it
pub take_next : (n m : ℕ) (xs : List ℕ) → take n xs ++ slice_range xs n (n + m) ≡ take (n + m) xs
take_next n m xs =
    let size : n + m - n ≡ m = omega arith in
    ap (λ (k : ℕ). take n xs ++ take k (drop n xs)) size ∙ sym (take-add n m xs)

pub length-part : (n m : ℕ) (xs : List ℕ) → n + m ≤ length xs → length (slice_range xs n (n + m)) ≡ m
length-part n m xs fits = omega (arith, length-take (n + m - n) (drop n xs), length-drop n xs)

-- before the first piece
pub not_yet : (dev : Dev) (at size : ℕ) (world : World) → Partly dev at size world world
not_yet dev at size world = record {
  images = λ bytes image. record { same_length = image.same_length; same_outside = λ place out. image.same_outside place out.1 };
  same_size = refl;
  leaves = nothing_left dev at size world;
}

-- an image within one more piece
piece_image : (dev : Dev) (at size from count : ℕ) (old new : World) (bytes : List ℕ) → Partly dev at size old new → at ≤ from → from + count ≤ at + size → at + size ≤ length (device_of dev old).stable → IsImage (add_range from count (device_of dev new)) bytes → IsImage (add_range at size (device_of dev old)) bytes
piece_image dev at size from count old new bytes so_far low high fits image =
    let before = image_before from count (device_of dev new) bytes (omega (arith, so_far.same_size)) image in
    let whole = so_far.images before.before before.is_image in
    record {
      same_length = image.same_length ∙ so_far.same_size;
      same_outside = λ place out. sym (before.same_outside place (⊎_elim (λ front. inl (omega arith)) (λ behind. inr (omega arith)) out.0)) ∙ whole.same_outside place out;
    }

-- a crash within one more piece
pub within_piece : (dev : Dev) (at size from count : ℕ) (old new : World) (o : Outcome) → Partly dev at size old new → at ≤ from → from + count ≤ at + size → at + size ≤ length (device_of dev old).stable → WithinWrite dev from count new o → WithinWrite dev at size old o
within_piece Flash at size from count old new o so_far low high fits within = record {
  flash = piece_image Flash at size from count old new o.flash so_far low high fits within.flash;
  disk = subst (λ d. IsImage d o.disk) so_far.leaves.same_other within.disk;
  out = within.out ∙ so_far.leaves.same_said;
}
within_piece Disk at size from count old new o so_far low high fits within = record {
  flash = subst (λ d. IsImage d o.flash) so_far.leaves.same_other within.flash;
  disk = piece_image Disk at size from count old new o.disk so_far low high fits within.disk;
  out = within.out ∙ so_far.leaves.same_said;
}

-- the device that a write is on, after it
written : (dev : Dev) (at : ℕ) (bytes : List ℕ) (world : World) → device_of dev (on_device dev (write_bytes at bytes) world) ≡ write_bytes at bytes (device_of dev world)
written Flash at bytes world = refl
written Disk at bytes world = refl

-- what a device shows after a write
pub shown_written : (dev : Dev) (at : ℕ) (bytes : List ℕ) (old new : World) → new ≡ on_device dev (write_bytes at bytes) old → shown dev new ≡ overwrite at bytes (shown dev old)
shown_written dev at bytes old new is = ap (shown dev) is ∙ ap (λ (d : Device). d.shown) (written dev at bytes old)

-- one more piece is written
pub one_more : (dev : Dev) (at size from : ℕ) (piece : List ℕ) (old new next : World) → Partly dev at size old new → at ≤ from → from + length piece ≤ at + size → at + size ≤ length (device_of dev old).stable → next ≡ on_device dev (write_bytes from piece) new → Partly dev at size old next
one_more dev at size from piece old new next so_far low high fits is = subst (Partly dev at size old) (sym is) (record {
  images = λ bytes image.
      let now : IsImage (write_bytes from piece (device_of dev new)) bytes = subst (λ (d : Device). IsImage d bytes) (written dev from piece new) image in
      piece_image dev at size from (length piece) old new bytes so_far low high fits (record { same_length = now.same_length; same_outside = now.same_outside });
  same_size = ap (λ (d : Device). length d.stable) (written dev from piece new) ∙ so_far.same_size;
  leaves = leaves_both dev at size from (length piece) at size old new (on_device dev (write_bytes from piece) new) so_far.leaves (write_leaves dev from (length piece) new (on_device dev (write_bytes from piece) new) (inr (piece, refl, refl))) (omega arith) (omega arith) low high;
})
