-- Images before a write, within it and after it.
use Rattle.std.proofs.Common.{◌≡◌, ◌⊎◌, inl, inr, ⊎_elim, ℕ, ◌+◌, ◌-◌, ◌<◌, ◌≤◌, List, length, get_or, take, drop, ◌∙◌, ap, arith, get_or-drop, get_or-take, length-take, length-drop}
use Rattle.std.proofs.lemmas.Bool.{cases_lt}
use Rattle.dd_rig.specs.declared.device.Dev.{Dev}
use Rattle.dd_rig.specs.declared.device.Dev.TheVariants.{Flash, Disk}
use Rattle.dd_rig.specs.World.{World, Outcome, MayLeave, WithinWrite, on_device}
use Rattle.dd_rig.specs.Device.{Device, IsImage, overwrite, add_range, write_bytes, make_stable}
use Rattle.dd_rig.proofs.Overwrite.{length-overwrite, overwrite_outside, overwrite_inside}

-- An image within a write is an image from before it in all but the range.
pub record IsImageBefore (at size : ℕ) (device : Device) (bytes : List ℕ) : Type 0 where
  pub before : List ℕ
  pub is_image : IsImage device before
  pub same_outside : (place : ℕ) → (place < at) ⊎ (at + size ≤ place) → get_or before place 0 ≡ get_or bytes place 0

pub image_before : (at size : ℕ) (device : Device) (bytes : List ℕ) → at + size ≤ length device.stable → IsImage (add_range at size device) bytes → IsImageBefore at size device bytes
image_before at size device bytes fits image = record {
  before = overwrite at kept bytes;
  is_image = record {
    same_length = length-overwrite at kept bytes ∙ image.same_length;
    same_outside = λ place out. ⊎_elim
        (λ front. overwrite_outside at kept bytes place (inl front) ∙ image.same_outside place (inl front, out))
        (λ from. ⊎_elim
        (λ (within : place < at + size).
        overwrite_inside at kept bytes place (place - at) (omega arith) (omega (arith, long)) (omega (arith, long, image.same_length))
        ∙ get_or-take size (drop at device.stable) (place - at) 0 (omega arith)
        ∙ get_or-drop at device.stable (place - at) 0
        ∙ ap (λ (p : ℕ). get_or device.stable p 0) (omega arith))
        (λ behind. overwrite_outside at kept bytes place (inr (omega (arith, long))) ∙ image.same_outside place (inr behind, out))
        (cases_lt place (at + size)))
        (cases_lt place at);
  };
  same_outside = λ place out. overwrite_outside at kept bytes place (⊎_elim (λ front. inl front) (λ behind. inr (omega (arith, long))) out);
}
  where
    kept : List ℕ
    kept = take size (drop at device.stable)

    long : length kept ≡ size
    long = omega (arith, length-take size (drop at device.stable), length-drop at device.stable)

-- what a write shows is an image after it
pub write_shows : (at : ℕ) (bytes : List ℕ) (device : Device) → IsImage device device.shown → IsImage (write_bytes at bytes device) (overwrite at bytes device.shown)
write_shows at bytes device image = record {
  same_length = length-overwrite at bytes device.shown ∙ image.same_length;
  same_outside = λ place out. overwrite_outside at bytes device.shown place out.0 ∙ image.same_outside place out.1;
}

-- after a sync there is no image that wasn't one before
pub sync_adds_none : (device : Device) (bytes : List ℕ) → IsImage device device.shown → IsImage (make_stable device) bytes → IsImage device bytes
sync_adds_none device bytes shown image = record {
  same_length = image.same_length ∙ shown.same_length;
  same_outside = λ place out. image.same_outside place tt ∙ shown.same_outside place out;
}

-- a crash after a write leaves what a crash within it may
pub after_is_within : (dev : Dev) (at : ℕ) (bytes : List ℕ) (world : World) (o : Outcome) → MayLeave (on_device dev (write_bytes at bytes) world) o → WithinWrite dev at (length bytes) world o
after_is_within Flash at bytes world o left = record {
  flash = record { same_length = left.flash.same_length; same_outside = left.flash.same_outside };
  disk = left.disk;
  out = left.out;
}
after_is_within Disk at bytes world o left = record {
  flash = left.flash;
  disk = record { same_length = left.disk.same_length; same_outside = left.disk.same_outside };
  out = left.out;
}

-- and a crash within it leaves what one after it may
pub within_is_after : (dev : Dev) (at : ℕ) (bytes : List ℕ) (world : World) (o : Outcome) → WithinWrite dev at (length bytes) world o → MayLeave (on_device dev (write_bytes at bytes) world) o
within_is_after Flash at bytes world o within = record {
  flash = record { same_length = within.flash.same_length; same_outside = within.flash.same_outside };
  disk = within.disk;
  out = within.out;
}
within_is_after Disk at bytes world o within = record {
  flash = within.flash;
  disk = record { same_length = within.disk.same_length; same_outside = within.disk.same_outside };
  out = within.out;
}

-- a crash after a sync leaves what a crash before it might
pub after_sync_is_before : (dev : Dev) (world : World) (o : Outcome) → IsImage world.flash world.flash.shown → IsImage world.disk world.disk.shown → MayLeave (on_device dev make_stable world) o → MayLeave world o
after_sync_is_before Flash world o flash disk left = record {
  flash = sync_adds_none world.flash o.flash flash left.flash;
  disk = left.disk;
  out = left.out;
}
after_sync_is_before Disk world o flash disk left = record {
  flash = left.flash;
  disk = sync_adds_none world.disk o.disk disk left.disk;
  out = left.out;
}
