-- A write behind the first 64 bytes of the flash.
use Rattle.std.proofs.Common.{◌≡◌, ℕ, zero, suc, ◌≤◌, List, [], ◌∷◌, length, take, refl, ◌∙◌, ap, arith, inl, inr, cond}
use Rattle.dd_rig.specs.declared.device.Dev.TheVariants.{Flash}
use Rattle.std.proofs.lemmas.Bool.{le-ltb}
use Rattle.dd_rig.specs.Device.{overwrite, add_range}
use Rattle.dd_rig.specs.World.{World, ShowsSome, on_device}
use Rattle.dd_serve.specs.Scratch.{OnlyFlash, front_ranges}
use Rattle.dd_loop.specs.Saying.{front_of}

front_kept : (n at : ℕ) (bytes old : List ℕ) → n ≤ at → take n (overwrite at bytes old) ≡ take n old
front_kept zero at bytes old h = refl
front_kept (suc n) zero bytes old h = absurd (omega arith)
front_kept (suc n) (suc at) bytes [] h = refl
front_kept (suc n) (suc at) bytes (x ∷ old) h = ap (λ (l : List ℕ). x ∷ l) (front_kept n at bytes old (omega arith))

-- a write, failed or not, behind the first 64 bytes leaves them
front_after : (at size : ℕ) (old new : World) → 64 ≤ at → ShowsSome Flash at size old new → front_of new ≡ front_of old
front_after at size old new behind (inl same) = ap front_of same
front_after at size old new behind (inr wrote) = ap front_of wrote.2 ∙ front_kept 64 at wrote.0 old.flash.shown behind

-- and adds no range in them
ranges_after : (at size : ℕ) (old : World) → 64 ≤ at → front_ranges (on_device Flash (add_range at size) old) ≡ front_ranges old
ranges_after at size old behind = ap (λ b. cond b ((at, size) ∷ front_ranges old) (front_ranges old)) (le-ltb at 64 behind)

-- what a write leaves that shows some bytes of the flash
pub wrote_only_flash : (at size : ℕ) (old new : World) → 64 ≤ at → ShowsSome Flash at size old new → OnlyFlash old new
wrote_only_flash at size old new behind (inl same) = (
  record { disk = ap (λ (w : World). w.disk) same; front = front_after at size old new behind (inl same); stable = ap (λ (w : World). w.flash.stable) same; ranges = ap front_ranges same },
  ap (λ (w : World). w.said) same,
)
wrote_only_flash at size old new behind (inr wrote) = (
  record {
    disk = ap (λ (w : World). w.disk) wrote.2;
    front = front_after at size old new behind (inr wrote);
    stable = ap (λ (w : World). w.flash.stable) wrote.2;
    ranges = ap front_ranges wrote.2 ∙ ranges_after at (length wrote.0) old behind;
  },
  ap (λ (w : World). w.said) wrote.2,
)
