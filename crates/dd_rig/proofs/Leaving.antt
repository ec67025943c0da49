-- What writes and syncs leave of what a read gives.
use Rattle.std.proofs.Common.{inl, inr, ⊎_elim, ℕ, ◌+◌, ◌≤◌, List, length, refl, sym, ◌∙◌, subst, arith}
use Rattle.dd_rig.specs.declared.device.Dev.{Dev}
use Rattle.dd_rig.specs.declared.device.Dev.TheVariants.{Flash, Disk}
use Rattle.dd_rig.specs.Device.{write_bytes, make_stable}
use Rattle.dd_rig.specs.World.{World, on_device, ShowsSome, SyncsOrStays}
use Rattle.dd_rig.specs.Leaves.{LeavesShown}
use Rattle.dd_rig.proofs.Overwrite.{overwrite_outside}

-- nothing is done yet
pub nothing_left : (dev : Dev) (at size : ℕ) (world : World) → LeavesShown dev at size world world
nothing_left dev at size world = record { same_shown = λ place out. refl; same_other = refl; same_said = refl }

-- one range after another, both within a third
pub leaves_both : (dev : Dev) (a n b m c k : ℕ) (old middle new : World) → LeavesShown dev a n old middle → LeavesShown dev b m middle new → c ≤ a → a + n ≤ c + k → c ≤ b → b + m ≤ c + k → LeavesShown dev c k old new
leaves_both dev a n b m c k old middle new first second ca an cb bm = record {
  same_shown = λ place out. second.same_shown place (⊎_elim (λ front. inl (omega arith)) (λ behind. inr (omega arith)) out) ∙ first.same_shown place (⊎_elim (λ front. inl (omega arith)) (λ behind. inr (omega arith)) out);
  same_other = second.same_other ∙ first.same_other;
  same_said = second.same_said ∙ first.same_said;
}

-- a write that shows these bytes
wrote_leaves : (dev : Dev) (at : ℕ) (bytes : List ℕ) (world : World) → LeavesShown dev at (length bytes) world (on_device dev (write_bytes at bytes) world)
wrote_leaves Flash at bytes world = record { same_shown = λ place out. overwrite_outside at bytes world.flash.shown place out; same_other = refl; same_said = refl }
wrote_leaves Disk at bytes world = record { same_shown = λ place out. overwrite_outside at bytes world.disk.shown place out; same_other = refl; same_said = refl }

-- a write, failed or not, keeps what is shown outside its range
pub write_leaves : (dev : Dev) (at size : ℕ) (old new : World) → ShowsSome dev at size old new → LeavesShown dev at size old new
write_leaves dev at size old new (inl same) = subst (LeavesShown dev at size old) (sym same) (nothing_left dev at size old)
write_leaves dev at size old new (inr wrote) = subst (LeavesShown dev at size old) (sym wrote.2) (subst (λ (n : ℕ). LeavesShown dev at n old (on_device dev (write_bytes at wrote.0) old)) wrote.1 (wrote_leaves dev at wrote.0 old))

synced_leaves : (dev : Dev) (at size : ℕ) (world : World) → LeavesShown dev at size world (on_device dev make_stable world)
synced_leaves Flash at size world = record { same_shown = λ place out. refl; same_other = refl; same_said = refl }
synced_leaves Disk at size world = record { same_shown = λ place out. refl; same_other = refl; same_said = refl }

-- a sync, failed or not, keeps all that is shown
pub sync_leaves : (dev : Dev) (at size : ℕ) (old new : World) → SyncsOrStays dev old new → LeavesShown dev at size old new
sync_leaves dev at size old new (inl same) = subst (LeavesShown dev at size old) (sym same) (nothing_left dev at size old)
sync_leaves dev at size old new (inr synced) = subst (LeavesShown dev at size old) (sym synced) (synced_leaves dev at size old)
