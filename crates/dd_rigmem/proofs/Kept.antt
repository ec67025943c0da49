-- What is kept beside a history, one event later.
use Rattle.std.proofs.Common.{◌≡◌, ℕ, zero, suc, ◌+◌, ◌≤◌, List, [], ◌∷◌, ◌++◌, length, Bool, true, false, if◌then◌else◌, refl, sym, ◌∙◌, ap, subst, arith, length-append}
use Rattle.dd_rig.specs.declared.device.Dev.{Dev}
use Rattle.dd_rig.specs.declared.device.Dev.TheVariants.{Flash, Disk}
use Rattle.dd_rig.specs.Device.{overwrite}
use Rattle.dd_rig.specs.World.{World, device_of}
use Rattle.dd_rigmem.specs.declared.event.Event.{Event}
use Rattle.dd_rigmem.specs.declared.event.Event.TheVariants.{Wrote, Synced, Emitted}
use Rattle.dd_rigmem.specs.declared.marks.Marks.{Marks}
use Rattle.dd_rigmem.specs.Records.{EmitRecord}
use Rattle.dd_rigmem.specs.Bytes.{Bytes, bytes_of, on_bytes}
use Rattle.dd_rigmem.specs.Keeping.{IsKept, IsSettled, mark_of, set_mark, marked}
use Rattle.dd_rigmem.specs.History.{History, grown, world_of, size_of}
use Rattle.dd_rigmem.specs.Laws.{shows_image, has_size}
use Rattle.dd_rigmem.proofs.Growth.{world_grown}

-- a mark stands for one record
abbrev counted : Bool → ℕ
counted mark = if mark then 1 else 0

pub true_is_not_false : true ≡ false → ⊥
true_is_not_false same = grind (arith, same)

module _ (history : History) (shown : Bytes) (marks : Marks) (before capacity : ℕ) (kept : IsKept history shown marks before) where
  -- each device shows its size
  pub shown_size : (dev : Dev) → length (bytes_of dev shown) ≡ size_of history.start dev
  shown_size Flash = ap length kept.flash ∙ (shows_image history Flash).same_length ∙ has_size history Flash
  shown_size Disk = ap length kept.disk ∙ (shows_image history Disk).same_length ∙ has_size history Disk

  pub shown_is : (dev : Dev) → bytes_of dev shown ≡ (device_of dev (world_of history)).shown
  shown_is Flash = kept.flash
  shown_is Disk = kept.disk

  longer : (event : Event) (n : ℕ) → length history.events + 1 + n ≤ capacity → length (history.events ++ event ∷ []) + n ≤ capacity
  longer event n room = omega (arith, length-append history.events (event ∷ []))

  -- a write marks its device
  pub kept_written : (dev : Dev) (at : ℕ) (bytes : List ℕ) (after : Bytes) → after ≡ on_bytes dev (overwrite at bytes) shown → length history.events + 1 + marked (set_mark dev true marks) ≤ capacity → IsKept (grown (Wrote (record { dev = dev; at = at; bytes = bytes })) history) after (set_mark dev true marks) capacity
  kept_written Flash at bytes after is room =
      let event : Event = Wrote (record { dev = Flash; at = at; bytes = bytes }) in
      let now = world_grown event history in
      record {
        flash = ap (λ (b : Bytes). b.flash) is ∙ ap (overwrite at bytes) kept.flash ∙ sym (ap (λ (w : World). w.flash.shown) now);
        disk = ap (λ (b : Bytes). b.disk) is ∙ kept.disk ∙ sym (ap (λ (w : World). w.disk.shown) now);
        flash_settled = λ never. absurd (true_is_not_false never);
        disk_settled = λ unmarked. subst IsSettled (sym (ap (λ (w : World). w.disk) now)) (kept.disk_settled unmarked);
        room = longer event (marked (set_mark Flash true marks)) room;
      }
  kept_written Disk at bytes after is room =
      let event : Event = Wrote (record { dev = Disk; at = at; bytes = bytes }) in
      let now = world_grown event history in
      record {
        flash = ap (λ (b : Bytes). b.flash) is ∙ kept.flash ∙ sym (ap (λ (w : World). w.flash.shown) now);
        disk = ap (λ (b : Bytes). b.disk) is ∙ ap (overwrite at bytes) kept.disk ∙ sym (ap (λ (w : World). w.disk.shown) now);
        flash_settled = λ unmarked. subst IsSettled (sym (ap (λ (w : World). w.flash) now)) (kept.flash_settled unmarked);
        disk_settled = λ never. absurd (true_is_not_false never);
        room = longer event (marked (set_mark Disk true marks)) room;
      }

  -- a sync needs the room that its mark stands for
  pub kept_synced : (dev : Dev) → mark_of dev marks ≡ true → before ≤ capacity → IsKept (grown (Synced dev) history) shown (set_mark dev false marks) capacity
  kept_synced Flash is_marked more =
      let now = world_grown (Synced Flash) history in
      let one : counted marks.flash ≡ suc zero = ap counted is_marked in
      record {
        flash = kept.flash ∙ sym (ap (λ (w : World). w.flash.shown) now);
        disk = kept.disk ∙ sym (ap (λ (w : World). w.disk.shown) now);
        flash_settled = λ unmarked. subst IsSettled (sym (ap (λ (w : World). w.flash) now)) refl;
        disk_settled = λ unmarked. subst IsSettled (sym (ap (λ (w : World). w.disk) now)) (kept.disk_settled unmarked);
        room = longer (Synced Flash) (marked (set_mark Flash false marks)) (omega (arith, one, kept.room));
      }
  kept_synced Disk is_marked more =
      let now = world_grown (Synced Disk) history in
      let one : counted marks.disk ≡ suc zero = ap counted is_marked in
      record {
        flash = kept.flash ∙ sym (ap (λ (w : World). w.flash.shown) now);
        disk = kept.disk ∙ sym (ap (λ (w : World). w.disk.shown) now);
        flash_settled = λ unmarked. subst IsSettled (sym (ap (λ (w : World). w.flash) now)) (kept.flash_settled unmarked);
        disk_settled = λ unmarked. subst IsSettled (sym (ap (λ (w : World). w.disk) now)) refl;
        room = longer (Synced Disk) (marked (set_mark Disk false marks)) (omega (arith, one, kept.room));
      }

  -- an emit leaves the devices
  pub kept_emitted : (e : EmitRecord) → length history.events + 1 + marked marks ≤ capacity → IsKept (grown (Emitted e) history) shown marks capacity
  kept_emitted e room =
      let now = world_grown (Emitted e) history in
      record {
        flash = kept.flash ∙ sym (ap (λ (w : World). w.flash.shown) now);
        disk = kept.disk ∙ sym (ap (λ (w : World). w.disk.shown) now);
        flash_settled = λ unmarked. subst IsSettled (sym (ap (λ (w : World). w.flash) now)) (kept.flash_settled unmarked);
        disk_settled = λ unmarked. subst IsSettled (sym (ap (λ (w : World). w.disk) now)) (kept.disk_settled unmarked);
        room = longer (Emitted e) (marked marks) room;
      }
