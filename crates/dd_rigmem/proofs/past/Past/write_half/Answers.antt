use Rattle.std.proofs.Common.{◌≡◌, ◌∙◌, ◌≤◌, ◌+◌, ◌/◌, ◌++◌, ℕ, List, length, slice_range, ap, sym, subst, arith}
use Rattle.std.proofs.lemmas.Result.{on_ok_weaker}
use Rattle.std.specs.Prelude.{vec_capacity}
use Rattle.dd_rig.specs.Device.{write_bytes}
use Rattle.dd_rig.specs.World.{device_of}
use Rattle.dd_rigmem.specs.declared.event.Event.TheVariants.{Wrote}
use Rattle.dd_rigmem.specs.Records.{WriteRecord}
use Rattle.dd_rigmem.specs.Effects.{half_of, write_half}
use Rattle.dd_rigmem.specs.History.{History, Writes, grown, world_of, size_of}
use Rattle.dd_rigmem.proofs.Growth.{world_grown, wrote, wrote_none, either_way, on_device_same}
use Rattle.dd_rigmem.proofs.Halves.{half_long, half_written}
use Rattle.dd_rigmem.proofs.Kept.{shown_size, shown_is}
use Rattle.dd_rigmem.proofs.past.Past.write_half.Goals as goal

pub half_written-requires : goal.half_written-requires
half_written-requires c =
    let capacity = vec_capacity c.self.inside.events in
    omega (arith, c.requires, ap length c.device.ensures, ap (λ (h : History). size_of h.start c.args.dev) c.self.view_is, shown_size (record { start = c.self.inside.start; events = c.self.inside.events.items }) c.self.inside.shown c.self.inside.unsynced capacity capacity c.self.invariant c.args.dev)

module _ (c : goal.After-drop-bytes) where
  abbrev shown : List ℕ
  shown = c.device.result.now

  abbrev from : List ℕ
  from = c.args.from.now

  abbrev inside : History
  inside = record { start = c.self.inside.start; events = c.self.inside.events.items }

  is_shown : (device_of c.args.dev (world_of c.args.self.now)).shown ≡ shown
  is_shown =
      let capacity = vec_capacity c.self.inside.events in
      sym (c.device.ensures ∙ shown_is inside c.self.inside.shown c.self.inside.unsynced capacity capacity c.self.invariant c.args.dev ∙ ap (λ (h : History). (device_of c.args.dev (world_of h)).shown) c.self.view_is)

  bytes : c.deref.result.now ≡ half_of from ++ slice_range shown (c.args.at + length from / 2) (c.args.at + length from)
  bytes = c.deref.ensures.value ∙ c.in_ok-bytes.ensures

  fits : c.args.at + length from ≤ length shown
  fits =
      let capacity = vec_capacity c.self.inside.events in
      omega (arith, c.requires, ap length c.device.ensures, ap (λ (h : History). size_of h.start c.args.dev) c.self.view_is, shown_size inside c.self.inside.shown c.self.inside.unsynced capacity capacity c.self.invariant c.args.dev)

pub returns-clause-ok : goal.returns-clause-ok
returns-clause-ok c =
    let old = c.args.self.now in
    let w : WriteRecord = record { dev = c.args.dev; at = c.args.at; bytes = c.deref.result.now } in
    on_ok_weaker c.write.result (λ done. ap world_of done ∙ world_grown (Wrote w) old ∙ on_device_same c.args.dev (write_bytes c.args.at c.deref.result.now) (write_half c.args.at c.args.from.now) (world_of old) (half_written c.args.at c.args.from.now c.deref.result.now c.device.result.now (fits c) (bytes c) (device_of c.args.dev (world_of old)) (is_shown c))) c.write.ensures.ok

pub returns-clause-model : goal.returns-clause-model
returns-clause-model c =
    let old = c.args.self.now in
    let w : WriteRecord = record { dev = c.args.dev; at = c.args.at; bytes = c.deref.result.now } in
    subst (λ (n : ℕ). Writes c.args.dev c.args.at n old c.write.new.self) (half_long c.args.at c.args.from.now c.deref.result.now c.device.result.now (fits c) (bytes c))
    (either_way c.write.result (Writes c.args.dev c.args.at (length w.bytes) old) old (grown (Wrote w) old) c.write.new.self c.write.ensures.ok c.write.ensures.err (wrote w old) (wrote_none c.args.dev c.args.at (length w.bytes) old))
