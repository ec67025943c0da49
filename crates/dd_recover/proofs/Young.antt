-- Devices that stand for a state, by a snapshot that is young, are refused for nothing.
use Rattle.std.proofs.Common.{◌≡◌, ℕ, ◌+◌, ◌≤◌, Bool, List, [], ◌∷◌, length, take, refl, sym, ◌∙◌, ap, subst, arith, Some, None, Ok, Err}
use Rattle.std.specs.Prelude.{Option, Result, IfOk, nat_lt, if◌then◌else◌, option_and_then, option_map}
use Rattle.std.specs.Option.{option_or}
use Rattle.std.proofs.lemmas.Bool.{le-ltb}
use Rattle.std.proofs.lemmas.Result.{IfOk-weaker}
use Rattle.dd_block.specs.declared.geometry.Geometry.{Geometry}
use Rattle.dd_block.specs.declared.print.Fp.{Fp}
use Rattle.dd_rig.specs.declared.device.Dev.{Dev}
use Rattle.dd_rig.specs.declared.device.Dev.TheVariants.{Flash, Disk}
use Rattle.dd_rig.specs.World.{World}
use Rattle.dd_layout.specs.Layout.{region_at, flash_need, disk_need}
use Rattle.dd_layout.specs.Super.{super_text, super_fault}
use Rattle.dd_layout.proofs.Superblocks.{super_sound}
use Rattle.dd_record.specs.declared.rec.Rec.{Rec}
use Rattle.dd_record.specs.Table.{Table, RowsFit}
use Rattle.dd_record.specs.Replay.{after_rec, replay}
use Rattle.dd_record.proofs.Misfits.{no_misfit}
use Rattle.dd_model.specs.State.{State}
use Rattle.dd_model.specs.declared.given.Misfit.{Misfit}
use Rattle.dd_model.specs.Listing.{misfit_or, misfit_of}
use Rattle.dd_journal.specs.declared.found.Placed.{Placed}
use Rattle.dd_journal.specs.Faults.{journal_fault}
use Rattle.dd_journal.specs.Logged.{placed_records}
use Rattle.dd_journal.specs.Regions.{Reading, head_of, log_begins, records_of}
use Rattle.dd_journal.proofs.Sole.{no_fault}
use Rattle.dd_store.specs.Keeping.{Kept}
use Rattle.dd_store.specs.Meaning.{Basis, Stands}
use Rattle.dd_store.specs.Serving.{StoreOf}
use Rattle.dd_recover.specs.declared.opening_fault.OpenFault.{OpenFault}
use Rattle.dd_recover.specs.declared.opening_fault.OpenFault.TheVariants.{Memory, FlashRead, FlashWrite, DiskWrite, FlashSmall, DiskSmall, Super, NoRegion, Snapshot, Group, Worn, Version1}
use Rattle.dd_recover.specs.Opening.{front_fault, small_for, body_fault, reading_fault, rows_fault, records_fault, version_fault, opening_of, misfit_at, first_unfit, unfit_or, IsFirstFault, IsYoung, TellsOpening, Opens}
use Rattle.dd_recover.specs.Stages.{recs_of}
use Rattle.dd_recover.proofs.Replaying.{records_placed}
use Rattle.dd_recover.proofs.Telling.{none_first}

-- a flash that begins with a superblock is refused for nothing in front
front_none : (size : Dev → ℕ) (flash : List ℕ) (geo : Geometry) → 64 ≤ size Flash → take 64 flash ≡ super_text geo → front_fault size flash ≡ None
front_none size flash geo large text =
    ap (λ (b : Bool). if b then Some (FlashSmall 64 (size Flash)) else option_map (λ fault. Super fault) (super_fault (take 64 flash))) (le-ltb (size Flash) 64 large)
    ∙ ap (λ (bytes : List ℕ). option_map (λ fault. Super fault) (super_fault bytes)) text
    ∙ ap (option_map (λ fault. Super fault)) (super_sound geo)

-- devices that are large enough
small_none : (geo : Geometry) (size : Dev → ℕ) → flash_need geo ≤ size Flash → disk_need geo ≤ size Disk → small_for geo size ≡ None
small_none geo size flash disk =
    ap (λ (b : Bool). if b then Some (FlashSmall (flash_need geo) (size Flash)) else if nat_lt (size Disk) (disk_need geo) then Some (DiskSmall (disk_need geo) (size Disk)) else None) (le-ltb (size Flash) (flash_need geo) flash)
    ∙ ap (λ (b : Bool). if b then Some (DiskSmall (disk_need geo) (size Disk)) else None) (le-ltb (size Disk) (disk_need geo) disk)

body_none : (geo : Geometry) (size : Dev → ℕ) (flash : List ℕ) → flash_need geo ≤ size Flash → disk_need geo ≤ size Disk → journal_fault geo flash ≡ None → body_fault geo size flash ≡ None
body_none geo size flash large disk none =
    ap (λ (f : Option OpenFault). option_or f (option_map opening_of (journal_fault geo flash))) (small_none geo size large disk) ∙ ap (option_map opening_of) none

-- records that are replayed
records_none : (acap bcap : ℕ) (recs : List Placed) (table after : Table) → replay acap bcap (recs_of recs) table ≡ Some after → first_unfit acap bcap recs table ≡ None
records_none acap bcap [] table after is = refl
records_none acap bcap (placed ∷ recs) table after is = behind (after_rec acap bcap placed.rec table) is (λ t rest. records_none acap bcap recs t after rest)
  where
    behind : (middle : Option Table) → option_and_then (replay acap bcap (recs_of recs)) middle ≡ Some after → ((t : Table) → replay acap bcap (recs_of recs) t ≡ Some after → first_unfit acap bcap recs t ≡ None)
        → unfit_or placed.at (first_unfit acap bcap recs) middle ≡ None
    behind None never rest = absurd (cc never)
    behind (Some t) is rest = rest t is

-- a reading of version 2 whose rows and records fit
reading_none : (r : Reading) (after : Table) → RowsFit r.table → replay r.geo.acap r.geo.bcap (records_of r) r.table ≡ Some after → r.version ≡ 2 → reading_fault r ≡ None
reading_none r after fit replayed two =
    let none = no_misfit r.table fit in
    let blocks = none.0 in
    let addresses = none.1 in
    let misfits : misfit_of r.table ≡ None = λ i. misfit_or (blocks i) (addresses i) in
    let rows : rows_fault r ≡ None = ap (option_map (λ (misfit : Misfit). Snapshot r.region (region_at r.geo r.region + misfit_at (length r.table.b) misfit))) misfits in
    let recs : replay r.geo.acap r.geo.bcap (recs_of (placed_records r)) r.table ≡ Some after =
    ap (λ (rs : List Rec). replay r.geo.acap r.geo.bcap rs r.table) (records_placed (region_at r.geo r.region + log_begins (head_of r)) r.groups) ∙ replayed in
    let records : records_fault r ≡ None = ap (option_map (λ (at : ℕ). Group r.region at)) (records_none r.geo.acap r.geo.bcap (placed_records r) r.table after recs) in
    ap (λ (f : Option OpenFault). option_or f (option_or (records_fault r) (version_fault r.version))) rows
    ∙ ap (λ (f : Option OpenFault). option_or f (version_fault r.version)) records
    ∙ ap version_fault two

module _ (basis : Basis) (print : List ℕ → Fp) (flash disk : List ℕ) (size : Dev → ℕ) (flash_size : length flash ≡ size Flash) (disk_size : length disk ≡ size Disk) (s : State) (stands : Stands basis print flash disk s) (young : IsYoung stands) where
  pub young_none : (fault : OpenFault) → IsFirstFault size flash fault → ⊥
  young_none =
      let says = stands.says in
      let r : Reading = says.reading in
      let large : flash_need r.geo ≤ size Flash = omega (arith, says.spells.reads.size, flash_size) in
      let room : disk_need r.geo ≤ size Disk = omega (arith, subst (λ (g : Geometry). disk_need g ≤ length disk) (sym says.geometry) stands.disk_size, disk_size) in
      let replayed : replay r.geo.acap r.geo.bcap (records_of r) r.table ≡ Some stands.table = subst (λ (g : Geometry). replay g.acap g.bcap (records_of r) r.table ≡ Some stands.table) (sym says.geometry) says.replayed in
      none_first size flash r.geo (front_none size flash r.geo (omega (arith, large)) says.spells.super) says.spells.super
      (body_none r.geo size flash large room (no_fault flash r says.spells.reads young.0 young.1)) r says.spells refl
      (reading_none r stands.table says.fit replayed says.versioned)

-- so they are opened, or there was no memory or a call failed
opens_if : (basis : Basis) (F : Type 0) (print : F) (printed : List ℕ → Fp) (geo : Geometry) (result : Result (StoreOf F) OpenFault) (new : World) (s : State) (size : Dev → ℕ) (flash : List ℕ)
    → ((fault : OpenFault) → IsFirstFault size flash fault → ⊥) → TellsOpening result size flash → IfOk result (λ opened. opened.print ≡ print)
    → IfOk result (λ opened. (opened.store.journal.geo ≡ geo) × Kept basis printed opened.store new s s) → Opens basis print printed geo result new s
opens_if basis F print printed geo (Ok opened) new s size flash none told same kept = (same, kept.0, kept.1)
opens_if basis F print printed geo (Err (Memory e)) new s size flash none told same kept = tt
opens_if basis F print printed geo (Err FlashRead) new s size flash none told same kept = tt
opens_if basis F print printed geo (Err FlashWrite) new s size flash none told same kept = tt
opens_if basis F print printed geo (Err DiskWrite) new s size flash none told same kept = tt
opens_if basis F print printed geo (Err (FlashSmall need have)) new s size flash none told same kept = none (FlashSmall need have) told
opens_if basis F print printed geo (Err (DiskSmall need have)) new s size flash none told same kept = none (DiskSmall need have) told
opens_if basis F print printed geo (Err (Super f)) new s size flash none told same kept = none (Super f) told
opens_if basis F print printed geo (Err NoRegion) new s size flash none told same kept = none NoRegion told
opens_if basis F print printed geo (Err (Snapshot region at)) new s size flash none told same kept = none (Snapshot region at) told
opens_if basis F print printed geo (Err (Group region at)) new s size flash none told same kept = none (Group region at) told
opens_if basis F print printed geo (Err (Worn value)) new s size flash none told same kept = none (Worn value) told
opens_if basis F print printed geo (Err Version1) new s size flash none told same kept = none Version1 told

-- where the snapshot of such devices is young they are opened
pub opens_settled : (F : Type 0) (print : F) (printed : List ℕ → Fp) (result : Result (StoreOf F) OpenFault) (flash disk : List ℕ) (new : World) (size : Dev → ℕ)
    → length flash ≡ size Flash → length disk ≡ size Disk → TellsOpening result size flash → IfOk result (λ opened. opened.print ≡ print)
    → IfOk result (λ opened. (basis : Basis) (s : State) (stands : Stands basis printed flash disk s) → (opened.store.journal.geo ≡ stands.geo) × Kept basis printed opened.store new s s)
    → (basis : Basis) (s : State) (stands : Stands basis printed flash disk s) → IsYoung stands → Opens basis print printed stands.geo result new s
opens_settled F print printed result flash disk new size flash_size disk_size told same kept basis s stands young =
    opens_if basis F print printed stands.geo result new s size flash (young_none basis printed flash disk size flash_size disk_size s stands young) told same
    (IfOk-weaker result
    (λ opened. (other : Basis) (t : State) (st : Stands other printed flash disk t) → (opened.store.journal.geo ≡ st.geo) × Kept other printed opened.store new t t)
    (λ opened. (opened.store.journal.geo ≡ stands.geo) × Kept basis printed opened.store new s s)
    (λ opened at. at basis s stands) kept)
