-- The disk is synced: the laid addresses become clean, and their records are pending.
use Rattle.std.proofs.Common.{drop, ◌≡◌, inl, ℕ, ◌+◌, ◌*◌, ◌<◌, ◌≤◌, ◌==◌, length, Bool, true, false, List, [], ◌∷◌, refl, sym, ◌∙◌, ap, subst, arith, Some, None, if◌then◌else◌, cond}
use Rattle.std.specs.Prelude.{◌||◌, ◌&&◌, not, option_and_then, count_by, Result, Ok, Err, OnErr}
use Rattle.std.specs.List.{AllByRecursion, IsDistinct}
use Rattle.std.proofs.lemmas.Bool.{eqb-true}
use Rattle.std.proofs.lemmas.List.{length-map}
use Rattle.dd_block.specs.Bytes.{part}
use Rattle.dd_block.specs.declared.print.Fp.{Fp}
use Rattle.dd_block.specs.declared.geometry.Geometry.{Geometry}
use Rattle.dd_layout.specs.Layout.{disk_need, slot_block, disk_block}
use Rattle.dd_rig.specs.declared.device.Dev.TheVariants.{Disk}
use Rattle.dd_rig.specs.Device.{IsImage, make_stable}
use Rattle.dd_rig.specs.World.{World, on_device}
use Rattle.dd_slots.specs.Numbers.{is_among, Enumerates}
use Rattle.dd_slots.proofs.Numbers.{same_number}
use Rattle.dd_record.specs.declared.row.ARow.{ARow}
use Rattle.dd_record.specs.declared.rec.Rec.{Rec}
use Rattle.dd_record.specs.declared.rec.Rec.TheVariants.{Clean}
use Rattle.dd_record.specs.Spelling.{IsA, IsRec}
use Rattle.dd_record.specs.Table.{Table, a_row, is_dirty, is_dirty_at}
use Rattle.dd_record.specs.Replay.{cleaned, replay, raises, count_after}
use Rattle.dd_record.proofs.Replayed.{replay_listed}
use Rattle.dd_model.specs.State.{State, content}
use Rattle.dd_model.specs.Rows.{Shows}
use Rattle.dd_model.proofs.Dirty.{dirty_cleaned, cleaned_ones}
use Rattle.dd_model.proofs.RecordLaws.{shows-cleaned}
use Rattle.dd_journal.specs.Sitting.{IsStablePart}
use Rattle.dd_journal.proofs.Reaching.{synced_is_stable}
use Rattle.dd_store.specs.Keeping.{StoreView, IsStore, Holds, Kept, NamesKept, StaysInPace}
use Rattle.dd_store.specs.Meaning.{Basis, sizes_of, dirty_rows}
use Rattle.dd_store.specs.Laying.{all_cleaned, all_without, clean_records, marked_store}
use Rattle.dd_store.proofs.Committing.{nothing_pending}
use Rattle.dd_store.proofs.Pace.{cleaned_fewer}
use Rattle.dd_store.proofs.Sure.{Sure, sure_of, kept_of}

-- rows show the same state whichever of them are dirty
shows_all_cleaned : (print : List ℕ → Fp) (held : ℕ → List ℕ) (geo : Geometry) (count : ℕ) (s : State) (addresses : List ℕ) (table : Table) → Shows print held table count s
    → Shows print held (record table { a = all_cleaned addresses table.a }) count s
shows_all_cleaned print held geo count s [] table shows = shows
shows_all_cleaned print held geo count s (address ∷ addresses) table shows =
    shows_all_cleaned print held geo count s addresses (record table { a = cleaned address table.a }) (shows-cleaned print held (sizes_of geo) s table count shows address)

and_true : (b : Bool) → (b && true) ≡ b
and_true true = refl
and_true false = refl

-- another address is as dirty as it was
other_dirty : (at address : ℕ) (rows : List ARow) → (at == address) ≡ false → is_dirty_at at (cleaned address rows) ≡ is_dirty_at at rows
other_dirty at address rows other = dirty_cleaned address rows at ∙ ap (λ b. is_dirty_at at rows && not b) other ∙ and_true (is_dirty_at at rows)

or_false : (a b : Bool) → (a || b) ≡ false → (a ≡ false) × (b ≡ false)
or_false true b h = absurd (cc h)
or_false false b h = (refl, h)

-- an address that isn't among some is as dirty behind them all
pub others_dirty : (at : ℕ) (addresses : List ℕ) (rows : List ARow) → is_among at addresses ≡ false → is_dirty_at at (all_cleaned addresses rows) ≡ is_dirty_at at rows
others_dirty at [] rows none = refl
others_dirty at (address ∷ addresses) rows none =
    let parts = or_false (at == address) (is_among at addresses) none in
    others_dirty at addresses (cleaned address rows) parts.1 ∙ other_dirty at address rows parts.0

-- the dirty ones are those that weren't made clean
pub dirty_all : (addresses : List ℕ) (rows : List ARow) (dirty : List ℕ) → Enumerates (λ at. is_dirty_at at rows) dirty → Enumerates (λ at. is_dirty_at at (all_cleaned addresses rows)) (all_without addresses dirty)
dirty_all [] rows dirty ones = ones
dirty_all (address ∷ addresses) rows dirty ones =
    dirty_all addresses (cleaned address rows) (all_without (address ∷ []) dirty)
    (cleaned_ones (λ at. is_dirty_at at rows) (λ at. is_dirty_at at (cleaned address rows)) address dirty ones (dirty_cleaned address rows))

flip : (a b : ℕ) → (a == b) ≡ false → (b == a) ≡ false
flip a b h = grind arith

-- other addresses are dirty behind one that was made clean
pub still_dirty : (address : ℕ) (others : List ℕ) (rows : List ARow) → AllByRecursion (λ other. (address == other) ≡ false) others → AllByRecursion (λ other. is_dirty_at other rows ≡ true) others
    → AllByRecursion (λ other. is_dirty_at other (cleaned address rows) ≡ true) others
still_dirty address [] rows other was = tt
still_dirty address (n ∷ ns) rows other was = (other_dirty n address rows (flip address n other.0) ∙ was.0, still_dirty address ns rows other.1 was.1)

-- the Clean records of distinct dirty addresses fit one after the other
module _ (acap bcap : ℕ) where
  pub replay_cleans : (addresses : List ℕ) (table : Table) → IsDistinct (λ x y. x == y) addresses → AllByRecursion (λ address. is_dirty_at address table.a ≡ true) addresses
      → replay acap bcap (clean_records addresses) table ≡ Some (record table { a = all_cleaned addresses table.a })
  unfolding IsDistinct
  replay_cleans [] table apart dirty = refl
  replay_cleans (address ∷ addresses) table apart dirty =
      ap (λ (b : Bool). option_and_then (replay acap bcap (clean_records addresses)) (if b then Some (record table { a = cleaned address table.a }) else None)) dirty.0
      ∙ replay_cleans addresses (record table { a = cleaned address table.a }) apart.1 (still_dirty address addresses table.a apart.0 dirty.1)

pub all_among : (P : ℕ → Type 0) (ns : List ℕ) → ((n : ℕ) → is_among n ns ≡ true → P n) → AllByRecursion P ns
all_among P [] h = tt
all_among P (n ∷ ns) h = (h n (or_first (n == n) (is_among n ns) (same_number n)), all_among P ns (λ m is. h m (or_second (m == n) (is_among m ns) is)))
  where
    or_first : (a b : Bool) → a ≡ true → (a || b) ≡ true
    or_first true b is = refl
    or_first false b is = absurd (cc is)

    or_second : (a b : Bool) → b ≡ true → (a || b) ≡ true
    or_second true b is = refl
    or_second false b is = is

pub laid_dirty : (store : StoreView) → IsStore store → AllByRecursion (λ address. is_dirty_at address store.table.a ≡ true) store.laid
laid_dirty store is = all_among (λ address. is_dirty_at address store.table.a ≡ true) store.laid is.laid

-- as many rows fewer are dirty
cleaned_all : (addresses : List ℕ) (rows : List ARow) → IsDistinct (λ x y. x == y) addresses → AllByRecursion (λ address. is_dirty_at address rows ≡ true) addresses → dirty_rows (all_cleaned addresses rows) + length addresses ≤ dirty_rows rows
unfolding IsDistinct
cleaned_all [] rows apart dirty = omega arith
cleaned_all (address ∷ addresses) rows apart dirty =
    omega (arith, cleaned_all addresses (cleaned address rows) apart.1 (still_dirty address addresses rows apart.0 dirty.1), cleaned_fewer address rows dirty.0)

pace_marked : (room : ℕ) (store : StoreView) → IsStore store → StaysInPace room store → StaysInPace room (marked_store store)
pace_marked room store is pace = omega (arith, pace, cleaned_all store.laid store.table.a is.laid_once (laid_dirty store is), length-map store.laid (λ (address : ℕ). Clean address))

module _ (print : List ℕ → Fp) (store : StoreView) (old : World) (s : State) (holds : Holds print store old s) where
  -- the disk has the content of what was clean, and of what was laid
  clean_now : (address : ℕ) → address < store.journal.geo.blocks → is_dirty_at address (all_cleaned store.laid store.table.a) ≡ false → content s.array address ≡ disk_block store.journal.geo old.disk.shown address
  clean_now address below clean = by_test (is_among address store.laid) refl
    where
      by_test : (b : Bool) → is_among address store.laid ≡ b → content s.array address ≡ disk_block store.journal.geo old.disk.shown address
      by_test true laid = sym (holds.laid address laid)
      by_test false unlaid = holds.means.clean address below (sym (others_dirty address store.laid store.table.a unlaid) ∙ clean)

  -- behind a sync of the disk that succeeded
  pub holds_marked : Holds print (marked_store store) (on_device Disk make_stable old) s
  holds_marked = record {
    means = record {
      array_length = holds.means.array_length;
      array_blocks = holds.means.array_blocks;
      lists = shows_all_cleaned print (slot_block store.journal.geo old.flash.shown) store.journal.geo store.count s store.laid store.table holds.means.lists;
      clean = clean_now;
    };
    laid = λ address never. absurd (cc never);
  }

module _ (basis : Basis) (print : List ℕ → Fp) (store : StoreView) (old : World) (flash_shows : IsImage old.flash old.flash.shown) (disk_shows : IsImage old.disk old.disk.shown)
    (s : State) (is : IsStore store) (kept : Kept basis print store old s s) (none : store.pending ≡ []) where
  rows_are : kept.rows ≡ store.table
  rows_are = (nothing_pending basis print store old flash_shows disk_shows s s is kept none).0

  sure : Sure basis print store.journal old kept.rows s
  sure = sure_of basis print store old flash_shows disk_shows s s kept

  abbrev synced : World
  synced = on_device Disk make_stable old

  all_stable : (at n : ℕ) → IsStablePart synced.disk at n
  all_stable at n = λ bytes image. ap (λ (b : List ℕ). part b at n) (synced_is_stable old.disk bytes image)

  sure_synced : Sure basis print store.journal synced kept.rows s
  sure_synced = record {
    version = sure.version;
    sits = record { stable = sure.sits.stable; each = sure.sits.each };
    pace = sure.pace;
    fit = sure.fit;
    slots = sure.slots;
    blocks = λ address below clean. all_stable (address * store.journal.geo.block) store.journal.geo.block;
    means = sure.means;
    size = omega (arith, sure.size, disk_shows.same_length);
    flash_behind = sure.flash_behind;
    disk_behind = λ bytes image. ap (λ (b : List ℕ). drop (disk_need store.journal.geo) b) (synced_is_stable old.disk bytes image) ∙ sure.disk_behind old.disk.shown disk_shows;
  }

  -- behind a sync of the disk that succeeded
  pub kept_marked : Kept basis print (marked_store store) synced s s
  kept_marked =
      kept_of basis print (marked_store store) synced kept.rows s s sure_synced kept.up (pace_marked basis.room store is kept.pace)
      (holds_marked print store old s kept.holds)
      (subst (λ (t : Table). replay store.journal.geo.acap store.journal.geo.bcap (clean_records store.laid) t ≡ Some (record store.table { a = all_cleaned store.laid store.table.a })) (sym rows_are)
      (replay_cleans store.journal.geo.acap store.journal.geo.bcap store.laid store.table is.laid_once (laid_dirty store is)))
      kept.slots_kept
      (λ address below clean. all_stable (address * store.journal.geo.block) store.journal.geo.block)

-- a sync that failed changes nothing
pub on_err_stays : {T E : Type 0} (basis : Basis) (print : List ℕ → Fp) (result : Result T E) (store : StoreView) (old new : World) (c s : State) → OnErr result (new ≡ old) → OnErr result (Kept basis print store old c s → Kept basis print store new c s)
on_err_stays basis print (Ok done) store old new c s same = tt
on_err_stays basis print (Err e) store old new c s same = λ kept. subst (λ (w : World). Kept basis print store w c s) (sym same) kept

-- Behind a mark a store keeps what its type keeps.
none_raise : (ns : List ℕ) → count_by raises (clean_records ns) ≡ 0
none_raise [] = refl
none_raise (n ∷ ns) = omega (arith, none_raise ns)

pub dirty_below : (geo : Geometry) (version at : ℕ) (rows : List ARow) → AllByRecursion (IsA geo version) rows → is_dirty_at at rows ≡ true → at < geo.blocks
dirty_below geo version at [] h dirty = absurd (cc dirty)
dirty_below geo version at (row ∷ rows) h dirty = by_test (λ e. dirty_below geo version at rows h.1 e) (row.address == at) refl dirty
  where
    by_test : (is_dirty_at at rows ≡ true → at < geo.blocks) → (b : Bool) → (row.address == at) ≡ b → is_dirty (cond b (Some row) (a_row at rows)) ≡ true → at < geo.blocks
    by_test next true here e = subst (λ n. n < geo.blocks) (eqb-true row.address at here) h.0.address
    by_test next false other e = next e

records_keep : (geo : Geometry) (version : ℕ) (ns : List ℕ) → AllByRecursion (λ n. n < geo.blocks) ns → AllByRecursion (IsRec geo version) (clean_records ns)
records_keep geo version [] h = tt
records_keep geo version (n ∷ ns) h = (h.0, records_keep geo version ns h.1)

none_named : (store : StoreView) (ns : List ℕ) → AllByRecursion (NamesKept store.uses) (clean_records ns)
none_named store [] = tt
none_named store (n ∷ ns) = (tt, none_named store ns)

pub marked_is : (store : StoreView) → IsStore store → store.pending ≡ [] → IsStore (marked_store store)
unfolding IsDistinct
marked_is store is none =
    let geo = store.journal.geo in
    let records = records_keep geo store.journal.version store.laid (all_among (λ address. address < geo.blocks) store.laid (λ address laid. dirty_below geo store.journal.version address store.table.a is.rows.a_rows (is.laid address laid))) in
    let listed = replay_listed geo store.journal.version (clean_records store.laid) store.table (record store.table { a = all_cleaned store.laid store.table.a }) records
    (record { fit = is.fit; b_rows = is.rows.b_rows; a_rows = is.rows.a_rows; len_b = is.rows.len_b; len_a = is.rows.len_a })
    (replay_cleans geo.acap geo.bcap store.laid store.table is.laid_once (laid_dirty store is)) in
    record {
      journal_up = is.journal_up;
      version = is.version;
      rows = record { b_rows = listed.b_rows; a_rows = listed.a_rows; len_b = listed.len_b; len_a = listed.len_a };
      fit = listed.fit;
      few = omega (arith, length-map store.laid (λ (address : ℕ). Clean address), is.few_laid);
      records = records;
      counted = is.counted ∙ ap (λ (recs : List Rec). count_after store.journal.committed recs) none ∙ omega (arith, none_raise store.laid);
      sized = is.sized;
      used = is.used;
      named = none_named store store.laid;
      dirty = dirty_all store.laid store.table.a store.dirty is.dirty;
      laid = λ address never. absurd (cc never);
      laid_once = tt;
      few_laid = omega arith;
      laid_alone = inl refl;
    }
