-- What the line that answers each command costs.
use Rattle.std.proofs.Common.{◌≡◌, ◌≢◌, ℕ, ◌+◌, ◌*◌, ◌-◌, ◌≤◌, Bool, true, false, cond, List, [], ◌∷◌, length, refl, sym, ◌∙◌, ap, subst, arith, if◌then◌else◌, Some, None}
use Rattle.std.specs.Prelude.{Option, IfSome, ◌&&◌, option_map, slice_get}
use Rattle.dd_block.specs.declared.print.Fp.{Fp}
use Rattle.dd_rig.specs.declared.device.Dev.{Dev}
use Rattle.dd_rig.specs.declared.device.Dev.TheVariants as dev
use Rattle.dd_rig.specs.declared.tallies.Calls.{Calls}
use Rattle.dd_rig.specs.declared.tallies.Counts.{Counts}
use Rattle.dd_rig.specs.Counts.{CalledAtMost, NeverFalls, Rose, nothing, plus, up_to}
use Rattle.dd_record.specs.Table.{is_link, link_at}
use Rattle.dd_record.specs.declared.row.BRow.{BRow}
use Rattle.dd_model.specs.declared.done.Done.{Done}
use Rattle.dd_model.specs.declared.kind.Kind.{Kind}
use Rattle.dd_model.specs.declared.kind.Kind.TheVariants.{Hit, Join, Miss, Dup, New}
use Rattle.dd_model.specs.Listing.{next_of, dirtied}
use Rattle.dd_model.specs.State.{is_zero_block}
use Rattle.dd_script.specs.Answers.{faults_in}
use Rattle.dd_script.specs.Counting.{is_calm, dirty_behind}
use Rattle.dd_script.specs.Text.{read_text, write_text, flushed_text, cleaned_text, ticked_text, bye_text, stat_text, bad_text, fault_text}
use Rattle.dd_script.specs.declared.line.BadKind.{BadKind}
use Rattle.dd_script.proofs.Counting.{Counted, hit_of, load_of, update_of, read_counted, dup_counted, new_counted, flushed_counted, bye_counted, cleaned_counted, ticked_counted, stat_counted, bad_counted, fault_counted, read_dirty, dup_dirty, new_dirty, stat_dirty, bad_dirty, fault_dirty, read_calm, write_calm, cleaned_calm, ticked_calm}
use Rattle.dd_store.specs.declared.fault.StoreFault.{StoreFault}
use Rattle.dd_store.specs.declared.fault.StoreFault.TheVariants.{FlashRead, DiskRead, FlashWrite, DiskWrite}
use Rattle.dd_store.specs.Bringing.{IsCalm, IsReadFault, References, fetches}
use Rattle.dd_store.specs.Keeping.{StoreView}
use Rattle.dd_store.specs.Rounds.{Cleans, LoadsAtMost}
use Rattle.dd_store.proofs.Calm.{hit_linked}
use Rattle.dd_answers.specs.Costs.{calls_of, CostsLines}

and_one : (b : Bool) → (b && true) ≡ true → b ≡ true
and_one true e = refl
and_one false e = absurd (cc)

no_row : (o : Option BRow) → option_map (λ (row : BRow). row.fp) o ≡ None → o ≡ None
no_row None none = refl
no_row (Some row) none = absurd (cc none)

-- the kinds of a read, and those of a write
abbrev pub IsRead : Kind → Type 0
IsRead Hit = Unit {0}
IsRead Join = Unit {0}
IsRead Miss = Unit {0}
IsRead Dup = ⊥
IsRead New = ⊥

abbrev pub IsWrite : Kind → Type 0
IsWrite Hit = ⊥
IsWrite Join = ⊥
IsWrite Miss = ⊥
IsWrite Dup = Unit {0}
IsWrite New = Unit {0}

pub is_read : (linked at_hand : Bool) → IsRead (if linked then Hit else if at_hand then Join else Miss)
is_read true at_hand = tt
is_read false true = tt
is_read false false = tt

pub is_write : (at_hand : Bool) → IsWrite (if at_hand then Dup else New)
is_write true = tt
is_write false = tt

-- a call of the store, from one view to another
module _ (old new : StoreView) (before after : Counts) (falls : NeverFalls before after) (same : new.journal.geo ≡ old.journal.geo) where
  abbrev acap : ℕ
  acap = old.journal.geo.acap

  -- a line was begun
  pub begun_costs : CostsLines old new [] 1 before after
  begun_costs = record {
    acap = ap (λ geo. geo.acap) same;
    hits = omega (arith, falls.flash.reads);
    dirty = λ whole. absurd (cc whole);
    whole = λ whole. absurd (cc whole);
  }

  -- a line that counts so much
  line_costs : (line : List ℕ) (h j w : ℕ) → Counted line h j w → plus before.flash.reads h ≤ after.flash.reads
      → (length old.dirty ≤ acap → length new.dirty ≤ dirty_behind acap (length old.dirty) line) → LoadsAtMost (j + 2 * w) old new before.disk after.disk
      → (is_calm line ≡ true → calls_of after.disk ≤ calls_of before.disk + j) → CostsLines old new (line ∷ []) 0 before after
  line_costs line h j w counted hits dirty loads calm = record {
    acap = ap (λ geo. geo.acap) same;
    hits = subst (λ n. plus before.flash.reads n ≤ after.flash.reads) (sym counted.hits) hits;
    dirty = λ whole. dirty;
    whole = λ whole fine. record {
      loads = omega (arith, loads, counted.loads, counted.updates);
      calm = λ all. omega (arith, calm (and_one (is_calm line) all), counted.loads);
    };
  }

  none_hit : plus before.flash.reads 0 ≤ after.flash.reads
  none_hit = omega (arith, falls.flash.reads)

  -- a line that tells nothing of loads or updates, where the disk isn't called
  idle_costs : (line : List ℕ) → Counted line 0 0 0 → dirty_behind acap (length old.dirty) line ≡ length old.dirty → length new.dirty ≤ length old.dirty → CalledAtMost nothing before.disk after.disk
      → CostsLines old new (line ∷ []) 0 before after
  idle_costs line counted behind few idle =
      line_costs line 0 0 0 counted none_hit (λ most. omega (arith, behind, few)) (omega (arith, few, idle.0, idle.1)) (λ calm. omega (arith, idle.0, idle.1))

  pub flushed_costs : (count : ℕ) → length new.dirty ≤ length old.dirty → CalledAtMost nothing before.disk after.disk → CostsLines old new (flushed_text count ∷ []) 0 before after
  flushed_costs count few idle = idle_costs (flushed_text count) (flushed_counted count) refl few idle

  pub bye_costs : (count : ℕ) → length new.dirty ≤ length old.dirty → CalledAtMost nothing before.disk after.disk → CostsLines old new (bye_text count ∷ []) 0 before after
  bye_costs count few idle = idle_costs (bye_text count) (bye_counted count) refl few idle

  -- behind a fault no more are dirty, and nothing else is said
  pub fault_costs : (device : Dev) → length new.dirty ≤ length old.dirty → CostsLines old new (fault_text device ∷ []) 0 before after
  fault_costs device few = record {
    acap = ap (λ geo. geo.acap) same;
    hits = subst (λ n. plus before.flash.reads n ≤ after.flash.reads) (sym (fault_counted device).hits) none_hit;
    dirty = λ whole most. omega (arith, few, fault_dirty acap (length old.dirty) device);
    whole = λ whole fine. absurd (told device fine.0 fine.1);
  }
    where
      told : (device : Dev) → faults_in dev.Flash (fault_text device ∷ []) ≡ 0 → faults_in dev.Disk (fault_text device ∷ []) ≡ 0 → ⊥
      told dev.Flash flash disk = cc flash
      told dev.Disk flash disk = cc disk

  pub cleaned_costs : new.dirty ≡ [] → LoadsAtMost 0 old new before.disk after.disk → CostsLines old new (cleaned_text ∷ []) 0 before after
  cleaned_costs none loads = line_costs cleaned_text 0 0 0 cleaned_counted none_hit (λ most. omega (arith, ap length none)) (omega (arith, loads)) (λ calm. absurd (cc (cleaned_calm, calm)))

  ticked_fewer : (done : Option ℕ) → done ≡ next_of None old.dirty → IfSome done (λ address. old.dirty ≡ address ∷ new.dirty) → Cleans old new → length new.dirty ≤ length old.dirty - 1
  ticked_fewer (Some address) is ages cleans = omega (arith, ap length ages)
  ticked_fewer None is ages cleans = none_left old.dirty is (omega (arith, cleans.fewer))
    where
      none_left : (numbers : List ℕ) → None ≡ slice_get numbers 0 → length new.dirty ≤ length numbers → length new.dirty ≤ length numbers - 1
      none_left [] e h = omega (arith, h)
      none_left (number ∷ numbers) e h = absurd (cc e)

  pub ticked_costs : (done : Option ℕ) → done ≡ next_of None old.dirty → IfSome done (λ address. old.dirty ≡ address ∷ new.dirty) → Cleans old new → LoadsAtMost 0 old new before.disk after.disk → CostsLines old new (ticked_text ∷ []) 0 before after
  ticked_costs done is ages cleans loads =
      line_costs ticked_text 0 0 0 ticked_counted none_hit (λ most. ticked_fewer done is ages cleans) (omega (arith, loads)) (λ calm. absurd (cc (ticked_calm, calm)))

  -- a read
  hits_for : (kind : Kind) (block : List ℕ) → (kind ≡ Hit → is_zero_block block ≡ false → Rose before.flash.reads after.flash.reads) → plus before.flash.reads (hit_of kind block) ≤ after.flash.reads
  hits_for Hit block rose = by_zero (is_zero_block block) (rose refl)
    where
      by_zero : (zero : Bool) → (zero ≡ false → Rose before.flash.reads after.flash.reads) → plus before.flash.reads (cond zero 0 1) ≤ after.flash.reads
      by_zero true h = none_hit
      by_zero false h = h refl
  hits_for Join block rose = none_hit
  hits_for Miss block rose = none_hit
  hits_for Dup block rose = none_hit
  hits_for New block rose = none_hit

  loads_for : (kind : Kind) (linked : Bool) → IsRead kind → (kind ≡ Hit → linked ≡ true) → LoadsAtMost (if linked then 0 else 1) old new before.disk after.disk
      → LoadsAtMost (load_of kind + 2 * update_of kind) old new before.disk after.disk
  loads_for Hit true is hit h = omega (arith, h)
  loads_for Hit false is hit h = absurd (cc (hit refl))
  loads_for Join true is hit h = omega (arith, h)
  loads_for Join false is hit h = omega (arith, h)
  loads_for Miss true is hit h = omega (arith, h)
  loads_for Miss false is hit h = omega (arith, h)
  loads_for Dup linked is hit h = absurd is
  loads_for New linked is hit h = absurd is

  fetches_for : (kind : Kind) → IsRead kind → CalledAtMost (up_to (fetches kind) 0 0) before.disk after.disk → calls_of after.disk ≤ calls_of before.disk + load_of kind
  fetches_for Hit is h = omega (arith, h.0, h.1)
  fetches_for Join is h = omega (arith, h.0, h.1)
  fetches_for Miss is h = omega (arith, h.0, h.1)
  fetches_for Dup is h = absurd is
  fetches_for New is h = absurd is

  read_few : (address : ℕ) (done : Done) → References address false old new done → length new.dirty ≤ length old.dirty
  read_few address done made =
      let stays : new.dirty ≡ made.middle.dirty =
      ap (λ (v : StoreView). v.dirty) made.after ∙ ap (λ (d : Bool). dirtied made.touch.address d made.middle.dirty) made.becomes in
      omega (arith, ap length stays, made.cleans.fewer)

  pub read_costs : (address : ℕ) (block : List ℕ) (done : Done) → IsRead done.kind → References address false old new done
      → (done.kind ≡ Hit → is_zero_block block ≡ false → Rose before.flash.reads after.flash.reads)
      → LoadsAtMost (if is_link (link_at address old.table.a) then 0 else 1) old new before.disk after.disk
      → (IsCalm done.cut → CalledAtMost (up_to (fetches done.kind) 0 0) before.disk after.disk)
      → CostsLines old new (read_text done.kind block done.cut.out (option_map (λ (row : BRow). row.fp) done.cut.drop) ∷ []) 0 before after
  read_costs address block done is made rose loads calm =
      let fp : Option Fp = option_map (λ (row : BRow). row.fp) done.cut.drop in
      line_costs (read_text done.kind block done.cut.out fp) (hit_of done.kind block) (load_of done.kind) (update_of done.kind) (read_counted done.kind block done.cut.out fp)
      (hits_for done.kind block rose)
      (λ most. omega (arith, read_few address done made, read_dirty acap (length old.dirty) done.kind block done.cut.out fp most))
      (loads_for done.kind (is_link (link_at address old.table.a)) is (hit_linked address false old new done made) loads)
      (λ still. let none = read_calm done.kind block done.cut.out fp still in fetches_for done.kind is (calm (none.0, no_row done.cut.drop none.1)))

  -- a write
  pub write_costs : (done : Done) → IsWrite done.kind → length new.dirty ≤ new.journal.geo.acap → LoadsAtMost 2 old new before.disk after.disk → (IsCalm done.cut → CalledAtMost nothing before.disk after.disk)
      → CostsLines old new (write_text done.kind done.cut.out (option_map (λ (row : BRow). row.fp) done.cut.drop) ∷ []) 0 before after
  write_costs done is few loads calm =
      let fp : Option Fp = option_map (λ (row : BRow). row.fp) done.cut.drop in
      by_kind done.kind is fp (λ still. let none = write_calm done.kind done.cut.out fp still in calm (none.0, no_row done.cut.drop none.1))
    where
      by_kind : (kind : Kind) → IsWrite kind → (fp : Option Fp) → (is_calm (write_text kind done.cut.out fp) ≡ true → CalledAtMost nothing before.disk after.disk) → CostsLines old new (write_text kind done.cut.out fp ∷ []) 0 before after
      by_kind Hit is fp none = absurd is
      by_kind Join is fp none = absurd is
      by_kind Miss is fp none = absurd is
      by_kind Dup is fp none =
          line_costs (write_text Dup done.cut.out fp) 0 0 1 (dup_counted done.cut.out fp) none_hit (λ most. omega (arith, few, ap (λ geo. geo.acap) same, dup_dirty acap (length old.dirty) done.cut.out fp)) (omega (arith, loads))
          (λ still. let idle = none still in omega (arith, idle.0, idle.1))
      by_kind New is fp none =
          line_costs (write_text New done.cut.out fp) 0 0 1 (new_counted done.cut.out fp) none_hit (λ most. omega (arith, few, ap (λ geo. geo.acap) same, new_dirty acap (length old.dirty) done.cut.out fp)) (omega (arith, loads))
          (λ still. let idle = none still in omega (arith, idle.0, idle.1))

-- which faults a call may answer that says of failed reads of the flash alone what they leave
pub cleans_by : (P : Type 0) (fault : StoreFault) → fault ≢ DiskRead → (fault ≡ FlashRead → P) → IsReadFault fault → P
cleans_by P FlashRead never failed is = failed refl
cleans_by P DiskRead never failed is = absurd (never refl)
cleans_by P FlashWrite never failed is = absurd is
cleans_by P DiskWrite never failed is = absurd is

pub no_read : (fault : StoreFault) → fault ≡ FlashWrite → IsReadFault fault → ⊥
no_read FlashRead e is = cc e
no_read DiskRead e is = cc e
no_read FlashWrite e is = is
no_read DiskWrite e is = is

-- neither a commit nor a snapshot calls the disk
pub no_disk : (before after : Counts) → after.disk ≡ before.disk → CalledAtMost nothing before.disk after.disk
no_disk before after same = (
  omega (arith, ap (λ (calls : Calls). calls.reads) same),
  omega (arith, ap (λ (calls : Calls). calls.writes) same),
  omega (arith, ap (λ (calls : Calls). calls.written) same),
)

-- a line that tells nothing of loads, hits or updates, where nothing was called
told_costs : (store : StoreView) (counts : Counts) (line : List ℕ) → Counted line 0 0 0 → dirty_behind store.journal.geo.acap (length store.dirty) line ≡ length store.dirty → CostsLines store store (line ∷ []) 0 counts counts
told_costs store counts line told behind = record {
  acap = refl;
  hits = omega (arith, told.hits);
  dirty = λ whole most. omega (arith, behind);
  whole = λ whole fine. record { loads = omega arith; calm = λ all. omega arith };
}

pub stat_costs : (store : StoreView) (counts : Counts) (count addresses blocks : ℕ) → CostsLines store store (stat_text count addresses blocks ∷ []) 0 counts counts
stat_costs store counts count addresses blocks =
    told_costs store counts (stat_text count addresses blocks) (stat_counted count addresses blocks) (stat_dirty store.journal.geo.acap (length store.dirty) count addresses blocks)

-- a line that is no command
pub bad_costs : (store : StoreView) (counts : Counts) (kind : BadKind) → CostsLines store store (bad_text kind ∷ []) 0 counts counts
bad_costs store counts kind = told_costs store counts (bad_text kind) (bad_counted kind) (bad_dirty store.journal.geo.acap (length store.dirty) kind)
