use Rattle.dd_rig.specs.declared.tallies.Calls.{Calls}
-- What it costs to bring a content, by the kind of the reference.
use Rattle.std.proofs.Common.{◌≡◌, ℕ, ◌*◌, ◌<◌, ◌==◌, Bool, true, false, cond, List, [], ◌∷◌, refl, sym, ◌∙◌, ap, subst, arith, Some}
use Rattle.std.proofs.lemmas.Bool.{eqb-true}
use Rattle.std.specs.Prelude.{Result, Ok, Err, IfOk, is_some, if◌then◌else◌}
use Rattle.std.specs.List.{AllByRecursion}
use Rattle.dd_block.specs.declared.geometry.Geometry.{Geometry}
use Rattle.dd_block.specs.Geometry.{slot_count}
use Rattle.dd_rig.specs.declared.tallies.Counts.{Counts}
use Rattle.dd_rig.specs.Counts.{Makes, CalledAtMost, up_to, nothing, count_read}
use Rattle.dd_rig.specs.declared.device.Dev.TheVariants.{Disk}
use Rattle.dd_record.specs.declared.row.BRow.{BRow}
use Rattle.dd_record.specs.Spelling.{IsB}
use Rattle.dd_record.specs.declared.row.ARow.{ARow}
use Rattle.dd_record.specs.declared.row.Link.TheVariants as links
use Rattle.dd_record.specs.Table.{a_row, b_row, is_link, link_of, link_at, is_dirty, is_dirty_at, IsDirtyLinked}
use Rattle.dd_model.specs.declared.done.Done.{Done}
use Rattle.dd_model.specs.declared.given.Want.{Want}
use Rattle.dd_model.specs.declared.given.Want.TheVariants as wants
use Rattle.dd_model.specs.declared.kind.Kind.{Kind}
use Rattle.dd_model.specs.declared.kind.Kind.TheVariants as kind
use Rattle.dd_store.specs.declared.fault.StoreFault.{StoreFault}
use Rattle.dd_store.specs.Bringing.{IsPrepared, References, want_for, saves}
use Rattle.dd_store.specs.Keeping.{StoreView}
use Rattle.dd_store.specs.Rounds.{Cleans, HasRoom}
use Rattle.dd_store.specs.Serving.{unlaid}

-- what was made clean since nothing is laid was made clean
pub cleans_unlaid : (old now : StoreView) → Cleans (unlaid old) now → Cleans old now
cleans_unlaid old now cleans = record { done = cleans.done; rows = cleans.rows; ages = cleans.ages; fewer = cleans.fewer; count = cleans.count; geometry = cleans.geometry }

references_unlaid : (address : ℕ) (dirty : Bool) (old now : StoreView) (done : Done) → References address dirty (unlaid old) now done → References address dirty old now done
references_unlaid address dirty old now done was = record {
  middle = was.middle;
  cleans = cleans_unlaid old was.middle was.cleans;
  own = was.own;
  its = was.its;
  touch = was.touch;
  fits = was.fits;
  at = was.at;
  becomes = was.becomes;
  after = was.after;
  tells = was.tells;
}

-- the same behind a read
pub references_behind : (address : ℕ) (dirty : Bool) (old middle now : StoreView) → middle ≡ unlaid old → (result : Result Done StoreFault) → IfOk result (References address dirty middle now) → IfOk result (References address dirty old now)
references_behind address dirty old middle now is (Ok done) was = references_unlaid address dirty old now done (subst (λ (v : StoreView). References address dirty v now done) is was)
references_behind address dirty old middle now is (Err fault) was = tt

pub room_known : (old : StoreView) (address slot : ℕ) → HasRoom address wants.Zero old → HasRoom address (wants.Slot slot) (unlaid old)
room_known old address slot room = record { out = room.out; drop = room.drop }

pub room_fresh : (old : StoreView) (address : ℕ) → HasRoom address wants.Fresh old → HasRoom address wants.Fresh (unlaid old)
room_fresh old address room = record { out = room.out; drop = room.drop }

prepared_known : (old : StoreView) (address slot : ℕ) → IsPrepared address wants.Zero old → IsPrepared address (wants.Slot slot) (unlaid old)
prepared_known old address slot prepared = record { room = room_known old address slot prepared.room; free = prepared.free; slot = λ never. absurd (cc never) }

prepared_fresh : (old : StoreView) (address : ℕ) → IsPrepared address wants.Fresh old → IsPrepared address wants.Fresh (unlaid old)
prepared_fresh old address prepared = record { room = room_fresh old address prepared.room; free = prepared.free; slot = prepared.slot }

fresh_kind : (dirty : Bool) (k : Kind) → k ≡ (if dirty then kind.New else kind.Miss) → (want_for k ≡ wants.Fresh) × (saves k ≡ 1)
fresh_kind true k is = (ap want_for is, ap saves is)
fresh_kind false k is = (ap want_for is, ap saves is)

known_kind : (dirty : Bool) (k : Kind) → k ≡ (if dirty then kind.Dup else kind.Join) → (want_for k ≡ wants.Zero) × (saves k ≡ 0)
known_kind true k is = (ap want_for is, ap saves is)
known_kind false k is = (ap want_for is, ap saves is)

module _ (address n : ℕ) (dirty : Bool) (old middle : StoreView) (is : middle ≡ unlaid old) (a b c : Counts) (reads : Makes (up_to n 0 0) nothing a b) where
  -- with a block that isn't listed
  pub little_fresh : (result : Result Done StoreFault) → IfOk result (λ done. done.kind ≡ (if dirty then kind.New else kind.Miss))
      → (IsPrepared address wants.Fresh middle → Makes (up_to 0 1 middle.journal.geo.block) nothing b c)
      → IfOk result (λ done. IsPrepared address (want_for done.kind) old → Makes (up_to n (saves done.kind) (saves done.kind * old.journal.geo.block)) nothing a c)
  little_fresh (Err fault) told step = tt
  little_fresh (Ok done) told step = λ prepared.
      let its = fresh_kind dirty done.kind told in
      let now : IsPrepared address wants.Fresh middle = subst (λ (v : StoreView). IsPrepared address wants.Fresh v) (sym is) (prepared_fresh old address (subst (λ (w : Want). IsPrepared address w old) its.0 prepared)) in
      let h = step now in
      let same : middle.journal.geo.block ≡ old.journal.geo.block = ap (λ (v : StoreView). v.journal.geo.block) is in
      subst (λ k. Makes (up_to n k (k * old.journal.geo.block)) nothing a c) (sym its.1) (
        (omega (arith, reads.0.0, h.0.0), omega (arith, reads.0.1, h.0.1), omega (arith, reads.0.2, h.0.2, same)),
        (omega (arith, reads.1.0, h.1.0), omega (arith, reads.1.1, h.1.1), omega (arith, reads.1.2, h.1.2)),
      )

  -- with a listed one
  pub little_known : (slot : ℕ) (same_counts : IsPrepared address (wants.Slot slot) middle → c ≡ b) → (result : Result Done StoreFault) → IfOk result (λ done. done.kind ≡ (if dirty then kind.Dup else kind.Join))
      → IfOk result (λ done. IsPrepared address (want_for done.kind) old → Makes (up_to n (saves done.kind) (saves done.kind * old.journal.geo.block)) nothing a c)
  little_known slot same_counts (Err fault) told = tt
  little_known slot same_counts (Ok done) told = λ prepared.
      let its = known_kind dirty done.kind told in
      let now : IsPrepared address (wants.Slot slot) middle = subst (λ (v : StoreView). IsPrepared address (wants.Slot slot) v) (sym is) (prepared_known old address slot (subst (λ (w : Want). IsPrepared address w old) its.0 prepared)) in
      let all : Makes (up_to n 0 0) nothing a c = subst (λ (d : Counts). Makes (up_to n 0 0) nothing a d) (sym (same_counts now)) reads in
      subst (λ k. Makes (up_to n k (k * old.journal.geo.block)) nothing a c) (sym its.1) ((all.0.0, all.0.1, omega (arith, all.0.2)), all.1)

  pub disk_fresh : (result : Result Done StoreFault) → IfOk result (λ done. done.kind ≡ (if dirty then kind.New else kind.Miss)) → (HasRoom address wants.Fresh middle → CalledAtMost nothing b.disk c.disk)
      → IfOk result (λ done. HasRoom address (want_for done.kind) old → CalledAtMost nothing a.disk c.disk)
  disk_fresh (Err fault) told step = tt
  disk_fresh (Ok done) told step = λ room.
      let its = fresh_kind dirty done.kind told in
      let h = step (subst (λ (v : StoreView). HasRoom address wants.Fresh v) (sym is) (room_fresh old address (subst (λ (w : Want). HasRoom address w old) its.0 room))) in
      (omega (arith, reads.1.0, h.0), omega (arith, reads.1.1, h.1), omega (arith, reads.1.2, h.2))

-- the slot of a listed block is within the flash
pub given_below : (geo : Geometry) (slot : ℕ) (b : List BRow) → AllByRecursion (IsB geo) b → is_some (b_row slot b) ≡ true → slot < slot_count geo
given_below geo slot [] all h = absurd (cc h)
given_below geo slot (row ∷ b) all h = by_test (row.slot == slot) refl h (λ e. given_below geo slot b all.1 e)
  where
    by_test : (t : Bool) → (row.slot == slot) ≡ t → is_some (cond t (Some row) (b_row slot b)) ≡ true → (is_some (b_row slot b) ≡ true → slot < slot_count geo) → slot < slot_count geo
    by_test true same e rest = omega (arith, eqb-true row.slot slot same, all.0.slot)
    by_test false other e rest = rest e

-- the same within other bounds
pub listed_below : (n slot : ℕ) (b : List BRow) → AllByRecursion (λ row. row.slot < n) b → is_some (b_row slot b) ≡ true → slot < n
listed_below n slot [] all h = absurd (cc h)
listed_below n slot (row ∷ b) all h = by_test (row.slot == slot) refl h (λ e. listed_below n slot b all.1 e)
  where
    by_test : (t : Bool) → (row.slot == slot) ≡ t → is_some (cond t (Some row) (b_row slot b)) ≡ true → (is_some (b_row slot b) ≡ true → slot < n) → slot < n
    by_test true same e rest = omega (arith, eqb-true row.slot slot same, all.0)
    by_test false other e rest = rest e

-- an address that isn't linked isn't dirty
pub lost_clean : (address : ℕ) (a : List ARow) → AllByRecursion IsDirtyLinked a → link_at address a ≡ links.Lost → is_dirty_at address a ≡ false
lost_clean address [] all is = refl
lost_clean address (row ∷ a) all is = by_test (row.address == address) is (λ e. lost_clean address a all.1 e)
  where
    by_dirty : (d : Bool) → row.dirty ≡ d → row.link ≡ links.Lost → d ≡ false
    by_dirty true e lost = absurd (cc (sym (ap is_link lost) ∙ all.0 e))
    by_dirty false e lost = refl

    by_test : (t : Bool) → link_of (cond t (Some row) (a_row address a)) ≡ links.Lost → (link_at address a ≡ links.Lost → is_dirty_at address a ≡ false) → is_dirty (cond t (Some row) (a_row address a)) ≡ false
    by_test true e rest = by_dirty row.dirty refl e
    by_test false e rest = rest e

prepared_unlaid : (old : StoreView) (address : ℕ) (want : Want) → IsPrepared address want old → IsPrepared address want (unlaid old)
prepared_unlaid old address want prepared = record { room = record { out = prepared.room.out; drop = prepared.room.drop }; free = prepared.free; slot = prepared.slot }

-- behind a read of the disk
pub little_read : {T E : Type 0} (address n m : ℕ) (old middle : StoreView) → middle ≡ unlaid old → n ≡ m → (a b c : Counts) (read : Result T E) → b ≡ count_read Disk read a → (linked : Bool) → (result : Result Done StoreFault)
    → IfOk result (λ done. IsPrepared address (want_for done.kind) middle → Makes (up_to n (saves done.kind) (saves done.kind * middle.journal.geo.block)) nothing b c)
    → IfOk result (λ done. IsPrepared address (want_for done.kind) old → linked ≡ false → Makes (up_to m (saves done.kind) (saves done.kind * old.journal.geo.block)) (up_to 1 0 0) a c)
little_read address n m old middle is same a b c read counted linked (Err fault) step = tt
little_read address n m old middle is same a b c read counted linked (Ok done) step = λ prepared anew.
    let now : IsPrepared address (want_for done.kind) middle = subst (λ (v : StoreView). IsPrepared address (want_for done.kind) v) (sym is) (prepared_unlaid old address (want_for done.kind) prepared) in
    let h = subst (λ (v : StoreView). Makes (up_to n (saves done.kind) (saves done.kind * v.journal.geo.block)) nothing b c) is (step now) in
    let k = subst (λ (d : Counts). Makes (up_to n (saves done.kind) (saves done.kind * old.journal.geo.block)) nothing d c) counted h in (
      (omega (arith, k.0.0, same), omega (arith, k.0.1), omega (arith, k.0.2)),
      (omega (arith, k.1.0), omega (arith, k.1.1), omega (arith, k.1.2)),
    )

-- an answer with what holds whatever it is
pub also : (A : Type 0) (P : Done → Type 0) (result : Result Done StoreFault) → A → IfOk result P → IfOk result (λ done. A × P done)
also A P (Ok done) here told = (here, told)
also A P (Err fault) here told = tt

-- no call, and then none
pub none_then : (before middle after : Calls) → CalledAtMost nothing before middle → CalledAtMost nothing middle after → CalledAtMost nothing before after
none_then before middle after first next = (omega (arith, first.0, next.0), omega (arith, first.1, next.1), omega (arith, first.2, next.2))
