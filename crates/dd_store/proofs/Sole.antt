-- Two devices stand for one state, in each version.
use Rattle.std.proofs.Common.{◌≡◌, ℕ, zero, suc, ◌<◌, ◌==◌, Bool, true, false, List, [], ◌∷◌, length, refl, sym, ◌∙◌, ap, subst, arith, Some, cond}
use Rattle.std.specs.List.{AllByRecursion}
use Rattle.std.proofs.lemmas.Bool.{eqb-true}
use Rattle.std.proofs.lemmas.List.{ext_get_or}
use Rattle.dd_block.specs.declared.print.Fp.{Fp}
use Rattle.dd_block.specs.declared.geometry.Geometry.{Geometry}
use Rattle.dd_layout.specs.Layout.{slot_block}
use Rattle.dd_record.specs.declared.row.ARow.{ARow}
use Rattle.dd_record.specs.declared.row.Link.{Link}
use Rattle.dd_record.specs.declared.row.Link.TheVariants.{Lost, Slot, Zero}
use Rattle.dd_record.specs.Spelling.{IsA}
use Rattle.dd_record.specs.Table.{Table, a_row, is_dirty, is_dirty_at, is_link, IsDirtyLinked}
use Rattle.dd_record.specs.Replay.{replay, count_after}
use Rattle.dd_record.proofs.Linked.{replay_linked}
use Rattle.dd_model.specs.State.{State, content}
use Rattle.dd_model.specs.Rows.{HoldsContent, LinkHolds, LinkTells, RowTells}
use Rattle.dd_model.proofs.Zeros.{zeros_same}
use Rattle.dd_journal.specs.Regions.{Reading, Says, records_of}
use Rattle.dd_journal.proofs.Sole.{spells_one}
use Rattle.dd_store.specs.Meaning.{Basis, HasClean, Means, MeansInVersion1, Stands, StandsInVersion1}

-- of a dirty row, what its link tells of two contents makes them one
linked_same : (print : List ℕ → Fp) (held : ℕ → List ℕ) (link : Link) (fp : Fp) (x y : List ℕ) → is_link link ≡ true → length x ≡ length y
    → LinkTells print held x link fp → LinkTells print held y link fp → x ≡ y
linked_same print held Lost fp x y linked long tells_x tells_y = absurd (cc linked)
linked_same print held (Slot slot) fp x y linked long tells_x tells_y = sym tells_x.0 ∙ tells_y.0
linked_same print held Zero fp x y linked long tells_x tells_y = zeros_same x y tells_x.0 tells_y.0 long

held_same : (held : ℕ → List ℕ) (link : Link) (x y : List ℕ) → is_link link ≡ true → LinkHolds held x link → LinkHolds held y link → x ≡ y
held_same held Lost x y linked holds_x holds_y = absurd (cc linked)
held_same held (Slot slot) x y linked holds_x holds_y = sym holds_x ∙ holds_y
held_same held Zero x y linked holds_x holds_y = absurd holds_x

-- two arrays of one length whose blocks have one length
pub length_at : (n : ℕ) (array : List (List ℕ)) (address : ℕ) → AllByRecursion (λ block. length block ≡ n) array → address < length array → length (content array address) ≡ n
length_at n [] address all below = absurd (omega (arith, below))
length_at n (block ∷ array) zero all below = all.0
length_at n (block ∷ array) (suc address) all below = length_at n array address all.1 (omega (arith, below))

-- where the rows tell of two arrays, and a linked row tells one content of its address
module _ (one another : List (List ℕ)) (blocks : ℕ) (P Q : ARow → Type 0)
    (same : (row : ARow) → row.address < blocks → is_link row.link ≡ true → P row → Q row → content one row.address ≡ content another row.address) where
  same_dirty : (address : ℕ) (rows : List ARow) → address < blocks → AllByRecursion IsDirtyLinked rows → AllByRecursion P rows → AllByRecursion Q rows
      → is_dirty_at address rows ≡ true → content one address ≡ content another address
  same_dirty address [] below linked x y dirty = absurd (cc dirty)
  same_dirty address (row ∷ rows) below linked x y dirty = by_test (row.address == address) refl dirty (same_dirty address rows below linked.1 x.1 y.1)
    where
      by_test : (b : Bool) → (row.address == address) ≡ b → is_dirty (cond b (Some row) (a_row address rows)) ≡ true → (is_dirty_at address rows ≡ true → content one address ≡ content another address) → content one address ≡ content another address
      by_test true here is rest =
          let at : row.address ≡ address = eqb-true row.address address here in
          subst (λ (a : ℕ). content one a ≡ content another a) at (same row (omega (arith, at, below)) (linked.0 is) x.0 y.0)
      by_test false here is rest = rest is

-- arrays are one where the dirty contents are, as the disk has the others
module _ (geo : Geometry) (disk : List ℕ) (table : Table) (s t : State) (s_long : length s.array ≡ geo.blocks) (t_long : length t.array ≡ geo.blocks) (s_clean : HasClean geo disk table s) (t_clean : HasClean geo disk table t)
    (dirty : (address : ℕ) → address < geo.blocks → is_dirty_at address table.a ≡ true → content s.array address ≡ content t.array address) where
  same_content : (address : ℕ) → address < geo.blocks → content s.array address ≡ content t.array address
  same_content address below = by_test (is_dirty_at address table.a) refl
    where
      by_test : (b : Bool) → is_dirty_at address table.a ≡ b → content s.array address ≡ content t.array address
      by_test true is = dirty address below is
      by_test false is = s_clean address below is ∙ sym (t_clean address below is)

  same_array : s.array ≡ t.array
  same_array = ext_get_or [] s.array t.array (s_long ∙ sym t_long) (λ address below. same_content address (omega (arith, s_long)))

state_same : (s t : State) → s.array ≡ t.array → s.addresses ≡ t.addresses → s.blocks ≡ t.blocks → s.count ≡ t.count → s ≡ t
state_same s t array addresses blocks count = λ i. record { array = array i; addresses = addresses i; blocks = blocks i; count = count i }

-- over some bytes rows and a count mean one state
module _ (print : List ℕ → Fp) (geo : Geometry) (flash disk : List ℕ) (table : Table) (count : ℕ) (s t : State) (linked : AllByRecursion IsDirtyLinked table.a) where
  pub means_one : Means print geo flash disk table count s → Means print geo flash disk table count t → s ≡ t
  means_one m n =
      let held = slot_block geo flash in
      let dirty : (address : ℕ) → address < geo.blocks → is_dirty_at address table.a ≡ true → content s.array address ≡ content t.array address =
      λ address below is. same_dirty s.array t.array geo.blocks (RowTells print held s.array) (RowTells print held t.array)
      (λ row lower link x y. linked_same print held row.link row.fp (content s.array row.address) (content t.array row.address) link
      (length_at geo.block s.array row.address m.array_blocks (omega (arith, m.array_length, lower))
      ∙ sym (length_at geo.block t.array row.address n.array_blocks (omega (arith, n.array_length, lower)))) x y)
      address table.a below linked m.lists.a_rows n.lists.a_rows is in
      state_same s t (same_array geo disk table s t m.array_length n.array_length m.clean n.clean dirty)
      (m.lists.addresses ∙ sym n.lists.addresses) (m.lists.blocks ∙ sym n.lists.blocks) (m.lists.counted ∙ sym n.lists.counted)

  means_one_in_version_1 : MeansInVersion1 print geo flash disk table count s → MeansInVersion1 print geo flash disk table count t → s ≡ t
  means_one_in_version_1 m n =
      let held = slot_block geo flash in
      let dirty : (address : ℕ) → address < geo.blocks → is_dirty_at address table.a ≡ true → content s.array address ≡ content t.array address =
      λ address below is. same_dirty s.array t.array geo.blocks (HoldsContent held s.array) (HoldsContent held t.array)
      (λ row lower link x y. held_same held row.link (content s.array row.address) (content t.array row.address) link x y)
      address table.a below linked m.lists.linked n.lists.linked is in
      state_same s t (same_array geo disk table s t m.array_length n.array_length m.clean n.clean dirty)
      (m.lists.addresses ∙ sym n.lists.addresses) (m.lists.blocks ∙ sym n.lists.blocks) (m.lists.counted ∙ sym n.lists.counted)

pub are_linked : (geo : Geometry) (version : ℕ) (rows : List ARow) → AllByRecursion (IsA geo version) rows → AllByRecursion IsDirtyLinked rows
are_linked geo version [] h = tt
are_linked geo version (row ∷ rows) h = (h.0.linked, are_linked geo version rows h.1)

-- the rows that a flash says, from its reading
says_linked : (flash : List ℕ) (geo : Geometry) (version : ℕ) (table : Table) (count : ℕ) → Says flash geo version table count → AllByRecursion IsDirtyLinked table.a
says_linked flash geo version table count says =
    replay_linked geo.acap geo.bcap geo.bcap_least (records_of says.reading) says.reading.table table says.replayed
    (are_linked says.reading.geo says.reading.version says.reading.table.a says.spells.reads.counts.rows.a_rows)

-- a flash says one geometry, one table and one count
pub record SaysOne (geo : Geometry) (table : Table) (count : ℕ) (other : Geometry) (rows : Table) (number : ℕ) : Type 0 where
  pub same_geo : geo ≡ other
  pub same_table : table ≡ rows
  pub same_count : count ≡ number

pub says_one : (flash : List ℕ) (version : ℕ) (geo : Geometry) (table : Table) (count : ℕ) (other : Geometry) (rows : Table) (number : ℕ)
    → Says flash geo version table count → Says flash other version rows number → SaysOne geo table count other rows number
says_one flash version geo table count other rows number m n =
    let same : m.reading ≡ n.reading = spells_one flash m.reading n.reading m.spells n.spells in
    let same_geo : geo ≡ other = sym m.geometry ∙ ap (λ (r : Reading). r.geo) same ∙ n.geometry in
    let both : Some table ≡ Some rows = sym m.replayed ∙ ap (λ (g : Geometry). replay g.acap g.bcap (records_of m.reading) m.reading.table) same_geo
    ∙ ap (λ (r : Reading). replay other.acap other.bcap (records_of r) r.table) same ∙ n.replayed in
    record {
      same_geo = same_geo;
      same_table = cc both;
      same_count = sym m.counted ∙ ap (λ (r : Reading). count_after r.count (records_of r)) same ∙ n.counted;
    }

-- by one snapshot
pub epoch_one : (flash : List ℕ) (version : ℕ) (geo : Geometry) (table : Table) (count : ℕ) (other : Geometry) (rows : Table) (number : ℕ)
    → (m : Says flash geo version table count) (n : Says flash other version rows number) → m.reading.epoch ≡ n.reading.epoch
epoch_one flash version geo table count other rows number m n = ap (λ (r : Reading). r.epoch) (spells_one flash m.reading n.reading m.spells n.spells)

-- two devices stand for at most one state
pub stands_one : (basis other : Basis) (print : List ℕ → Fp) (flash disk : List ℕ) (s t : State) → Stands basis print flash disk s → Stands other print flash disk t → s ≡ t
stands_one basis other print flash disk s t m n =
    let one = says_one flash 2 m.geo m.table m.count n.geo n.table n.count m.says n.says in
    means_one print n.geo flash disk n.table n.count s t (says_linked flash n.geo 2 n.table n.count n.says)
    (subst (λ (c : ℕ). Means print n.geo flash disk n.table c s) one.same_count
    (subst (λ (r : Table). Means print n.geo flash disk r m.count s) one.same_table
    (subst (λ (g : Geometry). Means print g flash disk m.table m.count s) one.same_geo m.means)))
    n.means

-- and in version 1 too
pub stands_one_in_version_1 : (print : List ℕ → Fp) (flash disk : List ℕ) (s t : State) → StandsInVersion1 print flash disk s → StandsInVersion1 print flash disk t → s ≡ t
stands_one_in_version_1 print flash disk s t m n =
    let one = says_one flash 1 m.geo m.table m.count n.geo n.table n.count m.says n.says in
    means_one_in_version_1 print n.geo flash disk n.table n.count s t (says_linked flash n.geo 1 n.table n.count n.says)
    (subst (λ (c : ℕ). MeansInVersion1 print n.geo flash disk n.table c s) one.same_count
    (subst (λ (r : Table). MeansInVersion1 print n.geo flash disk r m.count s) one.same_table
    (subst (λ (g : Geometry). MeansInVersion1 print g flash disk m.table m.count s) one.same_geo m.means)))
    n.means

-- a flash has one version, so devices that stand for a state stand for none by the other version
pub one_version : (basis : Basis) (print : List ℕ → Fp) (flash disk : List ℕ) (s t : State) → Stands basis print flash disk s → StandsInVersion1 print flash disk t → ⊥
one_version basis print flash disk s t m n =
    let same : m.says.reading ≡ n.says.reading = spells_one flash m.says.reading n.says.reading m.says.spells n.says.spells in
    let version : m.says.reading.version ≡ n.says.reading.version = ap (λ (r : Reading). r.version) same in
    omega (arith, version, m.says.versioned, n.says.versioned)
