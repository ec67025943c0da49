-- A state that two devices stand for keeps what holds of each state.
use Rattle.std.proofs.Common.{◌≡◌, ℕ, ◌+◌, ◌*◌, ◌<◌, ◌≤◌, ◌==◌, Bool, true, false, List, [], ◌∷◌, ◌++◌, ◌-◌, length, map, drop, refl, sym, ap, subst, arith, length-take, length-drop}
use Rattle.std.specs.Prelude.{◌&&◌, ◌||◌}
use Rattle.std.specs.Str.{bytes_eq}
use Rattle.std.specs.List.{AllByRecursion, IsDistinct, flat_map}
use Rattle.std.proofs.lemmas.Bool.{eqb-true}
use Rattle.std.proofs.lemmas.List.{length-map}
use Rattle.std.proofs.lemmas.Slice.Eq.{bytes_eq-Decides}
use Rattle.dd_block.specs.Geometry.{slot_count}
use Rattle.dd_block.specs.declared.geometry.Geometry.{Geometry}
use Rattle.dd_block.specs.declared.print.Fp.{Fp}
use Rattle.dd_layout.specs.Layout.{flash_need, slot_at, slot_block}
use Rattle.dd_record.specs.declared.row.ARow.{ARow}
use Rattle.dd_record.specs.declared.row.BRow.{BRow}
use Rattle.dd_record.specs.declared.row.Link.{Link}
use Rattle.dd_record.specs.declared.row.Link.TheVariants.{Lost, Slot, Zero}
use Rattle.dd_record.specs.declared.rec.Rec.{Rec}
use Rattle.dd_record.specs.Spelling.{IsA, IsB, IsRec}
use Rattle.dd_record.specs.Table.{Table, is_link, link_fits, slot_fits}
use Rattle.dd_record.proofs.Replayed.{AreListed, replay_listed}
use Rattle.dd_model.specs.State.{Entry, State, IsLinkedRightly, IsState, content, is_at_hand, is_known, is_zero_block}
use Rattle.dd_model.specs.Rows.{LinkTells, RowTells, entry_of, held_block}
use Rattle.dd_journal.specs.Regions.{AreGroups, Reading, Says, records_of}
use Rattle.dd_store.specs.Meaning.{Basis, Stands, sizes_of}

-- the records of right groups keep their rules
all_append : (P : Rec → Type 0) (xs ys : List Rec) → AllByRecursion P xs → AllByRecursion P ys → AllByRecursion P (xs ++ ys)
all_append P [] ys here rest = rest
all_append P (x ∷ xs) ys here rest = (here.0, all_append P xs ys here.1 rest)

are_recs : (geo : Geometry) (version room : ℕ) (groups : List (List Rec)) → AreGroups geo version room groups → AllByRecursion (IsRec geo version) (flat_map (λ recs. recs) groups)
are_recs geo version room [] are = tt
are_recs geo version room (recs ∷ groups) are =
    all_append (IsRec geo version) recs (flat_map (λ recs. recs) groups) are.1 (are_recs geo version (room - (5 + 48 * length recs)) groups are.2)

-- the rows that a flash says are listed
says_listed : (flash : List ℕ) (geo : Geometry) (version : ℕ) (table : Table) (count : ℕ) → Says flash geo version table count → AreListed geo version table
says_listed flash geo version table count says =
    let r : Reading = says.reading in
    let rows = says.spells.reads.counts.rows in
    let before : AreListed r.geo r.version r.table = record { fit = says.fit; b_rows = rows.b_rows; a_rows = rows.a_rows; len_b = rows.len_b; len_a = rows.len_a } in
    let recs : AllByRecursion (IsRec r.geo r.version) (records_of r) = are_recs r.geo r.version r.geo.log r.groups says.spells.reads.counts.groups in
    replay_listed geo version (records_of r) r.table table
    (subst (λ (v : ℕ). AllByRecursion (IsRec geo v) (records_of r)) says.versioned (subst (λ (g : Geometry). AllByRecursion (IsRec g r.version) (records_of r)) says.geometry recs))
    (subst (λ (v : ℕ). AreListed geo v r.table) says.versioned (subst (λ (g : Geometry). AreListed g r.version r.table) says.geometry before))
    says.replayed

says_size : (flash : List ℕ) (geo : Geometry) (version : ℕ) (table : Table) (count : ℕ) → Says flash geo version table count → flash_need geo ≤ length flash
says_size flash geo version table count says = subst (λ (g : Geometry). flash_need g ≤ length flash) says.geometry says.spells.reads.size

-- a slot of the flash holds a block
slot_below : (a b n : ℕ) → a < b → a * n + n ≤ b * n
slot_below a b n h = grind arith

slot_long : (geo : Geometry) (flash : List ℕ) (slot : ℕ) → flash_need geo ≤ length flash → slot < slot_count geo → length (slot_block geo flash slot) ≡ geo.block
slot_long geo flash slot room below =
    let place = slot_below slot (slot_count geo) geo.block below in
    omega (arith, length-take geo.block (drop (slot_at geo slot) flash), length-drop (slot_at geo slot) flash, room, place)

-- entries of rows
in_array : (geo : Geometry) (rows : List ARow) → AllByRecursion (IsA geo 2) rows → AllByRecursion (λ (entry : Entry). entry.address < geo.blocks) (map entry_of rows)
in_array geo [] all = tt
in_array geo (row ∷ rows) all = (all.0.address, in_array geo rows all.1)

apart_from : (row : ARow) (rows : List ARow) → AllByRecursion (λ (other : ARow). (row.address == other.address) ≡ false) rows → AllByRecursion (λ (other : Entry). (row.address == other.address) ≡ false) (map entry_of rows)
apart_from row [] apart = tt
apart_from row (other ∷ rows) apart = (apart.0, apart_from row rows apart.1)

entries_apart : (rows : List ARow) → IsDistinct (λ (x y : ARow). x.address == y.address) rows → IsDistinct (λ (x y : Entry). x.address == y.address) (map entry_of rows)
unfolding IsDistinct
entries_apart [] apart = tt
entries_apart (row ∷ rows) apart = (apart_from row rows apart.0, entries_apart rows apart.1)

block_lengths : (geo : Geometry) (flash : List ℕ) (rows : List BRow) → flash_need geo ≤ length flash → AllByRecursion (IsB geo) rows → AllByRecursion (λ block. length block ≡ geo.block) (map (held_block (slot_block geo flash)) rows)
block_lengths geo flash [] room all = tt
block_lengths geo flash (row ∷ rows) room all = (slot_long geo flash row.slot room all.0.slot, block_lengths geo flash rows room all.1)

-- the block of a listed slot is known
known_slot : (held : ℕ → List ℕ) (slot : ℕ) (fp : List ℕ) (rows : List BRow) → slot_fits rows (Slot slot) fp ≡ true → is_known (held slot) (map (held_block held) rows) ≡ true
known_slot held slot fp [] fits = absurd (cc fits)
known_slot held slot fp (row ∷ rows) fits = by_test (row.slot == slot) refl fits (known_slot held slot fp rows)
  where
    here : (b : Bool) → b ≡ true → (b || is_known (held slot) (map (held_block held) rows)) ≡ true
    here true is = refl
    here false is = absurd (cc is)

    behind : (b : Bool) → is_known (held slot) (map (held_block held) rows) ≡ true → (b || is_known (held slot) (map (held_block held) rows)) ≡ true
    behind true is = refl
    behind false is = is

    by_test : (b : Bool) → (row.slot == slot) ≡ b → (b && bytes_eq row.fp.0 fp || slot_fits rows (Slot slot) fp) ≡ true
        → (slot_fits rows (Slot slot) fp ≡ true → is_known (held slot) (map (held_block held) rows) ≡ true) → (bytes_eq (held row.slot) (held slot) || is_known (held slot) (map (held_block held) rows)) ≡ true
    by_test true is fit rest = here (bytes_eq (held row.slot) (held slot)) ((bytes_eq-Decides (held row.slot) (held slot)).1 (ap held (eqb-true row.slot slot is)))
    by_test false is fit rest = behind (bytes_eq (held row.slot) (held slot)) (rest fit)

or_first : (a b : Bool) → a ≡ true → (a || b) ≡ true
or_first true b h = refl
or_first false b h = absurd (cc h)

or_second : (a b : Bool) → b ≡ true → (a || b) ≡ true
or_second true b h = refl
or_second false b h = h

linked_rightly : (print : List ℕ → Fp) (held : ℕ → List ℕ) (rows : List BRow) (block : List ℕ) (link : Link) (fp : Fp) → LinkTells print held block link fp → slot_fits rows link fp.0 ≡ true
    → (is_link link ≡ true → is_at_hand block (map (held_block held) rows) ≡ true) × (is_zero_block block ≡ true → is_link link ≡ true)
linked_rightly print held rows block Lost fp tells fits = (λ linked. absurd (cc linked), λ zeros. absurd (cc (zeros, tells.0)))
linked_rightly print held rows block (Slot slot) fp tells fits = (
  λ linked. or_second (is_zero_block block) (is_known block (map (held_block held) rows)) (subst (λ (b : List ℕ). is_known b (map (held_block held) rows) ≡ true) tells.0 (known_slot held slot fp.0 rows fits)),
  λ zeros. refl,
)
linked_rightly print held rows block Zero fp tells fits = (λ linked. or_first (is_zero_block block) (is_known block (map (held_block held) rows)) tells.0, λ zeros. refl)

all_linked : (print : List ℕ → Fp) (held : ℕ → List ℕ) (array : List (List ℕ)) (b : List BRow) (rows : List ARow) → AllByRecursion (RowTells print held array) rows → AllByRecursion (λ row. link_fits b row ≡ true) rows
    → AllByRecursion (IsLinkedRightly array (map (held_block held) b)) (map entry_of rows)
all_linked print held array b [] tells fits = tt
all_linked print held array b (row ∷ rows) tells fits = (linked_rightly print held b (content array row.address) row.link row.fp tells.0 fits.0, all_linked print held array b rows tells.1 fits.1)

-- two devices stand for a state that keeps what holds of each state of their geometry
pub stands_state : (basis : Basis) (print : List ℕ → Fp) (flash disk : List ℕ) (s : State) (m : Stands basis print flash disk s) → IsState (sizes_of m.geo) s
stands_state basis print flash disk s m =
    let listed = says_listed flash m.geo 2 m.table m.count m.says in
    let room = says_size flash m.geo 2 m.table m.count m.says in
    let held = slot_block m.geo flash in
    let lists = m.means.lists in
    record {
      array_length = m.means.array_length;
      array_blocks = m.means.array_blocks;
      few_addresses = omega (arith, ap length lists.addresses, length-map m.table.a entry_of, listed.len_a);
      in_array = subst (λ (entries : List Entry). AllByRecursion (λ (entry : Entry). entry.address < m.geo.blocks) entries) (sym lists.addresses) (in_array m.geo m.table.a listed.a_rows);
      apart = subst (λ (entries : List Entry). IsDistinct (λ (x y : Entry). x.address == y.address) entries) (sym lists.addresses) (entries_apart m.table.a listed.fit.addresses);
      few_blocks = omega (arith, ap length lists.blocks, length-map m.table.b (held_block held), listed.len_b);
      block_lengths = subst (λ (blocks : List (List ℕ)). AllByRecursion (λ block. length block ≡ m.geo.block) blocks) (sym lists.blocks) (block_lengths m.geo flash m.table.b room listed.b_rows);
      nonzero = lists.nonzero;
      distinct = lists.distinct;
      linked =
          subst (λ (blocks : List (List ℕ)). AllByRecursion (IsLinkedRightly s.array blocks) s.addresses) (sym lists.blocks)
          (subst (λ (entries : List Entry). AllByRecursion (IsLinkedRightly s.array (map (held_block held) m.table.b)) entries) (sym lists.addresses)
          (all_linked print held s.array m.table.b m.table.a lists.a_rows listed.fit.links));
    }
