-- How entries are kept: nodes in three lanes, and an index of their addresses.
use Rattle.std.specs.Prelude.{◌≡◌, ℕ, ◌+◌, ◌<◌, ◌^◌, ◌==◌, ◌&&◌, Bool, true, false, List, map, reverse, take, length, Option, Some, None, unwrap_or, if◌then◌else◌, slice_set, ⊤}
use Rattle.std.specs.List.{IsDistinct}
use Rattle.dd_record.specs.declared.row.ARow.{ARow}
use Rattle.dd_record.specs.declared.row.Link.{Link}
use Rattle.dd_record.specs.declared.row.Link.TheVariants.{Lost, Slot, Zero}
use Rattle.dd_record.specs.Table.{is_slot, is_link}
use Rattle.dd_lists.specs.Lists.{is_in, is_listed, list_at, put_front, taken_out, behind}
use Rattle.dd_lists.specs.Nodes.{Nodes, value_at, is_live, node_count}
use Rattle.dd_index.specs.Index.{Index, nodes_of}
use Rattle.dd_meta.specs.Entries.{Meta, Entry, blank, unlinked}

-- the row of a node, and a blank one where there is none
abbrev pub row_at : Nodes ARow → ℕ → ARow
row_at nodes node = unwrap_or (value_at node nodes) blank

abbrev pub address_of : Nodes ARow → ℕ → ℕ
address_of nodes node = (row_at nodes node).address

abbrev pub entry_of : Nodes ARow → ℕ → Entry
entry_of nodes node = record { node = node; row = row_at nodes node }

-- the nodes of the listed addresses, and of the dirty ones, the newest first
abbrev pub listed : Nodes ARow → List ℕ
listed nodes = list_at 0 nodes.recency

abbrev pub waiting : Nodes ARow → List ℕ
waiting nodes = list_at 0 nodes.waiting

-- what they show
abbrev pub shown : (acap slots : ℕ) → Nodes ARow → Meta
shown acap slots nodes = record {
  acap = acap;
  slots = slots;
  entries = map (entry_of nodes) (listed nodes);
  dirty = map (address_of nodes) (reverse (waiting nodes));
  owed = map (map (address_of nodes)) (take slots nodes.referrers);
}

-- the slot of a link, where it has one, is a slot there is
abbrev pub IsBelow : ℕ → Link → Type 0
IsBelow slots Lost = ⊤
IsBelow slots (Slot slot) = slot < slots
IsBelow slots Zero = ⊤

-- the list of referrers for such a link: first those of the dirty ones of each slot, then those of the clean ones
abbrev pub home_by : ℕ → Bool → Link → Option ℕ
home_by slots dirty Lost = None
home_by slots dirty (Slot slot) = Some (if dirty then slot else slots + slot)
home_by slots dirty Zero = None

abbrev pub home_of : ℕ → ARow → Option ℕ
home_of slots row = home_by slots row.dirty row.link

-- whether that is this list
abbrev pub is_home : ℕ → Option ℕ → Bool
is_home list None = false
is_home list (Some home) = home == list

-- the lanes after a node is to stand in this list of referrers, and is to wait or not
abbrev pub referring_by : Option ℕ → ℕ → List (List ℕ) → List (List ℕ)
referring_by None node lists = taken_out node lists
referring_by (Some list) node lists = put_front list node (taken_out node lists)

abbrev pub waiting_by : Bool → ℕ → List (List ℕ) → List (List ℕ)
waiting_by false node lists = taken_out node lists
waiting_by true node lists = if is_listed node lists then lists else put_front 0 node lists

-- the nodes after one has another row
abbrev pub with_row : ℕ → ℕ → ARow → Nodes ARow → Nodes ARow
with_row slots node row nodes = record {
  values = slice_set nodes.values node (Some row);
  recency = nodes.recency;
  referrers = referring_by (home_of slots row) node nodes.referrers;
  waiting = waiting_by row.dirty node nodes.waiting;
}

-- the nodes after the link of one that doesn't wait was taken
abbrev pub with_lost : ℕ → Nodes ARow → Nodes ARow
with_lost node nodes = record {
  values = slice_set nodes.values node (Some (record (row_at nodes node) { link = Lost }));
  recency = nodes.recency;
  referrers = taken_out node nodes.referrers;
  waiting = nodes.waiting;
}

-- a node stands in this list of referrers, or in none
abbrev pub IsHome : Option ℕ → ℕ → List (List ℕ) → Type 0
IsHome home node lists = (list : ℕ) → is_in node (list_at list lists) ≡ is_home list home

-- a node stands where its row says, among the referrers and waiting
pub record IsPlaced (slots node : ℕ) (nodes : Nodes ARow) : Type 0 where
  pub below : IsBelow slots (row_at nodes node).link
  pub referring : IsHome (home_of slots (row_at nodes node)) node nodes.referrers
  pub waits : is_in node (waiting nodes) ≡ (row_at nodes node).dirty

-- live nodes are listed once, each in the referrers of its slot and, where it is dirty, waiting; and the
-- index has each under its address, which no other node has
pub record Matches (acap slots : ℕ) (nodes : Nodes ARow) (index : Index) : Type 0 where
  pub some : 0 < acap
  pub room : length nodes.values ≡ acap
  pub keys : length index.keys ≡ acap
  pub one : length nodes.recency ≡ 1
  pub one_waiting : length nodes.waiting ≡ 1
  pub two : length nodes.referrers ≡ slots + slots
  pub fits : slots + slots < 2 ^ 32
  pub live : (node : ℕ) → is_live node nodes ≡ is_in node (listed nodes)
  pub counted : node_count nodes ≡ length (listed nodes)
  pub distinct : IsDistinct (λ x y. x == y) (listed nodes)
  pub referring : (list node : ℕ) → is_in node (list_at list nodes.referrers) ≡ (is_in node (listed nodes) && is_home list (home_of slots (row_at nodes node)))
  pub waits : (node : ℕ) → is_in node (waiting nodes) ≡ (is_in node (listed nodes) && (row_at nodes node).dirty)
  pub once : IsDistinct (λ x y. x == y) (waiting nodes)
  pub each_once : (list : ℕ) → IsDistinct (λ x y. x == y) (list_at list nodes.referrers)
  pub linked : (node : ℕ) → is_in node (waiting nodes) ≡ true → is_link (row_at nodes node).link ≡ true
  pub below : (node : ℕ) → is_in node (listed nodes) ≡ true → IsBelow slots (row_at nodes node).link
  pub indexed : (node key : ℕ) → is_in node (nodes_of key index) ≡ (is_in node (listed nodes) && (address_of nodes node == key))
  pub single : (node other : ℕ) → is_in node (listed nodes) ≡ true → is_in other (listed nodes) ≡ true → address_of nodes node ≡ address_of nodes other → node ≡ other

-- no dirty node is linked to a slot
abbrev pub IsClean : ℕ → Nodes ARow → Type 0
IsClean slot nodes = (node : ℕ) → is_in node (listed nodes) ≡ true → is_slot slot (row_at nodes node).link ≡ true → (row_at nodes node).dirty ≡ false

-- the links to a slot are taken, where no dirty node has one
pub record Unlinks (slot slots : ℕ) (old new : Nodes ARow) : Type 0 where
  pub matches : (acap : ℕ) (index : Index) → Matches acap slots old index → IsClean slot old → Matches acap slots new index
  pub shows : (acap : ℕ) (index : Index) → Matches acap slots old index → IsClean slot old → shown acap slots new ≡ record (shown acap slots old) { entries = map (unlinked slot) (shown acap slots old).entries }

-- a node of a list, or the one behind it where its address is not to be told
abbrev pub passing : Nodes ARow → ℕ → Option ℕ → List ℕ → Option ℕ
passing nodes skip None xs = None
passing nodes skip (Some node) xs = if address_of nodes node == skip then behind node xs else Some node
