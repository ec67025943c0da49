-- A reference answers what the definition says: its kind, and what fell off.
use Rattle.std.proofs.Common.{◌≡◌, ℕ, ◌<◌, ◌==◌, true, false, List, [], ◌∷◌, map, length, refl, sym, ◌∙◌, ap, arith, if◌then◌else◌}
use Rattle.std.specs.List.{AllByRecursion, IsDistinct}
use Rattle.dd_block.specs.declared.print.Fp.{Fp}
use Rattle.dd_rig.specs.World.{World}
use Rattle.dd_layout.specs.Layout.{slot_block}
use Rattle.dd_record.specs.declared.row.ARow.{ARow}
use Rattle.dd_record.specs.declared.row.Link.TheVariants as links
use Rattle.dd_record.specs.declared.rec.Rec.{Rec}
use Rattle.dd_record.specs.Table.{is_link, link_at}
use Rattle.dd_record.specs.Replay.{Touch}
use Rattle.dd_model.specs.declared.kind.Kind.TheVariants.{Hit, Join, Miss, Dup, New}
use Rattle.dd_model.specs.State.{Entry, State, content, is_at_hand, is_linked}
use Rattle.dd_model.specs.Reference.{Tells, dropped, read_kind, write_kind, read_answer, write_answer}
use Rattle.dd_model.specs.Rows.{entry_of}
use Rattle.dd_model.proofs.Confirmed.{cut_tells}
use Rattle.dd_model.proofs.Fitting.{linked-shown}
use Rattle.dd_model.proofs.RecordLaws.{links-fit}
use Rattle.dd_model.proofs.StateLaws.{one_address}
use Rattle.dd_store.specs.Meaning.{sizes_of}
use Rattle.dd_store.specs.Keeping.{StoreView, IsStore, Holds}
use Rattle.dd_store.specs.Referring.{Refers, kind_of, done_of}
use Rattle.dd_store.proofs.Referring.{may_move, has_block}

-- distinct addresses of rows are distinct entries
others : (row : ARow) (a : List ARow) → AllByRecursion (λ (other : ARow). (row.address == other.address) ≡ false) a → AllByRecursion (λ (entry : Entry). (row.address == entry.address) ≡ false) (map entry_of a)
others row [] h = tt
others row (other ∷ a) h = (h.0, others row a h.1)

entries_apart : (a : List ARow) → IsDistinct (λ x y. x.address == y.address) a → IsDistinct one_address (map entry_of a)
unfolding IsDistinct
entries_apart [] apart = tt
entries_apart (row ∷ a) apart = (others row a apart.0, entries_apart a apart.1)

module _ (print : List ℕ → Fp) (store : StoreView) (world : World) (s : State) (is : IsStore store) (holds : Holds print store world s) where
  -- an address is linked where its row is
  linked_is : (address : ℕ) → is_linked address s.addresses ≡ is_link (link_at address store.table.a)
  linked_is address = ap (is_linked address) holds.means.lists.addresses ∙ linked-shown address store.table.a (entries_apart store.table.a is.fit.addresses)

  module _ (address : ℕ) where
    pub kind_hit : is_link (link_at address store.table.a) ≡ true → read_kind s address ≡ Hit
    kind_hit linked = ap (λ b. if b then Hit else (if is_at_hand (content s.array address) s.blocks then Join else Miss)) (linked_is address ∙ linked)

    pub kind_join : link_at address store.table.a ≡ links.Lost → is_at_hand (content s.array address) s.blocks ≡ true → read_kind s address ≡ Join
    kind_join lost there =
        ap (λ b. if b then Hit else (if is_at_hand (content s.array address) s.blocks then Join else Miss)) (linked_is address ∙ ap is_link lost)
        ∙ ap (λ b. if b then Join else Miss) there

    pub kind_miss : link_at address store.table.a ≡ links.Lost → is_at_hand (content s.array address) s.blocks ≡ false → read_kind s address ≡ Miss
    kind_miss lost away =
        ap (λ b. if b then Hit else (if is_at_hand (content s.array address) s.blocks then Join else Miss)) (linked_is address ∙ ap is_link lost)
        ∙ ap (λ b. if b then Join else Miss) away

  pub kind_dup : (block : List ℕ) → is_at_hand block s.blocks ≡ true → write_kind s block ≡ Dup
  kind_dup block there = ap (λ b. if b then Dup else New) there

  pub kind_new : (block : List ℕ) → is_at_hand block s.blocks ≡ false → write_kind s block ≡ New
  kind_new block away = ap (λ b. if b then Dup else New) away

  module _ (its : Rec) (touch : Touch) (block : List ℕ) (refers : Refers print store world.flash.shown s its touch block) where
    inside : touch.address < length s.array
    inside = omega (arith, refers.below, holds.means.array_length)

    -- what a write answers
    pub tells_write : kind_of its ≡ write_kind s block → Tells print (done_of store its touch) (write_answer (sizes_of store.journal.geo) s touch.address block)
    tells_write kind = cut_tells print (slot_block store.journal.geo world.flash.shown) (sizes_of store.journal.geo) s store.table store.count touch.address touch.dirty holds.means.lists inside
        (links-fit store.table is.fit) is.rows.len_b touch.block block (done_of store its touch) (write_answer (sizes_of store.journal.geo) s touch.address block)
        (has_block print (slot_block store.journal.geo world.flash.shown) touch.block block refers.there)
        (may_move print (slot_block store.journal.geo world.flash.shown) s store.table holds.means.lists.blocks holds.means.lists.distinct touch.block block refers.there refers.placed)
        refl kind refl refl

    -- and what a read does
    pub tells_read : block ≡ content s.array touch.address → kind_of its ≡ read_kind s touch.address → Tells print (done_of store its touch) (read_answer (sizes_of store.journal.geo) s touch.address)
    tells_read its_content kind = cut_tells print (slot_block store.journal.geo world.flash.shown) (sizes_of store.journal.geo) s store.table store.count touch.address touch.dirty holds.means.lists inside
        (links-fit store.table is.fit) is.rows.len_b touch.block block (done_of store its touch) (read_answer (sizes_of store.journal.geo) s touch.address)
        (has_block print (slot_block store.journal.geo world.flash.shown) touch.block block refers.there)
        (may_move print (slot_block store.journal.geo world.flash.shown) s store.table holds.means.lists.blocks holds.means.lists.distinct touch.block block refers.there refers.placed)
        refl kind refl (ap (dropped (sizes_of store.journal.geo) s) (sym its_content))
