-- What marking a node dirty or clean makes of a metadata cache.
use Rattle.std.proofs.Common.{◌≡◌, ℕ, Bool, true, sym, ◌∙◌, ap, subst, refl, Some, is_some}
use Rattle.std.specs.Prelude.{unwrap_or}
use Rattle.dd_record.specs.declared.row.ARow.{ARow}
use Rattle.dd_record.specs.Table.{is_link}
use Rattle.dd_lists.specs.Nodes.{Nodes, value_at, is_live}
use Rattle.dd_index.specs.Index.{Index}
use Rattle.dd_meta.specs.Entries.{Meta, Writes, blank, row_of, row_named}
use Rattle.dd_meta.specs.Matching.{shown, IsBelow, with_row, Matches}
use Rattle.dd_meta.proofs.Rows.{row_live, row_got}
use Rattle.dd_meta.proofs.Writing.{written_matches, written_shown}

abbrev pub marked : Bool → ARow → ARow
marked b row = record { address = row.address; link = row.link; dirty = b; fp = row.fp }

module _ {acap slots : ℕ} {nodes : Nodes ARow} {index : Index} (k : Matches acap slots nodes index) (now : Meta) (is : shown acap slots nodes ≡ now) (node : ℕ) (has : is_some (row_of node now) ≡ true) where
  pub named_live : is_live node nodes ≡ true
  named_live = row_live k node (ap (λ m. is_some (row_of node m)) is ∙ has)

  module _ (old : ARow) (value : value_at node nodes ≡ Some old) where
    pub named_is : row_named node now ≡ old
    named_is = sym (ap (row_named node) is) ∙ ap (λ o. unwrap_or o blank) (row_got k node old named_live value)

    pub named_below : IsBelow slots old.link
    named_below = subst (λ (r : ARow). IsBelow slots r.link) (ap (λ o. unwrap_or o blank) value) (k.below node (sym (k.live node) ∙ named_live))

    module _ (b : Bool) (linked : b ≡ true → is_link (row_named node now).link ≡ true) (new : Nodes ARow) (after : new ≡ with_row slots node (marked b old) nodes) where
      link : b ≡ true → is_link old.link ≡ true
      link e = sym (ap (λ (r : ARow). is_link r.link) named_is) ∙ linked e

      pub mark_matches : Matches acap slots new index
      mark_matches = subst (λ (n : Nodes ARow). Matches acap slots n index) (sym after) (written_matches k node named_live old (marked b old) value refl link named_below)

      pub mark_shown : Writes now (shown acap slots new) node (marked b (row_named node now))
      mark_shown =
          subst (λ (r : ARow). Writes now (shown acap slots new) node (marked b r)) (sym named_is)
          (subst (λ (n : Nodes ARow). Writes now (shown acap slots n) node (marked b old)) (sym after)
          (subst (λ (m : Meta). Writes m (shown acap slots (with_row slots node (marked b old) nodes)) node (marked b old)) is
          (written_shown k node named_live old (marked b old) value refl link named_below)))
