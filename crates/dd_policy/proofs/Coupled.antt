-- Both caches stay coupled.
use Rattle.std.proofs.Common.{◌≡◌, ℕ, ◌+◌, ◌≤◌, [], replicate, sym, ◌∙◌, ap, subst}
use Rattle.dd_record.specs.Replay.{cleaned}
use Rattle.dd_meta.specs.Entries.{Meta, rows_of}
use Rattle.dd_meta.specs.Keeping.{IsMeta}
use Rattle.dd_meta.specs.Walks.{but}
use Rattle.dd_data.specs.Blocks.{Data}
use Rattle.dd_model.specs.Listing.{IsListing, empty_listing, made_clean}
use Rattle.dd_model.proofs.Cleaned.{clean_kept}
use Rattle.dd_model.proofs.Restored.{empty_kept}
use Rattle.dd_policy.specs.Coupling.{listing_in, Couples}

pub coupled : (slots : ℕ) (meta : Meta) (blocks : Data) → IsMeta meta → IsListing (listing_in meta blocks) → meta.slots ≡ slots → blocks.slots ≡ slots → Couples slots meta blocks
coupled slots meta blocks m kept same also = record {
  kept = kept;
  meta_slots = same;
  data_slots = also;
  sized = m.sized ∙ same;
  walked = λ slot. record { each = λ n. m.owed slot n; once = m.owed_once slot };
}

pub new_coupled : (acap bcap slots : ℕ) (meta : Meta) (blocks : Data) → 1 ≤ acap → 1 ≤ bcap → bcap + 1 ≤ slots → IsMeta meta
    → meta ≡ record { acap = acap; slots = slots; entries = []; dirty = []; owed = replicate slots [] } → blocks ≡ record { bcap = bcap; slots = slots; rows = [] } → Couples slots meta blocks
new_coupled acap bcap slots meta blocks a b s m meta_is blocks_is =
    let same : listing_in meta blocks ≡ empty_listing acap bcap slots = λ i. listing_in (meta_is i) (blocks_is i) in
    coupled slots meta blocks m (subst IsListing (sym same) (empty_kept acap bcap slots a b s)) (ap (λ (x : Meta). x.slots) meta_is) (ap (λ (x : Data). x.slots) blocks_is)

pub clean_coupled : (address slots : ℕ) (meta new : Meta) (blocks : Data) → Couples slots meta blocks → rows_of new ≡ cleaned address (rows_of meta) → new.dirty ≡ but address meta.dirty → new.acap ≡ meta.acap → new.slots ≡ meta.slots → IsMeta new
    → Couples slots new blocks
clean_coupled address slots meta new blocks k rows dirty acap same m =
    let after : listing_in new blocks ≡ made_clean address (listing_in meta blocks) =
    λ i. record { acap = acap i; bcap = blocks.bcap; slots = blocks.slots; table = record { b = blocks.rows; a = rows i }; dirty = dirty i } in
    coupled slots new blocks m (subst IsListing (sym after) (clean_kept (listing_in meta blocks) address k.kept)) (same ∙ k.meta_slots) k.data_slots
