-- The dirty addresses of each slot, as nodes show them.
use Rattle.std.proofs.Common.{◌≡◌, ℕ, ◌+◌, ◌<◌, ◌≤◌, [], length, map, refl, sym, ◌∙◌, ap, subst, arith}
use Rattle.std.specs.Prelude.{take}
use Rattle.std.proofs.lemmas.List.{get_or-take, length-take-le, length-map, ext_get_or}
use Rattle.dd_record.specs.declared.row.ARow.{ARow}
use Rattle.dd_lists.specs.Lists.{list_at}
use Rattle.dd_lists.specs.Nodes.{Nodes}
use Rattle.dd_lists.proofs.Members.{at_map, at_past}
use Rattle.dd_meta.specs.Entries.{owed_to}
use Rattle.dd_meta.specs.Matching.{address_of, shown}

module _ (acap slots : ℕ) (nodes : Nodes ARow) (two : length nodes.referrers ≡ slots + slots) where
  pub owed_low : (slot : ℕ) → slot < slots → owed_to slot (shown acap slots nodes) ≡ map (address_of nodes) (list_at slot nodes.referrers)
  owed_low slot low = at_map (map (address_of nodes)) refl slot (take slots nodes.referrers) ∙ ap (map (address_of nodes)) (get_or-take slots nodes.referrers slot [] low)

  pub owed_size : length (shown acap slots nodes).owed ≡ slots
  owed_size = length-map (take slots nodes.referrers) (map (address_of nodes)) ∙ length-take-le slots nodes.referrers (omega (arith, two))

  pub owed_past : (slot : ℕ) → slots ≤ slot → owed_to slot (shown acap slots nodes) ≡ []
  owed_past slot past = at_past slot (shown acap slots nodes).owed (omega (arith, owed_size))

-- each slot owed by the same addresses
pub owed_same : (acap slots : ℕ) (old new : Nodes ARow) → length old.referrers ≡ slots + slots → length new.referrers ≡ slots + slots
    → ((slot : ℕ) → slot < slots → map (address_of new) (list_at slot new.referrers) ≡ map (address_of old) (list_at slot old.referrers)) → (shown acap slots new).owed ≡ (shown acap slots old).owed
owed_same acap slots old new two two_new same =
    ext_get_or [] (shown acap slots new).owed (shown acap slots old).owed (owed_size acap slots new two_new ∙ sym (owed_size acap slots old two))
    (λ slot within.
    let low : slot < slots = subst (λ (n : ℕ). slot < n) (owed_size acap slots new two_new) within in
    owed_low acap slots new two_new slot low ∙ same slot low ∙ sym (owed_low acap slots old two slot low))
