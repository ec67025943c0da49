use Rattle.std.proofs.Common.{◌≡◌, ℕ, List, map, sym, ◌∙◌, subst, codes, length, get_or, []}
use Rattle.std.proofs.lemmas.List.{length-map}
use Rattle.std.proofs.lemmas.Slice.Eq.{bytes_eq-Decides}
use Rattle.std.specs.Prelude.{Option, MatchOption}
use Rattle.std.specs.String.{string_bytes}
use Rattle.dd_block.specs.declared.geometry.Geometry.{Geometry}
use Rattle.dd_serve.specs.Words.{AsksFormat}
use Rattle.dd_serve.proofs.Numbers.{AreSpelled, geometry_read}
use Rattle.dd_serve.proofs.words.read_geometry.Goals as goal

pub returns : goal.returns
returns c =
    let words : List (List ℕ) = map string_bytes c.args.words.now in
    let eight : length words ≡ 8 = length-map c.args.words.now string_bytes ∙ c.if-words-ne8.false in
    let name : get_or words 0 [] ≡ codes "format" = (bytes_eq-Decides (get_or words 0 []) (codes "format")).0 (sym c.begins.ensures ∙ c.if-not-begins.false) in
    let are : AreSpelled words c.in_ok-block.block c.in_ok-blocks.blocks c.in_ok-acap.acap c.in_ok-bcap.bcap c.in_ok-spare.spare c.in_ok-group.group c.in_ok-log.log = record {
      eight = eight;
      name = name;
      block_word = sym c.number_at.ensures.number ∙ c.in_ok-block.was;
      blocks_word = sym c.number_at-2.ensures.number ∙ c.in_ok-blocks.was;
      acap_word = sym c.number_at-3.ensures.number ∙ c.in_ok-acap.was;
      bcap_word = sym c.number_at-4.ensures.number ∙ c.in_ok-bcap.was;
      spare_word = sym c.number_at-5.ensures.number ∙ c.in_ok-spare.was;
      group_word = sym c.number_at-6.ensures.number ∙ c.in_ok-group.was;
      log_word = sym c.number_at-7.ensures.number ∙ c.in_ok-log.was;
    } in
    subst (λ (o : Option Geometry). MatchOption o ((geo : Geometry) → AsksFormat words geo → ⊥) (λ geo. AsksFormat words geo)) (sym c.ok.ensures.value)
    (geometry_read words c.new.result _ _ _ _ _ _ _ are c.new.ensures.numbers c.new.ensures.fault)
