use Rattle.std.proofs.Common.{◌≡◌, ◌++◌, List, ℕ, take, ◌∙◌, ap, codes, option_map}
use Rattle.dd_script.specs.Text.{write_text, kind_word, out_text, drop_text}
use Rattle.dd_script.proofs.LineEnds.{write_no_end}
use Rattle.dd_script.proofs.text.write_done.Goals as goal

pub returns-clause-text : goal.returns-clause-text
unfolding write_text
returns-clause-text c =
    let kind : take c.put-kind.result c.put-kind.new.into ≡ kind_word c.args.done.kind = c.put-kind.ensures.text ∙ c.kind_name.ensures.text in
    let cut = c.put_cut-cut.ensures.text ∙ ap (λ (x : List ℕ). x ++ out_text c.args.done.cut.out ++ drop_text (option_map (λ row. row.fp) c.args.done.cut.drop)) kind in
    c.put.ensures.text ∙ ap (λ (x : List ℕ). x ++ codes "\n") cut

pub returns-clause-line : goal.returns-clause-line
returns-clause-line c = write_no_end c.args.done.kind c.args.done.cut.out _ c.put_cut-cut.ensures.line
