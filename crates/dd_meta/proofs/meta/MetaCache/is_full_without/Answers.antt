use Rattle.std.proofs.Common.{◌≡◌, ◌∙◌, ap, sym, not, true, false, ◌==◌, length, is_some}
use Rattle.std.specs.Prelude.{◌&&◌}
use Rattle.dd_meta.specs.Entries.{Meta, node_of, is_listed_address}
use Rattle.dd_meta.proofs.Rows.{listed_address, entry_count}
use Rattle.dd_meta.proofs.meta.MetaCache.is_full_without.Goals as goal

pub returns-then-is_none : goal.returns-then-is_none
returns-then-is_none c =
    let out : is_listed_address c.args.address c.args.self.now ≡ false = sym (ap (is_listed_address c.args.address) c.self.view_is) ∙ listed_address c.self.invariant c.args.address ∙ ap (λ m. is_some (node_of c.args.address m)) c.self.view_is ∙ sym (ap is_some c.find.ensures.node) ∙ c.if-is_none.ensures in
    let count : c.len.result ≡ length c.args.self.now.entries = c.len.ensures ∙ sym (entry_count c.self.invariant) ∙ ap (λ (m : Meta). length m.entries) c.self.view_is in
    ap (λ n. n == c.self.inside.acap) count ∙ ap (λ (m : Meta). length c.args.self.now.entries == m.acap) c.self.view_is
    ∙ sym (ap (λ b. not b && length c.args.self.now.entries == c.args.self.now.acap) out)

pub returns-else-is_none : goal.returns-else-is_none
returns-else-is_none c =
    let there : is_listed_address c.args.address c.args.self.now ≡ true = sym (ap (is_listed_address c.args.address) c.self.view_is) ∙ listed_address c.self.invariant c.args.address ∙ ap (λ m. is_some (node_of c.args.address m)) c.self.view_is ∙ sym (ap is_some c.find.ensures.node) ∙ c.if-is_none.ensures in
    c.if-is_none.false ∙ sym (ap (λ b. not b && length c.args.self.now.entries == c.args.self.now.acap) there)
