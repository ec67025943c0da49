use Rattle.std.proofs.Common.{ℕ, List, ◌+◌, ◌-◌, ◌++◌, length-take, take, drop, [], slice_range, sym, ◌∙◌, ap, arith}
use Rattle.dd_script.specs.Reading.{Held, first_line, after_line, has_end}
use Rattle.dd_script.proofs.Reading.{EndsAt, ends_at, behind_end, never_ends, within, held_behind, nothing_held}
use Rattle.dd_script.proofs.pieces.Pieces.pass.Goals as goal

pub returns-in-Some-clause-held : goal.returns-in-Some-clause-held
returns-in-Some-clause-held c =
    let i = c.self.inside in
    let held : List ℕ = slice_range c.deref.result.now i.from i.until in
    let found : EndsAt c.in-Some.at held = ends_at c.in-Some.at held c.in-Some.ensures.0.before c.in-Some.ensures.0.high c.in-Some.ensures.1 in
    ap (λ (xs : List ℕ). record { bytes = slice_range xs (i.from + (c.in-Some.at + 1)) i.until; taken = i.taken; ended = i.ended }) (sym c.deref.ensures.value)
    ∙ ap (λ (bytes : List ℕ). record { bytes = bytes; taken = i.taken; ended = i.ended }) (held_behind c.deref.result.now i.from i.until (c.in-Some.at + 1) (omega (arith, c.in-Some.ensures.0.high, length-take (i.until - i.from) (drop i.from c.deref.result.now))) ∙ sym (behind_end c.in-Some.at held found))
    ∙ ap (λ (xs : List ℕ). record { bytes = after_line (slice_range xs i.from i.until); taken = i.taken; ended = i.ended }) c.deref.ensures.value
    ∙ ap (λ (h : Held). record { bytes = after_line h.bytes; taken = h.taken; ended = h.ended }) c.self.view_is

pub returns-in-Some-clause-line : goal.returns-in-Some-clause-line
returns-in-Some-clause-line c =
    let i = c.self.inside in
    let held : List ℕ = slice_range c.deref.result.now i.from i.until in
    let found : EndsAt c.in-Some.at held = ends_at c.in-Some.at held c.in-Some.ensures.0.before c.in-Some.ensures.0.high c.in-Some.ensures.1 in
    c.put_part-kept.ensures.text
    ∙ ap (λ (bytes : List ℕ). take 8449 (take c.args.size c.args.into.now ++ bytes))
    (sym found.first ∙ ap (λ (xs : List ℕ). first_line (slice_range xs i.from i.until)) c.deref.ensures.value ∙ ap (λ (h : Held). first_line h.bytes) c.self.view_is)

pub returns-in-Some-clause-ended : goal.returns-in-Some-clause-ended
returns-in-Some-clause-ended c =
    let i = c.self.inside in
    let held : List ℕ = slice_range c.deref.result.now i.from i.until in
    let found : EndsAt c.in-Some.at held = ends_at c.in-Some.at held c.in-Some.ensures.0.before c.in-Some.ensures.0.high c.in-Some.ensures.1 in
    sym found.ends ∙ ap (λ (xs : List ℕ). has_end (slice_range xs i.from i.until)) c.deref.ensures.value ∙ ap (λ (h : Held). has_end h.bytes) c.self.view_is

pub returns-in-None-clause-held : goal.returns-in-None-clause-held
returns-in-None-clause-held c =
    let i = c.self.inside in
    let held : List ℕ = slice_range c.deref.result.now i.from i.until in
    let gone = within held [] (never_ends held c.in-None.ensures) in
    ap (λ (bytes : List ℕ). record { bytes = bytes; taken = i.taken; ended = i.ended }) (nothing_held i.buffer.items i.until ∙ sym gone.none)
    ∙ ap (λ (xs : List ℕ). record { bytes = after_line (slice_range xs i.from i.until); taken = i.taken; ended = i.ended }) c.deref.ensures.value
    ∙ ap (λ (h : Held). record { bytes = after_line h.bytes; taken = h.taken; ended = h.ended }) c.self.view_is

pub returns-in-None-clause-line : goal.returns-in-None-clause-line
returns-in-None-clause-line c =
    let i = c.self.inside in
    let held : List ℕ = slice_range c.deref.result.now i.from i.until in
    let gone = within held [] (never_ends held c.in-None.ensures) in
    c.put_part-kept-in-None.ensures.text
    ∙ ap (λ (bytes : List ℕ). take 8449 (take c.args.size c.args.into.now ++ bytes))
    (sym gone.all ∙ ap (λ (xs : List ℕ). first_line (slice_range xs i.from i.until)) c.deref.ensures.value ∙ ap (λ (h : Held). first_line h.bytes) c.self.view_is)

pub returns-in-None-clause-ended : goal.returns-in-None-clause-ended
returns-in-None-clause-ended c =
    let i = c.self.inside in
    let held : List ℕ = slice_range c.deref.result.now i.from i.until in
    sym (never_ends held c.in-None.ensures) ∙ ap (λ (xs : List ℕ). has_end (slice_range xs i.from i.until)) c.deref.ensures.value ∙ ap (λ (h : Held). has_end h.bytes) c.self.view_is
