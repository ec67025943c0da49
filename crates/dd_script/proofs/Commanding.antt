-- The commands of a script, line by line.
use Rattle.std.proofs.Common.{◌≡◌, ◌≢◌, inl, inr, ⊎_elim, ℕ, zero, suc, ◌+◌, ◌-◌, ◌<◌, ◌≤◌, ◌==◌, Bool, true, false, List, [], ◌∷◌, ◌++◌, length, take, refl, sym, ◌∙◌, ap, subst, arith, Some, None, if◌then◌else◌}
use Rattle.std.specs.Prelude.{Option, ◌||◌}
use Rattle.std.proofs.lemmas.Bool.{cases_lt}
use Rattle.std.specs.List.{filter_map, cons_option, list_any}
use Rattle.dd_script.specs.declared.line.Line.{Line}
use Rattle.dd_script.specs.declared.line.Line.TheVariants as line_is
use Rattle.dd_script.specs.declared.dialect.Dialect.{Dialect}
use Rattle.dd_script.specs.Command.{Command, quit}
use Rattle.dd_script.specs.Line.{command_of_line, told}
use Rattle.dd_script.specs.Script.{Lines, lines_of, onto_lines, onto_first, last_line, script_lines, through_quit, commands_of, is_quit, has_quit, EndsWithin}
use Rattle.dd_script.proofs.Parsing.{command_of_line-take}
use Rattle.dd_script.specs.declared.pieces.ScriptFault.{ScriptFault}
use Rattle.dd_script.specs.declared.pieces.ScriptFault.TheVariants as fault
use Rattle.dd_script.specs.Reading.{first_line, after_line, has_end, NextLine, EndsInside, Spends, fronted, quits, Bounds, BurnsUnlessQuit, Passes, Fails}

-- where no line ends
pub record Unended (bytes : List ℕ) : Type 0 where
  pub lines : lines_of bytes ≡ record { whole = []; rest = bytes }
  pub first : first_line bytes ≡ bytes
  pub behind : after_line bytes ≡ []

unended_at : (k : Bool) (b : ℕ) (bytes : List ℕ) → (has_end bytes ≡ false → Unended bytes) → (b == 10) ≡ k → (if k then true else has_end bytes) ≡ false → Unended (b ∷ bytes)
unended_at true b bytes next e h = absurd (cc)
unended_at false b bytes next e h =
    let rest = next h in
    record {
      lines = ap (onto_lines b) rest.lines ∙ ap (λ t. if t then record { whole = [] ∷ []; rest = bytes } else onto_first b [] bytes) e;
      first = ap (λ t. if t then [] else b ∷ first_line bytes) e ∙ ap (λ (l : List ℕ). b ∷ l) rest.first;
      behind = ap (λ t. if t then bytes else after_line bytes) e ∙ rest.behind;
    }

pub unended : (bytes : List ℕ) → has_end bytes ≡ false → Unended bytes
unended [] h = record { lines = refl; first = refl; behind = refl }
unended (b ∷ bytes) h = unended_at (b == 10) b bytes (unended bytes) refl h

-- where one does
pub record Ended (bytes : List ℕ) : Type 0 where
  pub lines : lines_of bytes ≡ record { whole = first_line bytes ∷ (lines_of (after_line bytes)).whole; rest = (lines_of (after_line bytes)).rest }
  pub size : length bytes ≡ length (first_line bytes) + 1 + length (after_line bytes)

ended_at : (k : Bool) (b : ℕ) (bytes : List ℕ) → (has_end bytes ≡ true → Ended bytes) → (b == 10) ≡ k → (if k then true else has_end bytes) ≡ true → Ended (b ∷ bytes)
ended_at true b bytes next e h =
    let first : first_line (b ∷ bytes) ≡ [] = ap (λ t. if t then [] else b ∷ first_line bytes) e in
    let behind : after_line (b ∷ bytes) ≡ bytes = ap (λ t. if t then bytes else after_line bytes) e in
    let size = ap length first in
    let more = ap length behind in
    record {
      lines = ap (λ t. if t then record { whole = [] ∷ (lines_of bytes).whole; rest = (lines_of bytes).rest } else onto_first b (lines_of bytes).whole (lines_of bytes).rest) e
          ∙ ap (λ (l : List ℕ). record { whole = l ∷ (lines_of bytes).whole; rest = (lines_of bytes).rest }) (sym first)
          ∙ ap (λ (l : List ℕ). record { whole = first_line (b ∷ bytes) ∷ (lines_of l).whole; rest = (lines_of l).rest }) (sym behind);
      size = omega (arith, size, more);
    }
ended_at false b bytes next e h =
    let rest = next h in
    let first : first_line (b ∷ bytes) ≡ b ∷ first_line bytes = ap (λ t. if t then [] else b ∷ first_line bytes) e in
    let behind : after_line (b ∷ bytes) ≡ after_line bytes = ap (λ t. if t then bytes else after_line bytes) e in
    let size = ap length first in
    let more = ap length behind in
    record {
      lines = ap (onto_lines b) rest.lines
          ∙ ap (λ t. if t then record { whole = [] ∷ first_line bytes ∷ (lines_of (after_line bytes)).whole; rest = (lines_of (after_line bytes)).rest } else record { whole = (b ∷ first_line bytes) ∷ (lines_of (after_line bytes)).whole; rest = (lines_of (after_line bytes)).rest }) e
          ∙ ap (λ (l : List ℕ). record { whole = l ∷ (lines_of (after_line bytes)).whole; rest = (lines_of (after_line bytes)).rest }) (sym first)
          ∙ ap (λ (l : List ℕ). record { whole = first_line (b ∷ bytes) ∷ (lines_of l).whole; rest = (lines_of l).rest }) (sym behind);
      size = omega (arith, size, more, rest.size);
    }

pub ended_line : (bytes : List ℕ) → has_end bytes ≡ true → Ended bytes
ended_line [] h = absurd (cc)
ended_line (b ∷ bytes) h = ended_at (b == 10) b bytes (ended_line bytes) refl h

-- the first line of a script and the others
first_of : (k : Bool) (b : ℕ) (bytes : List ℕ) → has_end (b ∷ bytes) ≡ k → script_lines (b ∷ bytes) ≡ first_line (b ∷ bytes) ∷ script_lines (after_line (b ∷ bytes))
first_of true b bytes e = ap (λ (lines : Lines). lines.whole ++ last_line lines.rest) (ended_line (b ∷ bytes) e).lines
first_of false b bytes e =
    let none = unended (b ∷ bytes) e in
    ap (λ (lines : Lines). lines.whole ++ last_line lines.rest) none.lines
    ∙ ap (λ (l : List ℕ). l ∷ []) (sym none.first)
    ∙ ap (λ (l : List ℕ). first_line (b ∷ bytes) ∷ script_lines l) (sym none.behind)

fronts : (o : Option Command) (commands : List Command) → through_quit (cons_option o commands) ≡ fronted o (through_quit commands)
fronts None commands = refl
fronts (Some quit) commands = refl
fronts (Some command) commands = refl

commands_first : (dialect : Dialect) (before : List ℕ) → before ≢ [] → commands_of dialect before ≡ fronted (command_of_line dialect (first_line before)) (commands_of dialect (after_line before))
commands_first dialect [] some = absurd (some refl)
commands_first dialect (b ∷ bytes) some =
    ap (λ (lines : List (List ℕ)). through_quit (filter_map (command_of_line dialect) lines)) (first_of (has_end (b ∷ bytes)) b bytes refl)
    ∙ fronts (command_of_line dialect (first_line (b ∷ bytes))) (filter_map (command_of_line dialect) (script_lines (after_line (b ∷ bytes))))

-- what the kept part of a line tells is the line's command
line_command : (dialect : Dialect) (n : ℕ) (buffer before after : List ℕ) → NextLine (Some n) buffer before after → command_of_line dialect (take n buffer) ≡ command_of_line dialect (first_line before)
line_command dialect n buffer before after h = ap (command_of_line dialect) h.1 ∙ command_of_line-take dialect (first_line before)

pub command_step : (dialect : Dialect) (n : ℕ) (buffer block before after : List ℕ) (said : Line) → NextLine (Some n) buffer before after → told block said ≡ command_of_line dialect (take n buffer)
    → commands_of dialect before ≡ fronted (told block said) (commands_of dialect after)
command_step dialect n buffer block before after said h e =
    commands_first dialect before h.0
    ∙ ap (λ (o : Option Command). fronted o (commands_of dialect (after_line before))) (sym (e ∙ line_command dialect n buffer before after h))
    ∙ ap (λ (rest : List ℕ). fronted (told block said) (commands_of dialect rest)) (sym h.2)

any_first : (o : Option Command) (commands : List Command) → list_any is_quit (cons_option o commands) ≡ (quits o || list_any is_quit commands)
any_first None commands = refl
any_first (Some command) commands = refl

quit_first : (dialect : Dialect) (bytes : List ℕ) → has_end bytes ≡ true → has_quit dialect bytes ≡ (quits (command_of_line dialect (first_line bytes)) || has_quit dialect (after_line bytes))
quit_first dialect bytes e =
    ap (λ (lines : Lines). list_any is_quit (filter_map (command_of_line dialect) lines.whole)) (ended_line bytes e).lines
    ∙ any_first (command_of_line dialect (first_line bytes)) (filter_map (command_of_line dialect) (lines_of (after_line bytes)).whole)

no_quit : (dialect : Dialect) (bytes : List ℕ) → has_end bytes ≡ false → has_quit dialect bytes ≡ false
no_quit dialect bytes e = ap (λ (lines : Lines). list_any is_quit (filter_map (command_of_line dialect) lines.whole)) (unended bytes e).lines

-- a front that has the first line whole
pub record TakesLine (n k : ℕ) (bytes : List ℕ) : Type 0 where
  pub ends : has_end (take n bytes) ≡ true
  pub first : first_line (take n bytes) ≡ first_line bytes
  pub behind : after_line (take n bytes) ≡ take k (after_line bytes)

takes_at : (t : Bool) (b : ℕ) (bytes : List ℕ) (n k : ℕ) → ((m : ℕ) → has_end bytes ≡ true → m ≡ length (first_line bytes) + 1 + k → TakesLine m k bytes) → (b == 10) ≡ t → (if t then true else has_end bytes) ≡ true
    → suc n ≡ length (if t then [] else b ∷ first_line bytes) + 1 + k → TakesLine (suc n) k (b ∷ bytes)
takes_at true b bytes n k next e h size =
    let same : n ≡ k = omega (arith, size) in
    record {
      ends = ap (λ t. if t then true else has_end (take n bytes)) e;
      first = ap (λ t. if t then [] else b ∷ first_line (take n bytes)) e ∙ sym (ap (λ t. if t then [] else b ∷ first_line bytes) e);
      behind = ap (λ t. if t then take n bytes else after_line (take n bytes)) e ∙ ap (λ m. take m bytes) same ∙ sym (ap (λ (l : List ℕ). take k l) (ap (λ t. if t then bytes else after_line bytes) e));
    }
takes_at false b bytes n k next e h size =
    let rest = next n h (omega (arith, size)) in
    record {
      ends = ap (λ t. if t then true else has_end (take n bytes)) e ∙ rest.ends;
      first = ap (λ t. if t then [] else b ∷ first_line (take n bytes)) e ∙ ap (λ (l : List ℕ). b ∷ l) rest.first ∙ sym (ap (λ t. if t then [] else b ∷ first_line bytes) e);
      behind = ap (λ t. if t then take n bytes else after_line (take n bytes)) e ∙ rest.behind ∙ sym (ap (λ (l : List ℕ). take k l) (ap (λ t. if t then bytes else after_line bytes) e));
    }

takes_line : (bytes : List ℕ) (n k : ℕ) → has_end bytes ≡ true → n ≡ length (first_line bytes) + 1 + k → TakesLine n k bytes
takes_line [] n k h size = absurd (cc)
takes_line (b ∷ bytes) zero k h size = absurd (omega (arith, size))
takes_line (b ∷ bytes) (suc n) k h size = takes_at (b == 10) b bytes n k (λ m e s. takes_line bytes m k e s) refl h size

-- a front that is no longer than the first line
short_at : (t : Bool) (b : ℕ) (bytes : List ℕ) (n : ℕ) → (n ≤ length (first_line bytes) → has_end (take n bytes) ≡ false) → (b == 10) ≡ t → suc n ≤ length (if t then [] else b ∷ first_line bytes) → has_end (b ∷ take n bytes) ≡ false
short_at true b bytes n next e h = absurd (omega (arith, h))
short_at false b bytes n next e h = ap (λ t. if t then true else has_end (take n bytes)) e ∙ next (omega (arith, h))

short_front : (bytes : List ℕ) (n : ℕ) → n ≤ length (first_line bytes) → has_end (take n bytes) ≡ false
short_front [] zero h = refl
short_front [] (suc n) h = refl
short_front (b ∷ bytes) zero h = refl
short_front (b ∷ bytes) (suc n) h = short_at (b == 10) b bytes n (short_front bytes n) refl h

line_within_at : (t : Bool) (b : ℕ) (bytes : List ℕ) → length (first_line bytes) ≤ length bytes → length (if t then [] else b ∷ first_line bytes) ≤ suc (length bytes)
line_within_at true b bytes h = omega arith
line_within_at false b bytes h = omega arith

line_within : (bytes : List ℕ) → length (first_line bytes) ≤ length bytes
line_within [] = omega arith
line_within (b ∷ bytes) = line_within_at (b == 10) b bytes (line_within bytes)

-- the reading of a script halts where its first line is longer than what may be read
pub too_long : (dialect : Dialect) (fuel : ℕ) (before : List ℕ) → fuel ≤ length (first_line before) → EndsWithin fuel dialect before → ⊥
too_long dialect fuel before h (inl short) = omega (arith, line_within before, h, short)
too_long dialect fuel before h (inr e) = let none = no_quit dialect (take fuel before) (short_front before fuel h) in absurd (cc)

-- a line that is a quit ends the script within its bound
quit_inside_at : (k : Bool) (dialect : Dialect) (fuel_before fuel_after : ℕ) (before : List ℕ) → has_end before ≡ k → Spends before (after_line before) fuel_before fuel_after → EndsInside before fuel_after
    → quits (command_of_line dialect (first_line before)) ≡ true → EndsWithin fuel_before dialect before
quit_inside_at true dialect fuel_before fuel_after before e spends inside is =
    let line = ended_line before e in
    let takes = takes_line before fuel_before fuel_after e (omega (arith, spends, line.size)) in
    inr (quit_first dialect (take fuel_before before) takes.ends ∙ ap (λ (l : List ℕ). quits (command_of_line dialect l) || has_quit dialect (after_line (take fuel_before before))) takes.first
    ∙ ap (λ t. t || has_quit dialect (after_line (take fuel_before before))) is)
quit_inside_at false dialect fuel_before fuel_after before e spends inside is =
    let none = unended before e in
    let size = ap length none.behind in
    ⊎_elim (λ (some : has_end before ≡ true). absurd (cc)) (λ (room : 0 < fuel_after). inl (omega (arith, spends, size, room))) inside

unended_front_at : (t : Bool) (b : ℕ) (bytes : List ℕ) (n : ℕ) → (has_end bytes ≡ false → has_end (take n bytes) ≡ false) → (b == 10) ≡ t → (if t then true else has_end bytes) ≡ false → has_end (b ∷ take n bytes) ≡ false
unended_front_at true b bytes n next e h = absurd (cc)
unended_front_at false b bytes n next e h = ap (λ t. if t then true else has_end (take n bytes)) e ∙ next h

unended_front : (bytes : List ℕ) (n : ℕ) → has_end bytes ≡ false → has_end (take n bytes) ≡ false
unended_front [] zero h = refl
unended_front [] (suc n) h = refl
unended_front (b ∷ bytes) zero h = refl
unended_front (b ∷ bytes) (suc n) h = unended_front_at (b == 10) b bytes n (unended_front bytes n) refl h

no_lines : (dialect : Dialect) (n : ℕ) → has_quit dialect (take n []) ≡ false
no_lines dialect zero = refl
no_lines dialect (suc n) = refl

-- and another line leaves that to the lines behind it
other_inside_at : (k : Bool) (dialect : Dialect) (fuel_before fuel_after : ℕ) (before : List ℕ) → has_end before ≡ k → Spends before (after_line before) fuel_before fuel_after
    → quits (command_of_line dialect (first_line before)) ≡ false → (EndsWithin fuel_before dialect before → EndsWithin fuel_after dialect (after_line before)) × (EndsWithin fuel_after dialect (after_line before) → EndsWithin fuel_before dialect before)
other_inside_at true dialect fuel_before fuel_after before e spends is =
    let line = ended_line before e in
    let takes = takes_line before fuel_before fuel_after e (omega (arith, spends, line.size)) in
    let same : has_quit dialect (take fuel_before before) ≡ has_quit dialect (take fuel_after (after_line before)) =
    quit_first dialect (take fuel_before before) takes.ends
    ∙ ap (λ (l : List ℕ). quits (command_of_line dialect l) || has_quit dialect (after_line (take fuel_before before))) takes.first
    ∙ ap (λ t. t || has_quit dialect (after_line (take fuel_before before))) is
    ∙ ap (has_quit dialect) takes.behind
    in (
      λ within. ⊎_elim (λ (short : length before < fuel_before). inl (omega (arith, spends, line.size, short))) (λ found. inr (sym same ∙ found)) within,
      λ within. ⊎_elim (λ (short : length (after_line before) < fuel_after). inl (omega (arith, spends, line.size, short))) (λ found. inr (same ∙ found)) within,
    )
other_inside_at false dialect fuel_before fuel_after before e spends is =
    let none = unended before e in
    let size = ap length none.behind in (
      λ within. ⊎_elim (λ (short : length before < fuel_before). inl (omega (arith, spends, size, short)))
          (λ (found : has_quit dialect (take fuel_before before) ≡ true). let missing = no_quit dialect (take fuel_before before) (unended_front before fuel_before e) in absurd (cc)) within,
      λ within. ⊎_elim (λ (short : length (after_line before) < fuel_after). inl (omega (arith, spends, size, short)))
          (λ (found : has_quit dialect (take fuel_after (after_line before)) ≡ true). let missing = ap (λ (l : List ℕ). has_quit dialect (take fuel_after l)) none.behind ∙ no_lines dialect fuel_after in absurd (cc)) within,
    )

-- whether a line is a quit, whatever the buffer holds
pub same_quits : (block other : List ℕ) (said : Line) → quits (told block said) ≡ quits (told other said)
same_quits block other line_is.Skip = refl
same_quits block other said = refl

-- what a line says of the bound
bounds_of : (block : List ℕ) (said : Line) (P Q : Type 0) → (quits (told block said) ≡ true → P) → (quits (told block said) ≡ false → (P → Q) × (Q → P)) → Bounds said P Q
bounds_of block line_is.Quit P Q is other = is refl
bounds_of block said P Q is other = other refl

pub bounds_step : (dialect : Dialect) (n fuel_before fuel_after : ℕ) (buffer block before after : List ℕ) (said : Line) → NextLine (Some n) buffer before after → told block said ≡ command_of_line dialect (take n buffer)
    → Spends before after fuel_before fuel_after → EndsInside before fuel_after → Bounds said (EndsWithin fuel_before dialect before) (EndsWithin fuel_after dialect after)
bounds_step dialect n fuel_before fuel_after buffer block before after said h e spends inside =
    let is : told block said ≡ command_of_line dialect (first_line before) = e ∙ line_command dialect n buffer before after h in
    let spent : Spends before (after_line before) fuel_before fuel_after = subst (λ (rest : List ℕ). Spends before rest fuel_before fuel_after) h.2 spends in
    bounds_of block said (EndsWithin fuel_before dialect before) (EndsWithin fuel_after dialect after)
    (λ q. quit_inside_at (has_end before) dialect fuel_before fuel_after before refl spent inside (ap quits (sym is) ∙ q))
    (λ q. subst (λ (rest : List ℕ). (EndsWithin fuel_before dialect before → EndsWithin fuel_after dialect rest) × (EndsWithin fuel_after dialect rest → EndsWithin fuel_before dialect before)) (sym h.2)
    (other_inside_at (has_end before) dialect fuel_before fuel_after before refl spent (ap quits (sym is) ∙ q)))

pub bounds_other : (block : List ℕ) (said : Line) (P Q : Type 0) → quits (told block said) ≡ false → Bounds said P Q → (P → Q) × (Q → P)
bounds_other block line_is.Quit P Q e h = absurd (cc)
bounds_other block said P Q e h = h

pub burns_other : (block : List ℕ) (said : Line) (before after : ℕ) → quits (told block said) ≡ false → BurnsUnlessQuit said before after → after < before
burns_other block line_is.Quit before after e h = absurd (cc)
burns_other block said before after e h = h

-- a line uses up no more than its bytes and its end
used_at : (k : Bool) (bytes : List ℕ) → has_end bytes ≡ k → length bytes ≤ length (first_line bytes) + 1 + length (after_line bytes)
used_at true bytes e = omega (arith, (ended_line bytes e).size)
used_at false bytes e = omega (arith, ap length (unended bytes e).first)

passes_line : (dialect : Dialect) (n : ℕ) (before : List ℕ) → EndsWithin n dialect before → length before ≤ n + length (after_line before)
passes_line dialect n before within = ⊎_elim
    (λ (short : n < length (first_line before) + 1). absurd (too_long dialect n before (omega (arith, short)) within))
    (λ (long : length (first_line before) + 1 ≤ n). omega (arith, long, used_at (has_end before) before refl))
    (cases_lt n (length (first_line before) + 1))

-- a line of a script that ends within so many bytes
pub passes_step : (dialect : Dialect) (n : ℕ) (buffer block before after : List ℕ) (said : Line) → NextLine (Some n) buffer before after → told block said ≡ command_of_line dialect (take n buffer) → Passes dialect said before after
passes_step dialect n buffer block before after said h e =
    subst (λ (rest : List ℕ). Passes dialect said before rest) (sym h.2) (λ most within.
    let is : told block said ≡ command_of_line dialect (first_line before) = e ∙ line_command dialect n buffer before after h in
    let fits : length before ≤ most + length (after_line before) = passes_line dialect most before within in
    let spends : Spends before (after_line before) most (most + length (after_line before) - length before) = omega (arith, fits) in
    (fits, λ q. (other_inside_at (has_end before) dialect most (most + length (after_line before) - length before) before refl spends (ap quits (sym is) ∙ same_quits block [] said ∙ q)).0 within))

-- its end
pub passes_end : (dialect : Dialect) (before after : List ℕ) → before ≡ [] → after ≡ [] → Passes dialect line_is.Quit before after
passes_end dialect before after h k = λ n within. let size = ap length h in (omega (arith, size), λ q. absurd (cc))

pub fails_by : (P Q : Type 0) → (P → Q) → (why : ScriptFault) (m n : ℕ) → Fails P why m n → Fails Q why m n
fails_by P Q w fault.Take m n h = h
fails_by P Q w fault.Length m n h = w h
