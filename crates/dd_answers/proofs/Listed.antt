-- The line of both lists, piece by piece.
use Rattle.std.proofs.Common.{◌≡◌, ℕ, List, [], ◌∷◌, ◌++◌, map, codes, refl, sym, ◌∙◌, ap, Ok, Err}
use Rattle.std.specs.Prelude.{Result, OnOk}
use Rattle.std.specs.List.{AllByRecursion, flat_map}
use Rattle.dd_block.specs.declared.print.Fp.{Fp}
use Rattle.dd_rig.specs.Clock.{Clock}
use Rattle.dd_rig.specs.World.{World, say}
use Rattle.dd_record.specs.Table.{Table}
use Rattle.dd_record.specs.declared.row.ARow.{ARow}
use Rattle.dd_record.specs.declared.row.BRow.{BRow}
use Rattle.dd_model.specs.Rows.{Shows, entry_of, held_block}
use Rattle.dd_model.specs.State.{Entry, Sizes, State}
use Rattle.dd_script.specs.Command.{lists}
use Rattle.dd_script.specs.Output.{reply_line}
use Rattle.dd_script.specs.Text.{address_text, print_text, lists_text, ended}
use Rattle.dd_loop.specs.Saying.{SaysPiece}
use Rattle.dd_answers.specs.Listed.{a_entry, b_entry, rows_text}
use Rattle.dd_answers.proofs.Pieces.{said_both, says_behind, says_front}

texts_a : (rows : List ARow) → flat_map a_entry rows ≡ flat_map (λ (entry : Entry). address_text entry.address entry.linked) (map entry_of rows)
texts_a [] = refl
texts_a (row ∷ rows) = ap (λ (l : List ℕ). a_entry row ++ l) (texts_a rows)

texts_b : (rows : List BRow) → flat_map b_entry rows ≡ flat_map print_text (map (λ (row : BRow). row.fp) rows)
texts_b [] = refl
texts_b (row ∷ rows) = ap (λ (l : List ℕ). b_entry row ++ l) (texts_b rows)

-- its five pieces
pub whole_text : (a : List ARow) (b : List BRow) → codes "A" ++ flat_map a_entry a ++ codes " B" ++ flat_map b_entry b ++ codes "\n" ≡ ended (rows_text a b)
whole_text a b =
    ap (λ (l : List ℕ). codes "A" ++ l ++ codes " B" ++ flat_map b_entry b ++ codes "\n") (texts_a a)
    ∙ ap (λ (l : List ℕ). codes "A" ++ flat_map (λ (entry : Entry). address_text entry.address entry.linked) (map entry_of a) ++ codes " B" ++ l ++ codes "\n") (texts_b b)

-- what was said so far
pub record Sofar (old : World) (first : Clock) (front : List ℕ) (now : Clock) (new : World) : Type 0 where
  pub is : new ≡ say front old
  pub says : SaysPiece front first now old new

module _ (old : World) (first : Clock) where
  -- one piece more
  pub one_more : (front back : List ℕ) (now last : Clock) (middle new : World) → Sofar old first front now middle → new ≡ say back middle → SaysPiece back now last middle new → Sofar old first (front ++ back) last new
  one_more front back now last middle new so is says = record { is = said_both front back old middle so.is new is; says = says_behind front back old middle so.is new so.says.within says }

  -- or a part of it
  pub some_more : (front back : List ℕ) (now last : Clock) (middle new : World) → Sofar old first front now middle → SaysPiece back now last middle new → SaysPiece (front ++ back) first last old new
  some_more front back now last middle new so says = says_behind front back old middle so.is new so.says.within says

  module _ (one two three four five : List ℕ) (last : Clock) (new : World) where
    pub cut_four : SaysPiece (one ++ two ++ three ++ four) first last old new → SaysPiece (one ++ two ++ three ++ four ++ five) first last old new
    cut_four p = says_front (one ++ two ++ three ++ four) five old new p

    pub cut_three : SaysPiece (one ++ two ++ three) first last old new → SaysPiece (one ++ two ++ three ++ four ++ five) first last old new
    cut_three p = cut_four (says_front (one ++ two ++ three) four old new p)

    pub cut_two : SaysPiece (one ++ two) first last old new → SaysPiece (one ++ two ++ three ++ four ++ five) first last old new
    cut_two p = cut_three (says_front (one ++ two) three old new p)

    pub cut_one : SaysPiece one first last old new → SaysPiece (one ++ two ++ three ++ four ++ five) first last old new
    cut_one p = cut_two (says_front one two old new p)

pub on_ok : {T E : Type 0} (result : Result T E) (P Q : Type 0) → (P → Q) → OnOk result P → OnOk result Q
on_ok (Ok x) P Q f h = f h
on_ok (Err e) P Q f h = tt

prints_of : (print : List ℕ → Fp) (held : ℕ → List ℕ) (rows : List BRow) → AllByRecursion (λ row. row.fp ≡ print (held row.slot)) rows → map (λ (row : BRow). row.fp) rows ≡ map print (map (held_block held) rows)
prints_of print held [] all = refl
prints_of print held (row ∷ rows) all = ap (λ fp. fp ∷ map (λ (r : BRow). r.fp) rows) all.0 ∙ ap (λ (l : List Fp). print (held row.slot) ∷ l) (prints_of print held rows all.1)

-- rows that show a state say its lists
pub rows_say : (print : List ℕ → Fp) (sizes : Sizes) (held : ℕ → List ℕ) (table : Table) (count : ℕ) (s : State) → Shows print held table count s → rows_text table.a table.b ≡ reply_line print sizes s lists
rows_say print sizes held table count s shows =
    ap (λ (entries : List Entry). lists_text entries (map (λ (row : BRow). row.fp) table.b)) (sym shows.addresses)
    ∙ ap (λ (prints : List Fp). lists_text s.addresses prints) (prints_of print held table.b shows.b_prints ∙ ap (map print) (sym shows.blocks))
