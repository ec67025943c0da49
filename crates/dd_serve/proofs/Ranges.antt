-- A command of a script speaks of an address of the array, and brings a block of its length.
use Rattle.std.proofs.Common.{◌≡◌, ℕ, ◌-◌, ◌*◌, ◌%◌, ◌<◌, ◌≤◌, ◌==◌, Bool, true, false, List, [], ◌∷◌, length, replicate, refl, arith, if◌then◌else◌, Some, None, Ok, Err, length-append}
use Rattle.std.specs.Prelude.{Option, Result, IfSome, IfOk, nat_lt, ◌&&◌, codes}
use Rattle.std.specs.List.{AllByRecursion, cons_option, filter_map}
use Rattle.std.specs.Str.{bytes_eq}
use Rattle.std.specs.Str.Lines.{strip_carriage_return}
use Rattle.std.specs.Str.Parse.{digits_value}
use Rattle.std.proofs.lemmas.List.{length-replicate}
use Rattle.hex.specs.Hex.{decode_pairs}
use Rattle.hex.proofs.HexLemmas.{decode_pairs-ok}
use Rattle.hex.specs.declared.error.FromHexError.{FromHexError}
use Rattle.hex.specs.declared.error.FromHexError.TheVariants.{InvalidHexCharacter, OddLength, InvalidStringLength, OutOfMemory}
use Rattle.dd_block.specs.Text.{block_of_text, block_or_fault}
use Rattle.dd_block.specs.declared.text.TextFault.{TextFault}
use Rattle.dd_block.specs.declared.text.TextFault.TheVariants.{Empty, Odd, Long}
use Rattle.dd_script.specs.declared.dialect.Dialect.{Dialect}
use Rattle.dd_script.specs.declared.line.BadKind.TheVariants as bad_is
use Rattle.dd_script.specs.Command.{Command, read, write, flush, clean, tick, lists, stat, quit, bad}
use Rattle.dd_script.specs.Line.{is_number, number_below, alone, read_of, read_command, write_with, write_text_of, write_of, write_command, zero_of, zero_command, other_command, command_named, command_of_words, command_of_line, is_comment, longest_line, words}
use Rattle.dd_script.specs.Script.{through_quit, commands_of, script_lines}

-- an address of the array, and a block of its length
abbrev pub InRange : (size blocks : ℕ) → Command → Type 0
InRange size blocks (read address) = address < blocks
InRange size blocks (write address block) = (address < blocks) × (length block ≡ size)
InRange size blocks command = Unit {0}

module _ (dialect : Dialect) where
  alone_in : (command : Command) (ws : List (List ℕ)) → InRange dialect.block dialect.blocks command → InRange dialect.block dialect.blocks (alone command ws)
  alone_in command [] h = h
  alone_in command (w ∷ ws) h = tt

  below_in : (word : List ℕ) → IfSome (number_below dialect.blocks word) (λ n. n < dialect.blocks)
  below_in word = by_tests (is_number word) (nat_lt (digits_value 10 word) dialect.blocks) refl
    where
      less : (a b : ℕ) → nat_lt a b ≡ true → a < b
      less a b h = grind arith

      by_tests : (number below : Bool) → nat_lt (digits_value 10 word) dialect.blocks ≡ below → IfSome (if number && below then Some (digits_value 10 word) else None) (λ n. n < dialect.blocks)
      by_tests true true e = less (digits_value 10 word) dialect.blocks e
      by_tests true false e = tt
      by_tests false below e = tt

  read_in : (o : Option ℕ) (ws : List (List ℕ)) → IfSome o (λ n. n < dialect.blocks) → InRange dialect.block dialect.blocks (read_of o ws)
  read_in None ws h = tt
  read_in (Some address) ws h = alone_in (read address) ws h

  read_command_in : (ws : List (List ℕ)) → InRange dialect.block dialect.blocks (read_command dialect.blocks ws)
  read_command_in [] = tt
  read_command_in (w ∷ ws) = read_in (number_below dialect.blocks w) ws (below_in w)

  decoded_in : (text : List ℕ) → length text ≤ 2 * dialect.block → (r : Result (List ℕ) FromHexError) → decode_pairs 0 text ≡ r → IfOk (block_or_fault dialect.block r) (λ x. length x ≡ dialect.block)
  decoded_in text few (Ok bytes) e =
      let size : length text ≡ 2 * length bytes = (decode_pairs-ok 0 text bytes e).1 in
      omega (arith, length-append bytes (replicate (dialect.block - length bytes) 0), length-replicate {A = ℕ} (dialect.block - length bytes) 0, size, few)
  decoded_in text few (Err (InvalidHexCharacter c at)) e = tt
  decoded_in text few (Err OddLength) e = tt
  decoded_in text few (Err InvalidStringLength) e = tt
  decoded_in text few (Err OutOfMemory) e = tt

  text_in : (text : List ℕ) → IfOk (block_of_text dialect.block text) (λ x. length x ≡ dialect.block)
  text_in text = by_tests (length text == 0) (length text % 2 == 1) (nat_lt (2 * dialect.block) (length text)) refl
    where
      few : nat_lt (2 * dialect.block) (length text) ≡ false → length text ≤ 2 * dialect.block
      few h = grind arith

      by_tests : (empty odd long : Bool) → nat_lt (2 * dialect.block) (length text) ≡ long
          → IfOk (if empty then Err Empty else if odd then Err Odd else if long then Err Long else block_or_fault dialect.block (decode_pairs 0 text)) (λ x. length x ≡ dialect.block)
      by_tests true odd long e = tt
      by_tests false true long e = tt
      by_tests false false true e = tt
      by_tests false false false e = decoded_in text (few e) (decode_pairs 0 text) refl

  with_in : (address : ℕ) (r : Result (List ℕ) TextFault) (ws : List (List ℕ)) → address < dialect.blocks → IfOk r (λ x. length x ≡ dialect.block) → InRange dialect.block dialect.blocks (write_with address r ws)
  with_in address (Ok block) ws below long = alone_in (write address block) ws (below, long)
  with_in address (Err fault) ws below long = tt

  write_text_in : (address : ℕ) (ws : List (List ℕ)) → address < dialect.blocks → InRange dialect.block dialect.blocks (write_text_of dialect.block address ws)
  write_text_in address [] below = tt
  write_text_in address (w ∷ ws) below = with_in address (block_of_text dialect.block w) ws below (text_in w)

  write_in : (o : Option ℕ) (ws : List (List ℕ)) → IfSome o (λ n. n < dialect.blocks) → InRange dialect.block dialect.blocks (write_of dialect.block o ws)
  write_in None ws h = tt
  write_in (Some address) ws h = write_text_in address ws h

  write_command_in : (ws : List (List ℕ)) → InRange dialect.block dialect.blocks (write_command dialect ws)
  write_command_in [] = tt
  write_command_in (w ∷ ws) = write_in (number_below dialect.blocks w) ws (below_in w)

  zero_in : (o : Option ℕ) (ws : List (List ℕ)) → IfSome o (λ n. n < dialect.blocks) → InRange dialect.block dialect.blocks (zero_of dialect.block o ws)
  zero_in None ws h = tt
  zero_in (Some address) ws h = alone_in (write address (replicate dialect.block 0)) ws (h, length-replicate {A = ℕ} dialect.block 0)

  zero_command_in : (ws : List (List ℕ)) → InRange dialect.block dialect.blocks (zero_command dialect ws)
  zero_command_in [] = tt
  zero_command_in (w ∷ ws) = zero_in (number_below dialect.blocks w) ws (below_in w)

  if_in : (b : Bool) (one another : Command) → InRange dialect.block dialect.blocks one → InRange dialect.block dialect.blocks another → InRange dialect.block dialect.blocks (if b then one else another)
  if_in true one another h k = h
  if_in false one another h k = k

  other_in : (word : List ℕ) (ws : List (List ℕ)) → InRange dialect.block dialect.blocks (other_command dialect word ws)
  other_in word ws =
      if_in (bytes_eq word (codes "w")) _ _ (write_command_in ws)
      (if_in (bytes_eq word (codes "d")) _ _ (zero_command_in ws)
      (if_in (bytes_eq word (codes "f")) _ _ (alone_in flush ws tt)
      (if_in (bytes_eq word (codes "c")) _ _ (alone_in clean ws tt)
      (if_in (bytes_eq word (codes "t")) (alone tick ws) (bad bad_is.Word) (alone_in tick ws tt) tt))))

  named_in : (word : List ℕ) (ws : List (List ℕ)) → InRange dialect.block dialect.blocks (command_named dialect word ws)
  named_in word ws =
      if_in (bytes_eq word (codes "r")) _ _ (read_command_in ws)
      (if_in (bytes_eq word (codes "q")) _ _ (alone_in quit ws tt)
      (if_in (bytes_eq word (codes "l")) _ _ (alone_in lists ws tt)
      (if_in (bytes_eq word (codes "s")) _ _ (alone_in stat ws tt)
      (if_in dialect.reads_only (bad bad_is.Word) (other_command dialect word ws) tt (other_in word ws)))))

  words_in : (ws : List (List ℕ)) → IfSome (command_of_words dialect ws) (InRange dialect.block dialect.blocks)
  words_in [] = tt
  words_in (w ∷ ws) = named_in w ws

  line_in : (line : List ℕ) → IfSome (command_of_line dialect line) (InRange dialect.block dialect.blocks)
  unfolding command_of_line
  line_in line = by_tests (is_comment line) (nat_lt longest_line (length line))
    where
      by_tests : (comment long : Bool) → IfSome (if comment then None else if long then Some (bad bad_is.Long) else command_of_words dialect (words (strip_carriage_return line))) (InRange dialect.block dialect.blocks)
      by_tests true long = tt
      by_tests false true = tt
      by_tests false false = words_in (words (strip_carriage_return line))

  cons_in : (o : Option Command) (commands : List Command) → IfSome o (InRange dialect.block dialect.blocks) → AllByRecursion (InRange dialect.block dialect.blocks) commands → AllByRecursion (InRange dialect.block dialect.blocks) (cons_option o commands)
  cons_in None commands h k = k
  cons_in (Some command) commands h k = (h, k)

  map_in : (ls : List (List ℕ)) → AllByRecursion (InRange dialect.block dialect.blocks) (filter_map (command_of_line dialect) ls)
  map_in [] = tt
  map_in (l ∷ ls) = cons_in (command_of_line dialect l) (filter_map (command_of_line dialect) ls) (line_in l) (map_in ls)

  quit_in : (commands : List Command) → AllByRecursion (InRange dialect.block dialect.blocks) commands → AllByRecursion (InRange dialect.block dialect.blocks) (through_quit commands)
  quit_in [] h = (tt, tt)
  quit_in (quit ∷ commands) h = (tt, tt)
  quit_in (read address ∷ commands) h = (h.0, quit_in commands h.1)
  quit_in (write address block ∷ commands) h = (h.0, quit_in commands h.1)
  quit_in (flush ∷ commands) h = (tt, quit_in commands h.1)
  quit_in (clean ∷ commands) h = (tt, quit_in commands h.1)
  quit_in (tick ∷ commands) h = (tt, quit_in commands h.1)
  quit_in (lists ∷ commands) h = (tt, quit_in commands h.1)
  quit_in (stat ∷ commands) h = (tt, quit_in commands h.1)
  quit_in (bad kind ∷ commands) h = (tt, quit_in commands h.1)

  pub commands_in : (script : List ℕ) → AllByRecursion (InRange dialect.block dialect.blocks) (commands_of dialect script)
  commands_in script = quit_in (filter_map (command_of_line dialect) (script_lines script)) (map_in (script_lines script))
