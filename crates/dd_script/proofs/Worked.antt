-- The definitions at worked lines and outputs.
use Rattle.std.proofs.Common.{◌≡◌, inl, inr, ℕ, true, false, List, [], ◌∷◌, replicate, refl, Some, codes}
use Rattle.std.specs.List.{flat_map}
use Rattle.std.specs.Fmt.{digits}
use Rattle.hex.specs.Hex.{encode_with, decode_pairs}
use Rattle.dd_block.specs.Print.{first_byte}
use Rattle.dd_block.specs.Text.{block_text}
use Rattle.dd_block.specs.declared.text.TextFault.TheVariants.{Empty, Odd}
use Rattle.dd_script.specs.declared.dialect.Dialect.{Dialect}
use Rattle.dd_script.specs.declared.line.BadKind.TheVariants.{Word, Address, Text, Rest}
use Rattle.dd_script.specs.declared.reply.Stop.TheVariants as stop
use Rattle.dd_script.specs.Command.{Command, read, write, flush, clean, quit, bad}
use Rattle.dd_script.specs.Line.{command_of_line}
use Rattle.dd_model.specs.State.{Sizes, State, fresh}
use Rattle.dd_script.specs.Text.{ended, read_text, write_text}
use Rattle.dd_script.specs.Output.{output, dialect_of, reading_dialect_of}
use Rattle.dd_script.specs.Answers.{taken, acknowledged, Answers}

-- eight blocks of sixteen bytes, served and read
abbrev serves : Dialect
serves = record { reads_only = false; blocks = 8; block = 16 }

abbrev reads : Dialect
reads = record { reads_only = true; blocks = 8; block = 16 }

-- a line is told by the first check that it breaks
no_text : command_of_line serves (codes "w 3") ≡ Some (bad (Text Empty))
unfolding command_of_line
no_text = refl

odd_text : command_of_line serves (codes "w 3 abc") ≡ Some (bad (Text Odd))
unfolding command_of_line
odd_text = refl

written : command_of_line serves (codes "w 3 aB01") ≡ Some (write 3 (171 ∷ 1 ∷ replicate 14 0))
unfolding command_of_line decode_pairs
written = refl

zeros : command_of_line serves (codes "d 3") ≡ Some (write 3 (replicate 16 0))
unfolding command_of_line
zeros = refl

behind_the_last : command_of_line serves (codes "w 8 ab") ≡ Some (bad Address)
unfolding command_of_line
behind_the_last = refl

further_word : command_of_line serves (codes "f 1") ≡ Some (bad Rest)
unfolding command_of_line
further_word = refl

not_known : command_of_line reads (codes "w 1 ab") ≡ Some (bad Word)
unfolding command_of_line
not_known = refl

-- a write, a fault, a read of it, a flush, and a part of a line that stopped the run
abbrev some_commands : List Command
some_commands = write 5 (171 ∷ []) ∷ read 5 ∷ read 5 ∷ flush ∷ read 6 ∷ quit ∷ []

abbrev some_output : List ℕ
some_output = codes "new\nfault flash\nhit ab\nflushed 2\nstopped fl"

-- the fault answers no reference
takes : taken some_commands some_output ≡ write 5 (171 ∷ []) ∷ read 5 ∷ []
takes = refl

acknowledges : acknowledged 0 some_output ≡ 2
acknowledges = refl

-- a line that isn't whole acknowledges nothing, and neither does another word
cut_flush : acknowledged 0 (codes "new\nflushed 1") ≡ 0
cut_flush = refl

other_word : acknowledged 0 (codes "flushed\nflushed x\nbyebye 7\nflushed 3 4\n") ≡ 0
other_word = refl

greatest : acknowledged 4 (codes "flushed 7\nbye 12\n") ≡ 12
greatest = refl

-- the scripts of docs/script.md, and their outputs
abbrev sizes : Sizes
sizes = record { block = 16; blocks = 8; acap = 3; bcap = 2 }

abbrev text : List (List ℕ) → List ℕ
text lines = flat_map ended lines

abbrev empty_disk : State
empty_disk = fresh (replicate 8 (replicate 16 0))

served : output first_byte sizes empty_disk (dialect_of sizes)
    (text (codes "w 3 aB01" ∷ codes "w 4 AB01" ∷ codes "w 3" ∷ codes "w 3 abc" ∷ codes "w 8 abc" ∷ codes "w 3 abc 1" ∷ codes "d 3" ∷ codes "d 3 00" ∷ codes "f 1" ∷ codes "f" ∷ codes "c" ∷ codes "t" ∷ codes "q" ∷ codes "r 3" ∷ []))
    ≡ text (codes "new" ∷ codes "dup" ∷ codes "bad data" ∷ codes "bad data" ∷ codes "bad address" ∷ codes "bad data" ∷ codes "dup" ∷ codes "bad rest" ∷ codes "bad rest" ∷ codes "flushed 3" ∷ codes "cleaned" ∷ codes "ticked" ∷ codes "bye 3" ∷ [])
unfolding command_of_line digits encode_with decode_pairs read_text write_text block_text
served = refl

replayed : output first_byte sizes empty_disk (reading_dialect_of sizes)
    (codes "# a day\n\tr   007\nr 8\nr\nr 1 2\nread 1\nr -1\nw 1 ab\nq now\nq")
    ≡ text (codes "join 00" ∷ codes "bad address" ∷ codes "bad address" ∷ codes "bad rest" ∷ codes "bad word" ∷ codes "bad address" ∷ codes "bad word" ∷ codes "bad rest" ∷ codes "bye 1" ∷ [])
unfolding command_of_line digits encode_with decode_pairs read_text write_text block_text
replayed = refl

-- two writes that drop a block and an address
dropped : output first_byte sizes empty_disk (dialect_of sizes) (codes "w 4 aa\nw 5 bb\nw 6 cc\nr 4\nw 7 bb\nq\n")
    ≡ codes "new\nnew\nnew drop aa00000000000000\nmiss aa drop bb00000000000000\nnew out 5 drop cc00000000000000\nbye 5\n"
unfolding command_of_line digits encode_with decode_pairs read_text write_text block_text
dropped = refl

-- faults that leave the state, and a part of the line of a run that stopped
faulty : Answers first_byte sizes empty_disk (read 0 ∷ clean ∷ read 0 ∷ quit ∷ []) (codes "fault disk\nfault flash\njoin 00\nstopped fl")
unfolding digits encode_with read_text block_text
faulty = inl (inr (inr refl), inl (inr refl, inl (inl refl, inr (codes "stopped flash", codes "ash", inr (stop.Flash, refl), refl))))
