-- What references come to: how many there are of each kind, and how many addresses and blocks fall off.
use Rattle.std.specs.Prelude.{ℕ, ◌+◌, ◌<◌, Bool, List, [], ◌∷◌, is_some}
use Rattle.std.specs.Int.{from_bool}
use Rattle.dd_model.specs.declared.kind.Kind.{Kind}
use Rattle.dd_model.specs.declared.kind.Kind.TheVariants.{Hit, Join, Miss, Dup, New}
use Rattle.dd_model.specs.State.{Sizes, State}
use Rattle.dd_model.specs.Reference.{Answer, read_answer, write_answer}
use Rattle.dd_script.specs.Command.{Command, read, write, after}
use Rattle.dd_script.specs.declared.reply.Sums.{Sums}

abbrev pub no_sums : Sums
no_sums = record { hits = 0; joins = 0; misses = 0; dups = 0; news = 0; outs = 0; drops = 0 }

-- one more of a kind
abbrev pub with_kind : Kind → Sums → Sums
with_kind Hit sums = record sums { hits = sums.hits + 1 }
with_kind Join sums = record sums { joins = sums.joins + 1 }
with_kind Miss sums = record sums { misses = sums.misses + 1 }
with_kind Dup sums = record sums { dups = sums.dups + 1 }
with_kind New sums = record sums { news = sums.news + 1 }

-- and one more that fell off each list, where one did
abbrev pub with_cut : (out drop : Bool) → Sums → Sums
with_cut out drop sums = record sums { outs = sums.outs + from_bool out; drops = sums.drops + from_bool drop }

-- one reference more
abbrev pub counted : Answer → Sums → Sums
counted answer sums = with_cut (is_some answer.out) (is_some answer.drop) (with_kind answer.kind sums)

-- one command more, in a state: a reference counts, and no other command does
abbrev pub counted_by : Sizes → State → Command → Sums → Sums
counted_by sizes s (read address) sums = counted (read_answer sizes s address) sums
counted_by sizes s (write address block) sums = counted (write_answer sizes s address block) sums
counted_by sizes s command sums = sums

-- what commands come to, one after the other
abbrev pub sums_of : Sizes → State → List Command → Sums → Sums
sums_of sizes s [] sums = sums
sums_of sizes s (command ∷ commands) sums = sums_of sizes (after sizes s command) commands (counted_by sizes s command sums)

-- each count is below a number
abbrev pub AreBelow : ℕ → Sums → Type 0
AreBelow n sums = (sums.hits < n) × (sums.joins < n) × (sums.misses < n) × (sums.dups < n) × (sums.news < n) × (sums.outs < n) × (sums.drops < n)
