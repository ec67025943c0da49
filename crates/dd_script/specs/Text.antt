-- The text of each line of output, without its LF.
use Rattle.std.specs.Prelude.{◌≡◌, ℕ, ◌==◌, Bool, false, if◌then◌else◌, List, [], ◌∷◌, ◌++◌, take, Option, Some, None, option_map, codes, decimal}
use Rattle.std.specs.List.{flat_map}
use Rattle.hex.specs.Hex.{encode_lower}
use Rattle.dd_block.specs.declared.print.Fp.{Fp}
use Rattle.dd_block.specs.Text.{block_text}
use Rattle.dd_block.specs.declared.geometry.GeometryFault.{GeometryFault}
use Rattle.dd_block.specs.declared.geometry.GeometryFault.TheVariants as number
use Rattle.dd_layout.specs.declared.superblock.SuperFault.{SuperFault}
use Rattle.dd_layout.specs.declared.superblock.SuperFault.TheVariants as super
use Rattle.dd_rig.specs.declared.device.Dev.{Dev}
use Rattle.dd_rig.specs.declared.device.Dev.TheVariants as dev
use Rattle.dd_model.specs.State.{Entry}
use Rattle.dd_model.specs.declared.kind.Kind.{Kind}
use Rattle.dd_model.specs.declared.kind.Kind.TheVariants.{Hit, Join, Miss, Dup, New}
use Rattle.dd_script.specs.declared.line.BadKind.{BadKind}
use Rattle.dd_script.specs.declared.line.BadKind.TheVariants as bad
use Rattle.dd_script.specs.declared.reply.Stop.{Stop}
use Rattle.dd_script.specs.declared.reply.Stop.TheVariants as stop
use Rattle.dd_script.specs.declared.reply.Refusal.{Refusal}
use Rattle.dd_script.specs.declared.reply.Refusal.TheVariants as refusal
use Rattle.dd_script.specs.declared.reply.Reply.{Reply}
use Rattle.dd_script.specs.declared.reply.Reply.TheVariants as reply
use Rattle.dd_script.specs.declared.reply.Sums.{Sums}

-- bytes that each line of output fits, its LF included
abbrev pub reply_room : ℕ
reply_room = 8448

-- no byte of a line is an LF
abbrev pub HasNoEnd : List ℕ → Type 0
HasNoEnd [] = Unit {0}
HasNoEnd (b ∷ bytes) = ((b == 10) ≡ false) × HasNoEnd bytes

-- a line and its LF
abbrev pub ended : List ℕ → List ℕ
ended line = line ++ 10 ∷ []

abbrev pub kind_word : Kind → List ℕ
kind_word Hit = codes "hit"
kind_word Join = codes "join"
kind_word Miss = codes "miss"
kind_word Dup = codes "dup"
kind_word New = codes "new"

abbrev pub out_text : Option ℕ → List ℕ
out_text None = []
out_text (Some address) = codes " out " ++ decimal address

-- the first sixteen digits of a fingerprint
abbrev pub drop_text : Option Fp → List ℕ
drop_text None = []
drop_text (Some fp) = codes " drop " ++ encode_lower (take 8 fp.0)

-- the reply to a read: its kind, the block, and what fell off the lists
unfoldable pub read_text : Kind → List ℕ → Option ℕ → Option Fp → List ℕ
read_text kind block out drop = kind_word kind ++ codes " " ++ block_text block ++ out_text out ++ drop_text drop

-- the reply to a write
unfoldable pub write_text : Kind → Option ℕ → Option Fp → List ℕ
write_text kind out drop = kind_word kind ++ out_text out ++ drop_text drop

abbrev pub flushed_text : ℕ → List ℕ
flushed_text count = codes "flushed " ++ decimal count

abbrev pub cleaned_text : List ℕ
cleaned_text = codes "cleaned"

abbrev pub ticked_text : List ℕ
ticked_text = codes "ticked"

-- a listed address, with a dash behind it where it is unlinked
abbrev pub address_text : (address : ℕ) → (linked : Bool) → List ℕ
address_text address linked = codes " " ++ decimal address ++ (if linked then [] else codes "-")

-- the first sixteen digits of the fingerprint of a listed block
abbrev pub print_text : Fp → List ℕ
print_text fp = codes " " ++ encode_lower (take 8 fp.0)

-- both lists, the most recently referenced first
abbrev pub lists_text : List Entry → List Fp → List ℕ
lists_text entries prints = codes "A" ++ flat_map (λ entry. address_text entry.address entry.linked) entries ++ codes " B" ++ flat_map print_text prints

-- how many references there were, how many listed addresses are unlinked, and how many listed blocks no linked address has
abbrev pub stat_text : (count addresses blocks : ℕ) → List ℕ
stat_text count addresses blocks = codes "stat n " ++ decimal count ++ codes " addresses " ++ decimal addresses ++ codes " blocks " ++ decimal blocks

-- a count behind its word
abbrev pub counted_text : (words : List ℕ) → (count : ℕ) → List ℕ
counted_text words count = words ++ decimal count

-- how many references there were of each kind, and how many addresses and blocks fell off
abbrev pub sum_text : Sums → List ℕ
sum_text sums =
    counted_text (codes "sum hit ") sums.hits ++ counted_text (codes " join ") sums.joins ++ counted_text (codes " miss ") sums.misses ++ counted_text (codes " dup ") sums.dups
    ++ counted_text (codes " new ") sums.news ++ counted_text (codes " out ") sums.outs ++ counted_text (codes " drop ") sums.drops

abbrev pub bad_text : BadKind → List ℕ
bad_text bad.Long = codes "bad long"
bad_text bad.Word = codes "bad word"
bad_text bad.Address = codes "bad address"
bad_text (bad.Text fault) = codes "bad data"
bad_text bad.Rest = codes "bad rest"

abbrev pub fault_text : Dev → List ℕ
fault_text dev.Flash = codes "fault flash"
fault_text dev.Disk = codes "fault disk"

abbrev pub bye_text : ℕ → List ℕ
bye_text count = codes "bye " ++ decimal count

abbrev pub stop_text : Stop → List ℕ
stop_text stop.Flash = codes "stopped flash"
stop_text stop.Disk = codes "stopped disk"
stop_text stop.Script = codes "stopped script"
stop_text stop.Length = codes "stopped length"
stop_text stop.Memory = codes "stopped memory"

-- a device has fewer bytes than it needs
abbrev pub small_text : List ℕ → ℕ → ℕ → List ℕ
small_text device need have = codes "refused " ++ device ++ codes " small " ++ decimal need ++ codes " " ++ decimal have

-- a number of a geometry is out of its range
abbrev pub number_text : GeometryFault → List ℕ
number_text (number.Block value) = codes "block " ++ decimal value
number_text (number.Blocks value) = codes "blocks " ++ decimal value
number_text (number.Acap value) = codes "acap " ++ decimal value
number_text (number.Bcap value) = codes "bcap " ++ decimal value
number_text (number.Spare value) = codes "spare " ++ decimal value
number_text (number.Group value) = codes "group " ++ decimal value
number_text (number.Log value) = codes "log " ++ decimal value

-- the check that a superblock breaks
abbrev pub super_fault_text : SuperFault → List ℕ
super_fault_text (super.Gate value) = codes "gate " ++ decimal value
super_fault_text super.Magic = codes "magic"
super_fault_text (super.Version value) = codes "version " ++ decimal value
super_fault_text (super.Geometry fault) = codes "geometry " ++ number_text fault
super_fault_text (super.Padding at) = codes "padding " ++ decimal at

-- a place of a region
abbrev pub place_text : (region at : ℕ) → List ℕ
place_text region at = decimal region ++ codes " " ++ decimal at

abbrev pub refusal_text : Refusal → List ℕ
refusal_text refusal.Words = codes "refused words"
refusal_text (refusal.FlashSmall need have) = small_text (codes "flash") need have
refusal_text (refusal.DiskSmall need have) = small_text (codes "disk") need have
refusal_text refusal.InUse = codes "refused in use"
refusal_text (refusal.Super fault) = codes "refused super " ++ super_fault_text fault
refusal_text refusal.NoRegion = codes "refused no region"
refusal_text (refusal.Snapshot region at) = codes "refused snapshot " ++ place_text region at
refusal_text (refusal.Group region at) = codes "refused group " ++ place_text region at
refusal_text (refusal.Worn value) = codes "refused worn " ++ decimal value
refusal_text refusal.Version1 = codes "refused version 1"

-- the line of a reply
abbrev pub reply_text : Reply → List ℕ
reply_text (reply.Write done) = write_text done.kind done.cut.out (option_map (λ row. row.fp) done.cut.drop)
reply_text (reply.Flushed count) = flushed_text count
reply_text reply.Cleaned = cleaned_text
reply_text reply.Ticked = ticked_text
reply_text (reply.Stat count orphans) = stat_text count orphans.a orphans.b
reply_text (reply.Bad kind) = bad_text kind
reply_text (reply.Fault device) = fault_text device
reply_text (reply.Bye count) = bye_text count
reply_text (reply.Stopped why) = stop_text why
reply_text (reply.Refused why) = refusal_text why
reply_text reply.Formatted = codes "formatted"
reply_text (reply.Sum sums) = sum_text sums
