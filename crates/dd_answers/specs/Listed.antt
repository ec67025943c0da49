-- What rows say of both lists.
use Rattle.std.specs.Prelude.{ℕ, List, map}
use Rattle.dd_record.specs.Table.{is_link}
use Rattle.dd_record.specs.declared.row.ARow.{ARow}
use Rattle.dd_record.specs.declared.row.BRow.{BRow}
use Rattle.dd_model.specs.Rows.{entry_of}
use Rattle.dd_script.specs.Text.{address_text, print_text, lists_text}

-- a listed address, and a listed block
abbrev pub a_entry : ARow → List ℕ
a_entry row = address_text row.address (is_link row.link)

abbrev pub b_entry : BRow → List ℕ
b_entry row = print_text row.fp

-- the line of both lists
abbrev pub rows_text : List ARow → List BRow → List ℕ
rows_text a b = lists_text (map entry_of a) (map (λ row. row.fp) b)
