-- What a table has where something is looked for, and how it is told (FAULTS.md, "The second
-- line"; this project's choice).
use Rattle.std.specs.Prelude.{◌≡◌, ℕ, ◌-◌, ◌==◌, ◌++◌, true, false, List, length, take, slice_get}
use Rattle.std.specs.Prelude.{codes, Option, Some, None, if◌then◌else◌}
use Rattle.std.specs.Fmt.{decimal, signed_decimal}
use Rattle.toml.specs.Data.{Data, string, integer, float, boolean, datetime, array, table, Members}
use Rattle.toml.specs.Data.{get_member}
use Rattle.toml_reading.specs.Tree.{elements_of, items_at}
use Rattle.table_check.specs.Place.{line_behind}
use Rattle.table_check.specs.declared.places.Wanted.{Wanted}
use Rattle.table_check.specs.declared.places.Wanted.TheVariants.{Key, Row, Cell}

-- the row of this number, from 1
abbrev pub row_at : ℕ → List Data → Option Data
row_at row rows = if row == 0 then None else slice_get rows (row - 1)

-- the value at a key of a row, where the row is a table
abbrev pub member_in : List ℕ → Option Data → Option Data
member_in key (Some (table row)) = get_member key row
member_in key _ = None

-- what a table has where this is looked for
abbrev pub value_in : Wanted → Members → Option Data
value_in (Key key) tree = get_member key.now tree
value_in (Row list row) tree = row_at row (items_at list.now tree)
value_in (Cell list row key) tree = member_in key.now (row_at row (items_at list.now tree))

-- the number is that of a line of these bytes
abbrev pub IsLineOf : List ℕ → ℕ → Type 0
IsLineOf bytes line = (at : ℕ) × (line ≡ line_behind (take at bytes))

-- how a value is told in one line. Of a text nothing is said here: its signs are told by
-- `escape_debug`
abbrev pub printed_value : Data → Option (List ℕ)
printed_value (string text) = None
printed_value (integer n) = Some (signed_decimal n)
printed_value (float x) = Some (codes "a number with a decimal point")
printed_value (boolean true) = Some (codes "true")
printed_value (boolean false) = Some (codes "false")
printed_value (datetime date) = Some (codes "a date without quotes")
printed_value (array items) = Some (codes "a list of " ++ decimal (length (elements_of items)))
printed_value (table row) = Some (codes "a table")
