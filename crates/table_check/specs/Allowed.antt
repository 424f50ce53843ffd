-- What may stand where a fault of a fare table is, and how it is told (FAULTS.md, "The second
-- line"; TABLE.md has the keys and their ranges; this project's choice).
use Rattle.std.specs.Prelude.{ℕ, List, [], ◌++◌, codes, Option, Some, None}
use Rattle.std.specs.Fmt.{decimal, signed_decimal}
use Rattle.fare_table.specs.Keys.{text_of}
use Rattle.fare_table.specs.declared.key.Key.{Key}
use Rattle.fare_table.specs.declared.key.Shape.{Shape}
use Rattle.fare_table.specs.declared.key.Shape.TheVariants as shape
use Rattle.table_check.specs.declared.standing.Allowed.{Allowed}
use Rattle.table_check.specs.declared.standing.Allowed.TheVariants.{Whole, Ordered, Truth, Text}
use Rattle.table_check.specs.declared.standing.Allowed.TheVariants.{Name}
use Rattle.table_check.specs.declared.standing.Allowed.TheVariants.{Kind, Zones, Rows, Table}
use Rattle.table_check.specs.declared.standing.Allowed.TheVariants.{Unlike}
use Rattle.table_check.specs.declared.standing.Allowed.TheVariants.{Station, Single, AtMost, Rule}
use Rattle.table_check.specs.declared.standing.Allowed.TheVariants.{Date}

-- what a key of this shape may hold
abbrev pub allowed_by : Shape → Allowed
allowed_by (shape.Whole highest) = Whole 1 highest
allowed_by shape.Truth = Truth
allowed_by shape.Text = Text
allowed_by shape.Name = Name
allowed_by shape.Kind = Kind
allowed_by shape.Zones = Zones
allowed_by (shape.Rows least most) = Rows least most

-- the text of the list whose rows have a key, and none for a key of the table itself
abbrev pub list_text : Option Key → List ℕ
list_text None = []
list_text (Some list) = text_of list

-- what may stand there, in words
abbrev pub printed_allowed : Allowed → List ℕ
printed_allowed (Whole low high) =
    codes "a whole number from " ++ (decimal low ++ (codes " to " ++ decimal high))
printed_allowed (Ordered low high order) =
    codes "a whole number from "
    ++ (decimal low ++ (codes " to " ++ (decimal high ++ (codes ", " ++ order.now))))
printed_allowed Truth = codes "true or false"
printed_allowed Text = codes "a text"
printed_allowed Name = codes "a text of 1 to 64 bytes"
printed_allowed Kind = codes "\"anytime\" or \"off-peak\""
printed_allowed Zones = codes "one zone from 1 to 9, or two in ascending order"
printed_allowed (Rows least most) =
    codes "a list of " ++ (decimal least ++ (codes " to " ++ decimal most))
printed_allowed Table = codes "a table"
printed_allowed (Unlike row) = codes "row " ++ (decimal row ++ codes " names the same")
printed_allowed Station = codes "the number of a station of the table"
printed_allowed (Single low high) =
    codes "one of low " ++ (decimal low ++ (codes " and high " ++ decimal high))
printed_allowed (AtMost key most) =
    codes "at most " ++ (key.now ++ (codes ", " ++ signed_decimal most))
printed_allowed Rule = codes "a POSIX TZ rule, as \"GMT0BST,M3.5.0/1,M10.5.0\""
printed_allowed Date = codes "a date of the calendar, as \"2025-12-25\""
