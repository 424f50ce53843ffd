-- What one table says otherwise than another, a line for each place (COMMANDS.md, "check";
-- this project's choice).
use Rattle.std.specs.Prelude.{ℕ, List, [], ◌∷◌, ◌++◌, codes, string_bytes, Option, Some, None}
use Rattle.std.specs.Prelude.{if◌then◌else◌, Bool, true, false}
use Rattle.std.specs.Str.{bytes_eq}
use Rattle.table_check.specs.declared.changes.TheConstants.{NOTHING}
use Rattle.table_check.specs.declared.reading.Said.{Said}

-- the place of what is said
abbrev pub place_of : Said → List ℕ
place_of said = string_bytes said.place

-- the value there
abbrev pub value_of : Said → List ℕ
value_of said = string_bytes said.value

-- the value at a place, where something is said of it
abbrev pub value_among : List ℕ → List Said → Option (List ℕ)
value_among place [] = None
value_among place (one ∷ others) =
    if bytes_eq (place_of one) place then Some (value_of one) else value_among place others

-- something is said of a place
abbrev pub is_said : Option (List ℕ) → Bool
is_said None = false
is_said (Some value) = true

abbrev pub is_among : List ℕ → List Said → Bool
is_among place said = is_said (value_among place said)

-- the line of a place, with both values
abbrev pub line_of : List ℕ → List ℕ → List ℕ → List ℕ
line_of place old new = place ++ (codes ": " ++ (old ++ (codes " -> " ++ (new ++ codes "\n"))))

-- the line of what is said of a place, where nothing is said of that place before it
abbrev pub first_line_of : List Said → List ℕ → List ℕ → List ℕ → List ℕ
first_line_of before place old new =
    if is_among place before then [] else line_of place old new

-- the line of what the old table says behind this, where the new one says something else, by what
-- that is
abbrev pub line_by : List Said → Said → Option (List ℕ) → List ℕ
line_by before said None = first_line_of before (place_of said) (value_of said) NOTHING.now
line_by before said (Some value) =
    if bytes_eq value (value_of said) then []
    else first_line_of before (place_of said) (value_of said) value

abbrev pub line_if_other : List Said → List Said → Said → List ℕ
line_if_other new before said = line_by before said (value_among (place_of said) new)

-- the line of what the new table says behind this, where the old one says nothing
abbrev pub new_line_by : List Said → Said → Option (List ℕ) → List ℕ
new_line_by before said None = first_line_of before (place_of said) NOTHING.now (value_of said)
new_line_by before said (Some value) = []

abbrev pub line_if_new : List Said → List Said → Said → List ℕ
line_if_new old before said = new_line_by before said (value_among (place_of said) old)

-- the lines of what a table says, by that and by what it says before, where this was said already
abbrev pub lines_by : (List Said → Said → List ℕ) → List Said → List Said → List ℕ
lines_by line before [] = []
lines_by line before (said ∷ others) =
    line before said ++ lines_by line (before ++ said ∷ []) others

-- the lines of the places of the old table, in its order, one for each place
abbrev pub lines_of_old : List Said → List Said → List ℕ
lines_of_old new old = lines_by (line_if_other new) [] old

-- the lines of the places that the new table alone has, one for each place
abbrev pub lines_of_new : List Said → List Said → List ℕ
lines_of_new old new = lines_by (line_if_new old) [] new

-- all differences of the two
abbrev pub changes_of : List Said → List Said → List ℕ
changes_of old new = lines_of_old new old ++ lines_of_new old new
