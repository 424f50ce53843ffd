-- What stands behind the fault of a journal: the two values that differ, or the table that is
-- missing (FAULTS.md, "The second line"; this project's choice).
use Rattle.std.specs.Prelude.{ℕ, List, ◌++◌, Bool, if◌then◌else◌, codes}
use Rattle.std.specs.Fmt.{decimal}
use Rattle.hex.specs.Hex.{encode_lower}

-- the journal was made with the table of the first digest, and the file that was named has the
-- second
abbrev pub other_table : List ℕ → List ℕ → List ℕ → List ℕ
other_table made file given =
    codes "made with the table "
    ++ (encode_lower made ++ (codes ", and " ++ (file ++ (codes " is " ++ encode_lower given))))

-- the journal was made with the first number of cards, and the second was given
abbrev pub other_cards : ℕ → ℕ → List ℕ
other_cards made given =
    codes "made with " ++ (decimal made ++ (codes " cards, not " ++ decimal given))

-- how a revision was judged
abbrev pub judged : Bool → List ℕ
judged accepted = if accepted then codes "accepted" else codes "refused"

-- no file has the table of this digest; the revision to it names this day, and was judged so
abbrev pub missing_table : List ℕ → List ℕ → Bool → List ℕ
missing_table digest day accepted =
    codes "no file has the table "
    ++ (encode_lower digest
    ++ (codes "; its revision from " ++ (day ++ (codes " was " ++ judged accepted))))
