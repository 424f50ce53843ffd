-- What `serve` writes on standard output (COMMANDS.md, "The report"; this project's choice).
use Rattle.std.specs.Prelude.{ℕ, ◌+◌, Bool, List, [], ◌∷◌, ◌++◌, Option, codes, if◌then◌else◌}
use Rattle.std.specs.Fmt.{decimal}
use Rattle.std.specs.Io.KnownBytes.{Appends}
use Rattle.office_lines.specs.declared.tally.Tally.{Tally}

-- a name, a number, and what comes behind them
abbrev pub told : List ℕ → ℕ → List ℕ → List ℕ
told name number later = name ++ (decimal number ++ later)

-- how many touches were found in the journal
abbrev pub opened_line : ℕ → List ℕ
opened_line opened = told (codes "opened ") opened (codes "\n")

-- what a gate line's sessions came to
abbrev pub tally_line : ℕ → Tally → List ℕ
tally_line line tally =
    told (codes "line ") line
    (told (codes " connections ") tally.connections
    (told (codes " requests ") tally.requests
    (told (codes " answers ") tally.answers (codes "\n"))))

-- how many entries the history has; an office whose disk failed is halted
abbrev pub end_line : Bool → ℕ → List ℕ
end_line halted entries =
    told (if halted then codes "halted " else codes "closed ") entries (codes "\n")

-- the lines of these gate lines, one behind the other, with their numbers from this one on
abbrev pub tally_lines : ℕ → List Tally → List ℕ
tally_lines line [] = []
tally_lines line (tally ∷ tallies) = tally_line line tally ++ tally_lines (line + 1) tallies

-- all that is told at the end: each gate line, counted from 1, and then the history
abbrev pub report_text : List Tally → Bool → ℕ → List ℕ
report_text tallies halted entries = tally_lines 1 tallies ++ end_line halted entries

-- a writer has all that is told of an office which found so many touches, from the first line to
-- the last, which says whether it is halted
pub record IsTold (opened : ℕ) (halted : Bool) (before after : Option (List ℕ)) : Type 0 where
  pub tallies : List Tally
  pub entries : ℕ
  pub appends : Appends before after (opened_line opened ++ report_text tallies halted entries)
