-- When it is told that gates wait while all lines are taken (FAULTS.md, "What a running server
-- prints"; this project's choice). A look is true where a gate waited then; lists of looks have the
-- last one first.
use Rattle.std.specs.Prelude.{◌≡◌, ℕ, Bool, true, false, List, [], ◌∷◌, Option, Some, None}
use Rattle.office_lines.specs.declared.looks.Looks.{Looks}
use Rattle.office_lines.specs.declared.notice.Notice.{Notice}
use Rattle.office_lines.specs.declared.notice.Notice.TheVariants.{AllTaken, Free}

-- whether a gate waited at the last look
abbrev pub waited : List Bool → Bool
waited [] = false
waited (look ∷ looks) = look

-- all lines are taken where a gate waited at the last two looks
abbrev pub are_taken : List Bool → Bool
are_taken (true ∷ true ∷ looks) = true
are_taken looks = false

-- it is told when all lines are taken that weren't before, and when they aren't any more
abbrev pub turn : Bool → Bool → ℕ → Option Notice
turn false true lines = Some (AllTaken lines)
turn true false lines = Some Free
turn before after lines = None

-- what is told at a look behind these
abbrev pub told_at_look : List Bool → Bool → ℕ → Option Notice
told_at_look looks look lines = turn (are_taken looks) (are_taken (look ∷ looks)) lines

-- this was found at these looks
pub record AreLooks (found : Looks) (looks : List Bool) : Type 0 where
  pub waited : found.waited ≡ waited looks
  pub taken : found.taken ≡ are_taken looks
