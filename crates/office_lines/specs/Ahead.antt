-- What is told of accepted touches that are ahead (FAULTS.md, "A gate that is ahead"; this
-- project's choice). Lists of touches have the last one first.
use Rattle.std.specs.Prelude.{◌≡◌, ◌<◌, ℕ, Bool, false, nat_eq, List, [], ◌∷◌, ◌++◌, Option, Some}
use Rattle.std.specs.Prelude.{None, slice_index_or, option_to_list, if◌then◌else◌}
use Rattle.std.specs.List.{list_any}
use Rattle.office_lines.specs.declared.days.GateDay.{GateDay}
use Rattle.office_lines.specs.declared.ahead.Ahead.{Ahead}
use Rattle.office_lines.specs.declared.ahead.TheConstants.{GATES}
use Rattle.office_lines.specs.Days.{AreDaysOf, ahead_in}

-- the gate is one of these touches'
abbrev pub is_named : ℕ → List GateDay → Bool
is_named gate touches = list_any (λ touch. nat_eq touch.gate gate) touches

-- a touch that is ahead is told, where its gate wasn't told before
abbrev pub told_beside : List GateDay → Option GateDay → Option GateDay
told_beside told None = None
told_beside told (Some ahead) = if is_named ahead.gate told then None else Some ahead

-- all that is told of these touches, one after the other
abbrev pub told : List GateDay → List GateDay
told [] = []
told (touch ∷ earlier) =
    option_to_list (told_beside (told earlier) (ahead_in (touch ∷ earlier))) ++ told earlier

-- what is told at a touch behind these
abbrev pub told_at : List GateDay → GateDay → Option GateDay
told_at earlier touch = told_beside (told earlier) (ahead_in (touch ∷ earlier))

-- these touches were seen, and what is told of them was told
pub record StandsFor (ahead : Ahead) (touches : List GateDay) : Type 0 where
  pub days : AreDaysOf ahead.days touches
  pub told : (gate : ℕ) → gate < GATES
      → slice_index_or ahead.told.items gate false ≡ is_named gate (told touches)
