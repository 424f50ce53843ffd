-- Which touch is ahead of those of all other gates, by their fare days (FAULTS.md, "A gate
-- that is ahead"; this project's choice). Lists of touches have the last one first.
use Rattle.std.specs.Prelude.{◌≡◌, ◌+◌, ℕ, not, nat_eq, nat_lt, List, [], ◌∷◌, Option, Some, None}
use Rattle.std.specs.Prelude.{filter, if◌then◌else◌}
use Rattle.office_lines.specs.declared.days.GateDay.{GateDay}
use Rattle.office_lines.specs.declared.days.Days.{Days}
use Rattle.office_lines.specs.declared.days.TheConstants.{MOST_AHEAD}

-- the later one of two touches, and of one day the first
abbrev pub later : Option GateDay → GateDay → GateDay
later None touch = touch
later (Some before) touch = if nat_lt before.day touch.day then touch else before

-- the first touch of the latest fare day
abbrev pub latest : List GateDay → Option GateDay
latest [] = None
latest (touch ∷ earlier) = Some (later (latest earlier) touch)

-- the touches of other gates than this one
abbrev pub of_others : ℕ → List GateDay → List GateDay
of_others gate touches = filter (λ touch. not (nat_eq touch.gate gate)) touches

-- the same of all gates but that of the latest
abbrev pub beside : Option GateDay → List GateDay → Option GateDay
beside None touches = None
beside (Some first) touches = latest (of_others first.gate touches)

-- a touch is ahead that is above the latest one of all other gates by more than is taken for usual
abbrev pub ahead_of : Option GateDay → Option GateDay → Option GateDay
ahead_of None second = None
ahead_of (Some first) None = None
ahead_of (Some first) (Some second) =
    if nat_lt (second.day + MOST_AHEAD) first.day then Some first else None

-- the touch that is ahead among these, if there is one
abbrev pub ahead_in : List GateDay → Option GateDay
ahead_in touches = ahead_of (latest touches) (beside (latest touches) touches)

-- these are the days of the touches
pub record AreDaysOf (days : Days) (touches : List GateDay) : Type 0 where
  pub first : days.first ≡ latest touches
  pub second : days.second ≡ beside (latest touches) touches
