-- Journeys and incomplete touches whose fare days fall, and the days on which they are.
use Rattle.std.specs.Prelude.{ℕ, ◌+◌, ℤ, ◌≤ℤ◌, ◌<ℤ◌, List, [], ◌∷◌, if◌then◌else◌, Option, Some}
use Rattle.std.specs.Prelude.{None}
use Rattle.std.specs.Int.{int_max}
use Rattle.std.specs.Ordering.{int_eq}
use Rattle.oyster_account.specs.declared.journey.Journey.{Journey}
use Rattle.oyster_account.specs.Journey.{journey_day}
use Rattle.card_statement.specs.declared.statement.Incomplete.{Incomplete}
use Rattle.card_statement.specs.Incomplete.{incomplete_day}

-- none of these is of a later day than this one, nor than one before it in the list
abbrev pub AreUpTo : {X : Type 0} → (X → ℤ) → ℤ → List X → Type 0
AreUpTo day_of day [] = Unit {0}
AreUpTo day_of day (x ∷ xs) = (day_of x ≤ℤ day) × AreUpTo day_of (day_of x) xs

-- none of these is of a later day than one before it
abbrev pub AreFalling : {X : Type 0} → (X → ℤ) → List X → Type 0
AreFalling day_of [] = Unit {0}
AreFalling day_of (x ∷ xs) = AreUpTo day_of (day_of x) xs

-- each of these days is before this one, and before those in front of it
abbrev pub AreBefore : ℤ → List ℤ → Type 0
AreBefore day [] = Unit {0}
AreBefore day (earlier ∷ days) = (earlier <ℤ day) × AreBefore earlier days

-- each of these days is before those in front of it
abbrev pub AreDaysFalling : List ℤ → Type 0
AreDaysFalling [] = Unit {0}
AreDaysFalling (day ∷ days) = AreBefore day days

-- how many at the front are of this day
abbrev pub run_length : {X : Type 0} → (X → ℤ) → ℤ → List X → ℕ
run_length day_of day [] = 0
run_length day_of day (x ∷ xs) =
    if int_eq (day_of x) day then 1 + run_length day_of day xs else 0

-- the later one of the days of the first journey and of the first incomplete touch
abbrev pub latest : List Journey → List Incomplete → Option ℤ
latest [] [] = None
latest [] (touch ∷ missed) = Some (incomplete_day touch)
latest (journey ∷ made) [] = Some (journey_day journey)
latest (journey ∷ made) (touch ∷ missed) =
    Some (int_max (journey_day journey) (incomplete_day touch))
