-- The row of a fare day on a statement (FARES.md, "Statement"; this project's choice). Lists
-- are newest first.
use Rattle.std.specs.Prelude.{ℕ, ℤ, ◌+◌, List, [], ◌∷◌, map, filter, sum_by, Bool, ◌||◌, Option}
use Rattle.std.specs.Prelude.{None}
use Rattle.fare_table.specs.declared.rows.Cap.{Cap}
use Rattle.oyster_account.specs.declared.journey.Journey.{Journey}
use Rattle.card_statement.specs.declared.statement.Incomplete.{Incomplete}
use Rattle.card_statement.specs.declared.statement.JourneyRow.{JourneyRow}
use Rattle.card_statement.specs.declared.statement.Day.{Day}
use Rattle.oyster_account.specs.Scheme.{Scheme}
use Rattle.oyster_account.specs.Travel.{Tap, passage_of, day_of}
use Rattle.oyster_account.specs.Journey.{journeys, journey_day, pence_of}
use Rattle.oyster_account.specs.Charge.{day_charge, on_day, has_day, add_day, caps_on}
use Rattle.card_statement.specs.Incomplete.{incompletes, incomplete_day, pence_missing}
use Rattle.card_statement.specs.Incomplete.{incompletes_on}
use Rattle.card_statement.specs.NamedCap.{applied_cap, is_covered_by}

-- the row of a journey on a day to which this cap applied
abbrev pub journey_row : Option Cap → Journey → JourneyRow
journey_row cap journey = record { journey = journey; covered = is_covered_by cap journey }

-- what the row of a fare day says
pub record DayContent : Type 0 where
  pub day : ℤ
  -- its journeys
  pub journeys : List JourneyRow
  -- the sum of their fares
  pub fares : ℕ
  -- the cap that applied, where one did
  pub cap : Option Cap
  -- what the journeys are charged
  pub charge : ℕ
  -- the touches of the day that miss their other end
  pub incomplete : List Incomplete
  -- the sum of what they are charged
  pub missing : ℕ

-- the row of a fare day, of its journeys and incomplete touches, by the caps in force on it
abbrev pub row_of_day : List Cap → List Journey → List Incomplete → ℤ → DayContent
row_of_day caps made rows day = record {
  day = day;
  journeys = map (journey_row (applied_cap caps made)) made;
  fares = sum_by pence_of made;
  cap = applied_cap caps made;
  charge = day_charge caps made;
  incomplete = rows;
  missing = sum_by pence_missing rows;
}

-- the row of a fare day among these journeys and incomplete touches, with what its journeys are
-- charged
abbrev pub day_row : (ℤ → List Cap) → List Journey → List Incomplete → ℤ → DayContent
day_row caps made rows day =
    row_of_day (caps day) (on_day day made) (incompletes_on day rows) day

-- the fare days of these touches, each once
abbrev pub tap_days : List Tap → List ℤ
tap_days [] = []
tap_days (tap ∷ taps) = add_day (day_of (passage_of tap)) (tap_days taps)

-- a journey or an incomplete touch stands on the fare day
abbrev pub has_row : List Journey → List Incomplete → ℤ → Bool
has_row made rows day = has_day day (map journey_day made) || has_day day (map incomplete_day rows)

-- the fare days of these touches on which something stands, each once
abbrev pub row_days : Scheme → List Tap → List ℤ
row_days scheme taps =
    filter (has_row (journeys scheme taps) (incompletes scheme None taps)) (tap_days taps)

-- the rows of the fare days of this travel
abbrev pub day_rows : Scheme → List Tap → List DayContent
day_rows scheme taps =
    map (day_row (caps_on scheme) (journeys scheme taps) (incompletes scheme None taps))
    (row_days scheme taps)

-- what a row of a fare day charges: its journeys and its incomplete touches
abbrev pub pence_charged : DayContent → ℕ
pence_charged row = row.charge + row.missing

-- what a day of the code says
abbrev pub content_of_day : Day → DayContent
content_of_day day = record {
  day = day.day;
  journeys = day.journeys.items;
  fares = day.fares;
  cap = day.cap;
  charge = day.charge;
  incomplete = day.incomplete.items;
  missing = day.missing;
}
