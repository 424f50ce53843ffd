-- Worked statements, computed by the definitions: those of FARES.md, "Statement", and of the touches of its
-- "Worked examples".
use Rattle.std.proofs.Common.{◌≡◌, refl, ℕ, ℤ, pos, ◌+◌, ◌*◌, ◌++◌, true, false, Bool, List, [], ◌∷◌}
use Rattle.std.proofs.Common.{reverse, Option, Some, None}
use Rattle.std.specs.Prelude.{◌/◌, ◌%◌}
use Rattle.jiff_core.specs.Calendar.{weekday_number}
use Rattle.jiff_tz.specs.declared.timezone.TimeZone.{TimeZone}
use Rattle.money_time.specs.declared.stamp.Stamp.{Stamp}
use Rattle.money_time.specs.Stamp.{fare_day_of, window_of}
use Rattle.fare_table.specs.Fare.{Content}
use Rattle.fare_table.specs.declared.fare.Fare.{Fare}
use Rattle.fare_table.specs.declared.rows.Cap.{Cap}
use Rattle.fare_table.specs.declared.rows.Single.{Single}
use Rattle.fare_table.specs.declared.station.Station.{Station}
use Rattle.fare_table.specs.declared.station.Zones.{Zones}
use Rattle.fare_table.specs.declared.station.Zones.TheVariants.{One, Two}
use Rattle.oyster_account.specs.declared.touch.Act.{Act}
use Rattle.oyster_account.specs.declared.touch.Act.TheVariants.{Enter, Leave, TopUp, Issue}
use Rattle.oyster_account.specs.declared.travel.Passage.{Passage}
use Rattle.oyster_account.specs.Scheme.{Scheme, terms_of}
use Rattle.card_statement.specs.declared.statement.Reason.{Reason}
use Rattle.card_statement.specs.declared.statement.Reason.TheVariants.{Open, EnteredOver, NotLeftInTime, Late}
use Rattle.card_statement.specs.declared.statement.Reason.TheVariants.{Unstarted}
use Rattle.card_statement.specs.declared.statement.Incomplete.{Incomplete}
use Rattle.card_statement.specs.declared.statement.JourneyRow.{JourneyRow}
use Rattle.card_statement.specs.Day.{DayContent}
use Rattle.card_statement.specs.Statement.{StatementContent, statement_of}

abbrev station : ℕ → Zones → Station
station id zones = record { id = id; name = []; zones = zones }

abbrev single : ℕ → ℕ → ℕ → ℕ → Single
single low high peak off_peak =
    record { low = low; high = high; peak = peak; off_peak = off_peak }

-- the content of the example table, but for the stations' names
abbrev example : TimeZone → Content
example zone = record {
  zone = zone;
  rates = record {
    entry_minimum = 190;
    balance_limit = 9000;
    leg_minutes = 90;
    evening_rule = true;
    maximum_peak = 900;
    maximum_off_peak = 700;
  };
  holidays = pos 20447 ∷ [];
  stations =
      station 1 (One 1) ∷ station 2 (One 2) ∷ station 3 (One 3) ∷ station 4 (One 1)
      ∷ station 5 (Two 2 3) ∷ [];
  singles =
      single 1 1 300 250 ∷ single 1 2 350 290 ∷ single 1 3 400 310 ∷ single 2 2 210 190
      ∷ single 2 3 240 210 ∷ single 3 3 210 190 ∷ [];
  pairs =
      record { from = 2; to = 4; lo = 2; hi = 2; peak = 230; off_peak = 200; minutes = None } ∷ [];
  caps =
      record { lo = 1; hi = 2; off_peak = false; price = 850 }
      ∷ record { lo = 1; hi = 3; off_peak = false; price = 1000 }
      ∷ record { lo = 1; hi = 2; off_peak = true; price = 600 } ∷ [];
  interchanges = record { a = 1; b = 4; minutes = 10 } ∷ [];
}

-- the stamps of its zone in winter, when its clock shows UTC: all moments here lie in January
abbrev winter_stamp : ℕ → Stamp
winter_stamp moment =
    let day : ℤ = pos (moment / 86_400) in
    let minute : ℕ = (moment % 86_400) / 60 in
    record {
      moment = moment;
      day = fare_day_of day minute;
      minute = minute;
      window = window_of (pos 20447 ∷ []) day minute;
    }

-- the example table in force on all days
abbrev example_scheme : TimeZone → Scheme
example_scheme zone = record { stamp = winter_stamp; on = λ _. terms_of (example zone) }

-- a card that was issued with 2000 pence
abbrev with_2000 : List Act
with_2000 = TopUp 2000 0 ∷ Issue 0 ∷ []

-- an hour and a minute on Monday 2025-01-06; from 24 on the hours are those of the Tuesday
abbrev monday : ℕ → ℕ → ℕ
monday hour minute = 1_736_121_600 + hour * 3_600 + minute * 60

-- a passage, a fare, and the rows
abbrev at : ℕ → ℕ → Passage
at station moment = record { station = station; stamp = winter_stamp moment }

abbrev fare : ℕ → ℕ → ℕ → Fare
fare pence lo hi = record { pence = pence; lo = lo; hi = hi; off_peak = false }

abbrev journey_row : Passage → Passage → Fare → Bool → JourneyRow
journey_row start finish fare covered =
    record { journey = record { start = start; finish = finish; fare = fare }; covered = covered }

abbrev incomplete : Passage → Reason → ℕ → Incomplete
incomplete touch reason pence = record { touch = touch; reason = reason; pence = pence }

abbrev day_of_rows : ℤ → List JourneyRow → ℕ → Option Cap → ℕ → List Incomplete → ℕ → DayContent
day_of_rows day journeys fares cap charge incomplete missing = record {
  day = day;
  journeys = journeys;
  fares = fares;
  cap = cap;
  charge = charge;
  incomplete = incomplete;
  missing = missing;
}

-- the statement of a card with 2000 pence and these days
abbrev statement_2000 : List DayContent → ℕ → ℤ → StatementContent
statement_2000 days charged balance = record {
  days = days;
  top_ups = record { pence = 2000; stamp = winter_stamp 0 } ∷ [];
  paid_in = 2000;
  charged = charged;
  balance = balance;
}

-- Monday 2025-01-06
abbrev monday_day : ℤ
monday_day = pos 20094

abbrev cap_1_2 : Cap
cap_1_2 = record { lo = 1; hi = 2; off_peak = false; price = 850 }

abbrev cap_1_3 : Cap
cap_1_3 = record { lo = 1; hi = 3; off_peak = false; price = 1000 }

module _ (zone : TimeZone) where
  -- the statement after these acts, oldest first, of a card with 2000 pence
  abbrev stated : List Act → StatementContent
  stated acts = statement_of (example_scheme zone) (reverse acts ++ with_2000)

  -- three journeys of 350 reach the cap of 850, which covers each of them
  three_on_monday : stated (
      Enter 2 (monday 6 40) ∷ Leave 1 (monday 7 5) ∷ Enter 2 (monday 7 40) ∷ Leave 1 (monday 8 5)
      ∷ Enter 2 (monday 8 40) ∷ Leave 1 (monday 9 5) ∷ [])
      ≡ statement_2000 (
      day_of_rows monday_day (
      journey_row (at 2 (monday 8 40)) (at 1 (monday 9 5)) (fare 350 1 2) true
      ∷ journey_row (at 2 (monday 7 40)) (at 1 (monday 8 5)) (fare 350 1 2) true
      ∷ journey_row (at 2 (monday 6 40)) (at 1 (monday 7 5)) (fare 350 1 2) true ∷ [])
      1050 (Some cap_1_2) 850 [] 0 ∷ []) 850 (pos 1150)
  unfolding weekday_number
  three_on_monday = refl

  -- one more from 2 to 3: the cap of 1000 is below the cap of 850 with its 240
  another_zone : stated (
      Enter 2 (monday 6 40) ∷ Leave 1 (monday 7 5) ∷ Enter 2 (monday 7 40) ∷ Leave 1 (monday 8 5)
      ∷ Enter 2 (monday 8 40) ∷ Leave 1 (monday 9 5) ∷ Enter 2 (monday 9 15) ∷ Leave 3 (monday 9 25) ∷ [])
      ≡ statement_2000 (
      day_of_rows monday_day (
      journey_row (at 2 (monday 9 15)) (at 3 (monday 9 25)) (fare 240 2 3) true
      ∷ journey_row (at 2 (monday 8 40)) (at 1 (monday 9 5)) (fare 350 1 2) true
      ∷ journey_row (at 2 (monday 7 40)) (at 1 (monday 8 5)) (fare 350 1 2) true
      ∷ journey_row (at 2 (monday 6 40)) (at 1 (monday 7 5)) (fare 350 1 2) true ∷ [])
      1290 (Some cap_1_3) 1000 [] 0 ∷ []) 1000 (pos 1000)
  unfolding weekday_number
  another_zone = refl

  -- two legs with a change between 1 and 4 are one journey, at one fare
  interchange : stated (
      Enter 2 (monday 8 0) ∷ Leave 1 (monday 8 25) ∷ Enter 4 (monday 8 33) ∷ Leave 3 (monday 9 0) ∷ [])
      ≡ statement_2000 (
      day_of_rows monday_day (journey_row (at 2 (monday 8 0)) (at 3 (monday 9 0)) (fare 240 2 3) false ∷ [])
      240 None 240 [] 0 ∷ []) 240 (pos 1760)
  unfolding weekday_number
  interchange = refl

  -- a leg a second too late pays at both ends: the touch in 900, the touch out 700
  leg_too_late : stated (Enter 2 (monday 8 0) ∷ Leave 1 (monday 9 30 + 1) ∷ [])
      ≡ statement_2000 (
      day_of_rows monday_day [] 0 None 0 (
      incomplete (at 1 (monday 9 30 + 1)) Late 700
      ∷ incomplete (at 2 (monday 8 0)) NotLeftInTime 900 ∷ [])
      1600 ∷ []) 1600 (pos 400)
  unfolding weekday_number
  leg_too_late = refl

  -- a touch in over an open one leaves that one its 900, beside the journey
  entered_over : stated (Enter 2 (monday 8 0) ∷ Enter 2 (monday 8 10) ∷ Leave 1 (monday 8 30) ∷ [])
      ≡ statement_2000 (
      day_of_rows monday_day (journey_row (at 2 (monday 8 10)) (at 1 (monday 8 30)) (fare 350 1 2) false ∷ [])
      350 None 350 (incomplete (at 2 (monday 8 0)) EnteredOver 900 ∷ []) 900 ∷ []) 1250 (pos 750)
  unfolding weekday_number
  entered_over = refl

  -- a touch out with none in, and a touch in that is open: 900 each
  unstarted_and_open : stated (Leave 1 (monday 8 0) ∷ Enter 4 (monday 8 5) ∷ [])
      ≡ statement_2000 (
      day_of_rows monday_day [] 0 None 0 (
      incomplete (at 4 (monday 8 5)) Open 900 ∷ incomplete (at 1 (monday 8 0)) Unstarted 900 ∷ [])
      1800 ∷ []) 1800 (pos 200)
  unfolding weekday_number
  unstarted_and_open = refl

  -- yesterday's journey and today's: two rows; in at 04:25 on Tuesday is still of Monday's fare day
  two_days : stated (
      Enter 2 (monday 8 0) ∷ Leave 1 (monday 8 25) ∷ Enter 2 (monday 28 25) ∷ Leave 1 (monday 28 50)
      ∷ Enter 2 (monday 32 0) ∷ [])
      ≡ statement_2000 (
      day_of_rows (pos 20095) [] 0 None 0 (incomplete (at 2 (monday 32 0)) Open 900 ∷ []) 900
      ∷ day_of_rows monday_day (
      journey_row (at 2 (monday 28 25)) (at 1 (monday 28 50))
      (record { pence = 290; lo = 1; hi = 2; off_peak = true }) false
      ∷ journey_row (at 2 (monday 8 0)) (at 1 (monday 8 25)) (fare 350 1 2) false ∷ [])
      640 None 640 [] 0 ∷ []) 1540 (pos 460)
  unfolding weekday_number
  two_days = refl
