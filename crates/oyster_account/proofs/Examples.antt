-- The numbers that definitions and clauses take from the code, and worked examples, computed by the
-- definitions: each reply is that of FARES.md, "Worked examples".
use Rattle.std.proofs.Common.{◌≡◌, refl, ℕ, ℤ, pos, ◌+◌, ◌-ℤ◌, ◌*◌, true, false, List, [], ◌∷◌, Some, None, map, codes}
use Rattle.std.specs.Prelude.{◌/◌, ◌%◌, int_lt, if◌then◌else◌}
use Rattle.jiff_core.specs.Calendar.{weekday_number}
use Rattle.jiff_tz.specs.declared.timezone.TimeZone.{TimeZone}
use Rattle.money_time.specs.declared.stamp.Stamp.{Stamp}
use Rattle.money_time.specs.Stamp.{fare_day_of, window_of}
use Rattle.fare_table.specs.Fare.{Content}
use Rattle.fare_table.specs.declared.rows.Single.{Single}
use Rattle.fare_table.specs.declared.station.Station.{Station}
use Rattle.fare_table.specs.declared.station.Zones.{Zones}
use Rattle.fare_table.specs.declared.station.Zones.TheVariants.{One, Two}
use Rattle.oyster_account.specs.declared.touch.Act.{Act}
use Rattle.oyster_account.specs.declared.touch.Act.TheVariants.{Enter, Leave, TopUp, Issue, Revise}
use Rattle.oyster_account.specs.declared.reply.Reply.{Reply}
use Rattle.oyster_account.specs.declared.reply.Judged.{Judged}
use Rattle.fare_table.specs.declared.key.TheConstants.{HIGHEST_PRICE, MOST_CAPS}
use Rattle.oyster_account.specs.declared.travel.TheConstants.{SECONDS_PER_MINUTE}
use Rattle.oyster_account.specs.declared.refusal.TheConstants.{TOP_UP_LIMIT}
use Rattle.oyster_account.specs.declared.verdict.TheConstants.{FIRST_REFUSAL}
use Rattle.oyster_account.specs.declared.touch.TheConstants.{KIND_ENTER, KIND_LEAVE, KIND_TOP_UP, KIND_ISSUE}
use Rattle.oyster_account.specs.declared.touch.TheConstants.{KIND_REVISE, TOUCH_SIZE}
use Rattle.oyster_account.specs.declared.verdict.Acceptance.TheVariants.{Entered, EnteredContinued, EnteredOverOpen}
use Rattle.oyster_account.specs.declared.verdict.Acceptance.TheVariants.{Exited, ExitedUnstarted, ExitedLate, ToppedUp}
use Rattle.oyster_account.specs.declared.verdict.Acceptance.TheVariants.{Issued, Revised}
use Rattle.oyster_account.specs.declared.verdict.Refusal.TheVariants.{UnknownCard, AlreadyIssued, UnknownStation}
use Rattle.oyster_account.specs.declared.verdict.Refusal.TheVariants.{Backwards, LowBalance, BadAmount, OverLimit}
use Rattle.oyster_account.specs.declared.verdict.Refusal.TheVariants.{BadDay}
use Rattle.oyster_account.specs.Verdict.{acceptance_code, refusal_code, verdict_name, refusal_name}
use Rattle.oyster_account.specs.Scheme.{Scheme, terms_of}
use Rattle.oyster_account.specs.History.{is_accepted}
use Rattle.oyster_account.specs.Judge.{judge, revision_reply}

-- a card keeps the sums of at most 32 caps
many_caps : MOST_CAPS ≡ 32
many_caps = refl

-- minutes have sixty seconds, and no price is above 10,000 pence
a_minute : SECONDS_PER_MINUTE ≡ 60
a_minute = refl

a_price : HIGHEST_PRICE ≡ 10_000
a_price = refl

-- a top-up is of at most 50,000 pence
a_top_up : TOP_UP_LIMIT ≡ 50_000
a_top_up = refl

-- a verdict below 20 accepts: those of acceptances do, and those of refusals don't
a_refusal : FIRST_REFUSAL ≡ 20
a_refusal = refl

accepting : map acceptance_code (
    Entered ∷ EnteredContinued ∷ EnteredOverOpen ∷ Exited ∷ ExitedUnstarted ∷ ExitedLate ∷ ToppedUp ∷ Issued
    ∷ Revised ∷ []) ≡ 1 ∷ 2 ∷ 3 ∷ 4 ∷ 5 ∷ 6 ∷ 7 ∷ 8 ∷ 9 ∷ []
accepting = refl

refusing : map refusal_code (
    UnknownCard ∷ AlreadyIssued ∷ UnknownStation ∷ Backwards ∷ LowBalance ∷ BadAmount ∷ OverLimit
    ∷ BadDay ∷ []) ≡ 20 ∷ 21 ∷ 22 ∷ 23 ∷ 24 ∷ 25 ∷ 26 ∷ 27 ∷ []
refusing = refl

-- the first byte of a touch in, a touch out, a top-up, an issue and a revision
kinds : KIND_ENTER ∷ KIND_LEAVE ∷ KIND_TOP_UP ∷ KIND_ISSUE ∷ KIND_REVISE ∷ [] ≡ 1 ∷ 2 ∷ 3 ∷ 4 ∷ 6 ∷ []
kinds = refl

-- a touch has at most 51 bytes
a_touch : TOUCH_SIZE ≡ 51
a_touch = refl

-- the names of an acceptance and of a refusal, and a code that has none
a_name : verdict_name 6 ≡ Some (codes "ExitedLate")
unfolding verdict_name
a_name = refl

a_refusals_name : verdict_name 27 ≡ Some (codes "BadDay")
unfolding verdict_name refusal_name
a_refusals_name = refl

no_name : verdict_name 12 ≡ None
unfolding verdict_name refusal_name
no_name = refl

abbrev station : ℕ → Zones → Station
station id zones = record { id = id; name = []; zones = zones }

abbrev single : ℕ → ℕ → ℕ → ℕ → Single
single low high peak off_peak =
    record { low = low; high = high; peak = peak; off_peak = off_peak }

-- the content of the example table, but for the stations' names, at this peak maximum and these fares of the zones 1
-- and 2
abbrev priced_at : ℕ → ℕ → ℕ → TimeZone → Content
priced_at maximum peak off_peak zone = record {
  zone = zone;
  rates = record {
    entry_minimum = 190;
    balance_limit = 9000;
    leg_minutes = 90;
    evening_rule = true;
    maximum_peak = maximum;
    maximum_off_peak = 700;
  };
  holidays = pos 20447 ∷ [];
  stations =
      station 1 (One 1) ∷ station 2 (One 2) ∷ station 3 (One 3) ∷ station 4 (One 1)
      ∷ station 5 (Two 2 3) ∷ [];
  singles =
      single 1 1 300 250 ∷ single 1 2 peak off_peak ∷ single 1 3 400 310 ∷ single 2 2 210 190
      ∷ single 2 3 240 210 ∷ single 3 3 210 190 ∷ [];
  pairs =
      record { from = 2; to = 4; lo = 2; hi = 2; peak = 230; off_peak = 200; minutes = None } ∷ [];
  caps =
      record { lo = 1; hi = 2; off_peak = false; price = 850 }
      ∷ record { lo = 1; hi = 3; off_peak = false; price = 1000 }
      ∷ record { lo = 1; hi = 2; off_peak = true; price = 600 } ∷ [];
  interchanges = record { a = 1; b = 4; minutes = 10 } ∷ [];
}

-- its own prices, and those of a revised table
abbrev example : TimeZone → Content
example zone = priced_at 900 350 290 zone

abbrev dearer : TimeZone → Content
dearer zone = priced_at 1000 380 300 zone

-- the stamps of its zone in winter, when its clock shows UTC: all moments here lie in January
abbrev winter_stamp : ℕ → Stamp
winter_stamp moment =
    let day : ℤ = pos (moment / 86_400) in
    let minute : ℕ = (moment % 86_400) / 60 in
    record {
      moment = moment;
      day = fare_day_of day minute;
      minute = minute;
      window = window_of (pos 20447 ∷ []) day minute;
    }

-- the example table in force on all days
abbrev example_scheme : TimeZone → Scheme
example_scheme zone = record { stamp = winter_stamp; on = λ _. terms_of (example zone) }

-- the example table, and from Tuesday 2025-01-07 on the revised one
abbrev revised_scheme : TimeZone → Scheme
revised_scheme zone = record {
  stamp = winter_stamp;
  on = λ day. terms_of (if int_lt day (pos 20095) then example zone else dearer zone);
}

-- verdict, change and balance of the replies to these acts, after acts that were accepted
abbrev reply : ℕ → ℤ → ℤ → Reply
reply verdict change balance = record { verdict = verdict; change = change; balance = balance }

abbrev replies : Scheme → List Act → List Act → List Reply
replies scheme acts [] = []
replies scheme acts (act ∷ others) =
    let given : Reply = judge scheme acts act in
    given ∷ replies scheme (if is_accepted given then act ∷ acts else acts) others

-- a card that was issued with 2000 pence
abbrev with_2000 : List Act
with_2000 = TopUp 2000 0 ∷ Issue 0 ∷ []

-- an hour and a minute on Monday 2025-01-06, and on the Tuesday and the Saturday after it
abbrev monday : ℕ → ℕ → ℕ
monday hour minute = 1_736_121_600 + hour * 3_600 + minute * 60

abbrev tuesday : ℕ → ℕ → ℕ
tuesday hour minute = monday hour minute + 86_400

abbrev saturday : ℕ → ℕ → ℕ
saturday hour minute = monday hour minute + 432_000

abbrev loss : ℕ → ℤ
loss n = pos 0 -ℤ pos n

module _ (zone : TimeZone) where
  abbrev told : List Act → List Act → List Reply
  told = replies (example_scheme zone)

  -- an issue, a top-up and a journey
  first_path : told [] (
      Issue (monday 7 50) ∷ TopUp 2000 (monday 7 55) ∷ Enter 2 (monday 8 0)
      ∷ Leave 1 (monday 8 25) ∷ [])
      ≡ reply 8 (pos 0) (pos 0) ∷ reply 7 (pos 2000) (pos 2000)
      ∷ reply 1 (loss 900) (pos 1100) ∷ reply 4 (pos 550) (pos 1650) ∷ []
  unfolding weekday_number
  first_path = refl

  -- the evening exception: towards the centre it is off-peak, the other way it isn't
  evening_inwards : told with_2000 (Enter 3 (monday 17 0) ∷ Leave 1 (monday 17 40) ∷ [])
      ≡ reply 1 (loss 900) (pos 1100) ∷ reply 4 (pos 590) (pos 1690) ∷ []
  unfolding weekday_number
  evening_inwards = refl

  evening_outwards : told with_2000 (Enter 1 (monday 17 0) ∷ Leave 3 (monday 17 40) ∷ [])
      ≡ reply 1 (loss 900) (pos 1100) ∷ reply 4 (pos 500) (pos 1600) ∷ []
  unfolding weekday_number
  evening_outwards = refl

  -- three journeys of one day: the third reaches the cap of 850 on Monday and of 600 on Saturday
  abbrev three_journeys : (ℕ → ℕ → ℕ) → List Act
  three_journeys at =
      Enter 2 (at 6 40) ∷ Leave 1 (at 7 5) ∷ Enter 2 (at 7 40) ∷ Leave 1 (at 8 5)
      ∷ Enter 2 (at 8 40) ∷ Leave 1 (at 9 5) ∷ []

  three_on_monday : told with_2000 (three_journeys monday)
      ≡ reply 1 (loss 900) (pos 1100) ∷ reply 4 (pos 550) (pos 1650)
      ∷ reply 1 (loss 900) (pos 750) ∷ reply 4 (pos 550) (pos 1300)
      ∷ reply 1 (loss 900) (pos 400) ∷ reply 4 (pos 750) (pos 1150) ∷ []
  unfolding weekday_number
  three_on_monday = refl

  -- a fourth, of zones that the cap of 850 doesn't cover, reaches the cap of 1000
  another_zone : told with_2000 (
      Enter 2 (monday 6 40) ∷ Leave 1 (monday 7 5) ∷ Enter 2 (monday 7 40) ∷ Leave 1 (monday 8 5)
      ∷ Enter 2 (monday 8 40) ∷ Leave 1 (monday 9 5) ∷ Enter 2 (monday 9 15)
      ∷ Leave 3 (monday 9 25) ∷ [])
      ≡ reply 1 (loss 900) (pos 1100) ∷ reply 4 (pos 550) (pos 1650)
      ∷ reply 1 (loss 900) (pos 750) ∷ reply 4 (pos 550) (pos 1300)
      ∷ reply 1 (loss 900) (pos 400) ∷ reply 4 (pos 750) (pos 1150)
      ∷ reply 1 (loss 900) (pos 250) ∷ reply 4 (pos 750) (pos 1000) ∷ []
  unfolding weekday_number
  another_zone = refl

  three_on_saturday : told with_2000 (three_journeys saturday)
      ≡ reply 1 (loss 700) (pos 1300) ∷ reply 4 (pos 410) (pos 1710)
      ∷ reply 1 (loss 700) (pos 1010) ∷ reply 4 (pos 410) (pos 1420)
      ∷ reply 1 (loss 700) (pos 720) ∷ reply 4 (pos 680) (pos 1400) ∷ []
  unfolding weekday_number
  three_on_saturday = refl

  -- a change at 1 and 4 within ten minutes goes on with the journey, whose fare is replaced
  interchange : told with_2000 (
      Enter 2 (monday 8 0) ∷ Leave 1 (monday 8 25) ∷ Enter 4 (monday 8 33) ∷ Leave 3 (monday 9 0) ∷ [])
      ≡ reply 1 (loss 900) (pos 1100) ∷ reply 4 (pos 550) (pos 1650)
      ∷ reply 2 (loss 900) (pos 750) ∷ reply 4 (pos 1010) (pos 1760) ∷ []
  unfolding weekday_number
  interchange = refl

  interchange_at_the_limit : told with_2000 (
      Enter 2 (monday 8 0) ∷ Leave 1 (monday 8 25) ∷ Enter 4 (monday 8 35) ∷ [])
      ≡ reply 1 (loss 900) (pos 1100) ∷ reply 4 (pos 550) (pos 1650)
      ∷ reply 2 (loss 900) (pos 750) ∷ []
  unfolding weekday_number
  interchange_at_the_limit = refl

  interchange_too_late : told with_2000 (
      Enter 2 (monday 8 0) ∷ Leave 1 (monday 8 25) ∷ Enter 4 (monday 8 35 + 1)
      ∷ Leave 3 (monday 9 0) ∷ [])
      ≡ reply 1 (loss 900) (pos 1100) ∷ reply 4 (pos 550) (pos 1650)
      ∷ reply 1 (loss 900) (pos 750) ∷ reply 4 (pos 500) (pos 1250) ∷ []
  unfolding weekday_number
  interchange_too_late = refl

  -- a leg may take ninety minutes
  leg_at_the_limit : told with_2000 (Enter 2 (monday 8 0) ∷ Leave 1 (monday 9 30) ∷ [])
      ≡ reply 1 (loss 900) (pos 1100) ∷ reply 4 (pos 550) (pos 1650) ∷ []
  unfolding weekday_number
  leg_at_the_limit = refl

  leg_too_late : told with_2000 (Enter 2 (monday 8 0) ∷ Leave 1 (monday 9 30 + 1) ∷ [])
      ≡ reply 1 (loss 900) (pos 1100) ∷ reply 6 (loss 700) (pos 400) ∷ []
  unfolding weekday_number
  leg_too_late = refl

  -- a missing touch costs a maximum
  no_touch_in : told with_2000 (Leave 1 (monday 8 0) ∷ Enter 4 (monday 8 5) ∷ [])
      ≡ reply 5 (loss 900) (pos 1100) ∷ reply 1 (loss 900) (pos 200) ∷ []
  unfolding weekday_number
  no_touch_in = refl

  no_touch_out : told with_2000 (
      Enter 2 (monday 8 0) ∷ Enter 2 (monday 8 10) ∷ Leave 1 (monday 8 30) ∷ [])
      ≡ reply 1 (loss 900) (pos 1100) ∷ reply 3 (loss 900) (pos 200)
      ∷ reply 4 (pos 550) (pos 750) ∷ []
  unfolding weekday_number
  no_touch_out = refl

  -- refusals change nothing, and a balance may be below 0
  low_balance_and_backwards : told (Issue 0 ∷ []) (
      TopUp 189 0 ∷ Enter 2 (monday 7 59) ∷ TopUp 1 0 ∷ Enter 2 (monday 8 0) ∷ Leave 2 (monday 7 59) ∷ [])
      ≡ reply 7 (pos 189) (pos 189) ∷ reply 24 (pos 0) (pos 189) ∷ reply 7 (pos 1) (pos 190)
      ∷ reply 1 (loss 900) (loss 710) ∷ reply 23 (pos 0) (loss 710) ∷ []
  unfolding weekday_number
  low_balance_and_backwards = refl

  amounts : told (Issue 0 ∷ []) (
      TopUp 9001 0 ∷ TopUp 50000 0 ∷ TopUp 50001 0 ∷ TopUp 0 0 ∷ TopUp 9000 0 ∷ TopUp 1 0
      ∷ Issue 0 ∷ Enter 9 (monday 8 0) ∷ [])
      ≡ reply 26 (pos 0) (pos 0) ∷ reply 26 (pos 0) (pos 0) ∷ reply 25 (pos 0) (pos 0)
      ∷ reply 25 (pos 0) (pos 0) ∷ reply 7 (pos 9000) (pos 9000) ∷ reply 26 (pos 0) (pos 9000)
      ∷ reply 21 (pos 0) (pos 9000) ∷ reply 22 (pos 0) (pos 9000) ∷ []
  unfolding weekday_number
  amounts = refl

  not_issued : told [] (Enter 9 (monday 8 0) ∷ []) ≡ reply 20 (pos 0) (pos 0) ∷ []
  unfolding weekday_number
  not_issued = refl

  -- after a capped day a further journey gives its entry charge back whole, and no more
  refund : told with_2000 (
      Enter 2 (monday 6 40) ∷ Leave 1 (monday 7 5) ∷ Enter 2 (monday 7 40) ∷ Leave 1 (monday 8 5)
      ∷ Enter 2 (monday 8 40) ∷ Leave 1 (monday 9 5) ∷ Enter 2 (monday 10 0)
      ∷ Leave 1 (monday 10 25) ∷ Leave 1 (monday 10 30) ∷ [])
      ≡ reply 1 (loss 900) (pos 1100) ∷ reply 4 (pos 550) (pos 1650)
      ∷ reply 1 (loss 900) (pos 750) ∷ reply 4 (pos 550) (pos 1300)
      ∷ reply 1 (loss 900) (pos 400) ∷ reply 4 (pos 750) (pos 1150)
      ∷ reply 1 (loss 700) (pos 450) ∷ reply 4 (pos 700) (pos 1150)
      ∷ reply 5 (loss 700) (pos 450) ∷ []
  unfolding weekday_number
  refund = refl

  -- Thursday 2025-12-25 is a listed holiday: no window of it is peak
  holiday : told with_2000 (Enter 2 1_766_649_600 ∷ []) ≡ reply 1 (loss 700) (pos 1300) ∷ []
  unfolding weekday_number
  holiday = refl

  -- a journey is priced by the table of its first touch in's day: in at 04:25 on Tuesday is still of Monday's fare day,
  -- and out at 04:50 is not
  over_a_revision : replies (revised_scheme zone) with_2000 (
      Enter 2 (monday 8 0) ∷ Leave 1 (monday 8 25) ∷ Enter 2 (tuesday 4 25) ∷ Leave 1 (tuesday 4 50)
      ∷ Enter 2 (tuesday 8 0) ∷ Leave 1 (tuesday 8 25) ∷ [])
      ≡ reply 1 (loss 900) (pos 1100) ∷ reply 4 (pos 550) (pos 1650)
      ∷ reply 1 (loss 700) (pos 950) ∷ reply 4 (pos 410) (pos 1360)
      ∷ reply 1 (loss 1000) (pos 360) ∷ reply 4 (pos 620) (pos 980) ∷ []
  unfolding weekday_number
  over_a_revision = refl

  -- a late touch out takes the maximum of its own day
  late_over_a_revision : replies (revised_scheme zone) with_2000 (
      Enter 2 (tuesday 4 25) ∷ Leave 1 (tuesday 6 30) ∷ [])
      ≡ reply 1 (loss 700) (pos 1300) ∷ reply 6 (loss 1000) (pos 300) ∷ []
  unfolding weekday_number
  late_over_a_revision = refl

  -- a touch with this act and the verdict that it was given
  abbrev judged : Act → ℕ → Judged
  judged act verdict =
      record { touch = record { gate = 7; number = 3; card = 1; act = act }; reply = reply verdict (pos 0) (pos 0) }

  -- a revision from a day that was travelled on is refused, and one from the day after it isn't
  travelled_day : (revision_reply (example_scheme zone) (judged (Enter 2 (monday 8 0)) 1 ∷ []) (pos 20094)
      ≡ reply 27 (pos 0) (pos 0))
      × (revision_reply (example_scheme zone) (judged (Enter 2 (monday 8 0)) 1 ∷ []) (pos 20095)
      ≡ reply 9 (pos 0) (pos 0))
      × (revision_reply (example_scheme zone) (judged (Enter 2 (monday 8 0)) 24 ∷ []) (pos 20094)
      ≡ reply 9 (pos 0) (pos 0))
  unfolding weekday_number
  travelled_day = (refl, refl, refl)

  -- so is one from the day of the revision before it
  revised_day : (revision_reply (example_scheme zone) (judged (Revise (pos 20095) 0 []) 9 ∷ []) (pos 20095)
      ≡ reply 27 (pos 0) (pos 0))
      × (revision_reply (example_scheme zone) (judged (Revise (pos 20095) 0 []) 9 ∷ []) (pos 20096)
      ≡ reply 9 (pos 0) (pos 0))
  unfolding weekday_number
  revised_day = (refl, refl)
