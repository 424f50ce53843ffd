use Rattle.std.proofs.Common.{◌≡◌, List, map, length, sym, ap, ◌∙◌, subst, arith, None}
use Rattle.oyster_account.specs.declared.journey.Journey.{Journey}
use Rattle.oyster_account.specs.Scheme.{scheme_of}
use Rattle.oyster_account.specs.Travel.{travel}
use Rattle.oyster_account.specs.Journey.{journeys, journey_day}
use Rattle.oyster_account.specs.Charge.{caps_on}
use Rattle.oyster_account.specs.History.{accepted}
use Rattle.card_statement.specs.declared.statement.Incomplete.{Incomplete}
use Rattle.card_statement.specs.Incomplete.{incompletes, incomplete_day}
use Rattle.card_statement.specs.Day.{DayContent, day_row, day_rows, row_days, has_row, content_of_day}
use Rattle.card_statement.specs.Runs.{AreFalling}
use Rattle.card_statement.specs.Statement.{statement_with}
use Rattle.card_statement.proofs.CountLemmas.{made-fewer, missed-fewer, paid-fewer}
use Rattle.card_statement.proofs.RowDayLemmas.{journeys-fall, incompletes-fall, row_days-fall, row_days-are}
use Rattle.card_statement.proofs.statement.Statement.of.Goals as goal

-- There are no more rows than touches.
pub days_of-requires-clause-journeys : goal.days_of-requires-clause-journeys
days_of-requires-clause-journeys c =
    let are = c.as_slice-journeys.ensures.value ∙ c.in_ok-gathered.ensures.journeys in
    omega (
      arith,
      ap length are,
      made-fewer (scheme_of c.args.schedule.now) c.args.card c.args.touches.now,
      c.requires.few,
    )

pub days_of-requires-clause-incompletes : goal.days_of-requires-clause-incompletes
days_of-requires-clause-incompletes c =
    let are = c.as_slice.ensures.value ∙ c.in_ok-gathered.ensures.incompletes in
    omega (
      arith,
      ap length are,
      missed-fewer (scheme_of c.args.schedule.now) c.args.card c.args.touches.now,
      c.requires.few,
    )

pub summed-requires-clause-few : goal.summed-requires-clause-few
summed-requires-clause-few c =
    omega (
      arith,
      ap length c.in_ok-gathered.ensures.top_ups,
      paid-fewer (scheme_of c.args.schedule.now) c.args.card c.args.touches.now,
      c.requires.few,
    )

pub summed-requires-clause-limit : goal.summed-requires-clause-limit
summed-requires-clause-limit c =
    let made = c.as_slice-journeys.ensures.value ∙ c.in_ok-gathered.ensures.journeys in
    let missed = c.as_slice.ensures.value ∙ c.in_ok-gathered.ensures.incompletes in
    omega (
      arith,
      c.in_ok-days.ensures.limit,
      ap length made,
      ap length missed,
      made-fewer (scheme_of c.args.schedule.now) c.args.card c.args.touches.now,
      missed-fewer (scheme_of c.args.schedule.now) c.args.card c.args.touches.now,
      c.requires.few,
    )

-- Travel in order has both lists by days that fall.
pub days_of-requires-clause-journeys_fall : goal.days_of-requires-clause-journeys_fall
days_of-requires-clause-journeys_fall c =
    let scheme = scheme_of c.args.schedule.now in
    subst (AreFalling journey_day) (sym (c.as_slice-journeys.ensures.value ∙ c.in_ok-gathered.ensures.journeys))
    (journeys-fall scheme (travel scheme (accepted c.args.card c.args.touches.now)) c.requires.order)

pub days_of-requires-clause-incompletes_fall : goal.days_of-requires-clause-incompletes_fall
days_of-requires-clause-incompletes_fall c =
    let scheme = scheme_of c.args.schedule.now in
    subst (AreFalling incomplete_day) (sym (c.as_slice.ensures.value ∙ c.in_ok-gathered.ensures.incompletes))
    (incompletes-fall scheme (travel scheme (accepted c.args.card c.args.touches.now)) c.requires.order)

-- The rows are those of the days with rows.
pub returns : goal.returns
returns c =
    let scheme = scheme_of c.args.schedule.now in
    let taps = travel scheme (accepted c.args.card c.args.touches.now) in
    let made : List Journey = c.as_slice-journeys.result.now in
    let missed : List Incomplete = c.as_slice.result.now in
    let days = row_days scheme taps in
    let made_are : made ≡ journeys scheme taps =
    c.as_slice-journeys.ensures.value ∙ c.in_ok-gathered.ensures.journeys in
    let missed_are : missed ≡ incompletes scheme None taps =
    c.as_slice.ensures.value ∙ c.in_ok-gathered.ensures.incompletes in
    let rows : map content_of_day c.in_ok-days.days.items ≡ day_rows scheme taps =
    c.in_ok-days.ensures.rows days (row_days-fall scheme taps c.requires.order)
    (λ day. row_days-are scheme taps day
    ∙ ap (λ (l : List Journey). has_row l (incompletes scheme None taps) day) (sym made_are)
    ∙ ap (λ (l : List Incomplete). has_row made l day) (sym missed_are))
    ∙ ap (λ (l : List Journey). map (day_row (caps_on scheme) l missed) days) made_are
    ∙ ap (λ (l : List Incomplete). map (day_row (caps_on scheme) (journeys scheme taps) l) days) missed_are in
    record {
      statement = c.summed.ensures.value
          ∙ ap (λ (l : List DayContent). statement_with l c.gather.new.top_ups.items) rows
          ∙ ap (statement_with (day_rows scheme taps)) c.in_ok-gathered.ensures.top_ups;
      paid_in = c.summed.ensures.paid_in;
      charged = c.summed.ensures.charged;
    }
