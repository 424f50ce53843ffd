use Rattle.std.proofs.Common.{◌≡◌, ℕ, List, [], ◌∷◌, ◌++◌, map, take, drop, sum_by, sym, ap, ◌∙◌}
use Rattle.std.proofs.Common.{subst, arith, Some, rules, to_z, of_z}
use Rattle.std.specs.Int.{w32}
use Rattle.std.specs.Int.RustNames.{FitsSigned}
use Rattle.std.proofs.lemmas.Int.{to_z-of_z}
use Rattle.std.proofs.lemmas.List.{map-append}
use Rattle.std.proofs.lemmas.List.Sums.{sum_by-append}
use Rattle.fare_table.specs.declared.rows.Cap.{Cap}
use Rattle.oyster_account.specs.declared.journey.Journey.{Journey}
use Rattle.oyster_account.specs.Scheme.{scheme_of}
use Rattle.oyster_account.specs.Journey.{journey_day}
use Rattle.oyster_account.specs.Charge.{caps_on}
use Rattle.card_statement.specs.declared.statement.Incomplete.{Incomplete}
use Rattle.card_statement.specs.Incomplete.{incomplete_day}
use Rattle.card_statement.specs.Day.{DayContent, row_of_day, content_of_day, pence_charged}
use Rattle.card_statement.specs.Runs.{run_length, latest}
use Rattle.card_statement.proofs.DayRowLemmas.{IsUnderWay, under-way-step}
use Rattle.card_statement.proofs.runs.days_of.Goals as goal

-- A row more is that of the latest day that was left.
pub loop-day-preserved : goal.loop-day-preserved
loop-day-preserved c =
    let caps = caps_on (scheme_of c.args.schedule.now) in
    let js : List Journey = c.args.journeys.now in
    let is : List Incomplete = c.args.incompletes.now in
    let made : List Journey = c.loop-day.made.now in
    let missed : List Incomplete = c.loop-day.missed.now in
    let day = c.in-Some.day in
    let fits : FitsSigned w32 day = search rules in
    let shown : to_z w32 (of_z w32 day) ≡ day = to_z-of_z w32 day fits in
    let count : ℕ = run_length journey_day day made in
    let missed_count : ℕ = run_length incomplete_day day missed in
    let rows : List DayContent = map content_of_day c.loop-day.rows.items in
    let new : DayContent = content_of_day c.in_ok-of.field-0 in
    let is_day : latest made missed ≡ Some day = sym c.latest.ensures.value ∙ c.in-Some.is in
    let front : c.split_at.result.0.now ≡ take count made =
    c.split_at.ensures.front
    ∙ ap (λ n. take n made) (c.journeys_on.ensures.run ∙ ap (λ d. run_length journey_day d made) shown) in
    let back : c.split_at.result.1.now ≡ drop count made =
    c.split_at.ensures.back
    ∙ ap (λ n. drop n made) (c.journeys_on.ensures.run ∙ ap (λ d. run_length journey_day d made) shown) in
    let missed_front : c.split_at-in-Some.result.0.now ≡ take missed_count missed =
    c.split_at-in-Some.ensures.front
    ∙ ap (λ n. take n missed) (c.incompletes_on.ensures.run ∙ ap (λ d. run_length incomplete_day d missed) shown) in
    let missed_back : c.split_at-in-Some.result.1.now ≡ drop missed_count missed =
    c.split_at-in-Some.ensures.back
    ∙ ap (λ n. drop n missed) (c.incompletes_on.ensures.run ∙ ap (λ d. run_length incomplete_day d missed) shown) in
    let row : new ≡ row_of_day (caps day) (take count made) (take missed_count missed) day =
    c.in_ok-of.ensures.row
    ∙ ap (row_of_day c.caps_on-caps.result.now c.split_at.result.0.now c.split_at-in-Some.result.0.now) shown
    ∙ ap (λ (l : List Cap). row_of_day l c.split_at.result.0.now c.split_at-in-Some.result.0.now day)
    (c.caps_on-caps.ensures.value ∙ ap caps shown)
    ∙ ap (λ (l : List Journey). row_of_day (caps day) l c.split_at-in-Some.result.0.now day) front
    ∙ ap (λ (l : List Incomplete). row_of_day (caps day) (take count made) l day) missed_front in
    let rows_are : map content_of_day c.push.new.self.items ≡ rows ++ new ∷ [] =
    ap (map content_of_day) c.in_ok-push.ensures.items
    ∙ map-append content_of_day c.loop-day.rows.items (c.in_ok-of.field-0 ∷ []) in
    let step : IsUnderWay caps js is (drop count made) (drop missed_count missed) (rows ++ new ∷ []) =
    under-way-step caps js is made missed day rows new is_day row c.loop-day.invariant.under_way in
    let charged = sum_by-append pence_charged rows (new ∷ []) in
    let charged_are : sum_by pence_charged (map content_of_day c.push.new.self.items)
    ≡ sum_by pence_charged (rows ++ new ∷ []) =
    ap (sum_by pence_charged) rows_are in
    record {
      under_way = subst (λ l. IsUnderWay caps js is c.split_at.result.1.now c.split_at-in-Some.result.1.now l)
          (sym rows_are)
          (subst (λ l. IsUnderWay caps js is l c.split_at-in-Some.result.1.now (rows ++ new ∷ [])) (sym back)
          (subst (λ l. IsUnderWay caps js is (drop count made) l (rows ++ new ∷ [])) (sym missed_back) step));
      made = omega (arith, c.loop-day.invariant.made, c.split_at.ensures.front_len, c.split_at.ensures.back_len);
      missed = omega (
        arith,
        c.loop-day.invariant.missed,
        c.split_at-in-Some.ensures.front_len,
        c.split_at-in-Some.ensures.back_len,
      );
      limit = omega (
        arith,
        c.loop-day.invariant.limit,
        c.in_ok-of.ensures.limit,
        charged,
        charged_are,
        c.split_at.ensures.front_len,
        c.split_at.ensures.back_len,
        c.split_at-in-Some.ensures.front_len,
        c.split_at-in-Some.ensures.back_len,
        c.journeys_on.ensures.within,
        c.incompletes_on.ensures.within,
      );
    }
