use Rattle.std.proofs.Common.{◌≡◌, ◌+◌, ◌<◌, ℕ, List, length, get_or, sym, ap, ◌∙◌, subst, refl}
use Rattle.fare_table.specs.declared.rows.Cap.{Cap}
use Rattle.oyster_account.specs.Parts.{part_of}
use Rattle.std.specs.Ordering.{int_eq}
use Rattle.oyster_account.specs.declared.journey.Journey.{Journey}
use Rattle.oyster_account.specs.Journey.{journey_day}
use Rattle.oyster_account.proofs.RunningLemmas.{leg-continued, leg-same_day, leg-new_day}
use Rattle.oyster_account.proofs.totals.Totals.begin.Goals as goal

-- A leg that continues takes the newest journey's place.
pub returns-then-continued-clause-sums : goal.returns-then-continued-clause-sums
returns-then-continued-clause-sums c by made caps_are is up same =
    leg-continued by made c.args.continued c.args.journey c.in-Some.last c.args.self.now _
    c.if-continued.true c.in-Some.is refl refl refl refl is.sums same

-- A further journey of the day puts the one before it to the sums.
pub returns-then-is_of_day_of-clause-sums : goal.returns-then-is_of_day_of-clause-sums
returns-then-is_of_day_of-clause-sums c by made caps_are is up same =
    let e = c.begin_journey.ensures in
    leg-same_day by made c.args.continued c.args.journey c.in-Some.last c.args.self.now c.begin_journey.new.self
    c.if-continued.false c.in-Some.is (sym c.is_of_day_of.ensures ∙ c.if-is_of_day_of.true) e.last e.sum e.settled
    (subst (λ (now : List Cap). (place : ℕ) (other : Cap) → place < length now →
    get_or c.begin_journey.new.self.uncovered place 0
    ≡ get_or c.args.self.now.uncovered place 0 + part_of (get_or now place other) c.in-Some.last.fare)
    (sym caps_are) e.added) is.sums

-- The first journey of a new day settles those before it.
pub returns-clause-sums : goal.returns-clause-sums
returns-clause-sums c by made caps_are is up same =
    let e = c.begin_day-2.ensures in
    leg-new_day by made c.args.continued c.args.journey c.args.self.now c.begin_day-2.new.self
    (λ last found.
    let newest : last ≡ c.in-Some.last = cc (found, c.in-Some.is) in (
      c.if-continued.false,
      ap (λ (x : Journey). int_eq (journey_day x) (journey_day c.args.journey)) newest ∙ sym c.is_of_day_of.ensures
          ∙ c.if-is_of_day_of.false,
    ))
    e.last e.sum (e.settled ∙ is.charged) e.none up is.sums
