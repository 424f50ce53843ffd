-- Schemes that agree before a fare day make the same of travel before it.
use Rattle.std.proofs.Common.{◌≡◌, ℕ, ℤ, pos, ◌+◌, ◌-ℤ◌, ◌≤ℤ◌, ◌<ℤ◌, Bool, true, false, ◌&&◌, cond, List, [], ◌∷◌}
use Rattle.std.proofs.Common.{IsTrue, refl, sym, ap, ◌∙◌, subst, arith, sum_by}
use Rattle.std.proofs.lemmas.Int.{ints}
use Rattle.std.proofs.lemmas.List.Sums.{sum_by-cons}
use Rattle.oyster_account.specs.declared.touch.Act.{Act}
use Rattle.oyster_account.specs.declared.touch.Act.TheVariants.{Enter, Leave, TopUp, Issue, Revise}
use Rattle.oyster_account.specs.declared.travel.Passage.{Passage}
use Rattle.oyster_account.specs.declared.journey.Journey.{Journey}
use Rattle.oyster_account.specs.Scheme.{Scheme, Terms}
use Rattle.oyster_account.specs.Travel.{Tap, In, Out, passage_of, travel, newest, day_of, IsKnown}
use Rattle.oyster_account.specs.Leg.{is_within_minutes, is_in_time, ends_leg}
use Rattle.oyster_account.specs.Journey.{is_change_within, is_change, continues, start_of, journey_of, others_than}
use Rattle.oyster_account.specs.Journey.{add_leg, journeys, journey_day}
use Rattle.oyster_account.specs.Charge.{day_charge, on_day, has_day, days_of, charge_on, journeys_charge, caps_on}
use Rattle.oyster_account.specs.Charge.{maximum_at, entry_charge, exit_charge, incomplete_charge, travel_charge}
use Rattle.oyster_account.specs.Balance.{pence_paid, balance, is_issued, state_of, view}
use Rattle.oyster_account.specs.Order.{IsInOrder}
use Rattle.oyster_account.specs.declared.totals.Totals.{Totals}
use Rattle.oyster_account.specs.declared.travels.Travels.{Travels}
use Rattle.oyster_account.specs.declared.travels.Newest.TheVariants.{Inside, Outside}
use Rattle.oyster_account.specs.declared.account.Account.{Account}
use Rattle.oyster_account.specs.Totals.{today, AreParts, AreSums, IsRunning}
use Rattle.oyster_account.specs.Travels.{open_charge, newest_of, closed, IsTravelOf, IsNewestKnown}
use Rattle.oyster_account.specs.Account.{IsAccountOf, IsAccountSafe}
use Rattle.std.specs.Option.{ForSome}
use Rattle.oyster_account.specs.Agreement.{AgreeBefore, IsNewestBefore}

-- each of these touches is of a fare day before this one
abbrev pub AreBefore : ℤ → List Tap → Type 0
AreBefore day [] = Unit {0}
AreBefore day (tap ∷ taps) = (day_of (passage_of tap) <ℤ day) × AreBefore day taps

-- in order, all are where the newest is
pub order-before : (day : ℤ) (taps : List Tap) → IsInOrder taps → IsNewestBefore day taps → AreBefore day taps
order-before day [] order newest = tt
order-before day (tap ∷ []) order newest = (newest, tt)
order-before day (tap ∷ earlier ∷ taps) order newest =
    let below : day_of (passage_of earlier) ≤ℤ day_of (passage_of tap) = order.0.day in
    (newest, order-before day (earlier ∷ taps) order.1 (omega (arith, ints)))

-- each of these journeys is of a fare day before this one
abbrev pub AreMadeBefore : ℤ → List Journey → Type 0
AreMadeBefore day [] = Unit {0}
AreMadeBefore day (journey ∷ made) = (journey_day journey <ℤ day) × AreMadeBefore day made

-- each of these days is before this one
abbrev AreDaysBefore : ℤ → List ℤ → Type 0
AreDaysBefore day [] = Unit {0}
AreDaysBefore day (earlier ∷ days) = (earlier <ℤ day) × AreDaysBefore day days

module _ (day : ℤ) (scheme : Scheme) where
  -- a leg starts its journey before the day
  start-before : (continued : Bool) (a : Passage) (js : List Journey) → day_of a <ℤ day → AreMadeBefore day js →
      day_of (start_of continued a (newest js)) <ℤ day
  start-before true a [] before made = before
  start-before true a (j ∷ js) before made = made.0
  start-before false a [] before made = before
  start-before false a (j ∷ js) before made = before

  leg-before : (continued : Bool) (a b : Passage) (js : List Journey) → day_of a <ℤ day → AreMadeBefore day js →
      AreMadeBefore day (add_leg scheme continued a b js)
  leg-before true a b [] before made = (before, tt)
  leg-before true a b (j ∷ js) before made = (made.0, made.1)
  leg-before false a b [] before made = (before, tt)
  leg-before false a b (j ∷ js) before made = (before, made)

  either : (b : Bool) (leg js : List Journey) → AreMadeBefore day leg → AreMadeBefore day js →
      AreMadeBefore day (cond b leg js)
  either true leg js of_leg of_js = of_leg
  either false leg js of_leg of_js = of_js

  -- the journeys of travel before the day are before it
  pub journeys-before : (taps : List Tap) → AreBefore day taps → AreMadeBefore day (journeys scheme taps)
  journeys-before [] before = tt
  journeys-before (In a ∷ taps) before = journeys-before taps before.1
  journeys-before (Out b ∷ []) before = tt
  journeys-before (Out b ∷ Out c ∷ taps) before = journeys-before (Out c ∷ taps) before.1
  journeys-before (Out b ∷ In a ∷ taps) before =
      either (is_in_time scheme a b) (add_leg scheme (continues scheme a taps) a b (journeys scheme taps))
      (journeys scheme taps)
      (leg-before (continues scheme a taps) a b (journeys scheme taps) before.1.0 (journeys-before taps before.1.1))
      (journeys-before taps before.1.1)

add-before : (day : ℤ) (b : Bool) (earlier : ℤ) (days : List ℤ) → earlier <ℤ day → AreDaysBefore day days →
    AreDaysBefore day (cond b days (earlier ∷ days))
add-before day true earlier days before are = are
add-before day false earlier days before are = (before, are)

days-before : (day : ℤ) (js : List Journey) → AreMadeBefore day js → AreDaysBefore day (days_of js)
days-before day [] before = tt
days-before day (j ∷ js) before =
    add-before day (has_day (journey_day j) (days_of js)) (journey_day j) (days_of js) before.0
    (days-before day js before.1)

module _ (day : ℤ) (scheme revised : Scheme) (agree : AgreeBefore day scheme revised) where
  -- the touches of a card's acts are the same
  pub travel-agrees : (acts : List Act) → AreBefore day (travel scheme acts) → travel revised acts ≡ travel scheme acts
  travel-agrees [] before = refl
  travel-agrees (Enter s m ∷ acts) before =
      ap (λ stamp. In (record { station = s; stamp = stamp }) ∷ travel revised acts) (agree.stamp m before.0)
      ∙ ap (λ taps. In (record { station = s; stamp = scheme.stamp m }) ∷ taps) (travel-agrees acts before.1)
  travel-agrees (Leave s m ∷ acts) before =
      ap (λ stamp. Out (record { station = s; stamp = stamp }) ∷ travel revised acts) (agree.stamp m before.0)
      ∙ ap (λ taps. Out (record { station = s; stamp = scheme.stamp m }) ∷ taps) (travel-agrees acts before.1)
  travel-agrees (TopUp p m ∷ acts) before = travel-agrees acts before
  travel-agrees (Issue m ∷ acts) before = travel-agrees acts before
  travel-agrees (Revise d m s ∷ acts) before = travel-agrees acts before

  in_time-agrees : (a b : Passage) → day_of a <ℤ day → is_in_time revised a b ≡ is_in_time scheme a b
  in_time-agrees a b before =
      ap (λ (terms : Terms). is_within_minutes (terms.leg_minutes a.station b.station) a b) (agree.on (day_of a) before)

  change-agrees : (b a : Passage) → day_of a <ℤ day → is_change revised b a ≡ is_change scheme b a
  change-agrees b a before =
      ap (λ (terms : Terms). is_change_within (terms.interchange b.station a.station) b a) (agree.on (day_of a) before)

  pub ends-agree : (taps : List Tap) → AreBefore day taps → ends_leg revised taps ≡ ends_leg scheme taps
  ends-agree [] before = refl
  ends-agree (In a ∷ taps) before = refl
  ends-agree (Out b ∷ []) before = refl
  ends-agree (Out b ∷ Out c ∷ taps) before = refl
  ends-agree (Out b ∷ In a ∷ taps) before = in_time-agrees a b before.1.0

  pub continues-agrees : (a : Passage) (taps : List Tap) → day_of a <ℤ day → AreBefore day taps →
      continues revised a taps ≡ continues scheme a taps
  continues-agrees a [] of_a before = refl
  continues-agrees a (In c ∷ taps) of_a before = refl
  continues-agrees a (Out b ∷ taps) of_a before =
      ap (λ x. x && is_change revised b a) (ends-agree (Out b ∷ taps) before)
      ∙ ap (λ x. ends_leg scheme (Out b ∷ taps) && x) (change-agrees b a of_a)

  journey-agrees : (a b : Passage) → day_of a <ℤ day → journey_of revised a b ≡ journey_of scheme a b
  journey-agrees a b before =
      let of : Terms → Journey = λ terms.
      record { start = a; finish = b; fare = terms.fare a.station b.station a.stamp.window } in
      ap of (agree.on (day_of a) before)

  leg-agrees : (continued : Bool) (a b : Passage) (js : List Journey) → day_of a <ℤ day → AreMadeBefore day js →
      add_leg revised continued a b js ≡ add_leg scheme continued a b js
  leg-agrees continued a b js of_a made =
      ap (λ j. j ∷ others_than continued js)
      (journey-agrees (start_of continued a (newest js)) b (start-before day scheme continued a js of_a made))

  -- the journeys are the same
  pub journeys-agree : (taps : List Tap) → AreBefore day taps → journeys revised taps ≡ journeys scheme taps
  journeys-agree [] before = refl
  journeys-agree (In a ∷ taps) before = journeys-agree taps before.1
  journeys-agree (Out b ∷ []) before = refl
  journeys-agree (Out b ∷ Out c ∷ taps) before = journeys-agree (Out c ∷ taps) before.1
  journeys-agree (Out b ∷ In a ∷ taps) before =
      let same : journeys revised taps ≡ journeys scheme taps = journeys-agree taps before.1.1 in
      ap (λ x. cond x (add_leg revised (continues revised a taps) a b (journeys revised taps)) (journeys revised taps))
      (in_time-agrees a b before.1.0)
      ∙ ap (λ js. cond (is_in_time scheme a b) (add_leg revised (continues revised a taps) a b js) js) same
      ∙ ap (λ x. cond (is_in_time scheme a b) (add_leg revised x a b (journeys scheme taps)) (journeys scheme taps))
      (continues-agrees a taps before.1.0 before.1.1)
      ∙ ap (λ leg. cond (is_in_time scheme a b) leg (journeys scheme taps))
      (leg-agrees (continues scheme a taps) a b (journeys scheme taps) before.1.0
      (journeys-before day scheme taps before.1.1))

  maximum-agrees : (p : Passage) → day_of p <ℤ day → maximum_at revised p ≡ maximum_at scheme p
  maximum-agrees p before = ap (λ (terms : Terms). terms.maximum p.stamp.window) (agree.on (day_of p) before)

  -- a touch in takes the same
  entry-agrees : (a : Passage) (taps : List Tap) → day_of a <ℤ day → AreBefore day taps →
      entry_charge revised a taps ≡ entry_charge scheme a taps
  entry-agrees a taps of_a before =
      ap (λ x. maximum_at revised (start_of x a (newest (journeys revised taps)))) (continues-agrees a taps of_a before)
      ∙ ap (λ js. maximum_at revised (start_of (continues scheme a taps) a (newest js))) (journeys-agree taps before)
      ∙ maximum-agrees (start_of (continues scheme a taps) a (newest (journeys scheme taps)))
      (start-before day scheme (continues scheme a taps) a (journeys scheme taps) of_a
      (journeys-before day scheme taps before))

  -- the touches that miss their other end take the same
  pub incomplete-agrees : (taps : List Tap) → AreBefore day taps →
      incomplete_charge revised taps ≡ incomplete_charge scheme taps
  incomplete-agrees [] before = refl
  incomplete-agrees (In a ∷ taps) before =
      omega (arith, entry-agrees a taps before.0 before.1, incomplete-agrees taps before.1)
  incomplete-agrees (Out b ∷ []) before = maximum-agrees b before.0
  incomplete-agrees (Out b ∷ Out c ∷ taps) before =
      omega (arith, maximum-agrees b before.0, incomplete-agrees (Out c ∷ taps) before.1)
  incomplete-agrees (Out b ∷ In a ∷ taps) before =
      let rest : incomplete_charge revised taps ≡ incomplete_charge scheme taps = incomplete-agrees taps before.1.1 in
      let missed : exit_charge revised b + (entry_charge revised a taps + incomplete_charge revised taps)
      ≡ exit_charge scheme b + (entry_charge scheme a taps + incomplete_charge scheme taps) =
      omega (arith, maximum-agrees b before.0, entry-agrees a taps before.1.0 before.1.1, rest) in
      ap (λ x. cond x (incomplete_charge revised taps)
      (exit_charge revised b + (entry_charge revised a taps + incomplete_charge revised taps)))
      (in_time-agrees a b before.1.0)
      ∙ ap (λ n. cond (is_in_time scheme a b) n
      (exit_charge revised b + (entry_charge revised a taps + incomplete_charge revised taps))) rest
      ∙ ap (λ n. cond (is_in_time scheme a b) (incomplete_charge scheme taps) n) missed

  -- the caps of days before the day are the same
  pub caps-agree : (earlier : ℤ) → earlier <ℤ day → caps_on revised earlier ≡ caps_on scheme earlier
  caps-agree earlier before = ap (λ (terms : Terms). terms.caps) (agree.on earlier before)

  sums-agree : (js : List Journey) (days : List ℤ) → AreDaysBefore day days →
      sum_by (charge_on (caps_on revised) js) days ≡ sum_by (charge_on (caps_on scheme) js) days
  sums-agree js [] before = refl
  sums-agree js (earlier ∷ days) before =
      let here : charge_on (caps_on revised) js earlier ≡ charge_on (caps_on scheme) js earlier =
      ap (λ caps. day_charge caps (on_day earlier js)) (caps-agree earlier before.0) in
      omega (
        arith,
        here,
        sums-agree js days before.1,
        sum_by-cons (charge_on (caps_on revised) js) earlier days,
        sum_by-cons (charge_on (caps_on scheme) js) earlier days,
      )

  -- journeys take the same
  pub journeys_charge-agrees : (js : List Journey) → AreMadeBefore day js →
      journeys_charge (caps_on revised) js ≡ journeys_charge (caps_on scheme) js
  journeys_charge-agrees js before = sums-agree js (days_of js) (days-before day js before)

  -- travel takes the same
  pub charge-agrees : (taps : List Tap) → AreBefore day taps → travel_charge revised taps ≡ travel_charge scheme taps
  charge-agrees taps before =
      let made : journeys_charge (caps_on revised) (journeys revised taps)
      ≡ journeys_charge (caps_on scheme) (journeys scheme taps) =
      ap (journeys_charge (caps_on revised)) (journeys-agree taps before)
      ∙ journeys_charge-agrees (journeys scheme taps) (journeys-before day scheme taps before) in
      omega (arith, made, incomplete-agrees taps before)

  -- the balance is the same
  pub balance-agrees : (acts : List Act) → AreBefore day (travel scheme acts) →
      balance revised acts ≡ balance scheme acts
  balance-agrees acts before =
      ap (λ n. pos (sum_by pence_paid acts) -ℤ pos n)
      (ap (travel_charge revised) (travel-agrees acts before) ∙ charge-agrees (travel scheme acts) before)

  -- and so is what is seen of the card
  pub view-agrees : (acts : List Act) → AreBefore day (travel scheme acts) → view revised acts ≡ view scheme acts
  view-agrees acts before =
      ap (λ taps. cond (is_issued acts) (record { state = state_of taps; balance = balance revised acts })
      (view revised [])) (travel-agrees acts before)
      ∙ ap (λ n. cond (is_issued acts) (record { state = state_of (travel scheme acts); balance = n })
      (view revised [])) (balance-agrees acts before)

  -- the running sums are those of the same journeys
  sums-are : (js : List Journey) (r : Totals) → AreMadeBefore day js → AreSums (caps_on scheme) js r →
      AreSums (caps_on revised) js r
  sums-are [] r made is = record {
    last = is.last;
    sum = is.sum;
    uncovered = is.uncovered;
    settled = is.settled;
  }
  sums-are (j ∷ js) r made is =
      let caps : caps_on scheme (journey_day j) ≡ caps_on revised (journey_day j) =
      sym (caps-agree (journey_day j) made.0) in
      record {
        last = is.last;
        sum = is.sum;
        uncovered = subst (λ caps. AreParts caps (on_day (journey_day j) js) r.uncovered) caps is.uncovered;
        settled = ap (λ caps. r.settled + day_charge caps (today (j ∷ js))) (sym caps) ∙ is.settled
            ∙ sym (journeys_charge-agrees (j ∷ js) made);
      }

  -- and so is what is kept of their charge
  running-agrees : (js : List Journey) (r : Totals) → AreMadeBefore day js → IsRunning (caps_on scheme) js r →
      IsRunning (caps_on revised) js r
  running-agrees js r made is = record {
    sums = sums-are js r made is.sums;
    charged = is.charged ∙ sym (journeys_charge-agrees js made);
  }

  closed-before : (taps : List Tap) → AreBefore day taps → AreBefore day (closed taps)
  closed-before [] before = tt
  closed-before (In a ∷ taps) before = before.1
  closed-before (Out b ∷ taps) before = before

  open-agrees : (taps : List Tap) → AreBefore day taps → open_charge revised taps ≡ open_charge scheme taps
  open-agrees [] before = refl
  open-agrees (In a ∷ taps) before = entry-agrees a taps before.0 before.1
  open-agrees (Out b ∷ taps) before = refl

  newest-agrees : (taps : List Tap) → AreBefore day taps → newest_of revised taps ≡ newest_of scheme taps
  newest-agrees [] before = refl
  newest-agrees (In a ∷ taps) before = ap (Inside a) (continues-agrees a taps before.0 before.1)
  newest-agrees (Out b ∷ taps) before = ap (Outside b) (ends-agree (Out b ∷ taps) before)

  -- what is kept of travel is of the same travel
  travels-agree : (taps : List Tap) (t : Travels) → AreBefore day taps → IsTravelOf scheme taps t →
      IsTravelOf revised taps t
  travels-agree taps t before is = record {
    totals =
        subst (λ js. IsRunning (caps_on revised) js t.totals) (sym (journeys-agree taps before))
        (running-agrees (journeys scheme taps) t.totals (journeys-before day scheme taps before) is.totals);
    incomplete = is.incomplete ∙ sym (incomplete-agrees (closed taps) (closed-before taps before));
    taken = is.taken ∙ sym (open-agrees taps before);
    newest = is.newest ∙ sym (newest-agrees taps before);
  }

  -- what a card keeps is of the same acts
  pub account-agrees : (acts : List Act) (account : Account) → AreBefore day (travel scheme acts) →
      IsAccountOf scheme acts account → IsAccountOf revised acts account
  account-agrees acts account before is = record {
    issued = is.issued;
    paid = is.paid;
    travels =
        subst (λ taps. IsTravelOf revised taps account.travels) (sym (travel-agrees acts before))
        (travels-agree (travel scheme acts) account.travels before is.travels);
  }

  known-agrees : (p : Passage) → day_of p <ℤ day → IsKnown scheme p → IsKnown revised p
  known-agrees p before known =
      subst (λ (terms : Terms). IsTrue (terms.knows p.station)) (sym (agree.on (day_of p) before)) known

  newest-known : (taps : List Tap) → AreBefore day taps → IsNewestKnown scheme (newest_of scheme taps) →
      IsNewestKnown revised (newest_of scheme taps)
  newest-known [] before known = tt
  newest-known (In a ∷ taps) before known = known-agrees a before.0 known
  newest-known (Out b ∷ taps) before known = tt

  last-known : (js : List Journey) → AreMadeBefore day js →
      ForSome (newest js) (λ journey. IsKnown scheme journey.start) →
      ForSome (newest js) (λ journey. IsKnown revised journey.start)
  last-known [] made known = λ j found. absurd (cc found)
  last-known (j ∷ js) made known = λ last found.
      let same : j ≡ last = cc found in
      known-agrees last.start (subst (λ (x : Journey). journey_day x <ℤ day) same made.0) (known last found)

  -- and its stations are known
  pub account-safe : (acts : List Act) (count : ℕ) (account : Account) → AreBefore day (travel scheme acts) →
      IsAccountOf scheme acts account → IsAccountSafe scheme count account → IsAccountSafe revised count account
  account-safe acts count account before is safe =
      let taps : List Tap = travel scheme acts in
      let t : Travels = account.travels in
      record {
        travels = record {
          newest =
              subst (IsNewestKnown revised) (sym is.travels.newest)
              (newest-known taps before (subst (IsNewestKnown scheme) is.travels.newest safe.travels.newest));
          last =
              subst (λ last. ForSome last (λ journey. IsKnown revised journey.start)) (sym is.travels.totals.sums.last)
              (last-known (journeys scheme taps) (journeys-before day scheme taps before)
              (subst (λ last. ForSome last (λ journey. IsKnown scheme journey.start)) is.travels.totals.sums.last
              safe.travels.last));
          spent = safe.travels.spent;
          charged = safe.travels.charged;
        };
        paid = safe.paid;
      }
