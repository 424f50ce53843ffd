-- Travel in order has row days that fall, and journeys and incomplete touches whose days fall.
use Rattle.std.proofs.Common.{◌≡◌, ℤ, ◌≤ℤ◌, ◌<ℤ◌, Bool, true, false, ◌||◌, cond, List, [], ◌∷◌, map, filter, refl, sym}
use Rattle.std.proofs.Common.{ap}
use Rattle.std.proofs.Common.{◌∙◌, subst, arith, inl, inr, Option, Some, None}
use Rattle.std.specs.Prelude.{if◌then◌else◌}
use Rattle.std.specs.Ordering.{int_eq}
use Rattle.std.proofs.lemmas.Bool.{cases_Bool, both_ways}
use Rattle.std.proofs.lemmas.Bool.Decides.{Decides-int_eq}
use Rattle.std.proofs.lemmas.Int.{ints}
use Rattle.oyster_account.specs.declared.journey.Journey.{Journey}
use Rattle.oyster_account.specs.Scheme.{Scheme}
use Rattle.oyster_account.specs.Travel.{Tap, passage_of, day_of}
use Rattle.oyster_account.specs.Journey.{journeys, journey_day}
use Rattle.oyster_account.specs.Charge.{has_day, add_day}
use Rattle.oyster_account.specs.Order.{IsInOrder}
use Rattle.oyster_account.specs.Totals.{AreUpTo as AreJourneysUpTo}
use Rattle.oyster_account.proofs.OrderLemmas.{journeys-in_order}
use Rattle.card_statement.specs.declared.statement.Incomplete.{Incomplete}
use Rattle.card_statement.specs.Incomplete.{is_missing, incomplete_of, incompletes, incomplete_day}
use Rattle.card_statement.specs.Day.{tap_days, has_row, row_days}
use Rattle.card_statement.specs.Runs.{AreUpTo, AreFalling, AreBefore, AreDaysFalling}
use Rattle.card_statement.proofs.DayLists.{or_other}
use Rattle.card_statement.proofs.RunLemmas.{up-later, up-falls, other-below}
use Rattle.card_statement.proofs.DayRowLemmas.{AreRowDays, before-later, before-none, before-falls}
use Rattle.card_statement.proofs.StatementLemmas.{AreAmong, journeys-rows, incompletes-rows}

-- the same of journeys, in the words of the account
same-up : (day : ℤ) (js : List Journey) → AreJourneysUpTo day js → AreUpTo journey_day day js
same-up day [] up = tt
same-up day (j ∷ js) up = (up.0, same-up (journey_day j) js up.1)

module _ (scheme : Scheme) where
  pub journeys-fall : (taps : List Tap) → IsInOrder taps → AreFalling journey_day (journeys scheme taps)
  journeys-fall [] order = tt
  journeys-fall (tap ∷ taps) order =
      let newest : ℤ = day_of (passage_of tap) in
      let up : newest ≤ℤ newest = omega (arith, ints) in
      up-falls journey_day newest (journeys scheme (tap ∷ taps))
      (same-up newest (journeys scheme (tap ∷ taps)) (journeys-in_order scheme (tap ∷ taps) newest order up))

  -- incomplete touches are touches
  kept-up : (b : Bool) (row : Incomplete) (rows : List Incomplete) (day : ℤ) → incomplete_day row ≤ℤ day →
      AreUpTo incomplete_day (incomplete_day row) rows → AreUpTo incomplete_day day (cond b (row ∷ rows) rows)
  kept-up true row rows day below up = (below, up)
  kept-up false row rows day below up = up-later incomplete_day (incomplete_day row) day rows below up

  incompletes-up : (later : Option Tap) (tap : Tap) (taps : List Tap) (day : ℤ) → day_of (passage_of tap) ≤ℤ day →
      IsInOrder (tap ∷ taps) → AreUpTo incomplete_day day (incompletes scheme later (tap ∷ taps))
  incompletes-up later tap [] day below order =
      kept-up (is_missing scheme later tap []) (incomplete_of scheme later tap []) [] day below tt
  incompletes-up later tap (last ∷ taps) day below order =
      kept-up (is_missing scheme later tap (last ∷ taps)) (incomplete_of scheme later tap (last ∷ taps))
      (incompletes scheme (Some tap) (last ∷ taps)) day below
      (incompletes-up (Some tap) last taps (day_of (passage_of tap)) order.0.day order.1)

  pub incompletes-fall : (taps : List Tap) → IsInOrder taps →
      AreFalling incomplete_day (incompletes scheme None taps)
  incompletes-fall [] order = tt
  incompletes-fall (tap ∷ taps) order =
      let newest : ℤ = day_of (passage_of tap) in
      let up : newest ≤ℤ newest = omega (arith, ints) in
      up-falls incomplete_day newest (incompletes scheme None (tap ∷ taps))
      (incompletes-up None tap taps newest up order)

-- the days of touches in order fall from that of the newest
pub record AreDaysFrom (day : ℤ) (days older : List ℤ) : Type 0 where
  pub begins : days ≡ day ∷ older
  pub before : AreBefore day older

added-from : (b : Bool) (day last : ℤ) (older : List ℤ) → int_eq last day ≡ b → last ≤ℤ day → AreBefore last older →
    (rest : List ℤ) × AreDaysFrom day (add_day day (last ∷ older)) rest
added-from true day last older same below before =
    let is : last ≡ day = (Decides-int_eq last day).0 same in
    let has : has_day day (last ∷ older) ≡ true = ap (λ b. b || has_day day older) same in (
      older,
      record {
        begins = ap (λ b. if b then last ∷ older else day ∷ last ∷ older) has ∙ ap (λ d. d ∷ older) is;
        before = subst (λ d. AreBefore d older) is before;
      },
    )
added-from false day last older other below before =
    let later : last <ℤ day = other-below last day below other in
    let none : has_day day (last ∷ older) ≡ false = before-none day (last ∷ older) (later, before) in (
      last ∷ older,
      record {
        begins = ap (λ b. if b then last ∷ older else day ∷ last ∷ older) none;
        before = (later, before);
      },
    )

days-from : (tap : Tap) (taps : List Tap) → IsInOrder (tap ∷ taps) →
    (older : List ℤ) × AreDaysFrom (day_of (passage_of tap)) (tap_days (tap ∷ taps)) older
days-from tap [] order = ([], record { begins = refl; before = tt })
days-from tap (last ∷ taps) order =
    let day : ℤ = day_of (passage_of tap) in
    let last_day : ℤ = day_of (passage_of last) in
    let older : List ℤ = (days-from last taps order.1).0 in
    let from = (days-from last taps order.1).1 in
    subst (λ days. (rest : List ℤ) × AreDaysFrom day (add_day day days) rest) (sym from.begins)
    (added-from (int_eq last_day day) day last_day older refl order.0.day from.before)

-- days that fall do so after a filter
kept-before : (b : Bool) (day e : ℤ) (days : List ℤ) → e <ℤ day → AreBefore e days →
    AreBefore day (cond b (e ∷ days) days)
kept-before true day e days below before = (below, before)
kept-before false day e days below before = before-later e day days below before

filter-before : (p : ℤ → Bool) (day : ℤ) (days : List ℤ) → AreBefore day days → AreBefore day (filter p days)
filter-before p day [] before = tt
filter-before p day (e ∷ days) before =
    kept-before (p e) day e (filter p days) before.0 (filter-before p e days before.1)

kept-falls : (b : Bool) (e : ℤ) (days : List ℤ) → AreBefore e days → AreDaysFalling (cond b (e ∷ days) days)
kept-falls true e days before = before
kept-falls false e days before = before-falls e days before

filter-falls : (p : ℤ → Bool) (days : List ℤ) → AreDaysFalling days → AreDaysFalling (filter p days)
filter-falls p [] falls = tt
filter-falls p (e ∷ days) falls = kept-falls (p e) e (filter p days) (filter-before p e days falls)

-- a filter leaves no day that fails
kept-fails : (b : Bool) (d e : ℤ) (days : List ℤ) → (b ≡ true → int_eq e d ≡ false) → has_day d days ≡ false →
    has_day d (cond b (e ∷ days) days) ≡ false
kept-fails true d e days other none = ap (λ b. b || has_day d days) (other refl) ∙ none
kept-fails false d e days other none = none

filter-fails : (p : ℤ → Bool) (d : ℤ) (days : List ℤ) → p d ≡ false → has_day d (filter p days) ≡ false
filter-fails p d [] fails = refl
filter-fails p d (e ∷ days) fails =
    kept-fails (p e) d e (filter p days) (λ passes. elim (cases_Bool (int_eq e d)) [
      | inl same ↦ absurd (both_ways (p d) fails (subst (λ x. p x ≡ true) ((Decides-int_eq e d).0 same) passes))
      | inr other ↦ other
    ]) (filter-fails p d days fails)

among-has : (d : ℤ) (days ds : List ℤ) → AreAmong days ds → has_day d ds ≡ true → has_day d days ≡ true
among-has d days [] among has = absurd (cc)
among-has d days (e ∷ ds) among has =
    elim (cases_Bool (int_eq e d)) [
      | inl same ↦ subst (λ x. has_day x days ≡ true) ((Decides-int_eq e d).0 same) among.0
      | inr other ↦ among-has d days ds among.1 (or_other (int_eq e d) (has_day d ds) has other)
    ]

module _ (scheme : Scheme) (taps : List Tap) where
  pub row_days-fall : IsInOrder taps → AreDaysFalling (row_days scheme taps)
  row_days-fall order =
      filter-falls (has_row (journeys scheme taps) (incompletes scheme None taps)) (tap_days taps)
      (taps-fall taps order)
    where
      taps-fall : (all : List Tap) → IsInOrder all → AreDaysFalling (tap_days all)
      taps-fall [] order = tt
      taps-fall (tap ∷ others) order =
          let from = (days-from tap others order).1 in
          subst AreDaysFalling (sym from.begins) from.before

  pub row_days-are : AreRowDays (journeys scheme taps) (incompletes scheme None taps) (row_days scheme taps)
  row_days-are d =
      let made : List Journey = journeys scheme taps in
      let rows : List Incomplete = incompletes scheme None taps in
      let days : List ℤ = row_days scheme taps in
      elim (cases_Bool (has_row made rows d)) [
        | inl has ↦ elim (cases_Bool (has_day d (map journey_day made))) [
          | inl there ↦ among-has d days (map journey_day made) (journeys-rows scheme taps) there ∙ sym has
          | inr gone ↦ among-has d days (map incomplete_day rows) (incompletes-rows scheme taps)
              (or_other (has_day d (map journey_day made)) (has_day d (map incomplete_day rows)) has gone) ∙ sym has
        ]
        | inr none ↦ filter-fails (has_row made rows) d (tap_days taps) none ∙ sym none
      ]
