-- How a card's accepted acts grow, and that a statement has no more rows than the history has touches.
use Rattle.std.proofs.Common.{◌≡◌, ℕ, ◌+◌, ◌≤◌, Bool, true, false, cond, List, [], ◌∷◌, ◌++◌, map, filter, reverse}
use Rattle.std.proofs.Common.{length}
use Rattle.std.proofs.Common.{refl, ap, ◌∙◌, arith, Option, Some, None}
use Rattle.std.proofs.lemmas.List.{reverse-append, length-map, length-reverse}
use Rattle.oyster_account.specs.declared.touch.Act.{Act}
use Rattle.oyster_account.specs.declared.touch.Act.TheVariants.{Enter, Leave, TopUp, Issue, Revise}
use Rattle.oyster_account.specs.declared.travel.Passage.{Passage}
use Rattle.oyster_account.specs.declared.journey.Journey.{Journey}
use Rattle.oyster_account.specs.declared.reply.Judged.{Judged}
use Rattle.oyster_account.specs.Scheme.{Scheme}
use Rattle.oyster_account.specs.Travel.{Tap, In, Out, travel}
use Rattle.oyster_account.specs.Leg.{is_in_time}
use Rattle.oyster_account.specs.Journey.{continues, add_leg, journeys}
use Rattle.oyster_account.specs.History.{counts_for, accepted, accepted_acts}
use Rattle.card_statement.specs.Incomplete.{is_missing, incomplete_of, incompletes}
use Rattle.card_statement.specs.Statement.{top_up_rows}

counted : (b : Bool) (one : Judged) (others : List Judged) → b ≡ true →
    map (λ (j : Judged). j.touch.act) (cond b (one ∷ others) others)
    ≡ one.touch.act ∷ map (λ (j : Judged). j.touch.act) others
counted true one others is = refl
counted false one others is = absurd (cc)

uncounted : (b : Bool) (one : Judged) (others : List Judged) → b ≡ false →
    map (λ (j : Judged). j.touch.act) (cond b (one ∷ others) others)
    ≡ map (λ (j : Judged). j.touch.act) others
uncounted true one others is = absurd (cc)
uncounted false one others is = refl

-- one touch more that counts for the card, or that doesn't
pub accepted-counted : (card : ℕ) (history : List Judged) (one : Judged) → counts_for card one ≡ true →
    accepted card (history ++ one ∷ []) ≡ one.touch.act ∷ accepted card history
accepted-counted card history one is =
    ap (accepted_acts card) (reverse-append history (one ∷ []))
    ∙ counted (counts_for card one) one (filter (counts_for card) (reverse history)) is

pub accepted-uncounted : (card : ℕ) (history : List Judged) (one : Judged) → counts_for card one ≡ false →
    accepted card (history ++ one ∷ []) ≡ accepted card history
accepted-uncounted card history one is =
    ap (accepted_acts card) (reverse-append history (one ∷ []))
    ∙ uncounted (counts_for card one) one (filter (counts_for card) (reverse history)) is

-- fewer or as many
kept-fewer : {X : Type 0} (b : Bool) (x : X) (xs : List X) (n : ℕ) → length xs ≤ n →
    length (cond b (x ∷ xs) xs) ≤ n + 1
kept-fewer true x xs n up = omega (arith, up)
kept-fewer false x xs n up = omega (arith, up)

filter-fewer : {X : Type 0} (p : X → Bool) (xs : List X) → length (filter p xs) ≤ length xs
filter-fewer p [] = omega arith
filter-fewer p (x ∷ xs) = omega (arith, kept-fewer (p x) x (filter p xs) (length xs) (filter-fewer p xs))

pub accepted-fewer : (card : ℕ) (history : List Judged) → length (accepted card history) ≤ length history
accepted-fewer card history =
    omega (
      arith,
      length-map (filter (counts_for card) (reverse history)) (λ (j : Judged). j.touch.act),
      filter-fewer (counts_for card) (reverse history),
      length-reverse history,
    )

travel-fewer : (scheme : Scheme) (acts : List Act) → length (travel scheme acts) ≤ length acts
travel-fewer scheme [] = omega arith
travel-fewer scheme (Enter station moment ∷ acts) = omega (arith, travel-fewer scheme acts)
travel-fewer scheme (Leave station moment ∷ acts) = omega (arith, travel-fewer scheme acts)
travel-fewer scheme (TopUp pence moment ∷ acts) = omega (arith, travel-fewer scheme acts)
travel-fewer scheme (Issue moment ∷ acts) = omega (arith, travel-fewer scheme acts)
travel-fewer scheme (Revise day moment digest ∷ acts) = omega (arith, travel-fewer scheme acts)

pub top_ups-fewer : (scheme : Scheme) (acts : List Act) → length (top_up_rows scheme acts) ≤ length acts
top_ups-fewer scheme [] = omega arith
top_ups-fewer scheme (Enter station moment ∷ acts) = omega (arith, top_ups-fewer scheme acts)
top_ups-fewer scheme (Leave station moment ∷ acts) = omega (arith, top_ups-fewer scheme acts)
top_ups-fewer scheme (TopUp pence moment ∷ acts) = omega (arith, top_ups-fewer scheme acts)
top_ups-fewer scheme (Issue moment ∷ acts) = omega (arith, top_ups-fewer scheme acts)
top_ups-fewer scheme (Revise day moment digest ∷ acts) = omega (arith, top_ups-fewer scheme acts)

module _ (scheme : Scheme) where
  added-fewer : (continued : Bool) (a b : Passage) (js : List Journey) (n : ℕ) → length js ≤ n →
      length (add_leg scheme continued a b js) ≤ n + 1
  added-fewer true a b [] n up = omega (arith, up)
  added-fewer true a b (j ∷ js) n up = omega (arith, up)
  added-fewer false a b js n up = omega (arith, up)

  leg-fewer : (in_time continued : Bool) (a b : Passage) (js : List Journey) (n : ℕ) → length js ≤ n →
      length (cond in_time (add_leg scheme continued a b js) js) ≤ n + 1
  leg-fewer true continued a b js n up = added-fewer continued a b js n up
  leg-fewer false continued a b js n up = omega (arith, up)

  journeys-fewer : (taps : List Tap) → length (journeys scheme taps) ≤ length taps
  journeys-fewer [] = omega arith
  journeys-fewer (In a ∷ taps) = omega (arith, journeys-fewer taps)
  journeys-fewer (Out b ∷ []) = omega arith
  journeys-fewer (Out b ∷ Out c ∷ taps) = omega (arith, journeys-fewer (Out c ∷ taps))
  journeys-fewer (Out b ∷ In a ∷ taps) =
      omega (
        arith,
        leg-fewer (is_in_time scheme a b) (continues scheme a taps) a b (journeys scheme taps) (length taps)
            (journeys-fewer taps),
      )

  incompletes-fewer : (later : Option Tap) (taps : List Tap) → length (incompletes scheme later taps) ≤ length taps
  incompletes-fewer later [] = omega arith
  incompletes-fewer later (tap ∷ taps) =
      omega (
        arith,
        kept-fewer (is_missing scheme later tap taps) (incomplete_of scheme later tap taps)
            (incompletes scheme (Some tap) taps) (length taps) (incompletes-fewer (Some tap) taps),
      )

  module _ (card : ℕ) (history : List Judged) where
    pub made-fewer : length (journeys scheme (travel scheme (accepted card history))) ≤ length history
    made-fewer =
        omega (
          arith,
          journeys-fewer (travel scheme (accepted card history)),
          travel-fewer scheme (accepted card history),
          accepted-fewer card history,
        )

    pub missed-fewer : length (incompletes scheme None (travel scheme (accepted card history))) ≤ length history
    missed-fewer =
        omega (
          arith,
          incompletes-fewer None (travel scheme (accepted card history)),
          travel-fewer scheme (accepted card history),
          accepted-fewer card history,
        )

    pub paid-fewer : length (top_up_rows scheme (accepted card history)) ≤ length history
    paid-fewer =
        omega (arith, top_ups-fewer scheme (accepted card history), accepted-fewer card history)
