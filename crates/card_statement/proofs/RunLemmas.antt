-- A day cut off the front of a list whose days fall.
use Rattle.std.proofs.Common.{◌≡◌, ℕ, suc, ◌+◌, ℤ, ◌≤ℤ◌, ◌<ℤ◌, Bool, true, false, ◌||◌, cond, List, [], ◌∷◌, map}
use Rattle.std.proofs.Common.{filter, take, drop}
use Rattle.std.proofs.Common.{refl, sym, ap, ◌∙◌, subst, arith, inl, inr}
use Rattle.std.specs.Ordering.{int_eq}
use Rattle.std.proofs.lemmas.Bool.{cases_Bool, both_ways}
use Rattle.std.proofs.lemmas.Bool.Decides.{Decides-int_eq}
use Rattle.std.proofs.lemmas.Int.{ints, by_lt_z}
use Rattle.oyster_account.specs.Charge.{has_day}
use Rattle.card_statement.specs.Runs.{AreUpTo, AreFalling, run_length}

-- days that differ
pub below-other : (d day : ℤ) → d <ℤ day → int_eq d day ≡ false
below-other d day below =
    elim (cases_Bool (int_eq d day)) [
      | inl p ↦
          let bad : day <ℤ day = subst (λ x. x <ℤ day) ((Decides-int_eq d day).0 p) below in
          absurd (omega (arith, ints, bad))
      | inr q ↦ q
    ]

pub other-below : (d day : ℤ) → d ≤ℤ day → int_eq d day ≡ false → d <ℤ day
other-below d day up other =
    by_lt_z d day (λ below. below) (λ above.
    let same : d ≡ day = omega (arith, ints, up, above) in
    absurd (both_ways (int_eq d day) other ((Decides-int_eq d day).1 same)))

module _ {X : Type 0} (day_of : X → ℤ) where
  -- those of one day
  abbrev pub on : ℤ → List X → List X
  on day xs = filter (λ x. int_eq (day_of x) day) xs

  -- what is up to a day is up to a later one, and falls
  pub up-later : (day later : ℤ) (xs : List X) → day ≤ℤ later → AreUpTo day_of day xs → AreUpTo day_of later xs
  up-later day later [] below up = tt
  up-later day later (x ∷ xs) below up = (omega (arith, ints, below, up.0), up.1)

  pub up-falls : (day : ℤ) (xs : List X) → AreUpTo day_of day xs → AreFalling day_of xs
  up-falls day [] up = tt
  up-falls day (x ∷ xs) up = up.1

  -- nothing up to a day is of a later one
  none-on : (d day : ℤ) (xs : List X) → AreUpTo day_of d xs → d <ℤ day → on day xs ≡ []
  none-on d day [] up below = refl
  none-on d day (x ∷ xs) up below =
      let first : day_of x <ℤ day = omega (arith, ints, up.0, below) in
      ap (λ b. cond b (x ∷ on day xs) (on day xs)) (below-other (day_of x) day first)
      ∙ none-on (day_of x) day xs up.1 first

  none-has : (d day : ℤ) (xs : List X) → AreUpTo day_of d xs → d <ℤ day → has_day day (map day_of xs) ≡ false
  none-has d day [] up below = refl
  none-has d day (x ∷ xs) up below =
      let first : day_of x <ℤ day = omega (arith, ints, up.0, below) in
      ap (λ b. b || has_day day (map day_of xs)) (below-other (day_of x) day first)
      ∙ none-has (day_of x) day xs up.1 first

  -- a day among those up to a day is no later one
  pub has-up : (d day : ℤ) (xs : List X) → AreUpTo day_of day xs → has_day d (map day_of xs) ≡ true → d ≤ℤ day
  has-up d day xs up has =
      by_lt_z day d (λ below. absurd (both_ways (has_day d (map day_of xs)) (none-has day d xs up below) has))
      (λ above. above)

  -- one more at the front
  run-cons : (day : ℤ) (x : X) (xs : List X) →
      run_length day_of day (x ∷ xs) ≡ cond (int_eq (day_of x) day) (suc (run_length day_of day xs)) 0
  run-cons day x xs =
      let more : 1 + run_length day_of day xs ≡ suc (run_length day_of day xs) = omega arith in
      ap (λ n. cond (int_eq (day_of x) day) n 0) more

  -- the front of the day is what is of the day
  run-front : (b : Bool) (day : ℤ) (x : X) (xs : List X) → int_eq (day_of x) day ≡ b → day_of x ≤ℤ day →
      AreUpTo day_of (day_of x) xs → take (run_length day_of day xs) xs ≡ on day xs →
      take (cond b (suc (run_length day_of day xs)) 0) (x ∷ xs) ≡ cond b (x ∷ on day xs) (on day xs)
  run-front true day x xs is up rest same = ap (λ l. x ∷ l) same
  run-front false day x xs is up rest same =
      sym (none-on (day_of x) day xs rest (other-below (day_of x) day up is))

  pub run-take : (day : ℤ) (xs : List X) → AreUpTo day_of day xs → take (run_length day_of day xs) xs ≡ on day xs
  run-take day [] up = refl
  run-take day (x ∷ xs) up =
      ap (λ n. take n (x ∷ xs)) (run-cons day x xs)
      ∙ run-front (int_eq (day_of x) day) day x xs refl up.0 up.1
      (run-take day xs (up-later (day_of x) day xs up.0 up.1))

  -- what is behind it has what is of other days
  rest-front : (b : Bool) (day e : ℤ) (x : X) (xs : List X) → int_eq (day_of x) day ≡ b → int_eq day e ≡ false →
      on e (drop (run_length day_of day xs) xs) ≡ on e xs →
      on e (drop (cond b (suc (run_length day_of day xs)) 0) (x ∷ xs)) ≡ on e (x ∷ xs)
  rest-front true day e x xs is other same =
      let skipped : int_eq (day_of x) e ≡ false =
      ap (λ d. int_eq d e) ((Decides-int_eq (day_of x) day).0 is) ∙ other in
      same ∙ sym (ap (λ b. cond b (x ∷ on e xs) (on e xs)) skipped)
  rest-front false day e x xs is other same = refl

  pub rest-on : (day e : ℤ) (xs : List X) → int_eq day e ≡ false → on e (drop (run_length day_of day xs) xs) ≡ on e xs
  rest-on day e [] other = refl
  rest-on day e (x ∷ xs) other =
      ap (λ n. on e (drop n (x ∷ xs))) (run-cons day x xs)
      ∙ rest-front (int_eq (day_of x) day) day e x xs refl other (rest-on day e xs other)

  has-front : (b : Bool) (day e : ℤ) (x : X) (xs : List X) → int_eq (day_of x) day ≡ b → int_eq day e ≡ false →
      has_day e (map day_of (drop (run_length day_of day xs) xs)) ≡ has_day e (map day_of xs) →
      has_day e (map day_of (drop (cond b (suc (run_length day_of day xs)) 0) (x ∷ xs)))
      ≡ has_day e (map day_of (x ∷ xs))
  has-front true day e x xs is other same =
      let skipped : int_eq (day_of x) e ≡ false =
      ap (λ d. int_eq d e) ((Decides-int_eq (day_of x) day).0 is) ∙ other in
      same ∙ sym (ap (λ b. b || has_day e (map day_of xs)) skipped)
  has-front false day e x xs is other same = refl

  pub rest-has : (day e : ℤ) (xs : List X) → int_eq day e ≡ false →
      has_day e (map day_of (drop (run_length day_of day xs) xs)) ≡ has_day e (map day_of xs)
  rest-has day e [] other = refl
  rest-has day e (x ∷ xs) other =
      ap (λ n. has_day e (map day_of (drop n (x ∷ xs)))) (run-cons day x xs)
      ∙ has-front (int_eq (day_of x) day) day e x xs refl other (rest-has day e xs other)

  -- and nothing of the day
  gone-front : (b : Bool) (day : ℤ) (x : X) (xs : List X) → int_eq (day_of x) day ≡ b → day_of x ≤ℤ day →
      AreUpTo day_of (day_of x) xs →
      has_day day (map day_of (drop (run_length day_of day xs) xs)) ≡ false →
      has_day day (map day_of (drop (cond b (suc (run_length day_of day xs)) 0) (x ∷ xs))) ≡ false
  gone-front true day x xs is up rest gone = gone
  gone-front false day x xs is up rest gone =
      let first : day_of x <ℤ day = other-below (day_of x) day up is in
      ap (λ b. b || has_day day (map day_of xs)) is ∙ none-has (day_of x) day xs rest first

  pub rest-gone : (day : ℤ) (xs : List X) → AreUpTo day_of day xs →
      has_day day (map day_of (drop (run_length day_of day xs) xs)) ≡ false
  rest-gone day [] up = refl
  rest-gone day (x ∷ xs) up =
      ap (λ n. has_day day (map day_of (drop n (x ∷ xs)))) (run-cons day x xs)
      ∙ gone-front (int_eq (day_of x) day) day x xs refl up.0 up.1
      (rest-gone day xs (up-later (day_of x) day xs up.0 up.1))

  -- it falls as well
  falls-front : (b : Bool) (n : ℕ) (x : X) (xs : List X) → AreUpTo day_of (day_of x) xs →
      AreFalling day_of (drop n xs) →
      AreFalling day_of (drop (cond b (suc n) 0) (x ∷ xs))
  falls-front true n x xs up falls = falls
  falls-front false n x xs up falls = up

  pub rest-falls : (day : ℤ) (xs : List X) → AreFalling day_of xs →
      AreFalling day_of (drop (run_length day_of day xs) xs)
  rest-falls day [] falls = tt
  rest-falls day (x ∷ xs) falls =
      subst (λ n. AreFalling day_of (drop n (x ∷ xs))) (sym (run-cons day x xs))
      (falls-front (int_eq (day_of x) day) (run_length day_of day xs) x xs falls
      (rest-falls day xs (up-falls (day_of x) xs falls)))
