-- What is given up in a gate's file: by a touch that was asked, by one that is given up, and of the one that waits.
use Rattle.std.proofs.Common.{◌≡◌, ◌⊎◌, inl, inr, ℕ, ◌+◌, ◌<◌, ◌≤◌, ◌==◌, Bool, true, false, not, List, []}
use Rattle.std.proofs.Common.{◌∷◌, ◌++◌, length, refl, sym, ap, ◌∙◌, arith, Option, Some, None, is_some}
use Rattle.std.proofs.Common.{append-nil, length-append}
use Rattle.std.specs.Prelude.{Contains, slice_get, if◌then◌else◌}
use Rattle.std.proofs.lemmas.List.Elements.{filter-append, filter_agree}
use Rattle.std.proofs.lemmas.Option.{slice_get_within}
use Rattle.oyster_account.specs.declared.touch.Touch.{Touch}
use Rattle.reply_book.proofs.PlaceLemmas.{slice_get-append_left, slice_get-behind, slice_get-same}
use Rattle.reply_book.proofs.NameLemmas.{both, equal, equal-refl}
use Rattle.gate_client.specs.File.{AreNumbered, last_of, waiting_at, waiting_of}
use Rattle.gate_client.proofs.NumberLemmas.{by-number, last_of-push}
use Rattle.gate_law.specs.Joint.{has_number, is_given_up, not_given_up}
use Rattle.gate_law.specs.Agreement.{AreInOrder, AreNamedAlike}
use Rattle.gate_law.proofs.ListLemmas.{push-both, read-push, read-end}
use Rattle.gate_law.proofs.FilterLemmas.{filter-has, filter-of, filter-one, filter-twice}

-- two numbers that aren't the same
pub differ : (m n : ℕ) → (m ≡ n → ⊥) → (m == n) ≡ false
differ m n other = by_test (m == n) refl
  where
    by_test : (b : Bool) → (m == n) ≡ b → (m == n) ≡ false
    by_test true is = absurd (other (equal m n is))
    by_test false is = is

-- ---- which touches are given up

-- what is given up stands in the place of the next number
pub given_up-at : (asked : List Touch) (n : ℕ) → is_given_up asked n ≡ true
    → (t : Touch) × (slice_get asked n ≡ Some t) × (t.number ≡ n)
given_up-at asked n is = by_read (slice_get asked n) refl is
  where
    by_read : (o : Option Touch) → slice_get asked n ≡ o → has_number n o ≡ true
        → (t : Touch) × (slice_get asked n ≡ Some t) × (t.number ≡ n)
    by_read (Some t) at same = (t, at, equal t.number n same)
    by_read None at same = absurd cc

-- and a touch that stands there is given up
pub given_up-of : (asked : List Touch) (i : ℕ) (t : Touch) → slice_get asked i ≡ Some t → t.number ≡ i
    → is_given_up asked t.number ≡ true
given_up-of asked i t at is =
    ap (λ (n : ℕ). has_number t.number (slice_get asked n)) is
    ∙ ap (has_number t.number) at
    ∙ equal-refl t.number

-- so it stays in a longer file
pub given_up-more : (asked more : List Touch) (n : ℕ) → is_given_up asked n ≡ true
    → is_given_up (asked ++ more) n ≡ true
given_up-more asked more n is =
    let at = given_up-at asked n is in
    ap (has_number n) (slice_get-append_left asked more n at.0 at.1)
    ∙ ap (λ (k : ℕ). at.0.number == k) (sym at.2)
    ∙ equal-refl at.0.number

-- it has a number below the end
pub given_up-below : (asked : List Touch) (n : ℕ) → is_given_up asked n ≡ true → n < length asked
given_up-below asked n is = let at = given_up-at asked n is in slice_get_within asked n at.0 at.1

-- the last number isn't given up
pub given_up-end : (asked : List Touch) → is_given_up asked (length asked) ≡ false
given_up-end asked = ap (has_number (length asked)) (read-end asked)

-- a touch that is asked for gives up none
pub given_up-asked : (asked : List Touch) (t : Touch) → t.number ≡ length asked + 1 → (n : ℕ)
    → is_given_up (asked ++ t ∷ []) n ≡ is_given_up asked n
given_up-asked asked t number n = elim (read-push asked t n) [
  | inl same ↦ ap (has_number n) same
  | inr last ↦
      let place : n ≡ length asked = last.0 in
      ap (has_number n) last.1
      ∙ differ t.number n (λ same. let e : t.number ≡ n = same in omega (arith, number, place, e))
      ∙ sym (ap (has_number n) last.2)
]

-- ---- which are left

module _ (asked : List Touch) where
  abbrev stays : Touch → Bool
  stays t = not (is_given_up asked t.number)

  -- a touch that isn't given up is left
  pub left-has : (touches : List Touch) (t : Touch) → is_given_up asked t.number ≡ false → Contains touches t
      → Contains (not_given_up asked touches) t
  left-has touches t is there = filter-has stays touches t (ap not is) there

  -- and those that are left are among all
  pub left-of : (touches : List Touch) (t : Touch) → Contains (not_given_up asked touches) t → Contains touches t
  left-of touches t there = (filter-of stays touches t there).0

  -- of one more, that isn't given up
  pub left-push : (touches : List Touch) (t : Touch) → is_given_up asked t.number ≡ false
      → not_given_up asked (touches ++ t ∷ []) ≡ not_given_up asked touches ++ t ∷ []
  left-push touches t is =
      filter-append stays touches (t ∷ [])
      ∙ ap (λ (l : List Touch). not_given_up asked touches ++ l) (filter-one stays t true (ap not is))

  -- and of one that is
  pub left-same : (touches : List Touch) (t : Touch) → is_given_up asked t.number ≡ true
      → not_given_up asked (touches ++ t ∷ []) ≡ not_given_up asked touches
  left-same touches t is =
      filter-append stays touches (t ∷ [])
      ∙ ap (λ (l : List Touch). not_given_up asked touches ++ l) (filter-one stays t false (ap not is))
      ∙ append-nil (not_given_up asked touches)

-- a touch that is asked for
module _ (asked : List Touch) (t : Touch) (number : t.number ≡ length asked + 1) where
  pub left-asked : (touches : List Touch) → not_given_up (asked ++ t ∷ []) touches ≡ not_given_up asked touches
  left-asked touches =
      filter_agree (λ (u : Touch). not (is_given_up (asked ++ t ∷ []) u.number))
      (λ (u : Touch). not (is_given_up asked u.number)) (λ u. ap not (given_up-asked asked t number u.number)) touches

  new : is_given_up (asked ++ t ∷ []) t.number ≡ false
  new =
      let size : length (asked ++ t ∷ []) ≡ length asked + 1 = length-append asked (t ∷ []) in
      ap (is_given_up (asked ++ t ∷ [])) (number ∙ sym size) ∙ given_up-end (asked ++ t ∷ [])

  pub left-asked_file : not_given_up (asked ++ t ∷ []) (asked ++ t ∷ []) ≡ not_given_up asked asked ++ t ∷ []
  left-asked_file =
      left-push (asked ++ t ∷ []) asked t new ∙ ap (λ (l : List Touch). l ++ t ∷ []) (left-asked asked)

-- a touch that waits, the last, and is given up
module _ (asked earlier : List Touch) (t : Touch) (last : asked ≡ earlier ++ t ∷ [])
    (number : t.number ≡ length asked) where
  pub waiting-stays : is_given_up asked t.number ≡ false
  waiting-stays = ap (is_given_up asked) number ∙ given_up-end asked

  -- all that are left, and it
  pub left-file : not_given_up asked asked ≡ not_given_up asked earlier ++ t ∷ []
  left-file = ap (not_given_up asked) last ∙ left-push asked earlier t waiting-stays

  abbrev pub up : List Touch
  up = asked ++ t ∷ []

  pub gone : is_given_up up t.number ≡ true
  gone = given_up-of up (length asked) t (slice_get-behind asked t []) number

  -- nothing else is given up
  twice : (touches : List Touch) → not_given_up up (not_given_up asked touches) ≡ not_given_up up touches
  twice touches =
      filter-twice (λ (u : Touch). not (is_given_up up u.number)) (λ (u : Touch). not (is_given_up asked u.number))
      (λ u is. by_test u (is_given_up asked u.number) refl is) touches
    where
      by_test : (u : Touch) (b : Bool) → is_given_up asked u.number ≡ b → not (is_given_up up u.number) ≡ true
          → not b ≡ true
      by_test u true e is =
          let no : false ≡ true = sym (ap not (given_up-more asked (t ∷ []) u.number e)) ∙ is in absurd cc
      by_test u false e is = refl

  -- where it is missing, all others are there, and where it isn't missing too
  pub order-given_up : (row : List Touch) (waits : Bool) → AreInOrder row asked waits
      → not_given_up up row ≡ not_given_up up up
  order-given_up row waits order = elim order [
    | inl all ↦
        sym (twice row) ∙ ap (not_given_up up) all ∙ twice asked ∙ sym (left-same up asked t gone)
    | inr r ↦
        let same = push-both (not_given_up asked row) (not_given_up asked earlier) r.last t (sym r.parts ∙ left-file) in
        let whole : not_given_up up asked ≡ not_given_up up row = sym (twice asked)
        ∙ ap (not_given_up up) (left-file ∙ ap (λ (l : List Touch). l ++ t ∷ []) (sym same.0))
        ∙ left-same up (not_given_up asked row) t gone
        ∙ twice row in
        sym whole ∙ sym (left-same up asked t gone)
  ]

-- ---- the touch that waits

-- what waits has the last number
pub waits-number : (asked earlier : List Touch) (t : Touch) → asked ≡ earlier ++ t ∷ []
    → is_some (waiting_of asked) ≡ true → t.number ≡ length asked
waits-number asked earlier t last waits = by_test (t.number == length asked) refl
  where
    read : last_of asked ≡ Some t
    read = ap last_of last ∙ last_of-push earlier t

    at : is_some (waiting_at (length asked) (Some t)) ≡ true
    at = ap (λ (o : Option Touch). is_some (waiting_at (length asked) o)) (sym read) ∙ waits

    by_test : (b : Bool) → (t.number == length asked) ≡ b → t.number ≡ length asked
    by_test true is = equal t.number (length asked) is
    by_test false is =
        let no : false ≡ true = sym (ap (λ (b : Bool). is_some (if b then Some t else None)) is) ∙ at in absurd cc

-- and one that has it waits
pub number-waits : (earlier : List Touch) (t : Touch) → t.number ≡ length (earlier ++ t ∷ [])
    → waiting_of (earlier ++ t ∷ []) ≡ Some t
number-waits earlier t number =
    let count = length (earlier ++ t ∷ []) in
    ap (waiting_at count) (last_of-push earlier t)
    ∙ ap (λ (n : ℕ). if n == count then Some t else None) number
    ∙ ap (λ (b : Bool). if b then Some t else None) (equal-refl count)

-- ---- numbers

module _ (gate : ℕ) (asked : List Touch) (all : AreNumbered gate asked) where
  pub own : (i : ℕ) (t : Touch) → slice_get asked i ≡ Some t → t.gate ≡ gate
  own i t at = elim (all i t at) [ inl here ↦ here.of_gate | inr up ↦ up.own.of_gate ]

  -- its number is that of its place, or it is given up
  number-of : (i : ℕ) (t : Touch) → slice_get asked i ≡ Some t
      → (t.number ≡ i + 1) ⊎ (is_given_up asked t.number ≡ true)
  number-of i t at = elim (all i t at) [
    | inl here ↦ inl here.by_place
    | inr up ↦ inr (given_up-of asked i t at (up.own.by_place ∙ sym up.behind))
  ]

  pub number-below : (i : ℕ) (t : Touch) → slice_get asked i ≡ Some t → t.number ≤ i + 1
  number-below i t at = elim (all i t at) [
    | inl here ↦ let n : t.number ≡ i + 1 = here.by_place in omega (arith, n)
    | inr up ↦
        let n : t.number ≡ up.before + 1 = up.own.by_place in
        let place : i ≡ up.before + 1 = up.behind in omega (arith, n, place)
  ]

  -- two touches with one number are one
  pub one_touch : (i j : ℕ) (a b : Touch) → slice_get asked i ≡ Some a → slice_get asked j ≡ Some b
      → a.number ≡ b.number → a ≡ b
  one_touch i j a b at_i at_j same =
      let x = by-number gate i asked a (all i a at_i) at_i in
      let y = by-number gate j asked b (all j b at_j) at_j in
      let one : a.number ≡ x.0 + 1 = x.2 in
      let two : b.number ≡ y.0 + 1 = y.2 in
      let place : x.0 ≡ y.0 = omega (arith, one, two, same) in
      slice_get-same asked y.0 a b (ap (slice_get asked) (sym place) ∙ x.1) y.1

  pub named : AreNamedAlike asked
  named i j a b at_i at_j same =
      let number = equal a.number b.number (both (a.gate == b.gate) (a.number == b.number) same).1 in (
        one_touch i j a b at_i at_j number,
        elim (number-of i a at_i) [
          | inl first ↦
              elim (number-of j b at_j) [
                | inl second ↦
                    let n : a.number ≡ i + 1 = first in
                    let m : b.number ≡ j + 1 = second in inl (omega (arith, n, m, number))
                | inr up ↦ inr (ap (is_given_up asked) number ∙ up)
              ]
          | inr up ↦ inr up
        ],
      )
