-- That what was said at several desks can be put together so that the history never shrinks, and is said in turn then.
use Rattle.std.proofs.Common.{◌≡◌, ◌⊎◌, inl, inr, ℕ, zero, suc, ◌+◌, ◌-◌, ◌≤◌, List, [], ◌∷◌, length}
use Rattle.std.proofs.Common.{refl, sym, ap, subst, arith}
use Rattle.std.proofs.lemmas.Bool.{cases_lt}
use Rattle.reply_book.specs.declared.entry.Entry.{Entry}
use Rattle.clerk_calls.specs.Logged.{Log}
use Rattle.clerk_calls.specs.Turns.{Said, replies, refuses, tells, Turn, enters, says, said_in, IsSaidAt, AreTurns}
use Rattle.clerk_calls.specs.Merged.{IsMerge, AreMerged}
use Rattle.clerk_calls.specs.Answered.{Saying, said_of, count_by, DoesGrow}
use Rattle.clerk_calls.proofs.EntryLemmas.{stands-below}

-- ---- two lists, put together

merge-none : {X : Type 0} (ys : List X) → IsMerge [] ys ys
merge-none [] = (refl, refl)
merge-none (y ∷ ys) = inr (ys, refl, merge-none ys)

none-merge : {X : Type 0} (xs : List X) → IsMerge xs [] xs
none-merge [] = (refl, refl)
none-merge (x ∷ xs) = inl (xs, refl, none-merge xs)

-- what is said leaves the count, or brings it to its log point
kind-by : (point : List Entry) (said : Said)
    → ((count : ℕ) → count_by count point said ≡ count) ⊎ ((count : ℕ) → count_by count point said ≡ length point)
kind-by point (replies touch reply) = inr (λ count. refl)
kind-by point (refuses touch fault) = inr (λ count. refl)
kind-by point (tells answer) = inl (λ count. refl)

-- two lists put together so that the history never shrinks
record IsPut (count : ℕ) (xs ys : List Saying) : Type 0 where
  pub all : List Saying
  pub merge : IsMerge xs ys all
  pub grows : DoesGrow count all

-- with one more before the others, of the first list or of the second
left-first : (count next : ℕ) (x : Saying) (xs ys : List Saying) → count_by count x.point x.said ≡ next
    → count ≤ count_by count x.point x.said → IsPut next xs ys → IsPut count (x ∷ xs) ys
left-first count next x xs ys same less rest = record {
  all = x ∷ rest.all;
  merge = inl (xs, refl, rest.merge);
  grows = (less, subst (λ (n : ℕ). DoesGrow n rest.all) (sym same) rest.grows);
}

right-first : (count next : ℕ) (y : Saying) (xs ys : List Saying) → count_by count y.point y.said ≡ next
    → count ≤ count_by count y.point y.said → IsPut next xs ys → IsPut count xs (y ∷ ys)
right-first count next y xs ys same less rest = record {
  all = y ∷ rest.all;
  merge = inr (ys, refl, rest.merge);
  grows = (less, subst (λ (n : ℕ). DoesGrow n rest.all) (sym same) rest.grows);
}

-- what goes on from its log point goes on from each count up to that
from-earlier : (count : ℕ) (y : Saying) (ys : List Saying) → ((n : ℕ) → count_by n y.point y.said ≡ length y.point)
    → count ≤ length y.point → DoesGrow (length y.point) ys → DoesGrow count (y ∷ ys)
from-earlier count y ys bound less grows = (
  subst (λ (n : ℕ). count ≤ n) (sym (bound count)) less,
  subst (λ (n : ℕ). DoesGrow n ys) (sym (bound count)) grows,
)

put : (fuel count : ℕ) (xs ys : List Saying) → length xs + length ys ≤ fuel → DoesGrow count xs → DoesGrow count ys
    → IsPut count xs ys
put fuel count [] ys enough left right = record { all = ys; merge = merge-none ys; grows = right }
put fuel count (x ∷ xs) [] enough left right = record { all = x ∷ xs; merge = none-merge (x ∷ xs); grows = left }
put zero count (x ∷ xs) (y ∷ ys) enough left right = absurd (omega (arith, enough))
put (suc fuel) count (x ∷ xs) (y ∷ ys) enough left right = elim (kind-by x.point x.said) [
  | inl free ↦
      left-first count count x xs (y ∷ ys) (free count) left.0
      (put fuel count xs (y ∷ ys) (omega (arith, enough)) (subst (λ (n : ℕ). DoesGrow n xs) (free count) left.1) right)
  | inr bound ↦ elim (kind-by y.point y.said) [
    | inl free ↦
        right-first count count y (x ∷ xs) ys (free count) right.0
        (put fuel count (x ∷ xs) ys (omega (arith, enough)) left
        (subst (λ (n : ℕ). DoesGrow n ys) (free count) right.1))
    | inr other ↦
        let xs_on = subst (λ (n : ℕ). DoesGrow n xs) (bound count) left.1 in
        let ys_on = subst (λ (n : ℕ). DoesGrow n ys) (other count) right.1 in
        elim (cases_lt (length y.point) (length x.point)) [
          | inl less ↦
              right-first count (length y.point) y (x ∷ xs) ys (other count) right.0
              (put fuel (length y.point) (x ∷ xs) ys (omega (arith, enough))
              (from-earlier (length y.point) x xs bound (omega (arith, less)) xs_on) ys_on)
          | inr less ↦
              left-first count (length x.point) x xs (y ∷ ys) (bound count) left.0
              (put fuel (length x.point) xs (y ∷ ys) (omega (arith, enough)) xs_on
              (from-earlier (length x.point) y ys other less ys_on))
        ]
  ]
]

-- ---- any number of lists

-- lists put together so that the history never shrinks
pub record ArePut (count : ℕ) (lists : List (List Saying)) : Type 0 where
  pub all : List Saying
  pub merged : AreMerged lists all
  pub grows : DoesGrow count all

pub put-none : (count : ℕ) → ArePut count []
put-none count = record { all = []; merged = refl; grows = tt }

pub put-list : (count : ℕ) (list : List Saying) (lists : List (List Saying)) → DoesGrow count list
    → ArePut count lists → ArePut count (list ∷ lists)
put-list count list lists grows rest =
    let both = put (length list + length rest.all) count list rest.all (omega arith) grows rest.grows in
    record { all = both.all; merged = (rest.all, rest.merged, both.merge); grows = both.grows }

-- ---- in turn

module _ (log : Log) (capacity : ℕ) where
  -- what was said is right when the log has as many entries as its log point, and at any count where it is of no touch
  pub record IsRight (saying : Saying) : Type 0 where
    pub within : length saying.point ≤ length log.entries
    pub right : (count : ℕ) → IsSaidAt log capacity (count_by count saying.point saying.said) saying.said

  abbrev pub AreRight : List Saying → Type 0
  AreRight [] = Unit {0}
  AreRight (saying ∷ later) = IsRight saying × AreRight later

  -- two lists of such, put together, are such, and so are any number
  merge-right : (xs ys zs : List Saying) → IsMerge xs ys zs → AreRight xs → AreRight ys → AreRight zs
  merge-right xs ys [] is left right = tt
  merge-right xs ys (z ∷ zs) (inl (later, parts, is)) left right =
      let both = subst AreRight parts left in (both.0, merge-right later ys zs is both.1 right)
  merge-right xs ys (z ∷ zs) (inr (later, parts, is)) left right =
      let both = subst AreRight parts right in (both.0, merge-right xs later zs is left both.1)

  abbrev pub AreAllRight : List (List Saying) → Type 0
  AreAllRight [] = Unit {0}
  AreAllRight (list ∷ lists) = AreRight list × AreAllRight lists

  pub merged-right : (lists : List (List Saying)) (all : List Saying) → AreMerged lists all → AreAllRight lists
      → AreRight all
  merged-right [] all is right = subst AreRight (sym is) tt
  merged-right (list ∷ lists) all is right =
      merge-right list is.0 all is.2 right.0 (merged-right lists is.0 is.1 right.1)

  -- turns from so many entries on, at which this is said
  pub record IsSaidInTurn (count : ℕ) (sayings : List Saying) : Type 0 where
    pub turns : List Turn
    pub right : AreTurns log capacity count turns
    pub said : said_in turns ≡ said_of sayings

  -- with so many entries entered before
  enters-first : (count more : ℕ) (sayings : List Saying) → count + more ≤ length log.entries
      → IsSaidInTurn (count + more) sayings → IsSaidInTurn count sayings
  enters-first count zero sayings within rest =
      let same : count + 0 ≡ count = omega arith in
      subst (λ (n : ℕ). IsSaidInTurn n sayings) same rest
  enters-first count (suc more) sayings within rest =
      let next = stands-below log.entries count (omega (arith, within)) in
      let same : count + suc more ≡ (count + 1) + more = omega arith in
      let later = enters-first (count + 1) more sayings (omega (arith, within))
      (subst (λ (n : ℕ). IsSaidInTurn n sayings) same rest) in
      record { turns = enters next.0 ∷ later.turns; right = (next.1, later.right); said = later.said }

  -- up to a larger count
  enters-to : (count next : ℕ) (sayings : List Saying) → count ≤ next → next ≤ length log.entries
      → IsSaidInTurn next sayings → IsSaidInTurn count sayings
  enters-to count next sayings less within rest =
      let same : next ≡ count + (next - count) = omega (arith, less) in
      enters-first count (next - count) sayings (omega (arith, same, within))
      (subst (λ (n : ℕ). IsSaidInTurn n sayings) same rest)

  -- the count stays within the log
  stays-within : (count : ℕ) (saying : Saying) → count ≤ length log.entries → IsRight saying
      → count_by count saying.point saying.said ≤ length log.entries
  stays-within count saying within is = elim (kind-by saying.point saying.said) [
    | inl free ↦ subst (λ (n : ℕ). n ≤ length log.entries) (sym (free count)) within
    | inr bound ↦ subst (λ (n : ℕ). n ≤ length log.entries) (sym (bound count)) is.within
  ]

  -- this is said in turn
  pub in-turn : (count : ℕ) (sayings : List Saying) → AreRight sayings → DoesGrow count sayings
      → count ≤ length log.entries → IsSaidInTurn count sayings
  in-turn count [] right grows within =
      let less : length log.entries ≤ length log.entries = omega arith in
      enters-to count (length log.entries) [] within less (record { turns = []; right = refl; said = refl })
  in-turn count (saying ∷ later) right grows within =
      let next = count_by count saying.point saying.said in
      let fits = stays-within count saying within right.0 in
      let rest = in-turn next later right.1 grows.1 fits in
      enters-to count next (saying ∷ later) grows.0 fits (record {
        turns = says saying.said ∷ rest.turns;
        right = (right.0.right count, rest.right);
        said = ap (λ (l : List Said). saying.said ∷ l) rest.said;
      })
