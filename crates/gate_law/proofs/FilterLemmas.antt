-- What passes a test among a list's items, and where two tests keep the same of them.
use Rattle.std.proofs.Common.{◌≡◌, inl, inr, ℕ, zero, suc, Bool, true, false, cond, List, [], ◌∷◌, filter}
use Rattle.std.proofs.Common.{refl, sym, ap, ◌∙◌, subst, Some}
use Rattle.std.specs.Prelude.{Contains, slice_get}
use Rattle.gate_law.proofs.ListLemmas.{placed, contained, contains-none, contains-head_cases, contains-behind}

module _ {X : Type 0} (p : X → Bool) where
  -- what passes is among those that do
  pub filter-has : (xs : List X) (x : X) → p x ≡ true → Contains xs x → Contains (filter p xs) x
  filter-has xs x passes there = let at = placed xs x there in by_place xs at.0 at.1
    where
      here : (b : Bool) (y : X) (ys : List X) → b ≡ true → Contains (cond b (y ∷ ys) ys) y
      here true y ys is = contained (y ∷ ys) 0 y refl
      here false y ys is = absurd cc

      behind : (b : Bool) (y : X) (ys : List X) → Contains ys x → Contains (cond b (y ∷ ys) ys) x
      behind true y ys is = contains-behind y ys x is
      behind false y ys is = is

      by_place : (ys : List X) (i : ℕ) → slice_get ys i ≡ Some x → Contains (filter p ys) x
      by_place [] i at = absurd cc
      by_place (y ∷ ys) zero at =
          let same : y ≡ x = cc in
          subst (λ (z : X). Contains (filter p (z ∷ ys)) x) (sym same) (here (p x) x (filter p ys) passes)
      by_place (y ∷ ys) (suc i) at = behind (p y) y (filter p ys) (by_place ys i at)

  -- and those that do are among all, and pass
  pub filter-of : (xs : List X) (x : X) → Contains (filter p xs) x → Contains xs x × (p x ≡ true)
  filter-of [] x there = absurd (contains-none [] x refl there)
  filter-of (y ∷ ys) x there =
      by_test (λ is. let rest = filter-of ys x is in (contains-behind y ys x rest.0, rest.1)) (p y) refl there
    where
      by_test : (Contains (filter p ys) x → Contains (y ∷ ys) x × (p x ≡ true))
          → (b : Bool) → p y ≡ b → Contains (cond b (y ∷ filter p ys) (filter p ys)) x
          → Contains (y ∷ ys) x × (p x ≡ true)
      by_test later true e is = elim (contains-head_cases y (filter p ys) x is) [
        | inl same ↦ (contained (y ∷ ys) 0 x (ap Some same), subst (λ (z : X). p z ≡ true) same e)
        | inr behind ↦ later behind
      ]
      by_test later false e is = later is

  -- of one item, that passes or doesn't
  pub filter-one : (x : X) (b : Bool) → p x ≡ b → filter p (x ∷ []) ≡ cond b (x ∷ []) []
  filter-one x b is = ap (λ (c : Bool). cond c (x ∷ []) []) is

  module _ (q : X → Bool) where
    -- two tests after one another, of which the second drops all that the first drops
    pub filter-twice : ((x : X) → p x ≡ true → q x ≡ true) → (xs : List X) → filter p (filter q xs) ≡ filter p xs
    filter-twice stricter [] = refl
    filter-twice stricter (y ∷ ys) = by_tests (p y) (q y) refl refl (filter-twice stricter ys)
      where
        by_tests : (b c : Bool) → p y ≡ b → q y ≡ c → filter p (filter q ys) ≡ filter p ys
            → filter p (cond c (y ∷ filter q ys) (filter q ys)) ≡ cond b (y ∷ filter p ys) (filter p ys)
        by_tests true true is other rest =
            ap (λ (b : Bool). cond b (y ∷ filter p (filter q ys)) (filter p (filter q ys))) is
            ∙ ap (λ (l : List X). y ∷ l) rest
        by_tests false true is other rest =
            ap (λ (b : Bool). cond b (y ∷ filter p (filter q ys)) (filter p (filter q ys))) is ∙ rest
        by_tests true false is other rest = let no : true ≡ false = sym (stricter y is) ∙ other in absurd cc
        by_tests false false is other rest = rest
