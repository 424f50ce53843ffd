-- What a list contains that grew, and what a gate's touches are among others.
use Rattle.std.proofs.Common.{◌≡◌, ◌⊎◌, inl, inr, ℕ, zero, suc, ◌<◌, ◌==◌, Bool, true, false, cond, List, [], ◌∷◌, ◌++◌}
use Rattle.std.proofs.Common.{length, get_or, refl, sym, ap, ◌∙◌, subst, Some, None}
use Rattle.std.specs.Prelude.{Contains, slice_get, ◌≢◌}
use Rattle.std.proofs.lemmas.List.Elements.{filter-append}
use Rattle.std.proofs.lemmas.Option.{slice_get_within, slice_get-get_or}
use Rattle.oyster_account.specs.declared.touch.Touch.{Touch}
use Rattle.reply_book.proofs.PlaceLemmas.{slice_get-append_left, slice_get-push_cases, slice_get-behind}
use Rattle.reply_book.proofs.NameLemmas.{equal, equal-refl}
use Rattle.gate_law.specs.Joint.{of_gate}

-- ---- what a list contains

-- what it contains stands at a place
pub placed : {X : Type 0} (xs : List X) (x : X) → Contains xs x → (i : ℕ) × (slice_get xs i ≡ Some x)
placed xs x (k, within, is) = (k, slice_get-get_or xs k x within ∙ ap Some is)

pub contained : {X : Type 0} (xs : List X) (i : ℕ) (x : X) → slice_get xs i ≡ Some x → Contains xs x
contained xs i x at =
    let within : i < length xs = slice_get_within xs i x at in
    let read : Some (get_or xs i x) ≡ Some x = sym (slice_get-get_or xs i x within) ∙ at in
    (i, within, cc)

pub contains-left : {X : Type 0} (xs ys : List X) (x : X) → Contains xs x → Contains (xs ++ ys) x
contains-left xs ys x there =
    let at = placed xs x there in contained (xs ++ ys) at.0 x (slice_get-append_left xs ys at.0 x at.1)

pub contains-last : {X : Type 0} (xs : List X) (y : X) → Contains (xs ++ y ∷ []) y
contains-last xs y = contained (xs ++ y ∷ []) (length xs) y (slice_get-behind xs y [])

-- with one more, it is among those before, or is that one
pub contains-push_cases : {X : Type 0} (xs : List X) (y x : X) → Contains (xs ++ y ∷ []) x → Contains xs x ⊎ (y ≡ x)
contains-push_cases xs y x there =
    let at = placed (xs ++ y ∷ []) x there in
    elim (slice_get-push_cases xs y at.0 x at.1) [
      | inl before ↦ inl (contained xs at.0 x before)
      | inr last ↦ inr last.1
    ]

pub contains-none : {X : Type 0} (xs : List X) (x : X) → xs ≡ [] → Contains xs x → ⊥
contains-none [] x none there = let at = placed {X = _} [] x there in absurd cc
contains-none (y ∷ xs) x none there = absurd cc

-- it is the first, or among those behind that
pub contains-head_cases : {X : Type 0} (y : X) (ys : List X) (x : X) → Contains (y ∷ ys) x → (y ≡ x) ⊎ Contains ys x
contains-head_cases {X = X} y ys x there = by_place (placed (y ∷ ys) x there)
  where
    by_place : ((i : ℕ) × (slice_get (y ∷ ys) i ≡ Some x)) → (y ≡ x) ⊎ Contains ys x
    by_place (zero, at) = inl cc
    by_place (suc i, at) = inr (contained ys i x at)

pub contains-behind : {X : Type 0} (y : X) (ys : List X) (x : X) → Contains ys x → Contains (y ∷ ys) x
contains-behind y ys x there = let at = placed ys x there in contained (y ∷ ys) (suc at.0) x at.1

-- what two lists contain, one behind the other
pub contains-append_cases : {X : Type 0} (xs ys : List X) (x : X) → Contains (xs ++ ys) x
    → Contains xs x ⊎ Contains ys x
contains-append_cases [] ys x there = inr there
contains-append_cases (z ∷ xs) ys x there = elim (contains-head_cases z (xs ++ ys) x there) [
  | inl same ↦ inl (contained (z ∷ xs) 0 x (ap Some same))
  | inr behind ↦ elim (contains-append_cases xs ys x behind) [
    | inl before ↦ inl (contains-behind z xs x before)
    | inr later ↦ inr later
  ]
]

-- two lists with one item more are the same where these and the items are
pub push-both : {X : Type 0} (xs ys : List X) (x y : X) → xs ++ x ∷ [] ≡ ys ++ y ∷ [] → (xs ≡ ys) × (x ≡ y)
push-both [] [] x y is = (refl, cc)
push-both [] (b ∷ []) x y is = absurd cc
push-both [] (b ∷ c ∷ ys) x y is = absurd cc
push-both (a ∷ []) [] x y is = absurd cc
push-both (a ∷ c ∷ xs) [] x y is = absurd cc
push-both {X = X} (a ∷ xs) (b ∷ ys) x y is =
    let head : a ≡ b = cc in
    let tail : xs ++ x ∷ [] ≡ ys ++ y ∷ [] = cc in
    let rest = push-both xs ys x y tail in
    (ap (λ (z : X). z ∷ xs) head ∙ ap (λ (l : List X). b ∷ l) rest.0, rest.1)

-- what is read where one more item stands: what was there, or that item, behind the others
pub read-push : {X : Type 0} (xs : List X) (y : X) (i : ℕ)
    → (slice_get (xs ++ y ∷ []) i ≡ slice_get xs i)
    ⊎ ((i ≡ length xs) × (slice_get (xs ++ y ∷ []) i ≡ Some y) × (slice_get xs i ≡ None))
read-push [] y zero = inr (refl, refl, refl)
read-push [] y (suc i) = inl refl
read-push (x ∷ xs) y zero = inl refl
read-push (x ∷ xs) y (suc i) = elim (read-push xs y i) [
  | inl same ↦ inl same
  | inr last ↦ inr (ap suc last.0, last.1, last.2)
]

-- nothing is read at the end
pub read-end : {X : Type 0} (xs : List X) → slice_get xs (length xs) ≡ None
read-end [] = refl
read-end (x ∷ xs) = read-end xs

-- ---- a gate's touches

-- with one more, and whether that is the gate's
pub of_gate-push : (gate : ℕ) (touches : List Touch) (touch : Touch)
    → of_gate gate (touches ++ touch ∷ []) ≡ of_gate gate touches ++ cond (touch.gate == gate) (touch ∷ []) []
of_gate-push gate touches touch = filter-append (λ (t : Touch). t.gate == gate) touches (touch ∷ [])

taken : (b : Bool) (touch : Touch) (row : List Touch) → b ≡ true → Contains (cond b (touch ∷ row) row) touch
taken true touch row is = contained (touch ∷ row) 0 touch refl
taken false touch row is = absurd cc

still : (b : Bool) (touch : Touch) (row : List Touch) (x : Touch) → Contains row x
    → Contains (cond b (touch ∷ row) row) x
still true touch row x there = let at = placed row x there in contained (touch ∷ row) (suc at.0) x at.1
still false touch row x there = there

-- a touch of the gate is one of its touches
pub of_gate-has : (gate : ℕ) (touches : List Touch) (touch : Touch) → touch.gate ≡ gate → Contains touches touch
    → Contains (of_gate gate touches) touch
of_gate-has gate touches touch own there = let at = placed touches touch there in by_place touches at.0 at.1
  where
    tested : (touch.gate == gate) ≡ true
    tested = subst (λ (n : ℕ). (touch.gate == n) ≡ true) own (equal-refl touch.gate)

    by_place : (ts : List Touch) (i : ℕ) → slice_get ts i ≡ Some touch → Contains (of_gate gate ts) touch
    by_place [] i at = absurd cc
    by_place (t ∷ ts) zero at =
        let same : t ≡ touch = cc in
        subst (λ (x : Touch). Contains (of_gate gate (x ∷ ts)) touch) (sym same)
        (taken (touch.gate == gate) touch (of_gate gate ts) tested)
    by_place (t ∷ ts) (suc i) at = still (t.gate == gate) t (of_gate gate ts) touch (by_place ts i at)

either : (b : Bool) (touch : Touch) (row : List Touch) (x : Touch) → Contains (cond b (touch ∷ row) row) x
    → (touch ≡ x) ⊎ Contains row x
either true touch row x there = by_place (placed (touch ∷ row) x there)
  where
    by_place : ((i : ℕ) × (slice_get (touch ∷ row) i ≡ Some x)) → (touch ≡ x) ⊎ Contains row x
    by_place (zero, at) = inl cc
    by_place (suc i, at) = inr (contained row i x at)
either false touch row x there = inr there

-- and its touches are among them
pub of_gate-of : (gate : ℕ) (touches : List Touch) (touch : Touch) → Contains (of_gate gate touches) touch
    → Contains touches touch
of_gate-of gate [] touch there = there
of_gate-of gate (t ∷ ts) touch there = elim (either (t.gate == gate) t (of_gate gate ts) touch there) [
  | inl same ↦ contained (t ∷ ts) 0 touch (ap Some same)
  | inr later ↦ let at = placed ts touch (of_gate-of gate ts touch later) in contained (t ∷ ts) (suc at.0) touch at.1
]

-- where none is the gate's it has none
pub of_gate-none : (gate : ℕ) (touches : List Touch)
    → ((touch : Touch) → Contains touches touch → touch.gate ≢ gate) → of_gate gate touches ≡ []
of_gate-none gate [] others = refl
of_gate-none gate (t ∷ ts) others =
    by_test (t.gate == gate) refl
    (of_gate-none gate ts (λ touch there.
    let at = placed ts touch there in others touch (contained (t ∷ ts) (suc at.0) touch at.1)))
  where
    by_test : (b : Bool) → (t.gate == gate) ≡ b → of_gate gate ts ≡ []
        → cond b (t ∷ of_gate gate ts) (of_gate gate ts) ≡ []
    by_test true is rest = absurd (others t (contained (t ∷ ts) 0 t refl) (equal t.gate gate is))
    by_test false is rest = rest
