-- The place of the rule for a connection, beside the rule that a search finds.
use Rattle.std.proofs.Common.{◌≡◌, ◌<◌, ℕ, suc, ◌+◌, Bool, true, false, not, cond, nat_lt, List, [], ◌∷◌, map, length}
use Rattle.std.proofs.Common.{Option, Some, None, option_map, refl, ap, sym, ◌∙◌, subst, arith, inl, inr}
use Rattle.std.specs.Prelude.{slice_get}
use Rattle.std.specs.List.{find, position, position_or_len}
use Rattle.std.specs.Str.{bytes_eq}
use Rattle.std.proofs.lemmas.Option.{slice_get_cases}
use Rattle.door_file.specs.Rule.{Entry, others, or_else, rule_for, place_for, IsPlaceFor}

-- ---- the place of the first that passes a test

first_place : (b : Bool) (n count : ℕ)
    → cond (nat_lt (cond (not b) (1 + n) 0) (suc count)) (Some (cond (not b) (1 + n) 0)) None
    ≡ cond b (Some 0) (option_map suc (cond (nat_lt n count) (Some n) None))
first_place true n count = grind arith
first_place false n count = grind arith

-- the place is 0 where the first passes, else one more than that in the rest
position-cons : {X : Type 0} (p : X → Bool) (x : X) (xs : List X)
    → position p (x ∷ xs) ≡ cond (p x) (Some 0) (option_map suc (position p xs))
position-cons p x xs = first_place (p x) (position_or_len p xs) (length xs)

-- the place in a list that was mapped is that of what the items are mapped to
pub position-map : {X Y : Type 0} (g : X → Y) (p : Y → Bool) (xs : List X) → position p (map g xs)
    ≡ position (λ x. p (g x)) xs
position-map g p [] = refl
position-map g p (x ∷ xs) =
    position-cons p (g x) (map g xs)
    ∙ ap (λ o. cond (p (g x)) (Some 0) (option_map suc o)) (position-map g p xs)
    ∙ sym (position-cons (λ y. p (g y)) x xs)

-- ---- what a search finds is at its place

-- the item at this place is the one that was found; without a place none was
abbrev IsFoundAt : {X : Type 0} → Option X → List X → Option ℕ → Type 0
IsFoundAt found xs None = found ≡ None
IsFoundAt found xs (Some place) = (place < length xs) × (slice_get xs place ≡ found)

found_step : {X : Type 0} (b : Bool) (x : X) (xs : List X) (found : Option X) (place : Option ℕ)
    → IsFoundAt found xs place
    → IsFoundAt (cond b (Some x) found) (x ∷ xs) (cond b (Some 0) (option_map suc place))
found_step true x xs found place at = (omega arith, refl)
found_step false x xs found None at = at
found_step false x xs found (Some place) at = (omega (arith, at.0), at.1)

found-at : {X : Type 0} (p : X → Bool) (xs : List X) → IsFoundAt (find p xs) xs (position p xs)
found-at p [] = refl
found-at p (x ∷ xs) =
    subst (IsFoundAt (find p (x ∷ xs)) (x ∷ xs)) (sym (position-cons p x xs))
    (found_step (p x) x xs (find p xs) (position p xs) (found-at p xs))

-- the first of two that were found is at the first of their places
either-at : {X : Type 0} (found other : Option X) (xs : List X) (place more : Option ℕ) → IsFoundAt found xs place
    → IsFoundAt other xs more → IsFoundAt (or_else found other) xs (or_else place more)
either-at None other xs None more at next = next
either-at (Some x) other xs None more at next = cc
either-at (Some x) other xs (Some place) more at next = at
either-at None other xs (Some place) more at next = elim ((slice_get_cases xs place).1) [
  | inl item ↦ let e = sym at.1 ∙ item.2 in cc
  | inr past ↦ absurd (omega (arith, at.0, past.0))
]

-- ---- the rule for a connection

place-of : (name : Option (List ℕ)) (rules : List Entry) (place : Option ℕ)
    → IsFoundAt (rule_for name rules) rules place → IsPlaceFor name rules place
place-of name rules None at = at
place-of name rules (Some place) at = at

abbrev is_named : List ℕ → Entry → Bool
is_named name rule = bytes_eq rule.name name

place-for : (name : Option (List ℕ)) (rules : List Entry) → IsPlaceFor name rules (place_for name rules)
place-for None rules = place-of None rules _ (found-at (is_named others) rules)
place-for (Some name) rules =
    place-of (Some name) rules _ (either-at _ _ rules _ _ (found-at (is_named name) rules)
    (found-at (is_named others) rules))

-- the rule for a connection is at the place for it
pub is-place-for : (name : Option (List ℕ)) (rules : List Entry) (place : Option ℕ) → place ≡ place_for name rules
    → IsPlaceFor name rules place
is-place-for name rules place same = subst (IsPlaceFor name rules) (sym same) (place-for name rules)
