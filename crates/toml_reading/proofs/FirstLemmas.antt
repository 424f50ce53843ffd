-- The first of a list that is put together: of its parts, and of what is made item by item.
use Rattle.std.proofs.Common.{◌≡◌, ◌++◌, List, [], ◌∷◌, Option, Some, None, refl, ◌∙◌}
use Rattle.std.proofs.lemmas.List.Elements.{All-nil, All-cons, All-head, All-tail}
use Rattle.std.specs.List.{All, filter_map, cons_option}
use Rattle.toml_reading.specs.First.{first}

-- the first of two lists is that of the second where the first list is empty
pub append-none : {X : Type 0} (xs ys : List X) → first xs ≡ None → first (xs ++ ys) ≡ first ys
append-none [] ys none = refl
append-none (x ∷ xs) ys none = cc

-- and else that of the first list
pub append-some : {X : Type 0} (xs ys : List X) (x : X) → first xs ≡ Some x → first (xs ++ ys) ≡ Some x
append-some [] ys x some = cc
append-some (y ∷ xs) ys x some = some

pub ruleset firsts = (append-none, append-some)

-- ---- where there is none

-- where two lists together have no first, neither has one
pub first_none : {X : Type 0} (xs ys : List X) → first (xs ++ ys) ≡ None → first xs ≡ None
first_none [] ys e = refl
first_none (x ∷ xs) ys e = cc

pub last_none : {X : Type 0} (xs ys : List X) → first (xs ++ ys) ≡ None → first ys ≡ None
last_none [] ys e = e
last_none (x ∷ xs) ys e = cc

-- where two lists have no first, nor has the whole
pub both-none : {X : Type 0} (xs ys : List X) → first xs ≡ None → first ys ≡ None → first (xs ++ ys) ≡ None
both-none xs ys a b = append-none xs ys a ∙ b

-- the same of an item that may be put before a list
pub some-none : {X : Type 0} (o : Option X) (xs : List X) → first (cons_option o xs) ≡ None
    → (o ≡ None) × (first xs ≡ None)
some-none None xs e = (refl, e)
some-none (Some x) xs e = cc

pub cons-none : {X : Type 0} (o : Option X) (xs : List X) → o ≡ None → first xs ≡ None
    → first (cons_option o xs) ≡ None
cons-none None xs a b = b
cons-none (Some x) xs a b = cc

-- no item of a list has a fault where there is none
pub filter-all : {X Y : Type 0} (f : X → Option Y) (xs : List X) → first (filter_map f xs) ≡ None
    → All (λ x. f x ≡ None) xs
filter-all f [] e = All-nil (λ x. f x ≡ None)
filter-all f (x ∷ xs) e =
    let p = some-none (f x) (filter_map f xs) e in
    All-cons (λ x. f x ≡ None) x xs p.0 (filter-all f xs p.1)

pub all-filter : {X Y : Type 0} (f : X → Option Y) (xs : List X) → All (λ x. f x ≡ None) xs
    → first (filter_map f xs) ≡ None
all-filter f [] all = refl
all-filter f (x ∷ xs) all =
    cons-none (f x) (filter_map f xs) (All-head (λ x. f x ≡ None) x xs all)
    (all-filter f xs (All-tail (λ x. f x ≡ None) x xs all))
