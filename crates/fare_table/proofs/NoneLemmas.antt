-- A list of faults that tests and items have is empty exactly when none has one.
use Rattle.std.proofs.Common.{◌≡◌, Bool, true, false, if◌then◌else◌, List, [], ◌∷◌, None, refl}
use Rattle.std.proofs.lemmas.List.Elements.{All-nil, All-cons, All-head, All-tail}
use Rattle.std.specs.List.{All, flat_map}
use Rattle.toml_reading.specs.First.{first}
use Rattle.toml_reading.proofs.FirstLemmas.{first_none, last_none, both-none}

-- no item of a list has a fault where there is none, where an item may have several
pub flat-all : {X Y : Type 0} (f : X → List Y) (xs : List X) → first (flat_map f xs) ≡ None
    → All (λ x. first (f x) ≡ None) xs
flat-all f [] e = All-nil (λ x. first (f x) ≡ None)
flat-all f (x ∷ xs) e =
    All-cons (λ x. first (f x) ≡ None) x xs (first_none (f x) (flat_map f xs) e)
    (flat-all f xs (last_none (f x) (flat_map f xs) e))

pub all-flat : {X Y : Type 0} (f : X → List Y) (xs : List X) → All (λ x. first (f x) ≡ None) xs
    → first (flat_map f xs) ≡ None
all-flat f [] all = refl
all-flat f (x ∷ xs) all =
    both-none (f x) (flat_map f xs) (All-head (λ x. first (f x) ≡ None) x xs all)
    (all-flat f xs (All-tail (λ x. first (f x) ≡ None) x xs all))

-- a test that is said by a fault doesn't hold where there is none
pub empty-unless : {X : Type 0} (b : Bool) (x : X) → first (if b then x ∷ [] else []) ≡ None → b ≡ false
empty-unless true x e = cc
empty-unless false x e = refl

-- a test that keeps a fault back holds where there is none
pub kept-back : {X : Type 0} (b : Bool) (x : X) → first (if b then [] else x ∷ []) ≡ None → b ≡ true
kept-back true x e = refl
kept-back false x e = cc

pub back-kept : {X : Type 0} (b : Bool) (x : X) → b ≡ true → first (if b then [] else x ∷ []) ≡ None
back-kept true x e = refl
back-kept false x e = cc
