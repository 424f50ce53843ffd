-- What follows of tests that hold or don't, of two values and of each item of a list.
use Rattle.std.proofs.Common.{◌≡◌, ◌++◌, Bool, true, false, ◌&&◌, ◌||◌, List, [], ◌∷◌, map, refl}
use Rattle.std.specs.List.{list_all, list_any}

-- where two tests hold, each holds
pub and_left : (a b : Bool) → a && b ≡ true → a ≡ true
and_left true b e = refl
and_left false b e = cc

pub and_right : (a b : Bool) → a && b ≡ true → b ≡ true
and_right true b e = e
and_right false b e = cc

pub and_both : (a b : Bool) → a ≡ true → b ≡ true → a && b ≡ true
and_both true b e f = f
and_both false b e f = cc

-- where not even one of two tests holds, neither does
pub either-false : (a b : Bool) → a || b ≡ false → (a ≡ false) × (b ≡ false)
either-false true b e = cc
either-false false b e = (refl, e)

pub neither : (a b : Bool) → a ≡ false → b ≡ false → a || b ≡ false
neither true b e f = cc
neither false b e f = f

-- no item of a longer list passes a test exactly when none of the list does, nor the last
pub any-push : {X : Type 0} (test : X → Bool) (xs : List X) (x : X) → list_any test (xs ++ x ∷ []) ≡ false
    → (list_any test xs ≡ false) × (test x ≡ false)
any-push test [] x e = (refl, (either-false (test x) false e).0)
any-push test (y ∷ xs) x e =
    let p = either-false (test y) (list_any test (xs ++ x ∷ [])) e in
    let q = any-push test xs x p.1 in
    (neither (test y) (list_any test xs) p.0 q.0, q.1)

pub push-any : {X : Type 0} (test : X → Bool) (xs : List X) (x : X) → list_any test xs ≡ false → test x ≡ false
    → list_any test (xs ++ x ∷ []) ≡ false
push-any test [] x e f = neither (test x) false f refl
push-any test (y ∷ xs) x e f =
    let p = either-false (test y) (list_any test xs) e in
    neither (test y) (list_any test (xs ++ x ∷ [])) p.0 (push-any test xs x p.1 f)

-- a test of every item is one of every value that it is made of
pub list_all-map : {X Y : Type 0} (p : Y → Bool) (f : X → Y) (xs : List X) → list_all p (map f xs)
    ≡ list_all (λ x. p (f x)) xs
list_all-map p f [] = refl
list_all-map p f (x ∷ xs) = rw (list_all-map p f xs) refl

pub list_any-map : {X Y : Type 0} (p : Y → Bool) (f : X → Y) (xs : List X) → list_any p (map f xs)
    ≡ list_any (λ x. p (f x)) xs
list_any-map p f [] = refl
list_any-map p f (x ∷ xs) = rw (list_any-map p f xs) refl
