-- What is taken from each of some posts, one after the other.
use Rattle.std.proofs.Common.{◌≡◌, ℕ, ◌+◌, ◌<◌, ◌≤◌, List, [], ◌∷◌, ◌++◌, length, map, reverse, take, get_or, sym, ap}
use Rattle.std.proofs.Common.{◌∙◌, append_assoc, append-nil, arith}
use Rattle.std.proofs.lemmas.List.{length-append, length-map, length-take, map_more, reverse-append}

-- from so many of them as many are taken
pub mapped-size : {X Y : Type 0} (f : X → Y) (xs : List X) (ys : List Y) (place : ℕ) → place ≤ length xs
    → ys ≡ map f (take place xs) → length ys ≡ place
mapped-size f xs ys place within is =
    ap length is ∙ length-map (take place xs) f ∙ omega (arith, within, length-take place xs)

-- one more of them, from the front
pub mapped-more : {X Y : Type 0} (f : X → Y) (xs : List X) (ys zs : List Y) (place : ℕ) (x : X) → place < length xs
    → x ≡ get_or xs place x → ys ≡ map f (take place xs) → zs ≡ ys ++ f x ∷ [] → zs ≡ map f (take (place + 1) xs)
mapped-more f xs ys zs place x within is before after =
    after
    ∙ ap (λ (l : List _). l ++ f x ∷ []) before
    ∙ ap (λ y. map f (take place xs) ++ f y ∷ []) is
    ∙ sym (map_more f xs place x within)

-- one more of them, from the back
pub reversed-more : {X Y : Type 0} (f : X → Y) (xs ys : List X) (x : X) (all ss zs : List Y)
    → all ≡ ss ++ map f (reverse xs) → xs ≡ ys ++ x ∷ [] → zs ≡ ss ++ f x ∷ [] → all ≡ zs ++ map f (reverse ys)
reversed-more f xs ys x all ss zs is last after =
    is
    ∙ ap (λ (l : List _). ss ++ map f (reverse l)) last
    ∙ ap (λ (l : List _). ss ++ map f l) (reverse-append ys (x ∷ []))
    ∙ sym (append_assoc ss (f x ∷ []) (map f (reverse ys)))
    ∙ ap (λ (l : List _). l ++ map f (reverse ys)) (sym after)

pub room-more : {X Y : Type 0} (xs ys : List X) (x : X) (ss zs : List Y) (y : Y) (room : ℕ)
    → length ss + length xs ≤ room → xs ≡ ys ++ x ∷ [] → zs ≡ ss ++ y ∷ [] → length zs + length ys ≤ room
room-more xs ys x ss zs y room within last after =
    let fewer : length xs ≡ length ys + 1 = ap length last ∙ length-append ys (x ∷ []) in
    let more : length zs ≡ length ss + 1 = ap length after ∙ length-append ss (y ∷ []) in
    omega (arith, within, fewer, more)

-- where none is left, all were taken
pub none-left : {X Y : Type 0} (f : X → Y) (xs : List X) (all ss : List Y) → length xs ≡ 0
    → all ≡ ss ++ map f (reverse xs) → ss ≡ all
none-left f [] all ss none is = sym (is ∙ append-nil ss)
none-left f (x ∷ xs) all ss none is = absurd (omega (arith, none))
