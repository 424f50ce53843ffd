-- Lists that are put together into one, each in its order.
use Rattle.std.specs.Prelude.{◌≡◌, ◌⊎◌, List, [], ◌∷◌}

module _ {X : Type 0} where
  -- the third list has the items of the first two and nothing else, those of each in their order
  abbrev pub IsMerge : List X → List X → List X → Type 0
  IsMerge xs ys [] = (xs ≡ []) × (ys ≡ [])
  IsMerge xs ys (z ∷ zs) = ((later : List X) × (xs ≡ z ∷ later) × IsMerge later ys zs)
      ⊎ ((later : List X) × (ys ≡ z ∷ later) × IsMerge xs later zs)

  -- the list has the items of all these lists and nothing else, those of each in their order
  abbrev pub AreMerged : List (List X) → List X → Type 0
  AreMerged [] zs = zs ≡ []
  AreMerged (xs ∷ others) zs = (rest : List X) × AreMerged others rest × IsMerge xs rest zs
