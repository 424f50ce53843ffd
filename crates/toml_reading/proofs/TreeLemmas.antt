-- The items of a list of a tree, beside the values that the code holds.
use Rattle.std.proofs.Common.{◌≡◌, Some, List, [], ◌∷◌, map, length, Vec, Global, refl, ap, ◌∙◌}
use Rattle.std.proofs.lemmas.List.{length-map}
use Rattle.toml.proofs.Views.{view-Array}
use Rattle.toml.specs.Data.{Data, array}
use Rattle.toml.specs.View.{view, items_of, items_view}
use Rattle.toml.specs.declared.value.Value.{Value, Array}
use Rattle.toml_reading.specs.Tree.{elements_of, items_in}

-- the items of a list are those that it was made of
elements_of-items_of : (ds : List Data) → elements_of (items_of ds) ≡ ds
elements_of-items_of [] = refl
elements_of-items_of (d ∷ ds) = ap (λ rest. d ∷ rest) (elements_of-items_of ds)

pub elements_of-items_view : (vs : List Value) → elements_of (items_view vs) ≡ map view vs
elements_of-items_view vs = elements_of-items_of (map view vs)

-- a list has as many items as the code has values
pub length-elements_of : (vs : List Value) → length (elements_of (items_view vs)) ≡ length vs
length-elements_of vs = ap length (elements_of-items_view vs) ∙ length-map vs view

-- a list of the code, as the tree has it
pub array_of : (v : Value) (rows : Vec Value Global) → v ≡ Array rows → view v ≡ array (items_view rows.items)
array_of v rows is = ap view is ∙ view-Array rows

pub items_in-array : (v : Value) (rows : Vec Value Global) → v ≡ Array rows → items_in (Some (view v))
    ≡ map view rows.items
items_in-array v rows is = ap (λ d. items_in (Some d)) (array_of v rows is) ∙ elements_of-items_view rows.items
