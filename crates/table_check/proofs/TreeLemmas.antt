-- The items of a list of a tree, as they are told and found.
use Rattle.std.proofs.Common.{◌≡◌, ℕ, List, ◌++◌, map, length, codes, Option, Some, None, Bor, Vec, Global}
use Rattle.std.proofs.Common.{refl, sym, ap, ◌∙◌}
use Rattle.std.specs.Prelude.{option_map, slice_get}
use Rattle.std.specs.Fmt.{decimal}
use Rattle.std.specs.Slice.{IsItemAt}
use Rattle.std.proofs.lemmas.Option.{slice_get-map, slice_get_read, slice_get_past}
use Rattle.toml.specs.View.{view}
use Rattle.toml.specs.declared.value.Value.{Value, Array}
use Rattle.toml_reading.proofs.TreeLemmas.{array_of, length-elements_of}
use Rattle.table_check.specs.Found.{printed_value}

-- a list is told by the number of the code's items
pub printed-array : (v : Value) (rows : Vec Value Global) → v ≡ Array rows
    → printed_value (view v) ≡ Some (codes "a list of " ++ decimal (length rows.items))
printed-array v rows is =
    ap printed_value (array_of v rows is)
    ∙ ap (λ n. Some (codes "a list of " ++ decimal n)) (length-elements_of rows.items)

-- what the code finds at a place is what the tree has there
pub got-item : (xs : List Value) (i : ℕ) (r : Option (Bor Value)) → IsItemAt xs i r
    → option_map (λ value. view value.now) r ≡ slice_get (map view xs) i
got-item xs i None is = sym (slice_get-map view xs i ∙ ap (option_map view) (slice_get_past xs i is.3))
got-item xs i (Some x) is =
    sym (slice_get-map view xs i ∙ ap (option_map view) (slice_get_read xs (length xs) i x.now refl is.3.0 is.1))
