-- The keys of a table that it may not have, beside the map that the code goes over.
use Rattle.std.proofs.Common.{◌≡◌, ℕ, Bool, true, false, not, cond, List, [], ◌∷◌, map, Option, Some, option_map}
use Rattle.std.proofs.Common.{String, Global, string_bytes, refl, ap, ◌∙◌}
use Rattle.std.specs.List.{filter, find}
use Rattle.std.specs.Map.{keys_of}
use Rattle.toml.specs.View.{members_view}
use Rattle.toml.specs.declared.value.Value.{Value}
use Rattle.toml_reading.specs.First.{first}
use Rattle.door_file.specs.Tree.{names_of}
use Rattle.door_file.specs.Faults.{is_key, unknown_faults}
use Rattle.door_file.specs.declared.fault.DoorFault.TheVariants.{UnknownKey}
use Rattle.door_file.specs.declared.key.Key.{Key}

-- the keys of a tree's table are those of the code's map
pub names_of-view : (es : List (String Global × Value)) → names_of (members_view es) ≡ map string_bytes (keys_of es)
names_of-view [] = refl
names_of-view (e ∷ es) = ap (λ names. string_bytes e.0 ∷ names) (names_of-view es)

first_step : {X Y : Type 0} (f : X → Y) (b : Bool) (x : X) (xs : List X) (o : Option X)
    → first (map f xs) ≡ option_map f o
    → first (map f (cond b (x ∷ xs) xs)) ≡ option_map f (cond b (Some x) o)
first_step f true x xs o e = refl
first_step f false x xs o e = e

-- the first of those that pass is the one that a search finds
first-filter : {X Y : Type 0} (f : X → Y) (p : X → Bool) (xs : List X) → first (map f (filter p xs))
    ≡ option_map f (find p xs)
first-filter f p [] = refl
first-filter f p (x ∷ xs) = first_step f (p x) x (filter p xs) (find p xs) (first-filter f p xs)

find_step : {X Y : Type 0} (g : X → Y) (b : Bool) (x : X) (o : Option X) (r : Option Y) → r ≡ option_map g o
    → cond b (Some (g x)) r ≡ option_map g (cond b (Some x) o)
find_step g true x o r e = refl
find_step g false x o r e = e

pub find-map : {X Y : Type 0} (g : X → Y) (p : Y → Bool) (xs : List X) → find p (map g xs)
    ≡ option_map g (find (λ x. p (g x)) xs)
find-map g p [] = refl
find-map g p (x ∷ xs) = find_step g (p (g x)) x (find (λ y. p (g y)) xs) (find p (map g xs)) (find-map g p xs)

-- the first key that a table may not have is the one that the code finds
pub first-unknown : (rule : ℕ) (known : List Key) (es : List (String Global × Value))
    → first (unknown_faults rule (members_view es) known)
    ≡ option_map (λ name. UnknownKey name rule)
    (option_map string_bytes (find (λ name. not (is_key known (string_bytes name))) (keys_of es)))
first-unknown rule known es =
    ap (λ names. first (map (λ name. UnknownKey name rule) (filter (λ name. not (is_key known name)) names)))
    (names_of-view es)
    ∙ first-filter (λ name. UnknownKey name rule) (λ name. not (is_key known name)) (map string_bytes (keys_of es))
    ∙ ap (option_map (λ name. UnknownKey name rule))
    (find-map string_bytes (λ name. not (is_key known name)) (keys_of es))
