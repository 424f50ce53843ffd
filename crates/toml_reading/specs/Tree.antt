-- The values of the tree that a TOML text stands for.
use Rattle.std.specs.Prelude.{ℕ, List, [], ◌∷◌, Option, Some}
use Rattle.toml.specs.Data.{Data, string, array, table, Items, no_items, item}
use Rattle.toml.specs.Data.{Members, no_members, get_member}

-- the items of a list
abbrev pub elements_of : Items → List Data
elements_of no_items = []
elements_of (item d ds) = d ∷ elements_of ds

-- the items of a value, none where it is no list
abbrev pub items_in : Option Data → List Data
items_in (Some (array ds)) = elements_of ds
items_in _ = []

-- the items of the list at a key, none where there is no list
abbrev pub items_at : List ℕ → Members → List Data
items_at key ms = items_in (get_member key ms)

-- the keys of a row, none where it is no table
abbrev pub members_in : Data → Members
members_in (table ms) = ms
members_in _ = no_members

-- the text of a value, empty where it is none
abbrev pub text_in : Option Data → List ℕ
text_in (Some (string s)) = s
text_in _ = []
