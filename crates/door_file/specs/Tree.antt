-- What the keys of a door's file hold, in the tree that a TOML text stands for.
use Rattle.std.specs.Prelude.{ℕ, Bool, false, nat_le}
use Rattle.std.specs.Prelude.{List, [], ◌∷◌, Option, Some, None, if◌then◌else◌}
use Rattle.std.specs.Str.{bytes_eq}
use Rattle.toml.specs.Data.{Data, string, array, Members, no_members, member, get_member}
use Rattle.toml_reading.specs.Tree.{elements_of, items_in, members_in, text_in}
use Rattle.toml_reading.specs.Range.{whole_in}
use Rattle.door_clerk.specs.declared.rule.GateRange.{GateRange}
use Rattle.door_file.specs.Keys.{text_of, word_of}
use Rattle.door_file.specs.declared.key.Key.{Key}
use Rattle.door_file.specs.declared.key.Key.TheVariants as key
use Rattle.door_file.specs.declared.key.TheConstants.{HIGHEST_GATE}
use Rattle.door_file.specs.declared.kind.Kind.{Kind}

-- the value at a key of a table
abbrev pub value_at : Key → Members → Option Data
value_at key ms = get_member (text_of key) ms

-- the keys of a table
abbrev pub names_of : Members → List (List ℕ)
names_of no_members = []
names_of (member name d ms) = name ∷ names_of ms

-- the items of the list at a key, none where there is no list
abbrev pub items_at : Key → Members → List Data
items_at key ms = items_in (value_at key ms)

-- the name of a rule, empty where it has none
abbrev pub name_in : Data → List ℕ
name_in d = text_in (value_at key.Name (members_in d))

-- the number of a gate that a value is
abbrev pub gate_in : Data → Option ℕ
gate_in d = whole_in 1 HIGHEST_GATE d

-- the range of one gate alone
abbrev pub one_gate : Option ℕ → Option GateRange
one_gate None = None
one_gate (Some gate) = Some (record { first = gate; last = gate })

-- the range from one gate to another, where the first is not above the last
abbrev pub two_gates : Option ℕ → Option ℕ → Option GateRange
two_gates (Some first) (Some last) =
    if nat_le first last then Some (record { first = first; last = last }) else None
two_gates _ _ = None

-- the range that the two items of a list are
abbrev pub ends_in : List Data → Option GateRange
ends_in (first ∷ last ∷ []) = two_gates (gate_in first) (gate_in last)
ends_in _ = None

-- the range of gates that a value is: the number of one gate, or a list of the first and the last
abbrev pub range_in : Data → Option GateRange
range_in (array ds) = ends_in (elements_of ds)
range_in d = one_gate (gate_in d)

-- the value is the word of this kind of request
abbrev pub is_kind : Kind → Data → Bool
is_kind kind (string s) = bytes_eq s (word_of kind)
is_kind kind d = false
