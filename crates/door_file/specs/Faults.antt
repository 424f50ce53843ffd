-- The faults of a door's file, in the order of the file: its own keys, then rule after rule, and of
-- each the keys in their order (the causes and their order are this project's choice).
use Rattle.std.specs.Prelude.{ℕ, ◌+◌, Bool, true, false, not, ◌&&◌, ◌||◌, nat_lt, count_by}
use Rattle.std.specs.Prelude.{is_some, List, [], ◌∷◌, ◌++◌, map, filter, length}
use Rattle.std.specs.Prelude.{Option, Some, None, option_map, if◌then◌else◌}
use Rattle.std.specs.List.{filter_map, list_any, list_all}
use Rattle.std.specs.Str.{bytes_eq, is_utf8}
use Rattle.toml.specs.Data.{Data, string, integer, array, table, Members}
use Rattle.toml.specs.Data.{as_integer, as_str, as_array}
use Rattle.toml.specs.Parse.{parse_document}
use Rattle.station_limits.specs.declared.limits.TheConstants.{CERTIFICATE_NAME_LIMIT}
use Rattle.toml_reading.specs.First.{first}
use Rattle.toml_reading.specs.Tree.{elements_of}
use Rattle.toml_reading.specs.Range.{whole_in, are_whole, is_count}
use Rattle.door_file.specs.Keys.{text_of, shape_of, rule_keys, file_keys, all_kinds}
use Rattle.door_file.specs.Tree.{value_at, names_of, items_at, name_in, range_in, is_kind}
use Rattle.door_file.specs.declared.door.TheConstants.{MOST_BYTES}
use Rattle.door_file.specs.declared.fault.DoorFault.{DoorFault}
use Rattle.door_file.specs.declared.fault.DoorFault.TheVariants.{TooLong, NotToml, At, UnknownKey}
use Rattle.door_file.specs.declared.fault.Problem.{Problem}
use Rattle.door_file.specs.declared.fault.Problem.TheVariants.{Missing, WrongType, Range, Twice}
use Rattle.door_file.specs.declared.key.Key.{Key}
use Rattle.door_file.specs.declared.key.Key.TheVariants as key
use Rattle.door_file.specs.declared.key.Shape.{Shape}
use Rattle.door_file.specs.declared.key.Shape.TheVariants.{Rules, Name, Gates, Kinds, Whole}
use Rattle.door_file.specs.declared.key.TheConstants.{MOST_RULES}
use Rattle.door_file.specs.declared.kind.Kind.TheVariants as kind

-- the value is a whole number or a list of such
abbrev pub is_gate : Data → Bool
is_gate (integer n) = true
is_gate (array ds) = are_whole (elements_of ds)
is_gate d = false

-- the value is of the type of this shape
abbrev pub has_type : Shape → Data → Bool
has_type Rules d = is_some (as_array d)
has_type Name d = is_some (as_str d)
has_type Gates (array ds) = list_all is_gate (elements_of ds)
has_type Gates d = false
has_type Kinds (array ds) = list_all (λ d. is_some (as_str d)) (elements_of ds)
has_type Kinds d = false
has_type (Whole low high) d = is_some (as_integer d)

-- a list that is needed has an item
abbrev pub has_enough : Bool → ℕ → Bool
has_enough needed count = not needed || nat_lt 0 count

-- the value is the word of some kind of request
abbrev pub is_known : Data → Bool
is_known d = list_any (λ k. is_kind k d) all_kinds

-- the value, where it is of the type of this shape, is in its range
abbrev pub in_range : Shape → Bool → Data → Bool
in_range Rules needed (array ds) = is_count 1 MOST_RULES (length (elements_of ds))
in_range Rules needed d = true
in_range Name needed (string s) = is_count 1 CERTIFICATE_NAME_LIMIT (length s)
in_range Name needed d = true
in_range Gates needed (array ds) =
    has_enough needed (length (elements_of ds))
    && list_all (λ d. is_some (range_in d)) (elements_of ds)
in_range Gates needed d = true
in_range Kinds needed (array ds) =
    has_enough needed (length (elements_of ds)) && list_all is_known (elements_of ds)
in_range Kinds needed d = true
in_range (Whole low high) needed d = is_some (whole_in low high d)

-- some kind of request is in the list more than once
abbrev pub has_twice : List Data → Bool
has_twice ds = list_any (λ k. nat_lt 1 (count_by (is_kind k) ds)) all_kinds

-- one of these rules has this name
abbrev pub is_taken : List ℕ → List Data → Bool
is_taken name rows = list_any (λ row. bytes_eq name (name_in row)) rows

-- the value names what may be named once: a name that an earlier rule has, or a kind of request for
-- the second time
abbrev pub is_repeat : Shape → List Data → Data → Bool
is_repeat Name earlier (string s) = is_taken s earlier
is_repeat Kinds earlier (array ds) = has_twice (elements_of ds)
is_repeat _ earlier d = false

-- one of these kinds is another than enquiries
abbrev pub has_others : List Data → Bool
has_others ds = list_any (λ d. not (is_kind kind.Enquire d)) ds

-- the key must be there: gates for each rule that allows more than enquiries, and a rate where
-- there is a burst
abbrev pub is_needed : Key → Members → Bool
is_needed key.Rule ms = true
is_needed key.Name ms = true
is_needed key.Gates ms = has_others (items_at key.Kinds ms)
is_needed key.Kinds ms = true
is_needed key.Rate ms = is_some (value_at key.Burst ms)
is_needed _ ms = false

-- what is wrong with what a key holds
abbrev pub problem_of : Shape → Bool → List Data → Option Data → Option Problem
problem_of shape needed earlier None = if needed then Some Missing else None
problem_of shape needed earlier (Some d) =
    if not (has_type shape d) then Some WrongType else
    (if not (in_range shape needed d) then Some Range else
    (if is_repeat shape earlier d then Some Twice else None))

-- what is wrong at a key of a table, of which these are the earlier ones
abbrev pub problem_at : List Data → Members → Key → Option Problem
problem_at earlier ms key = problem_of (shape_of key) (is_needed key ms) earlier (value_at key ms)

-- the fault at a key of a rule, which is named by its number: rules count from 1, and 0 is the file
-- itself
abbrev pub key_fault : ℕ → List Data → Members → Key → Option DoorFault
key_fault rule earlier ms key =
    option_map (λ problem. At (record { rule = rule; key = key }) problem)
    (problem_at earlier ms key)

-- the faults at these keys
abbrev pub keys_faults : ℕ → List Data → Members → List Key → List DoorFault
keys_faults rule earlier ms keys = filter_map (key_fault rule earlier ms) keys

-- the text is that of one of these keys
abbrev pub is_key : List Key → List ℕ → Bool
is_key keys name = list_any (λ key. bytes_eq name (text_of key)) keys

-- the keys of a table that are none of these
abbrev pub unknown_names : List Key → Members → List (List ℕ)
unknown_names keys ms = filter (λ name. not (is_key keys name)) (names_of ms)

-- the faults of keys that are none of these
abbrev pub unknown_faults : ℕ → Members → List Key → List DoorFault
unknown_faults rule ms keys = map (λ name. UnknownKey name rule) (unknown_names keys ms)

-- the faults of a table that has these keys: at its keys, and then of the keys that it may not have
abbrev pub table_faults : ℕ → List Data → Members → List Key → List DoorFault
table_faults rule earlier ms keys =
    keys_faults rule earlier ms keys ++ unknown_faults rule ms keys

-- the faults of the rule of this number
abbrev pub rule_faults : ℕ → List Data → Data → List DoorFault
rule_faults rule earlier (table ms) = table_faults rule earlier ms rule_keys
rule_faults rule earlier d = At (record { rule = rule; key = key.Rule }) WrongType ∷ []

-- the faults of these rules, of which the first has this number, after those before it
abbrev pub rules_faults : ℕ → List Data → List Data → List DoorFault
rules_faults rule earlier [] = []
rules_faults rule earlier (d ∷ ds) =
    rule_faults rule earlier d ++ rules_faults (rule + 1) (earlier ++ d ∷ []) ds

-- all faults of a tree
abbrev pub faults : Members → List DoorFault
faults ms = table_faults 0 [] ms file_keys ++ rules_faults 1 [] (items_at key.Rule ms)

-- the first fault of a text that a tree may be read from
abbrev pub fault_of_tree : Option Members → Option DoorFault
fault_of_tree None = Some NotToml
fault_of_tree (Some ms) = first (faults ms)

-- the first fault of a text
abbrev pub first_fault : List ℕ → Option DoorFault
first_fault text =
    if nat_lt MOST_BYTES (length text) then Some TooLong else fault_of_tree (parse_document text)

-- the first fault of the file that has these bytes
abbrev pub fault_in : List ℕ → Option DoorFault
fault_in bytes =
    if nat_lt MOST_BYTES (length bytes) then Some TooLong else
    (if is_utf8 bytes then fault_of_tree (parse_document bytes) else Some NotToml)
