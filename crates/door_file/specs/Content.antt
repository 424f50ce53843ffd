-- What the rules of a door's file say, as the keys of the tree give them.
use Rattle.std.specs.Prelude.{ℕ, List, map, Option, Some, None, unwrap_or}
use Rattle.std.specs.List.{list_any}
use Rattle.toml.specs.Data.{Data, Members}
use Rattle.door_clerk.specs.Rule.{Terms}
use Rattle.door_clerk.specs.declared.rule.GateRange.{GateRange}
use Rattle.door_clerk.specs.declared.rule.Kinds.{Kinds}
use Rattle.door_clerk.specs.declared.rule.Rate.{Rate}
use Rattle.toml_reading.specs.Tree.{members_in}
use Rattle.toml_reading.specs.Range.{whole_in}
use Rattle.door_file.specs.Keys.{shape_of}
use Rattle.door_file.specs.Rule.{Entry}
use Rattle.door_file.specs.Tree.{value_at, items_at, name_in, range_in}
use Rattle.door_file.specs.Tree.{is_kind}
use Rattle.door_file.specs.declared.key.Key.{Key}
use Rattle.door_file.specs.declared.key.Key.TheVariants as key
use Rattle.door_file.specs.declared.key.Shape.{Shape}
use Rattle.door_file.specs.declared.key.Shape.TheVariants.{Whole}
use Rattle.door_file.specs.declared.kind.Kind.TheVariants as kind

-- the highest number that a shape allows
abbrev pub highest_of : Shape → ℕ
highest_of (Whole low high) = high
highest_of _ = 0

-- the whole number of a value that may be there, where it is one of this shape
abbrev pub number_of : Shape → Option Data → Option ℕ
number_of (Whole low high) (Some d) = whole_in low high d
number_of _ _ = None

-- the whole number at a key, where there is one in the key's range
abbrev pub number_at : Key → Members → Option ℕ
number_at key ms = number_of (shape_of key) (value_at key ms)

-- a range without a gate
abbrev pub no_gate : GateRange
no_gate = record { first = 1; last = 0 }

-- the ranges of these values, one without a gate for what is none
abbrev pub ranges_of : List Data → List GateRange
ranges_of ds = map (λ d. unwrap_or (range_in d) no_gate) ds

-- the kinds of request whose words are in the list
abbrev pub kinds_of : List Data → Kinds
kinds_of ds = record {
  enter = list_any (is_kind kind.Enter) ds;
  leave = list_any (is_kind kind.Leave) ds;
  top_up = list_any (is_kind kind.TopUp) ds;
  issue = list_any (is_kind kind.Issue) ds;
  revise = list_any (is_kind kind.Revise) ds;
  enquire = list_any (is_kind kind.Enquire) ds;
}

-- the rate of so many touches a second, and at once as many as are given, else as many as in a
-- second
abbrev pub rate_of : Option ℕ → Option ℕ → Option Rate
rate_of None burst = None
rate_of (Some touches) burst =
    Some (record { touches = touches; burst = unwrap_or burst touches })

-- what the keys of a rule say beside its name and its connections
abbrev pub terms_in : Members → Terms
terms_in ms = record {
  gates = ranges_of (items_at key.Gates ms);
  kinds = kinds_of (items_at key.Kinds ms);
  ahead = number_at key.Ahead ms;
  rate = rate_of (number_at key.Rate ms) (number_at key.Burst ms);
  reserved = unwrap_or (number_at key.Reserved ms) 0;
}

-- what a rule says
abbrev pub entry_in : Data → Entry
entry_in d = record {
  name = name_in d;
  terms = terms_in (members_in d);
  connections = number_at key.Connections (members_in d);
}

-- what the rules of a tree say, in their order
abbrev pub entries_in : Members → List Entry
entries_in ms = map entry_in (items_at key.Rule ms)
