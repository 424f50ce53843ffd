-- What a door's file means, in the field's words: which text says which rules. It is a relation,
-- and doesn't say how a file is read (the keys and their ranges are this project's choice).
use Rattle.std.specs.Prelude.{◌≡◌, ◌≢◌, ◌⊎◌, ℕ, pos, ◌≤◌, true, List, [], length}
use Rattle.std.specs.Prelude.{Option, Some, None, unwrap_or, count_by}
use Rattle.std.specs.List.{All, AllZip, AllPairs}
use Rattle.toml.specs.Data.{Data, string, integer, array, table, no_items, item, Members}
use Rattle.toml.specs.Parse.{parse_document}
use Rattle.station_limits.specs.declared.limits.TheConstants.{CERTIFICATE_NAME_LIMIT}
use Rattle.door_clerk.specs.declared.rule.GateRange.{GateRange}
use Rattle.door_clerk.specs.declared.rule.Kinds.{Kinds}
use Rattle.door_clerk.specs.declared.rule.Rate.{Rate}
use Rattle.toml_reading.specs.Tree.{elements_of}
use Rattle.door_file.specs.Keys.{rule_keys, file_keys, word_of}
use Rattle.door_file.specs.Rule.{Entry}
use Rattle.door_file.specs.Tree.{value_at, names_of, items_at, is_kind}
use Rattle.door_file.specs.Faults.{is_key, has_others}
use Rattle.door_file.specs.Content.{kinds_of, rate_of}
use Rattle.door_file.specs.declared.door.TheConstants.{MOST_BYTES}
use Rattle.door_file.specs.declared.key.Key.TheVariants as key
use Rattle.door_file.specs.declared.key.TheConstants.{MOST_RULES, HIGHEST_GATE}
use Rattle.door_file.specs.declared.key.TheConstants.{MOST_AHEAD, MOST_RATE, MOST_BURST}
use Rattle.door_file.specs.declared.key.TheConstants.{MOST_RESERVED, MOST_CONNECTIONS}
use Rattle.door_file.specs.declared.kind.Kind.{Kind}

-- a key that may be left out says a number: the whole number that is there, from the lowest to the
-- highest
abbrev pub SaysNumber : ℕ → ℕ → Option Data → Option ℕ → Type 0
SaysNumber low high None said = said ≡ None
SaysNumber low high (Some d) said =
    (n : ℕ) × ((d ≡ integer (pos n)) × (low ≤ n) × (n ≤ high) × (said ≡ Some n))

-- the value is a list of a first and a last gate
abbrev pub pair_of_gates : ℕ → ℕ → Data
pair_of_gates first last =
    array (item (integer (pos first)) (item (integer (pos last)) no_items))

-- a value says a range of gates: the number of its one gate, or a list of its first and its last
pub record SaysRange (d : Data) (range : GateRange) : Type 0 where
  pub written : ((d ≡ integer (pos range.first)) × (range.first ≡ range.last))
      ⊎ (d ≡ pair_of_gates range.first range.last)
  pub least : 1 ≤ range.first
  pub order : range.first ≤ range.last
  pub most : range.last ≤ HIGHEST_GATE

-- a key that may be left out says ranges of gates: those of its list, in their order
abbrev pub SaysGates : Option Data → List GateRange → Type 0
SaysGates None gates = gates ≡ []
SaysGates (Some (array ds)) gates = AllZip SaysRange (elements_of ds) gates
SaysGates (Some d) gates = ⊥

-- a value says kinds of request: a list of their words, at least one and none twice
pub record SaysKindsIn (ds : List Data) (kinds : Kinds) : Type 0 where
  pub some : 1 ≤ length ds
  pub words : All (λ d. (kind : Kind) × (d ≡ string (word_of kind))) ds
  pub once : (kind : Kind) → count_by (is_kind kind) ds ≤ 1
  pub said : kinds ≡ kinds_of ds

-- a key says kinds of request
abbrev pub SaysKinds : Option Data → Kinds → Type 0
SaysKinds (Some (array ds)) kinds = SaysKindsIn (elements_of ds) kinds
SaysKinds v kinds = ⊥

-- two keys say a rate: no burst without touches a second
abbrev pub SaysRate : Option Data → Option Data → Option Rate → Type 0
SaysRate touches burst rate =
    (n : Option ℕ) × ((m : Option ℕ) × (SaysNumber 1 MOST_RATE touches n
    × SaysNumber 1 MOST_BURST burst m × (n ≡ None → m ≡ None) × (rate ≡ rate_of n m)))

-- a key says how much is reserved: nothing where it is left out
abbrev pub SaysReserved : Option Data → ℕ → Type 0
SaysReserved v reserved =
    (n : Option ℕ) × (SaysNumber 0 MOST_RESERVED v n × (reserved ≡ unwrap_or n 0))

-- a table says a rule
pub record SaysRule (ms : Members) (entry : Entry) : Type 0 where
  pub name : value_at key.Name ms ≡ Some (string entry.name)
  pub name_least : 1 ≤ length entry.name
  pub name_most : length entry.name ≤ CERTIFICATE_NAME_LIMIT
  pub gates : SaysGates (value_at key.Gates ms) entry.terms.gates
  -- a rule that allows more than enquiries has gates
  pub some_gates : has_others (items_at key.Kinds ms) ≡ true → 1 ≤ length entry.terms.gates
  pub kinds : SaysKinds (value_at key.Kinds ms) entry.terms.kinds
  pub ahead : SaysNumber 0 MOST_AHEAD (value_at key.Ahead ms) entry.terms.ahead
  pub rate : SaysRate (value_at key.Rate ms) (value_at key.Burst ms) entry.terms.rate
  pub reserved : SaysReserved (value_at key.Reserved ms) entry.terms.reserved
  pub connections : SaysNumber 1 MOST_CONNECTIONS (value_at key.Connections ms) entry.connections
  -- and no other key
  pub only : All (λ name. is_key rule_keys name ≡ true) (names_of ms)

-- an item of the list of rules says a rule
abbrev pub SaysEntry : Data → Entry → Type 0
SaysEntry (table ms) entry = SaysRule ms entry
SaysEntry d entry = ⊥

-- a key says rules: those of its list, in their order
abbrev pub SaysRules : Option Data → List Entry → Type 0
SaysRules (Some (array ds)) entries = AllZip SaysEntry (elements_of ds) entries
SaysRules v entries = ⊥

-- a tree says the rules of a door
pub record SaysDoor (ms : Members) (entries : List Entry) : Type 0 where
  pub rules : SaysRules (value_at key.Rule ms) entries
  pub least : 1 ≤ length entries
  pub most : length entries ≤ MOST_RULES
  pub names : AllPairs (λ earlier later. later.name ≢ earlier.name) entries
  -- and there is no other key
  pub only : All (λ name. is_key file_keys name ≡ true) (names_of ms)

-- a text means a door of these rules
pub record MeansDoor (text : List ℕ) (entries : List Entry) : Type 0 where
  pub size : length text ≤ MOST_BYTES
  pub tree : Members
  pub parsed : parse_document text ≡ Some tree
  pub says : SaysDoor tree entries
