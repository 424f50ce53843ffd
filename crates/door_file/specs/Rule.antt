-- What a rule of a door says, and which rule a connection has (this project's choice).
use Rattle.std.specs.Prelude.{◌≡◌, ◌<◌, codes, ℕ, List, length, slice_get, Option, Some, None}
use Rattle.std.specs.List.{find, position}
use Rattle.std.specs.Str.{bytes_eq}
use Rattle.door_clerk.specs.Rule.{Terms, terms_of}
use Rattle.door_file.specs.declared.rule.NamedRule.{NamedRule}

-- what a rule of a door says: the name that it is for, what its connections may send, and how many
-- of them there may be
pub record Entry : Type 0 where
  pub name : List ℕ
  pub terms : Terms
  pub connections : Option ℕ

-- what this rule of a door says
abbrev pub entry_of : NamedRule → Entry
entry_of rule = record {
  name = rule.name;
  terms = terms_of rule.rule;
  connections = rule.connections;
}

-- the name of the rule for all others
abbrev pub others : List ℕ
others = codes "*"

-- the rule of exactly this name
abbrev pub rule_of_name : List ℕ → List Entry → Option Entry
rule_of_name name rules = find (λ rule. bytes_eq rule.name name) rules

-- the first of two, where it is there, else the second
abbrev pub or_else : {X : Type 0} → Option X → Option X → Option X
or_else (Some x) other = Some x
or_else None other = other

-- the rule for a connection: that of its name, else that of all others
abbrev pub rule_for : Option (List ℕ) → List Entry → Option Entry
rule_for (Some name) rules = or_else (rule_of_name name rules) (rule_of_name others rules)
rule_for None rules = rule_of_name others rules

-- the place, counted from 0, of the rule of exactly this name
abbrev pub place_of_name : List ℕ → List Entry → Option ℕ
place_of_name name rules = position (λ rule. bytes_eq rule.name name) rules

-- the place of the rule for a connection: that of its name, else that of all others
abbrev pub place_for : Option (List ℕ) → List Entry → Option ℕ
place_for (Some name) rules = or_else (place_of_name name rules) (place_of_name others rules)
place_for None rules = place_of_name others rules

-- the rule at this place is the one for a connection of this name; without a place there is none
-- for it
abbrev pub IsPlaceFor : Option (List ℕ) → List Entry → Option ℕ → Type 0
IsPlaceFor name rules None = rule_for name rules ≡ None
IsPlaceFor name rules (Some place) =
    (place < length rules) × (slice_get rules place ≡ rule_for name rules)
