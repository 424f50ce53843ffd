-- A rule has no fault exactly when its table says one, and that is the rule that is read.
use Rattle.std.proofs.Common.{◌≡◌, ℕ, Bool, true, false, not, is_some, cond, map}
use Rattle.std.proofs.Common.{List, [], ◌∷◌, Option, Some, None, option_map, unwrap_or, refl, ap, sym, ◌∙◌, arith}
use Rattle.std.specs.List.{All, filter}
use Rattle.std.proofs.lemmas.List.Elements.{All-nil, All-cons, All-head, All-tail}
use Rattle.toml.specs.Data.{Data, table, Members}
use Rattle.door_clerk.specs.declared.rule.GateRange.{GateRange}
use Rattle.door_clerk.specs.declared.rule.Kinds.{Kinds}
use Rattle.door_clerk.specs.declared.rule.Rate.{Rate}
use Rattle.toml_reading.specs.First.{first}
use Rattle.toml_reading.specs.Tree.{text_in}
use Rattle.toml_reading.proofs.FirstLemmas.{first_none, last_none, both-none, cons-none, filter-all}
use Rattle.door_file.specs.Keys.{rule_keys}
use Rattle.door_file.specs.Rule.{Entry}
use Rattle.door_file.specs.Tree.{value_at, names_of, items_at}
use Rattle.door_file.specs.Faults.{has_others, is_taken, is_key, problem_of, problem_at, key_fault}
use Rattle.door_file.specs.Faults.{keys_faults, unknown_faults, table_faults}
use Rattle.door_file.specs.Content.{number_of, number_at, rate_of, entry_in}
use Rattle.door_file.specs.Meaning.{SaysNumber, SaysRule}
use Rattle.door_file.specs.declared.fault.DoorFault.{DoorFault}
use Rattle.door_file.specs.declared.fault.DoorFault.TheVariants.{At, UnknownKey}
use Rattle.door_file.specs.declared.fault.Problem.{Problem}
use Rattle.door_file.specs.declared.key.Key.{Key}
use Rattle.door_file.specs.declared.key.Key.TheVariants as key
use Rattle.door_file.specs.declared.key.Shape.TheVariants.{Whole}
use Rattle.door_file.specs.declared.key.TheConstants.{MOST_AHEAD, MOST_RATE, MOST_BURST}
use Rattle.door_file.specs.declared.key.TheConstants.{MOST_RESERVED, MOST_CONNECTIONS}
use Rattle.door_file.proofs.NumberLemmas.{number-says, says-number, number-none}
use Rattle.door_file.proofs.GatesLemmas.{gates-right, gates-enough, right-gates, gates-same}
use Rattle.door_file.proofs.KindsLemmas.{kinds-right, right-kinds, kinds-same, IsNamed, name-right, right-name}

-- ---- keys that are known

only_step : (known : List Key) (f : List ℕ → DoorFault) (b : Bool) (name : List ℕ) (names : List (List ℕ))
    → first (map f (cond (not b) (name ∷ names) names)) ≡ None → (b ≡ true) × (first (map f names) ≡ None)
only_step known f true name names e = (refl, e)
only_step known f false name names e = cc

only_from : (known : List Key) (f : List ℕ → DoorFault) (names : List (List ℕ))
    → first (map f (filter (λ name. not (is_key known name)) names)) ≡ None
    → All (λ name. is_key known name ≡ true) names
only_from known f [] e = All-nil (λ name. is_key known name ≡ true)
only_from known f (name ∷ names) e =
    let p = only_step known f (is_key known name) name (filter (λ n. not (is_key known n)) names) e in
    All-cons (λ n. is_key known n ≡ true) name names p.0 (only_from known f names p.1)

from_only : (known : List Key) (f : List ℕ → DoorFault) (names : List (List ℕ))
    → All (λ name. is_key known name ≡ true) names
    → first (map f (filter (λ name. not (is_key known name)) names)) ≡ None
from_only known f [] all = refl
from_only known f (name ∷ names) all =
    rw (All-head (λ n. is_key known n ≡ true) name names all)
    (from_only known f names (All-tail (λ n. is_key known n ≡ true) name names all))

pub only-known : (rule : ℕ) (ms : Members) (known : List Key) → first (unknown_faults rule ms known) ≡ None
    → All (λ name. is_key known name ≡ true) (names_of ms)
only-known rule ms known e = only_from known (λ name. UnknownKey name rule) (names_of ms) e

pub known-only : (rule : ℕ) (ms : Members) (known : List Key) → All (λ name. is_key known name ≡ true) (names_of ms)
    → first (unknown_faults rule ms known) ≡ None
known-only rule ms known all = from_only known (λ name. UnknownKey name rule) (names_of ms) all

-- ---- problems and faults

map-none : {X Y : Type 0} (f : X → Y) (o : Option X) → option_map f o ≡ None → o ≡ None
map-none f None e = refl
map-none f (Some x) e = cc

pub key-none : (rule : ℕ) (earlier : List Data) (ms : Members) (k : Key) → key_fault rule earlier ms k ≡ None
    → problem_at earlier ms k ≡ None
key-none rule earlier ms k e =
    map-none (λ (problem : Problem). At (record { rule = rule; key = k }) problem) (problem_at earlier ms k) e

pub fault-none : (rule : ℕ) (earlier : List Data) (ms : Members) (k : Key) → problem_at earlier ms k ≡ None
    → key_fault rule earlier ms k ≡ None
fault-none rule earlier ms k e = ap (option_map (λ (problem : Problem). At (record { rule = rule; key = k }) problem)) e

-- a key without a problem, before keys without a fault
more-none : (rule : ℕ) (earlier : List Data) (ms : Members) (k : Key) (ks : List Key)
    → problem_at earlier ms k ≡ None → first (keys_faults rule earlier ms ks) ≡ None
    → first (keys_faults rule earlier ms (k ∷ ks)) ≡ None
more-none rule earlier ms k ks e rest =
    cons-none (key_fault rule earlier ms k) (keys_faults rule earlier ms ks) (fault-none rule earlier ms k e) rest

-- the keys of a rule after each of them
abbrev after_reserved : List Key
after_reserved = key.Connections ∷ []

abbrev after_burst : List Key
after_burst = key.Reserved ∷ after_reserved

abbrev after_rate : List Key
after_rate = key.Burst ∷ after_burst

abbrev after_ahead : List Key
after_ahead = key.Rate ∷ after_rate

abbrev after_kinds : List Key
after_kinds = key.Ahead ∷ after_ahead

abbrev after_gates : List Key
after_gates = key.Kinds ∷ after_kinds

abbrev after_name : List Key
after_name = key.Gates ∷ after_gates

-- ---- the rate

burst-without : (earlier : List Data) (touches burst : Option Data)
    → problem_of (Whole 1 MOST_RATE) (is_some burst) earlier touches ≡ None
    → number_of (Whole 1 MOST_RATE) touches ≡ None → number_of (Whole 1 MOST_BURST) burst ≡ None
burst-without earlier None None none e = refl
burst-without earlier None (Some d) none e = cc
burst-without earlier (Some d) burst none e =
    let says = number-says 1 MOST_RATE (is_some burst) earlier (Some d) none in
    absurd (let p = says.1.3 in cc)

no-burst : (burst : Option Data) (m : Option ℕ) → SaysNumber 1 MOST_BURST burst m → m ≡ None → is_some burst ≡ false
no-burst None m says e = refl
no-burst (Some d) m (n, (value, least, most, is)) e = cc

nothing-said : (low high : ℕ) (v : Option Data) (said : Option ℕ) → SaysNumber low high v said → v ≡ None → said ≡ None
nothing-said low high None said says gone = says
nothing-said low high (Some d) said says gone = cc

-- ---- the same rule

abbrev entry_with : List ℕ → List GateRange → Kinds → Option ℕ → Option Rate → ℕ → Option ℕ → Entry
entry_with name gates kinds ahead rate reserved connections = record {
  name = name;
  terms = record { gates = gates; kinds = kinds; ahead = ahead; rate = rate; reserved = reserved };
  connections = connections;
}

same-entry : (n m : List ℕ) (g h : List GateRange) (k l : Kinds) (a b : Option ℕ) (r q : Option Rate) (s t : ℕ)
    (c d : Option ℕ) → n ≡ m → g ≡ h → k ≡ l → a ≡ b → r ≡ q → s ≡ t → c ≡ d
    → entry_with n g k a r s c ≡ entry_with m h l b q t d
same-entry n m g h k l a b r q s t c d e1 e2 e3 e4 e5 e6 e7 = rw (e1, e2, e3, e4, e5, e6, e7) refl

same-rate : (n m p q : Option ℕ) → n ≡ p → m ≡ q → rate_of n m ≡ rate_of p q
same-rate n m p q e f = rw (e, f) refl

-- ---- a rule

module _ (rule : ℕ) (earlier : List Data) (ms : Members) where
  pub rule-named : first (table_faults rule earlier ms rule_keys) ≡ None
      → IsNamed earlier (value_at key.Name ms) (text_in (value_at key.Name ms))
  rule-named e =
      let none = first_none (keys_faults rule earlier ms rule_keys) _ e in
      let keys = filter-all (key_fault rule earlier ms) rule_keys none in
      name-right earlier (value_at key.Name ms) (key-none rule earlier ms key.Name (keys 0 key.Name (omega arith)))

  pub rule-says : first (table_faults rule earlier ms rule_keys) ≡ None → SaysRule ms (entry_in (table ms))
  rule-says e =
      let none = first_none (keys_faults rule earlier ms rule_keys) _ e in
      let keys = filter-all (key_fault rule earlier ms) rule_keys none in
      let named = rule-named e in
      let gates = key-none rule earlier ms key.Gates (keys 1 key.Name (omega arith)) in
      let kinds = key-none rule earlier ms key.Kinds (keys 2 key.Name (omega arith)) in
      let ahead = key-none rule earlier ms key.Ahead (keys 3 key.Name (omega arith)) in
      let rate = key-none rule earlier ms key.Rate (keys 4 key.Name (omega arith)) in
      let burst = key-none rule earlier ms key.Burst (keys 5 key.Name (omega arith)) in
      let reserved = key-none rule earlier ms key.Reserved (keys 6 key.Name (omega arith)) in
      let connections = key-none rule earlier ms key.Connections (keys 7 key.Name (omega arith)) in
      record {
        name = named.value;
        name_least = named.least;
        name_most = named.most;
        gates = gates-right (has_others (items_at key.Kinds ms)) earlier (value_at key.Gates ms) gates;
        some_gates = gates-enough (has_others (items_at key.Kinds ms)) earlier (value_at key.Gates ms) gates;
        kinds = kinds-right earlier (value_at key.Kinds ms) kinds;
        ahead = number-says 0 MOST_AHEAD false earlier (value_at key.Ahead ms) ahead;
        rate = (
          number_at key.Rate ms,
          (
            number_at key.Burst ms,
            (
              number-says 1 MOST_RATE (is_some (value_at key.Burst ms)) earlier (value_at key.Rate ms) rate,
              number-says 1 MOST_BURST false earlier (value_at key.Burst ms) burst,
              burst-without earlier (value_at key.Rate ms) (value_at key.Burst ms) rate,
              refl,
            ),
          ),
        );
        reserved = (
          number_at key.Reserved ms,
          (number-says 0 MOST_RESERVED false earlier (value_at key.Reserved ms) reserved, refl),
        );
        connections = number-says 1 MOST_CONNECTIONS false earlier (value_at key.Connections ms) connections;
        only = only-known rule ms rule_keys (last_none (keys_faults rule earlier ms rule_keys) _ e);
      }

  module _ (entry : Entry) (says : SaysRule ms entry) where
    pub rule-name : entry.name ≡ text_in (value_at key.Name ms)
    rule-name = sym (ap text_in says.name)

    rate-none : problem_at earlier ms key.Rate ≡ None
    rate-none =
        number-none 1 MOST_RATE (is_some (value_at key.Burst ms)) earlier (value_at key.Rate ms) (says.rate.0)
        (says.rate.1.1.0) (λ gone. no-burst (value_at key.Burst ms) (says.rate.1.0) (says.rate.1.1.1)
        (says.rate.1.1.2 (nothing-said 1 MOST_RATE (value_at key.Rate ms) (says.rate.0) (says.rate.1.1.0) gone)))

    pub rule-none : is_taken entry.name earlier ≡ false → first (table_faults rule earlier ms rule_keys) ≡ None
    rule-none new =
        both-none (keys_faults rule earlier ms rule_keys) _
        (more-none rule earlier ms key.Name after_name (right-name earlier (value_at key.Name ms) entry.name (record {
          value = says.name;
          least = says.name_least;
          most = says.name_most;
          new = new;
        }))
        (more-none rule earlier ms key.Gates after_gates (right-gates (has_others (items_at key.Kinds ms)) earlier
        (value_at key.Gates ms) entry.terms.gates says.gates says.some_gates)
        (more-none rule earlier ms key.Kinds after_kinds (right-kinds earlier (value_at key.Kinds ms)
        entry.terms.kinds says.kinds)
        (more-none rule earlier ms key.Ahead after_ahead (number-none 0 MOST_AHEAD false earlier
        (value_at key.Ahead ms) entry.terms.ahead says.ahead (λ _. refl))
        (more-none rule earlier ms key.Rate after_rate rate-none
        (more-none rule earlier ms key.Burst after_burst (number-none 1 MOST_BURST false earlier
        (value_at key.Burst ms) (says.rate.1.0) (says.rate.1.1.1) (λ _. refl))
        (more-none rule earlier ms key.Reserved after_reserved (number-none 0 MOST_RESERVED false earlier
        (value_at key.Reserved ms) (says.reserved.0) (says.reserved.1.0) (λ _. refl))
        (more-none rule earlier ms key.Connections [] (number-none 1 MOST_CONNECTIONS false earlier
        (value_at key.Connections ms) entry.connections says.connections (λ _. refl)) refl))))))))
        (known-only rule ms rule_keys says.only)

    pub rule-same : entry ≡ entry_in (table ms)
    rule-same =
        same-entry entry.name _ entry.terms.gates _ entry.terms.kinds _ entry.terms.ahead _ entry.terms.rate _
        entry.terms.reserved _ entry.connections _ rule-name
        (gates-same (value_at key.Gates ms) entry.terms.gates says.gates)
        (kinds-same (value_at key.Kinds ms) entry.terms.kinds says.kinds)
        (says-number 0 MOST_AHEAD (value_at key.Ahead ms) entry.terms.ahead says.ahead)
        (says.rate.1.1.3 ∙ same-rate _ _ _ _
        (says-number 1 MOST_RATE (value_at key.Rate ms) (says.rate.0) (says.rate.1.1.0))
        (says-number 1 MOST_BURST (value_at key.Burst ms) (says.rate.1.0) (says.rate.1.1.1)))
        (says.reserved.1.1 ∙ ap (λ n. unwrap_or n 0)
        (says-number 0 MOST_RESERVED (value_at key.Reserved ms) (says.reserved.0) (says.reserved.1.0)))
        (says-number 1 MOST_CONNECTIONS (value_at key.Connections ms) entry.connections says.connections)
