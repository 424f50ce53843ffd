-- The value of each constant that the definitions take from the code, what small rules say, which
-- rule is that of a name, and the first fault of small files, by computing.
use Rattle.std.proofs.Common.{◌≡◌, ℕ, pos, negsuc, true, false, List, [], ◌∷◌, Option, Some, None, refl}
use Rattle.std.specs.Prelude.{codes}
use Rattle.toml.specs.Data.{Data, string, integer, array, table}
use Rattle.toml.specs.Data.{Items, no_items, item, Members, no_members, member}
use Rattle.toml_reading.specs.First.{first}
use Rattle.door_file.specs.Keys.{rule_keys, file_keys, all_kinds}
use Rattle.door_file.specs.Rule.{Entry, others, rule_for}
use Rattle.door_file.specs.Content.{entry_in}
use Rattle.door_file.specs.Faults.{faults, fault_of_tree}
use Rattle.door_file.specs.declared.door.TheConstants.{MOST_BYTES, OTHERS}
use Rattle.door_file.specs.declared.fault.DoorFault.{DoorFault}
use Rattle.door_file.specs.declared.fault.DoorFault.TheVariants.{NotToml, At, UnknownKey}
use Rattle.door_file.specs.declared.fault.Problem.{Problem}
use Rattle.door_file.specs.declared.fault.Problem.TheVariants.{Missing, WrongType, Range, Twice}
use Rattle.door_file.specs.declared.key.Key.{Key}
use Rattle.door_file.specs.declared.key.Key.TheVariants as key
use Rattle.door_file.specs.declared.key.TheConstants.{MOST_RULES, HIGHEST_GATE, MOST_AHEAD}
use Rattle.door_file.specs.declared.key.TheConstants.{MOST_RATE, MOST_BURST, MOST_RESERVED, MOST_CONNECTIONS}
use Rattle.door_file.specs.declared.key.TheConstants.{RULE_KEYS, FILE_KEYS}
use Rattle.door_file.specs.declared.kind.TheConstants.{KINDS}

-- ---- the limits

most_bytes : MOST_BYTES ≡ 1_048_576
most_bytes = refl

most_rules : MOST_RULES ≡ 1_000
most_rules = refl

highest_gate : HIGHEST_GATE ≡ 65_535
highest_gate = refl

most_ahead : MOST_AHEAD ≡ 86_400
most_ahead = refl

most_rate : MOST_RATE ≡ 1_000
most_rate = refl

most_burst : MOST_BURST ≡ 10_000
most_burst = refl

most_reserved : MOST_RESERVED ≡ 1_000_000
most_reserved = refl

most_connections : MOST_CONNECTIONS ≡ 65_535
most_connections = refl

others_name : OTHERS.now ≡ others
others_name = refl

-- the walk that the code goes is the one of the definitions
walk_of_a_rule : RULE_KEYS ≡ rule_keys
walk_of_a_rule = refl

walk_of_the_file : FILE_KEYS ≡ file_keys
walk_of_the_file = refl

walk_of_the_kinds : KINDS ≡ all_kinds
walk_of_the_kinds = refl

-- ---- small trees

abbrev whole : ℕ → Data
whole n = integer (pos n)

abbrev items : List Data → Items
items [] = no_items
items (d ∷ ds) = item d (items ds)

abbrev list : List Data → Data
list ds = array (items ds)

abbrev touches : Data
touches = list (string (codes "in") ∷ string (codes "out") ∷ [])

abbrev enquiries : Data
enquiries = list (string (codes "enquiry") ∷ [])

-- further keys of a rule after its name, gates and kinds
abbrev rule : List ℕ → Data → Data → Members → Data
rule name gates kinds more =
    table (member (codes "name") (string name) (member (codes "gates") gates (member (codes "kinds") kinds more)))

-- the first gate's rule, of which further keys are these
abbrev gate_with : Members → Data
gate_with more = rule (codes "gate-7") (list (whole 7 ∷ list (whole 100 ∷ whole 120 ∷ []) ∷ [])) touches more

abbrev with : List ℕ → Data → Members
with name d = member name d no_members

-- the rule for all others, which may send enquiries alone
abbrev readers : Data
readers = table (member (codes "name") (string (codes "*")) (with (codes "kinds") enquiries))

abbrev file : List Data → Members
file rules = with (codes "rule") (list rules)

-- ---- what a rule says

all_keys : entry_in (gate_with (member (codes "ahead") (whole 300) (member (codes "rate") (whole 5)
    (member (codes "burst") (whole 20) (member (codes "reserved") (whole 1000)
    (with (codes "connections") (whole 2)))))))
    ≡ record {
      name = codes "gate-7";
      terms = record {
        gates = record { first = 7; last = 7 } ∷ record { first = 100; last = 120 } ∷ [];
        kinds = record { enter = true; leave = true; top_up = false; issue = false; revise = false; enquire = false };
        ahead = Some 300;
        rate = Some (record { touches = 5; burst = 20 });
        reserved = 1000;
      };
      connections = Some 2;
    }
all_keys = refl

-- what a rule says that leaves out what it may
few_keys : entry_in readers
    ≡ record {
      name = codes "*";
      terms = record {
        gates = [];
        kinds = record { enter = false; leave = false; top_up = false; issue = false; revise = false; enquire = true };
        ahead = None;
        rate = None;
        reserved = 0;
      };
      connections = None;
    }
few_keys = refl

-- without a burst as many touches may come at once as in a second
no_burst : (entry_in (gate_with (with (codes "rate") (whole 5)))).terms.rate ≡ Some (record { touches = 5; burst = 5 })
no_burst = refl

-- ---- the rule of a name

abbrev both : List Entry
both = entry_in readers ∷ entry_in (gate_with no_members) ∷ []

its_own : rule_for (Some (codes "gate-7")) both ≡ Some (entry_in (gate_with no_members))
its_own = refl

that_of_others : rule_for (Some (codes "gate-8")) both ≡ Some (entry_in readers)
that_of_others = refl

of_no_name : rule_for None both ≡ Some (entry_in readers)
of_no_name = refl

no_rule : rule_for (Some (codes "gate-8")) (entry_in (gate_with no_members) ∷ []) ≡ None
no_rule = refl

-- ---- the first fault

abbrev at : ℕ → Key → Problem → Option DoorFault
at rule key problem = Some (At (record { rule = rule; key = key }) problem)

abbrev of_file : Problem → Option DoorFault
of_file problem = at 0 key.Rule problem

no_fault : first (faults (file (readers ∷ gate_with no_members ∷ []))) ≡ None
no_fault = refl

no_tree : fault_of_tree None ≡ Some NotToml
no_tree = refl

nothing_there : first (faults no_members) ≡ of_file Missing
nothing_there = refl

no_list : first (faults (with (codes "rule") (whole 1))) ≡ of_file WrongType
no_list = refl

no_rules : first (faults (file [])) ≡ of_file Range
no_rules = refl

other_key_of_the_file : first (faults (member (codes "rule") (list (readers ∷ [])) (with (codes "rules") (whole 1))))
    ≡ Some (UnknownKey (codes "rules") 0)
other_key_of_the_file = refl

no_table : first (faults (file (readers ∷ whole 1 ∷ []))) ≡ at 2 key.Rule WrongType
no_table = refl

-- name
no_name : first (faults (file (table no_members ∷ []))) ≡ at 1 key.Name Missing
no_name = refl

name_of_a_number : first (faults (file (table (with (codes "name") (whole 7)) ∷ []))) ≡ at 1 key.Name WrongType
name_of_a_number = refl

empty_name : first (faults (file (rule [] (list (whole 7 ∷ [])) touches no_members ∷ []))) ≡ at 1 key.Name Range
empty_name = refl

name_twice : first (faults (file (readers ∷ gate_with no_members ∷ readers ∷ []))) ≡ at 3 key.Name Twice
name_twice = refl

-- gates
abbrev gates_fault : Data → Option DoorFault
gates_fault gates = first (faults (file (rule (codes "a") gates touches no_members ∷ [])))

no_gates : first (faults (file (table (member (codes "name") (string (codes "a"))
    (with (codes "kinds") touches)) ∷ []))) ≡ at 1 key.Gates Missing
no_gates = refl

gates_of_a_number : gates_fault (whole 7) ≡ at 1 key.Gates WrongType
gates_of_a_number = refl

gate_of_a_text : gates_fault (list (string (codes "7") ∷ [])) ≡ at 1 key.Gates WrongType
gate_of_a_text = refl

empty_gates : gates_fault (list []) ≡ at 1 key.Gates Range
empty_gates = refl

gate_0 : gates_fault (list (whole 0 ∷ [])) ≡ at 1 key.Gates Range
gate_0 = refl

gate_above : gates_fault (list (whole 65_536 ∷ [])) ≡ at 1 key.Gates Range
gate_above = refl

gate_below : gates_fault (list (integer (negsuc 0) ∷ [])) ≡ at 1 key.Gates Range
gate_below = refl

backwards : gates_fault (list (list (whole 120 ∷ whole 100 ∷ []) ∷ [])) ≡ at 1 key.Gates Range
backwards = refl

three_ends : gates_fault (list (list (whole 1 ∷ whole 2 ∷ whole 3 ∷ []) ∷ [])) ≡ at 1 key.Gates Range
three_ends = refl

one_long : gates_fault (list (list (whole 7 ∷ whole 7 ∷ []) ∷ whole 65_535 ∷ [])) ≡ None
one_long = refl

-- enquiries need no gates
empty_for_enquiries : first (faults (file (rule (codes "a") (list []) enquiries no_members ∷ []))) ≡ None
empty_for_enquiries = refl

-- kinds
abbrev kinds_fault : Data → Option DoorFault
kinds_fault kinds = first (faults (file (rule (codes "a") (list (whole 7 ∷ [])) kinds no_members ∷ [])))

no_kinds : first (faults (file (table (member (codes "name") (string (codes "a")) no_members) ∷ [])))
    ≡ at 1 key.Kinds Missing
no_kinds = refl

kind_of_a_number : kinds_fault (list (whole 7 ∷ [])) ≡ at 1 key.Kinds WrongType
kind_of_a_number = refl

empty_kinds : kinds_fault (list []) ≡ at 1 key.Kinds Range
empty_kinds = refl

no_kind : kinds_fault (list (string (codes "In") ∷ [])) ≡ at 1 key.Kinds Range
no_kind = refl

kind_twice : kinds_fault (list (string (codes "in") ∷ string (codes "out") ∷ string (codes "in") ∷ []))
    ≡ at 1 key.Kinds Twice
kind_twice = refl

-- numbers
abbrev number_fault : List ℕ → Data → Option DoorFault
number_fault name d = first (faults (file (gate_with (with name d) ∷ [])))

ahead_of_a_text : number_fault (codes "ahead") (string (codes "300")) ≡ at 1 key.Ahead WrongType
ahead_of_a_text = refl

ahead_above : number_fault (codes "ahead") (whole 86_401) ≡ at 1 key.Ahead Range
ahead_above = refl

ahead_0 : number_fault (codes "ahead") (whole 0) ≡ None
ahead_0 = refl

rate_0 : number_fault (codes "rate") (whole 0) ≡ at 1 key.Rate Range
rate_0 = refl

rate_above : number_fault (codes "rate") (whole 1_001) ≡ at 1 key.Rate Range
rate_above = refl

burst_alone : number_fault (codes "burst") (whole 20) ≡ at 1 key.Rate Missing
burst_alone = refl

burst_above : first (faults (file (gate_with (member (codes "rate") (whole 5) (with (codes "burst") (whole 10_001)))
    ∷ []))) ≡ at 1 key.Burst Range
burst_above = refl

reserved_above : number_fault (codes "reserved") (whole 1_000_001) ≡ at 1 key.Reserved Range
reserved_above = refl

reserved_below : number_fault (codes "reserved") (integer (negsuc 0)) ≡ at 1 key.Reserved Range
reserved_below = refl

connections_0 : number_fault (codes "connections") (whole 0) ≡ at 1 key.Connections Range
connections_0 = refl

connections_above : number_fault (codes "connections") (whole 65_536) ≡ at 1 key.Connections Range
connections_above = refl

-- a misspelt key, after the keys of the rule and before the next rule
misspelt : number_fault (codes "reserve") (whole 1000) ≡ Some (UnknownKey (codes "reserve") 1)
misspelt = refl

keys_before_unknown_ones : first (faults (file (table (with (codes "nmae") (whole 1)) ∷ []))) ≡ at 1 key.Name Missing
keys_before_unknown_ones = refl

rules_in_order : first (faults (file (gate_with (with (codes "reserve") (whole 1)) ∷ table no_members ∷ [])))
    ≡ Some (UnknownKey (codes "reserve") 1)
rules_in_order = refl
