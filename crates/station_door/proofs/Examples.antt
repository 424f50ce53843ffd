-- Worked examples, computed by the definitions: two connections of a rule with one place, what they leave of its
-- bucket, and a stranger at a door with and without a rule for others.
use Rattle.std.proofs.Common.{◌≡◌, ℕ, ◌≤◌, true, false, List, [], ◌∷◌, Option, Some, None, refl, arith}
use Rattle.std.specs.Prelude.{codes}
use Rattle.door_clerk.specs.declared.rule.Kinds.{Kinds}
use Rattle.door_clerk.specs.declared.rule.Rate.{Rate as TouchRate}
use Rattle.door_clerk.specs.declared.bucket.Bucket.{Bucket}
use Rattle.door_clerk.specs.Rule.{Terms}
use Rattle.door_clerk.specs.Bucket.{level_at}
use Rattle.door_file.specs.Rule.{Entry}
use Rattle.station_door.specs.declared.shut_out.ShutOut.TheVariants.{NoRule, Connections}
use Rattle.station_door.specs.Places.{PlacesState, fresh_places, is_full, next_bucket, after_enter, after_leave}
use Rattle.station_door.specs.Entering.{IsRuleFor, IsShutOutFor}
use Rattle.station_door.proofs.PlacesLemmas.{free-again, left-is-most, had-is-most}

-- ---- two connections of a rule with one place

-- five touches a second for long, ten at once
abbrev five : TouchRate
five = record { touches = 5; burst = 10 }

-- a bucket with so much in it at 5000 ticks
abbrev level : ℕ → Bucket
level units = record { level = units; ticks = 5_000 }

-- a rule with one connection, by which nobody has entered
abbrev fresh : PlacesState
fresh = fresh_places (Some 1) (Some five)

-- the first connection gets the place, with a full bucket
first : next_bucket fresh ≡ Some (record { level = 10_000; ticks = 0 })
first = refl

abbrev entered : PlacesState
entered = after_enter fresh

-- the second one gets none, and changes nothing
second : (is_full entered ≡ true) × (next_bucket entered ≡ None) × (after_enter entered ≡ entered)
second = (refl, refl, refl)

-- the first one leaves: the next one begins with what it left
abbrev ended : PlacesState
ended = after_leave (Some five) entered (level 4_000)

third : (is_full ended ≡ false) × (next_bucket ended ≡ Some (level 4_000))
third = (refl, refl)

third_by_law : next_bucket ended ≡ Some (level 4_000)
third_by_law = free-again (Some five) entered (level 4_000) (omega arith) (omega arith)

-- it is empty when the next one leaves, as it began with it, and when one leaves that sent nothing
emptied : ((after_leave (Some five) (after_enter ended) (level 0)).bucket ≡ level 0)
    × ((after_leave (Some five) (after_leave (Some five) (after_enter ended) (level 0)) fresh.bucket).bucket ≡ level 0)
emptied = (refl, refl)

-- a connection that leaves a full bucket at 5000 ticks leaves the next one no more than 4000, which the rule had
never_more : level_at five (after_leave (Some five) ended (level 10_000)).bucket 5_100 ≤ 4_500
never_more = had-is-most five ended (level 10_000) 5_100 (omega arith)

-- one that leaves 1000 leaves the next one no more than these, and what they gained since
no_more_than_left : level_at five (after_leave (Some five) ended (level 1_000)).bucket 5_100 ≤ 1_500
no_more_than_left = left-is-most five ended (level 1_000) 5_100 (omega arith)

-- a rule without a limit is never asked for a place: none is counted, and none is left when one is given back
unlimited : (fresh_places None None).taken ≡ 0
unlimited = refl

given_back : (after_leave None (fresh_places None None) (level 0)).taken ≡ 0
given_back = refl

-- ---- a stranger

-- a rule that allows enquiries alone
abbrev enquiries : Kinds
enquiries = record {
  enter = false;
  leave = false;
  top_up = false;
  issue = false;
  revise = false;
  enquire = true;
}

abbrev terms : Terms
terms = record {
  gates = [];
  kinds = enquiries;
  ahead = None;
  rate = None;
  reserved = 0;
}

-- a rule of this name, for two connections
abbrev rule : List ℕ → Entry
rule name = record { name = name; terms = terms; connections = Some 2 }

-- a door for gate-7 alone, and one for all others as well
abbrev alone : List Entry
alone = rule (codes "gate-7") ∷ []

abbrev shared : List Entry
shared = rule (codes "*") ∷ rule (codes "gate-7") ∷ []

abbrev stranger : Option (List ℕ)
stranger = Some (codes "gate-8")

-- without a rule for others a stranger gets no place, and neither does a connection without a name
no_rule : IsShutOutFor stranger alone NoRule × IsShutOutFor None alone NoRule
no_rule = (refl, refl)

-- with one they have that rule
by_others : IsRuleFor stranger shared 0 (rule (codes "*")) × IsRuleFor None shared 0 (rule (codes "*"))
by_others = (
  record { found = refl; is = refl; there = refl },
  record { found = refl; is = refl; there = refl },
)

-- the gate has its own rule, which comes later
by_name : IsRuleFor (Some (codes "gate-7")) shared 1 (rule (codes "gate-7"))
by_name = record { found = refl; is = refl; there = refl }

-- a stranger is refused where all places of the others are taken
no_place : IsShutOutFor stranger shared (Connections 0)
no_place = record { entry = rule (codes "*"); rule = by_others.0; limit = refl }
