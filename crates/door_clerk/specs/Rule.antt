-- What the gates of one name may do (PROTOCOL.md, "Faults"; this project's choice).
use Rattle.std.specs.Prelude.{ℕ, ◌+◌, List, Bool, true, nat_eq, nat_le, nat_lt, ◌&&◌, ◌||◌}
use Rattle.std.specs.Prelude.{Option, Some, None}
use Rattle.std.specs.List.{list_any}
use Rattle.oyster_account.specs.declared.touch.Act.{Act}
use Rattle.oyster_account.specs.declared.touch.Act.TheVariants.{Enter, Leave, TopUp, Issue, Revise}
use Rattle.gate_session.specs.declared.request.Request.{Request}
use Rattle.gate_session.specs.declared.request.Request.TheVariants as requests
use Rattle.door_clerk.specs.declared.rule.GateRange.{GateRange}
use Rattle.door_clerk.specs.declared.rule.Kinds.{Kinds}
use Rattle.door_clerk.specs.declared.rule.Rate.{Rate}
use Rattle.door_clerk.specs.declared.rule.Rule.{Rule}
use Rattle.door_clerk.specs.declared.reading.Standing.{Standing}
use Rattle.door_clerk.specs.declared.reading.Standing.TheVariants.{Repeat, New}

-- what a rule says, its ranges as a list
pub record Terms : Type 0 where
  pub gates : List GateRange
  pub kinds : Kinds
  pub ahead : Option ℕ
  pub rate : Option Rate
  pub reserved : ℕ

-- what this rule says
abbrev pub terms_of : Rule → Terms
terms_of rule = record {
  gates = rule.gates.items;
  kinds = rule.kinds;
  ahead = rule.ahead;
  rate = rule.rate;
  reserved = rule.reserved;
}

-- touches of this kind are allowed
abbrev pub allows_act : Kinds → Act → Bool
allows_act kinds (Enter station moment) = kinds.enter
allows_act kinds (Leave station moment) = kinds.leave
allows_act kinds (TopUp pence moment) = kinds.top_up
allows_act kinds (Issue moment) = kinds.issue
allows_act kinds (Revise day moment digest) = kinds.revise

-- requests of this kind are allowed
abbrev pub allows_kind : Kinds → Request → Bool
allows_kind kinds (requests.Touch touch) = allows_act kinds touch.act
allows_kind kinds (requests.Enquire card) = kinds.enquire

-- the gate number is in the range, whose ends belong to it
abbrev pub is_within : GateRange → ℕ → Bool
is_within range gate = nat_le range.first gate && nat_le gate range.last

-- the gate number is in one of the ranges
abbrev pub allows_gate : List GateRange → ℕ → Bool
allows_gate ranges gate = list_any (λ range. is_within range gate) ranges

-- the moment is no more than so many seconds ahead of the clock, if a number of seconds is given
abbrev pub is_in_time : Option ℕ → ℕ → ℕ → Bool
is_in_time None moment seconds = true
is_in_time (Some ahead) moment seconds = nat_le moment (seconds + ahead)

-- the moment of a new touch is no further ahead of the clock than is allowed; of a repeat nothing
-- is asked
abbrev pub is_near : Option ℕ → ℕ → ℕ → Standing → Bool
is_near ahead moment seconds Repeat = true
is_near ahead moment seconds (New room) = is_in_time ahead moment seconds

-- a new touch leaves as many as are reserved; a repeat takes no room
abbrev pub leaves_reserve : ℕ → Standing → Bool
leaves_reserve reserved Repeat = true
leaves_reserve reserved (New room) = nat_eq reserved 0 || nat_lt reserved room
