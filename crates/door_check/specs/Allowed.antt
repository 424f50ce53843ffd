-- What is allowed where a fault of a door is, and how it is printed (FAULTS.md, "The second line";
-- this project's choice). proofs/Examples.antt computes the limits in these texts. The values that
-- a key of a fare table may have too are those of `table_check`.
use Rattle.std.specs.Prelude.{ℕ, ◌==◌, List, codes, if◌then◌else◌}
use Rattle.door_file.specs.declared.fault.Problem.{Problem}
use Rattle.door_file.specs.declared.fault.Problem.TheVariants.{Missing, WrongType, Range, Twice}
use Rattle.door_file.specs.declared.key.Shape.{Shape}
use Rattle.door_file.specs.declared.key.Shape.TheVariants as shape
use Rattle.table_check.specs.Allowed.{printed_allowed as printed_value}
use Rattle.table_check.specs.declared.standing.Allowed.TheVariants.{Whole, Name, Table}
use Rattle.door_check.specs.declared.standing.DoorAllowed.{DoorAllowed}
use Rattle.door_check.specs.declared.standing.DoorAllowed.TheVariants as allowed

-- one of two, by whether something is given twice
abbrev pub if_twice : Problem → DoorAllowed → DoorAllowed → DoorAllowed
if_twice Twice for_twice other = for_twice
if_twice Missing for_twice other = other
if_twice WrongType for_twice other = other
if_twice Range for_twice other = other

-- what a key of this shape may hold in the rule of this number, or in the file, which has 0
abbrev pub allowed_by : ℕ → Problem → Shape → DoorAllowed
allowed_by rule problem shape.Rules = if rule == 0 then allowed.Rules else allowed.Value Table
allowed_by rule problem shape.Name = if_twice problem allowed.OtherName (allowed.Value Name)
allowed_by rule problem shape.Gates = allowed.Gates
allowed_by rule problem shape.Kinds = if_twice problem allowed.Once allowed.Kinds
allowed_by rule problem (shape.Whole low high) = allowed.Value (Whole low high)

-- what is allowed, in words
abbrev pub printed_allowed : DoorAllowed → List ℕ
printed_allowed (allowed.Value value) = printed_value value
printed_allowed allowed.Rules = codes "a list of 1 to 1000 rules"
printed_allowed allowed.OtherName = codes "a name that no earlier rule has"
printed_allowed allowed.Gates =
    codes "gate numbers from 1 to 65535 or ranges as [100, 120]; enquiries alone need none"
printed_allowed allowed.Kinds =
    codes "one or more of \"in\", \"out\", \"top-up\", \"issue\", \"revise\" and \"enquiry\""
printed_allowed allowed.Once = codes "each kind once"
printed_allowed allowed.RuleKey =
    codes "the keys of a rule are name, gates, kinds, ahead, rate, burst, reserved and connections"
printed_allowed allowed.FileKey = codes "the file has the list rule alone"
