-- The printed line of each fault (this project's choice).
use Rattle.std.specs.Prelude.{codes, ℕ, List, ◌++◌}
use Rattle.std.specs.Fmt.{decimal}
use Rattle.door_file.specs.Keys.{text_of}
use Rattle.door_file.specs.declared.fault.DoorFault.{DoorFault}
use Rattle.door_file.specs.declared.fault.DoorFault.TheVariants as fault
use Rattle.door_file.specs.declared.fault.Place.{Place}
use Rattle.door_file.specs.declared.fault.Problem.{Problem}
use Rattle.door_file.specs.declared.fault.Problem.TheVariants.{Missing, WrongType, Range, Twice}

-- a key, and the number of its rule
abbrev pub printed_place : Place → List ℕ
printed_place place = text_of place.key ++ (codes " " ++ decimal place.rule)

-- the number and the name of a problem
abbrev pub printed_problem : Problem → List ℕ
printed_problem Missing = codes "4 Missing"
printed_problem WrongType = codes "5 WrongType"
printed_problem Range = codes "6 Range"
printed_problem Twice = codes "7 Twice"

-- a fault's line, without its line feed. The text of a key that no door has isn't printed: it may
-- have any characters
abbrev pub printed_fault : DoorFault → List ℕ
printed_fault fault.Memory = codes "fault door 1 Memory"
printed_fault fault.TooLong = codes "fault door 2 TooLong"
printed_fault fault.NotToml = codes "fault door 3 NotToml"
printed_fault (fault.At place problem) =
    codes "fault door " ++ (printed_problem problem ++ (codes " " ++ printed_place place))
printed_fault (fault.UnknownKey name rule) = codes "fault door 8 UnknownKey " ++ decimal rule
