-- The rules of a station's door.
use Rattle.std.specs.Prelude.{List}
use Rattle.door_file.specs.Rule.{Entry}
use Rattle.door_file.specs.Door.{rules_of}
use Rattle.station_door.specs.declared.station.StationDoor.{StationDoor}

-- what the rules of a station's door say, in the order of its file
abbrev pub rules_in : StationDoor → List Entry
rules_in station = rules_of station.door
