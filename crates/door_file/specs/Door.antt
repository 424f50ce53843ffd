-- What a door that was read says.
use Rattle.std.specs.Prelude.{List, map}
use Rattle.door_file.specs.Rule.{Entry, entry_of}
use Rattle.door_file.specs.declared.door.Door.{Door}

-- what the rules of a door say, in their order
abbrev pub rules_of : Door → List Entry
rules_of door = map entry_of door.rules.items
