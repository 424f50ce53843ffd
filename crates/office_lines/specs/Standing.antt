-- How a touch stands in the history of an office, as a door reads it (OFFICE.md, "Room for a
-- touch"; this project's choice).
use Rattle.std.specs.Prelude.{Some, None}
use Rattle.oyster_account.specs.declared.touch.Touch.{Touch}
use Rattle.door_clerk.specs.declared.reading.Standing.{Standing}
use Rattle.door_clerk.specs.declared.reading.Standing.TheVariants.{Repeat, New}
use Rattle.tap_office.specs.Name.{Opened}
use Rattle.tap_office.specs.Room.{IsRoomFor}

-- after a history of the opening the touch is a repeat, or there is room for so many new ones
abbrev pub StandsIn : Opened → Touch → Standing → Type 0
StandsIn opened touch Repeat = IsRoomFor opened touch None
StandsIn opened touch (New room) = IsRoomFor opened touch (Some room)
