-- Worked examples, computed by the definitions: the lines of a door, and the limits in the texts of what is allowed.
use Rattle.std.proofs.Common.{◌≡◌, refl, ◌++◌, [], ◌∷◌, true, false, codes}
use Rattle.std.specs.Prelude.{None, Some}
use Rattle.std.specs.Fmt.{decimal, digits}
use Rattle.station_limits.specs.declared.limits.TheConstants.{CERTIFICATE_NAME_LIMIT}
use Rattle.table_check.specs.declared.standing.Allowed.TheVariants.{Name}
use Rattle.door_file.specs.Rule.{Entry}
use Rattle.door_file.specs.declared.key.TheConstants.{MOST_RULES}
use Rattle.door_check.specs.Allowed.{printed_allowed}
use Rattle.door_check.specs.Doors.{most_read}
use Rattle.door_check.specs.Lines.{door_lines}
use Rattle.door_check.specs.declared.open.TheConstants.{MOST_READ}
use Rattle.door_check.specs.declared.standing.DoorAllowed.TheVariants.{Rules, Value}

-- a rule with each key, whose name has a line feed
gate : Entry
gate = record {
  name = codes "gate\n7";
  terms = record {
    gates = record { first = 7; last = 7 } ∷ record { first = 100; last = 120 } ∷ [];
    kinds = record { enter = true; leave = true; top_up = false; issue = false; revise = false; enquire = true };
    ahead = Some 300;
    rate = Some (record { touches = 5; burst = 20 });
    reserved = 1000;
  };
  connections = Some 2;
}

-- a rule that leaves out what it can
others : Entry
others = record {
  name = codes "*";
  terms = record {
    gates = [];
    kinds = record { enter = false; leave = false; top_up = false; issue = false; revise = false; enquire = true };
    ahead = None;
    rate = None;
    reserved = 0;
  };
  connections = None;
}

-- the lines of a door of these two rules
the_lines_of_a_door :
    door_lines (gate ∷ others ∷ [])
    ≡ codes "rule 1 gate?7: gates 7 100-120; in out enquiry; ahead 300; rate 5 burst 20; reserved 1000; connections 2\n"
    ++ codes "rule 2 *: enquiry\nrules 2\n"
unfolding digits gate others
the_lines_of_a_door = refl

-- the most bytes that are read, and the limits in the texts of what is allowed
the_limits :
    (most_read ≡ 1_048_577) × (MOST_READ ≡ most_read)
    × (printed_allowed Rules ≡ codes "a list of 1 to " ++ (decimal MOST_RULES ++ codes " rules"))
    × (printed_allowed (Value Name) ≡ codes "a text of 1 to " ++ (decimal CERTIFICATE_NAME_LIMIT ++ codes " bytes"))
unfolding digits
the_limits = (refl, refl, refl, refl)
