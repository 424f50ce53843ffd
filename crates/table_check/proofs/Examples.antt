-- Worked examples, computed by the definitions: the lines of COMMANDS.md, "check", and the word that a definition
-- takes from the code.
use Rattle.std.proofs.Common.{◌≡◌, refl, [], ◌∷◌, false, pos, codes}
use Rattle.std.specs.Fmt.{digits}
use Rattle.hex.proofs.OnLiterals.{hex_on_literals}
use Rattle.fare_table.specs.declared.key.Key.TheVariants as key
use Rattle.fare_table.specs.declared.fault.TableFault.TheVariants.{Range}
use Rattle.money_time.specs.declared.stamp.Window.TheVariants.{Early}
use Rattle.table_check.specs.Check.{count_lines, refused_table}
use Rattle.table_check.specs.Fare.{printed_quote}
use Rattle.table_check.specs.declared.changes.TheConstants.{NOTHING}

-- the lines of a valid table, by the first two bytes of its digest
valid_table : count_lines 5 6 3 (0x17 ∷ 0x08 ∷ []) ≡ codes "stations 5\nsingles 6\ncaps 3\ndigest 1708\n"
unfolding hex_on_literals digits
valid_table = refl

-- the line of a fault
table_with_a_fault :
    refused_table (Range key.StationId 3) ≡ record { text = codes "fault table 5 Range station.id 3\n"; valid = false }
unfolding digits
table_with_a_fault = refl

-- the lines of a journey: what COMMANDS.md shows of one from station 1 to station 3
a_journey : printed_quote (record {
  charge = 400;
  fare = record { pence = 400; lo = 1; hi = 3; off_peak = false };
  is_named = false;
  stamp = record { moment = 1736238600; day = pos 20095; minute = 510; window = Early };
}) ≡ codes "charge 400\nfare 400\nby zones\nzones 1 3\nband peak\nwindow early\nclock 8:30\n"
unfolding digits
a_journey = refl

-- what a comparison tells where one of the tables says nothing
nothing_said : NOTHING.now ≡ codes "none"
nothing_said = refl
