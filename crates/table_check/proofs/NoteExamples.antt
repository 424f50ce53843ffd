-- Worked examples, computed by the definitions: values as FAULTS.md, "The second line", tells them.
use Rattle.std.proofs.Common.{◌≡◌, refl, true, pos, negsuc, codes, Some}
use Rattle.std.specs.Fmt.{digits}
use Rattle.toml.specs.Data.{integer, boolean, array, item, no_items}
use Rattle.fare_table.specs.Keys.{shape_of}
use Rattle.fare_table.specs.declared.key.Key.TheVariants as key
use Rattle.table_check.specs.Allowed.{allowed_by, printed_allowed}
use Rattle.table_check.specs.Found.{printed_value}

a_number : printed_value (integer (pos 310)) ≡ Some (codes "310")
unfolding digits
a_number = refl

a_negative_number : printed_value (integer (negsuc 1)) ≡ Some (codes "-2")
unfolding digits
a_negative_number = refl

a_truth : printed_value (boolean true) ≡ Some (codes "true")
a_truth = refl

a_list : printed_value (array (item (integer (pos 3)) (item (integer (pos 2)) no_items))) ≡ Some (codes "a list of 2")
unfolding digits
a_list = refl

-- what may stand at some keys, as FAULTS.md, "The second line", tells it
what_may_stand_there :
    (printed_allowed (allowed_by (shape_of key.StationId)) ≡ codes "a whole number from 1 to 65535")
    × (printed_allowed (allowed_by (shape_of key.CapKind)) ≡ codes "\"anytime\" or \"off-peak\"")
    × (printed_allowed (allowed_by (shape_of key.StationName)) ≡ codes "a text of 1 to 64 bytes")
    × (printed_allowed (allowed_by (shape_of key.Station)) ≡ codes "a list of 1 to 1000")
unfolding digits
what_may_stand_there = (refl, refl, refl, refl)
