-- Worked examples, computed by the definitions: lines of FAULTS.md, "Faults".
use Rattle.std.proofs.Common.{◌≡◌, refl, Some, codes}
use Rattle.std.specs.Fmt.{digits}
use Rattle.fare_schedule.specs.declared.fault.SupplyFault.TheVariants.{OtherZone}
use Rattle.fare_table.specs.declared.fault.TableFault.TheVariants as tables
use Rattle.text_io.specs.declared.fault.RunFault.TheVariants as runs
use Rattle.console.specs.Detail.{no_detail}
use Rattle.console.specs.declared.files.TheConstants.{TURNS}
use Rattle.console.specs.Told.{told_trial}
use Rattle.console.specs.Trial.{trial_fault}
use Rattle.console.specs.declared.fault.TrialFault.TheVariants.{File, Supply, Station, Run, BadLine}

-- the line of each kind of fault
a_fault_of_a_trial_is_told_in_one_line :
    (told_trial (Run runs.Memory) ≡ Some (codes "fault run 1 Memory"))
    × (told_trial (Run runs.Read) ≡ Some (codes "fault run 2 Read"))
    × (told_trial (Run runs.Write) ≡ Some (codes "fault run 3 Write"))
    × (told_trial (BadLine 7) ≡ Some (codes "fault run 4 BadLine 7"))
    × (told_trial (File no_detail) ≡ Some (codes "fault file"))
    × (told_trial (Supply OtherZone 1 no_detail) ≡ Some (codes "fault supply 3 OtherZone 1"))
    × (told_trial (Station 9) ≡ Some (codes "fault station 9"))
    × (told_trial (trial_fault (tables.MissingSingle 1 3)) ≡ Some (codes "fault table 8 MissingSingle 1 3"))
    × (told_trial (trial_fault tables.Memory) ≡ Some (codes "fault run 1 Memory"))
unfolding digits
a_fault_of_a_trial_is_told_in_one_line = (refl, refl, refl, refl, refl, refl, refl, refl, refl)

-- the most reads of a file
most_reads : TURNS ≡ 1_000_000
most_reads = refl
