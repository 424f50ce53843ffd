-- What a fault of a trial prints: the line that standard error gets of it (FAULTS.md,
-- "Faults"; this project's choice).
use Rattle.std.specs.Prelude.{ℕ, List, ◌++◌, Option, Some, None, codes}
use Rattle.std.specs.Fmt.{decimal}
use Rattle.fare_schedule.specs.Texts.{printed_fault as printed_supply_fault}
use Rattle.fare_table.specs.Texts.{printed_fault as printed_table_fault}
use Rattle.text_io.specs.Texts.{printed_run_fault}
use Rattle.console.specs.declared.fault.TrialFault.{TrialFault}
use Rattle.console.specs.declared.fault.TrialFault.TheVariants.{Line, File, Table, Supply}
use Rattle.console.specs.declared.fault.TrialFault.TheVariants.{Station, Run, BadLine}

-- the line of a fault: the name of its part, and what that part prints of it; what is said of a
-- command line is `clap`'s, which doesn't state it
abbrev pub told_trial : TrialFault → Option (List ℕ)
told_trial (Line _) = None
told_trial (File _) = Some (codes "fault file")
told_trial (Table fault _) = Some (printed_table_fault fault)
told_trial (Supply fault place _) =
    Some (codes "fault supply " ++ (printed_supply_fault fault ++ (codes " " ++ decimal place)))
told_trial (Station station) = Some (codes "fault station " ++ decimal station)
told_trial (Run fault) = Some (printed_run_fault fault)
told_trial (BadLine number) = Some (codes "fault run 4 BadLine " ++ decimal number)
