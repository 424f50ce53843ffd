-- What `check` has written where it ends, and its status (COMMANDS.md, "check"; this project's
-- choice).
use Rattle.std.specs.Prelude.{◌≡◌, ℕ, Bool, not, ◌&&◌, List, if◌then◌else◌}
use Rattle.table_check.specs.Check.{TableReport, HasBegun}
use Rattle.console.specs.declared.fault.TrialFault.{TrialFault}
use Rattle.console.specs.declared.fault.TrialFault.TheVariants.{Run}

-- all of the report was written, and the status is 0 for a valid table, else 1; where notes count,
-- it is 1 for a valid table of which something is noted, too
pub record IsReported (report : TableReport) (notes_count : Bool) (written : List ℕ)
    (told : ℕ) : Type 0 where
  pub noted : Bool
  pub text : written ≡ report.text
  pub status : told ≡ (if report.valid && not (notes_count && noted) then 0 else 1)

-- the report was told in part or not at all, for this fault
abbrev pub IsUnreported : TableReport → List ℕ → TrialFault → Type 0
IsUnreported report text (Run run) = HasBegun report text run
IsUnreported report text _ = ⊥
