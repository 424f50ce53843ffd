-- What `check --door` has written where it ends, and its status (COMMANDS.md, "check"; this
-- project's choice).
use Rattle.std.specs.Prelude.{◌≡◌, ℕ, Bool, true, false, List, ◌++◌, codes, Some}
use Rattle.text_io.specs.Writing.{IsBeginning}
use Rattle.text_io.specs.declared.fault.RunFault.TheVariants as runs
use Rattle.console.specs.declared.fault.TrialFault.{TrialFault}
use Rattle.console.specs.declared.fault.TrialFault.TheVariants.{Run}
use Rattle.door_file.specs.Faults.{fault_in}
use Rattle.door_file.specs.Meaning.{MeansDoor}
use Rattle.door_file.specs.Rule.{Entry}
use Rattle.door_file.specs.Texts.{printed_fault}
use Rattle.door_file.specs.declared.fault.DoorFault.{DoorFault}
use Rattle.door_check.specs.Lines.{door_lines}

-- the bytes mean a door, and the text has its lines
pub record HasRules (bytes : List ℕ) (text : List ℕ) : Type 0 where
  pub rules : List Entry
  pub means : MeansDoor bytes rules
  pub written : text ≡ door_lines rules

-- the bytes are no door, and the text has the line of their first fault
pub record HasFault (bytes : List ℕ) (text : List ℕ) : Type 0 where
  pub fault : DoorFault
  pub first : fault_in bytes ≡ Some fault
  pub written : text ≡ printed_fault fault ++ codes "\n"

-- the text is the report on these bytes, which are a door or not
abbrev pub IsReport : List ℕ → List ℕ → Bool → Type 0
IsReport bytes text true = HasRules bytes text
IsReport bytes text false = HasFault bytes text

-- the status of a check: 0 for a door, else 1
abbrev pub status_of : Bool → ℕ
status_of true = 0
status_of false = 1

-- all of the report was written, and the status is 0 for a door, else 1
pub record IsReported (bytes : List ℕ) (written : List ℕ) (status : ℕ) : Type 0 where
  pub valid : Bool
  pub report : IsReport bytes written valid
  pub told : status ≡ status_of valid

-- a write failed, and a beginning of the report is written
pub record IsCut (bytes : List ℕ) (written : List ℕ) : Type 0 where
  pub text : List ℕ
  pub valid : Bool
  pub report : IsReport bytes text valid
  pub begun : IsBeginning written text

-- the report was written in part, for this fault
abbrev pub IsUnreported : List ℕ → List ℕ → TrialFault → Type 0
IsUnreported bytes written (Run runs.Write) = IsCut bytes written
IsUnreported bytes written _ = ⊥
