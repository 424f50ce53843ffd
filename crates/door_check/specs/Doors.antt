-- The door of a file, and why a file gives none (DOOR.md, "Faults"; this project's choice). A file
-- is said to have given some bytes by `gave`, of its path, of the most that were read, and of
-- these bytes.
use Rattle.std.specs.Prelude.{◌≡◌, ◌+◌, ℕ, List, Option, Some}
use Rattle.text_io.specs.declared.fault.RunFault.TheVariants as runs
use Rattle.console.specs.Told.{told_trial}
use Rattle.console.specs.declared.fault.TrialFault.TheVariants.{Run, File}
use Rattle.door_file.specs.Faults.{fault_in}
use Rattle.door_file.specs.Meaning.{MeansDoor}
use Rattle.door_file.specs.Rule.{Entry}
use Rattle.door_file.specs.Texts.{printed_fault}
use Rattle.door_file.specs.declared.door.TheConstants.{MOST_BYTES}
use Rattle.door_check.specs.declared.fault.NoDoor.{NoDoor}
use Rattle.door_check.specs.declared.fault.NoDoor.TheVariants.{Trial, Refused}

-- the most bytes that are read of a door's file: one more than a door may have
abbrev pub most_read : ℕ
most_read = MOST_BYTES + 1

-- the line of a fault: that of the file's fault, or that of the door's
abbrev pub told_door : NoDoor → Option (List ℕ)
told_door (Trial fault) = told_trial fault
told_door (Refused fault _) = Some (printed_fault fault)

-- the file of this path gave some bytes, of which this is said
pub record ForFirst (gave : List ℕ → ℕ → List ℕ → Type 0) (path : List ℕ)
    (Says : List ℕ → Type 0) : Type 0 where
  pub bytes : List ℕ
  pub given : gave path most_read bytes
  pub says : Says bytes

-- the file of this path means a door of these rules
abbrev pub IsDoorIn : (List ℕ → ℕ → List ℕ → Type 0) → List ℕ → List Entry → Type 0
IsDoorIn gave path rules = ForFirst gave path (λ bytes. MeansDoor bytes rules)

-- why bytes are no door: their first fault, or there was no memory
abbrev pub IsDoorFault : List ℕ → NoDoor → Type 0
IsDoorFault bytes (Refused fault _) = fault_in bytes ≡ Some fault
IsDoorFault bytes (Trial (Run runs.Memory)) = Unit {0}
IsDoorFault bytes _ = ⊥

-- why the file of this path gives no door: its first fault, or it can't be read, or there was no
-- memory
abbrev pub IsNoDoorIn : (List ℕ → ℕ → List ℕ → Type 0) → List ℕ → NoDoor → Type 0
IsNoDoorIn gave path (Refused fault _) =
    ForFirst gave path (λ bytes. fault_in bytes ≡ Some fault)
IsNoDoorIn gave path (Trial (File _)) = Unit {0}
IsNoDoorIn gave path (Trial (Run runs.Memory)) = Unit {0}
IsNoDoorIn gave path _ = ⊥
