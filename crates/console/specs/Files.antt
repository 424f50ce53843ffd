-- Which bytes a file is said to have given, and why one isn't had (FAULTS.md, "Faults"; this
-- project's choice).
use Rattle.std.specs.Prelude.{ℕ, List}
use Rattle.text_io.specs.declared.fault.RunFault.TheVariants as runs
use Rattle.console.specs.declared.fault.TrialFault.{TrialFault}
use Rattle.console.specs.declared.fault.TrialFault.TheVariants.{Run, File}

-- any bytes may be those of any file: the system's own contracts say no more of it
abbrev pub IsAnyReading : List ℕ → List ℕ → Type 0
IsAnyReading path bytes = Unit {0}

-- the file of this path gave some bytes, of which this is said
pub record ForFile (gave : List ℕ → List ℕ → Type 0) (path : List ℕ)
    (Says : List ℕ → Type 0) : Type 0 where
  pub bytes : List ℕ
  pub given : gave path bytes
  pub says : Says bytes

-- a file can't be opened, or can't be read to its end, or there was no memory
abbrev pub IsFileFault : TrialFault → Type 0
IsFileFault (File _) = Unit {0}
IsFileFault (Run runs.Memory) = Unit {0}
IsFileFault _ = ⊥
