-- The tables that a command's words name, and why there are none (FAULTS.md, "Faults"; this
-- project's choice). A file is said to have given some bytes by `gave`, of its path and of them.
use Rattle.std.specs.Prelude.{◌≡◌, ◌⊎◌, ◌+◌, ℕ, List, [], ◌∷◌, ◌++◌, length, Option, Some, None}
use Rattle.fare_table.specs.Faults.{first_fault, fault_in}
use Rattle.fare_table.specs.Table.{IsTableOf}
use Rattle.fare_table.specs.declared.example.TheConstants.{EXAMPLE_TABLE}
use Rattle.fare_table.specs.declared.fares.Fares.{Fares}
use Rattle.fare_schedule.specs.Schedule.{tables_of}
use Rattle.fare_schedule.specs.Supply.{supply_fault}
use Rattle.fare_schedule.specs.declared.schedule.Schedule.{Schedule}
use Rattle.text_io.specs.declared.fault.RunFault.TheVariants as runs
use Rattle.reply_book.specs.Tables.{Tables, tables_in}
use Rattle.console.specs.declared.fault.TrialFault.{TrialFault}
use Rattle.console.specs.declared.fault.TrialFault.TheVariants.{Run, Table, File, Supply}

-- the table is that of the bytes that the file of this path gave
pub record IsTableIn (gave : List ℕ → List ℕ → Type 0) (path : List ℕ)
    (table : Fares) : Type 0 where
  pub bytes : List ℕ
  pub given : gave path bytes
  pub read : IsTableOf bytes table

-- where no path is named, the table is the example's
abbrev pub IsFirstTable : (List ℕ → List ℕ → Type 0) → Option (List ℕ) → Fares → Type 0
IsFirstTable gave None table = IsTableOf EXAMPLE_TABLE.now table
IsFirstTable gave (Some path) table = IsTableIn gave path table

-- there is a table for each path, in their order, and it is that of its file
unfoldable pub AreTablesIn : (List ℕ → List ℕ → Type 0) → List (List ℕ) → List Fares → Type 0
AreTablesIn gave [] [] = Unit {0}
AreTablesIn gave (path ∷ paths) (table ∷ tables) =
    IsTableIn gave path table × AreTablesIn gave paths tables
AreTablesIn gave _ _ = ⊥

-- the tables are those of these words: the first one, and the further ones behind it
pub record AreTablesOf (gave : List ℕ → List ℕ → Type 0) (path : Option (List ℕ))
    (further : List (List ℕ)) (tables : Tables) : Type 0 where
  pub first : IsFirstTable gave path tables.first
  pub supplied : AreTablesIn gave further tables.supplied

-- of the tables of these words this is said
pub record ForTables (gave : List ℕ → List ℕ → Type 0) (first : Option (List ℕ))
    (further : List (List ℕ)) (Says : Tables → Type 0) : Type 0 where
  pub tables : Tables
  pub named : AreTablesOf gave first further tables
  pub says : Says tables

-- why bytes are no table: their first fault, or there was no memory
abbrev pub IsTableFault : List ℕ → TrialFault → Type 0
IsTableFault bytes (Table fault _) = fault_in bytes ≡ Some fault
IsTableFault bytes (Run runs.Memory) = Unit {0}
IsTableFault bytes _ = ⊥

-- why the file of this path gives no table: its first fault, or it isn't had, or there was no
-- memory
abbrev pub IsTableInFault : (List ℕ → List ℕ → Type 0) → List ℕ → TrialFault → Type 0
IsTableInFault gave path (Table fault _) =
    (bytes : List ℕ) × gave path bytes × (fault_in bytes ≡ Some fault)
IsTableInFault gave path (File _) = Unit {0}
IsTableInFault gave path (Run runs.Memory) = Unit {0}
IsTableInFault gave path _ = ⊥

-- and so it is of the example's text, which is no file
abbrev pub IsFirstFault : (List ℕ → List ℕ → Type 0) → Option (List ℕ) → TrialFault → Type 0
IsFirstFault gave (Some path) fault = IsTableInFault gave path fault
IsFirstFault gave None (Table fault _) = first_fault EXAMPLE_TABLE.now ≡ Some fault
IsFirstFault gave None (Run runs.Memory) = Unit {0}
IsFirstFault gave None _ = ⊥

-- the schedule has the table in the file of this path behind those from before
abbrev pub IsTaken : (List ℕ → List ℕ → Type 0) → Schedule → List ℕ → Schedule → Type 0
IsTaken gave old path new =
    (table : Fares) × IsTableIn gave path table × (tables_of new ≡ tables_of old ++ table ∷ [])

-- why the further table of this place isn't taken: its first cause, or there was no memory
abbrev pub IsSupplyFault : Schedule → Fares → ℕ → TrialFault → Type 0
IsSupplyFault schedule table place (Run runs.Memory) = Unit {0}
IsSupplyFault schedule table place (Supply fault told _) =
    (supply_fault schedule table ≡ Some fault) × (told ≡ place)
IsSupplyFault schedule table place _ = ⊥

-- the table in the file of this path isn't taken beside those of a schedule, as the further one of
-- this place, for this fault
pub record IsRefusedBeside (gave : List ℕ → List ℕ → Type 0) (schedule : Schedule) (path : List ℕ)
    (place : ℕ) (fault : TrialFault) : Type 0 where
  pub table : Fares
  pub read : IsTableIn gave path table
  pub refused : IsSupplyFault schedule table place fault

-- the file of this path gives no table, or one that isn't taken
abbrev pub IsNotTaken : (List ℕ → List ℕ → Type 0) → Schedule → List ℕ → ℕ → TrialFault → Type 0
IsNotTaken gave schedule path place fault =
    IsTableInFault gave path fault ⊎ IsRefusedBeside gave schedule path place fault

-- why the words behind the first table give no schedule: those before one were taken, and that one,
-- which is told with its place from 1, isn't
pub record IsFurtherFault (gave : List ℕ → List ℕ → Type 0) (first : Fares)
    (further : List (List ℕ)) (fault : TrialFault) : Type 0 where
  pub taken : List (List ℕ)
  pub path : List ℕ
  pub later : List (List ℕ)
  pub words : further ≡ taken ++ path ∷ later
  pub schedule : Schedule
  pub first_is : (tables_in schedule).first ≡ first
  pub supplied : AreTablesIn gave taken (tables_in schedule).supplied
  pub cause : IsNotTaken gave schedule path (length taken + 1) fault

-- why the words give no tables: there is no first one, or it is there and a further one isn't taken
abbrev pub AreRefused : (List ℕ → List ℕ → Type 0) → Option (List ℕ) → List (List ℕ) → TrialFault
    → Type 0
AreRefused gave first further fault = IsFirstFault gave first fault
    ⊎ ((table : Fares) × IsFirstTable gave first table × IsFurtherFault gave table further fault)
