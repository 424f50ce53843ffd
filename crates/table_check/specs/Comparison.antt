-- What `check --against` has written where it ends, and its status (COMMANDS.md, "check"; this
-- project's choice).
use Rattle.std.specs.Prelude.{◌≡◌, ◌⊎◌, ℕ, List, [], ◌∷◌, ◌++◌, codes, Option, Some, None}
use Rattle.fare_schedule.specs.Schedule.{tables_of}
use Rattle.fare_schedule.specs.Supply.{supply_fault}
use Rattle.fare_schedule.specs.declared.fault.SupplyFault.{SupplyFault}
use Rattle.fare_schedule.specs.declared.fault.SupplyFault.TheVariants.{Memory, Twice, OtherZone}
use Rattle.fare_schedule.specs.declared.fault.SupplyFault.TheVariants.{OtherStations, TooMany}
use Rattle.fare_schedule.specs.declared.schedule.Schedule.{Schedule}
use Rattle.fare_table.specs.Table.{IsTableOf}
use Rattle.fare_table.specs.declared.fares.Fares.{Fares}
use Rattle.text_io.specs.Writing.{Wrote}
use Rattle.table_check.specs.Changes.{changes_of}
use Rattle.table_check.specs.declared.reading.Said.{Said}

-- a schedule of the first table alone doesn't take the second for this fault, or takes it where
-- there is none
abbrev pub IsJudged : Fares → Fares → Option SupplyFault → Type 0
IsJudged first second fault = (schedule : Schedule) × (tables_of schedule ≡ first ∷ [])
    × (supply_fault schedule second ≡ fault)

-- the line of that judgement
abbrev pub verdict_text : Option SupplyFault → List ℕ
verdict_text None = codes "may revise\n"
verdict_text (Some Twice) = codes "may not revise: it is the same table\n"
verdict_text (Some OtherZone) = codes "may not revise: it has another zone\n"
verdict_text (Some OtherStations) = codes "may not revise: it has other stations\n"
verdict_text (Some TooMany) = codes "may not revise: there are too many tables\n"
verdict_text (Some Memory) = codes "may not revise: there is no memory\n"

-- the status is 0 where the second may revise the first
abbrev pub revision_status : Option SupplyFault → ℕ
revision_status None = 0
revision_status (Some fault) = 1

-- the text has a line for each difference of two readings, or says that there is none
abbrev pub ArePlaces : List ℕ → Type 0
ArePlaces text = (old : List Said) × (new : List Said)
    × ((text ≡ changes_of old new)
    ⊎ ((changes_of old new ≡ []) × (text ≡ codes "nothing changes\n")))

-- the tables are those of the two files; their differences were written, and the judgement behind
-- them, by which the status goes
pub record HasCompared (gave : List ℕ → List ℕ → Type 0) (old new : List ℕ)
    (before after : Option (List ℕ)) (status : ℕ) : Type 0 where
  pub old_bytes : List ℕ
  pub old_given : gave old old_bytes
  pub first : Fares
  pub first_read : IsTableOf old_bytes first
  pub new_bytes : List ℕ
  pub new_given : gave new new_bytes
  pub second : Fares
  pub second_read : IsTableOf new_bytes second
  pub fault : Option SupplyFault
  pub judged : IsJudged first second fault
  pub told : status ≡ revision_status fault
  pub written : Wrote before after (λ text. (places : List ℕ) × ArePlaces places
      × (text ≡ places ++ verdict_text fault))
