-- What contracts see of a schedule: its tables, its revisions, and which table is in force on a
-- fare day (TABLE.md, "Revised tables"; this project's choice).
use Rattle.std.specs.Prelude.{ℕ, ℤ, ◌<◌, ◌<ℤ◌, List, ◌∷◌, length, vec_capacity}
use Rattle.std.specs.Prelude.{Option, None, option_map}
use Rattle.std.specs.List.{last_or}
use Rattle.std.specs.Option.{ForSome}
use Rattle.money_time.specs.declared.stamp.Stamp.{Stamp}
use Rattle.fare_table.specs.Fare.{Content, stamp_of, stamp_with}
use Rattle.fare_table.specs.Fares.{content_of, digest_of}
use Rattle.fare_table.specs.declared.fares.Fares.{Fares}
use Rattle.fare_schedule.specs.InForce.{Revision, in_force}
use Rattle.fare_schedule.specs.Places.{table_at}
use Rattle.fare_schedule.specs.Dated.{revisions_by}
use Rattle.fare_schedule.specs.declared.schedule.Schedule.{Schedule}

-- the tables, the first one in front
abbrev pub tables_of : Schedule → List Fares
tables_of schedule = schedule.first ∷ schedule.supplied.items

-- the digest of the table at a place, 0 for the first; where no table stands there, the first's
abbrev pub digest_at : Schedule → ℕ → List ℕ
digest_at schedule place = digest_of (table_at schedule.first schedule.supplied.items place)

-- the revisions, oldest first
abbrev pub revisions_of : Schedule → List Revision
revisions_of schedule =
    revisions_by schedule.first schedule.supplied.items schedule.dated.items

-- the table in force on a fare day
abbrev pub table_on : Schedule → ℤ → Fares
table_on schedule day =
    in_force schedule.first schedule.supplied.items (revisions_of schedule) day

-- what it says
abbrev pub content_on : Schedule → ℤ → Content
content_on schedule day = content_of (table_on schedule day)

-- the fare day of a moment, by the first table's zone
abbrev pub fare_day : Schedule → ℕ → ℤ
fare_day schedule moment = (stamp_of (content_of schedule.first) moment).day

-- the stamp of a moment, by the first table's zone and the holidays of the table in force on its
-- fare day
abbrev pub stamp_by : Schedule → ℕ → Stamp
stamp_by schedule moment =
    stamp_with (content_of schedule.first) (content_on schedule (fare_day schedule moment)) moment

-- the day of the last revision, where there is one
abbrev pub last_day_of : Schedule → Option ℤ
last_day_of schedule =
    option_map (λ revision. revision.day) (last_or None (revisions_of schedule))

-- a day is above that of the last revision
abbrev pub IsAfterLast : Schedule → ℤ → Type 0
IsAfterLast schedule day = ForSome (last_day_of schedule) (λ last. last <ℤ day)

-- one more revision can be made without memory
abbrev pub HasRoom : Schedule → Type 0
HasRoom schedule = length schedule.dated.items < vec_capacity schedule.dated
