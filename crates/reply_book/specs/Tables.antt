-- The tables that a book was given, and which of them is in force after a history (FARES.md,
-- "Revision"; this project's choice). Histories are oldest first.
use Rattle.std.specs.Prelude.{◌≡◌, ℤ, Bool, true, List, [], ◌∷◌, is_some, Option, Some, None}
use Rattle.std.specs.Prelude.{if◌then◌else◌}
use Rattle.std.specs.List.{All, filter_map}
use Rattle.fare_table.specs.Fare.{stamp_of, stamp_with}
use Rattle.fare_table.specs.Fares.{content_of}
use Rattle.fare_table.specs.declared.fares.Fares.{Fares}
use Rattle.fare_schedule.specs.InForce.{Revision, table_of, in_force}
use Rattle.fare_schedule.specs.declared.schedule.Schedule.{Schedule}
use Rattle.oyster_account.specs.declared.touch.Act.{Act}
use Rattle.oyster_account.specs.declared.touch.Act.TheVariants.{Enter, Leave, TopUp, Issue, Revise}
use Rattle.oyster_account.specs.declared.touch.Touch.{Touch}
use Rattle.oyster_account.specs.declared.reply.Judged.{Judged}
use Rattle.oyster_account.specs.History.{is_accepted}
use Rattle.oyster_account.specs.Scheme.{Scheme, terms_of}

-- the tables of a book: the first counts from the beginning, each other from a revision to it on
pub record Tables : Type 0 where
  pub first : Fares
  pub supplied : List Fares

-- the first table with no others
abbrev pub first_alone : Tables → Tables
first_alone tables = record { first = tables.first; supplied = [] }

-- the first table, and then the others
abbrev pub listed : Tables → List Fares
listed tables = tables.first ∷ tables.supplied

-- the tables of a schedule
abbrev pub tables_in : Schedule → Tables
tables_in schedule = record { first = schedule.first; supplied = schedule.supplied.items }

-- the act is no revision to a table that isn't there
abbrev pub is_act_known : Tables → Act → Bool
is_act_known tables (Enter station moment) = true
is_act_known tables (Leave station moment) = true
is_act_known tables (TopUp pence moment) = true
is_act_known tables (Issue moment) = true
is_act_known tables (Revise day moment digest) = is_some (table_of (listed tables) digest)

-- the touch is no revision to a table that isn't there
abbrev pub is_known : Tables → Touch → Bool
is_known tables touch = is_act_known tables touch.act

-- no touch is a revision to a table that isn't there
abbrev pub AreKnown : Tables → List Touch → Type 0
AreKnown tables touches = All (λ touch. is_known tables touch ≡ true) touches

-- the revision that an act asks for, where it does: to the table of a digest, from a fare day on
abbrev pub revision_of : Act → Option Revision
revision_of (Enter station moment) = None
revision_of (Leave station moment) = None
revision_of (TopUp pence moment) = None
revision_of (Issue moment) = None
revision_of (Revise day moment digest) = Some (record { digest = digest; day = day })

-- the revision of an entry, where it was accepted
abbrev pub revision_in : Judged → Option Revision
revision_in judged = if is_accepted judged.reply then revision_of judged.touch.act else None

-- the revisions of a history: those of its accepted entries, oldest first
abbrev pub revisions_after : List Judged → List Revision
revisions_after history = filter_map revision_in history

-- the table in force on a fare day, by these revisions
abbrev pub table_by : Tables → List Revision → ℤ → Fares
table_by tables revisions day = in_force tables.first tables.supplied revisions day

-- the first table's zone, and on each fare day the table in force on it
abbrev pub scheme_by : Tables → List Revision → Scheme
scheme_by tables revisions = record {
  stamp = λ moment.
      stamp_with (content_of tables.first)
      (content_of (table_by tables revisions (stamp_of (content_of tables.first) moment).day))
      moment;
  on = λ day. terms_of (content_of (table_by tables revisions day));
}

-- the scheme in force after a history
abbrev pub scheme_after : Tables → List Judged → Scheme
scheme_after tables history = scheme_by tables (revisions_after history)
