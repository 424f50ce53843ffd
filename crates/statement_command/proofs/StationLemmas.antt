-- A station that is known by one of a schedule's tables is known by each of them.
use Rattle.std.proofs.Common.{◌≡◌, ℕ, ℤ, List, [], ◌∷◌, is_some, refl, sym, ◌∙◌, subst, inl, inr}
use Rattle.std.proofs.Common.{IsTrue, Option, Some, None}
use Rattle.std.specs.Prelude.{unwrap_or}
use Rattle.std.specs.List.{All}
use Rattle.std.specs.Str.{bytes_eq}
use Rattle.std.proofs.lemmas.Bool.{cases_Bool}
use Rattle.std.proofs.lemmas.List.Elements.{All-head, All-tail, All-cons}
use Rattle.fare_table.specs.Fare.{station_at}
use Rattle.fare_table.specs.Fares.{content_of, digest_of}
use Rattle.fare_table.specs.declared.fares.Fares.{Fares}
use Rattle.fare_schedule.specs.InForce.{Revision, table_of, table_by, last_on, in_force}
use Rattle.fare_schedule.specs.Stations.{HaveSameStations}
use Rattle.fare_schedule.specs.declared.schedule.Schedule.{Schedule}
use Rattle.oyster_account.specs.declared.touch.Act.{Act}
use Rattle.oyster_account.specs.declared.touch.Act.TheVariants.{Enter, Leave, TopUp, Issue, Revise}
use Rattle.reply_book.specs.Tables.{tables_in, scheme_by}
use Rattle.card_statement.specs.Known.{IsActKnown}

-- the table of a digest, or the first where there is none
same-found : (first : Fares) (tables : List Fares) (digest : List ℕ) → All (HaveSameStations first) tables
    → HaveSameStations first (unwrap_or (table_of tables digest) first)
same-found first [] digest all id = refl
same-found first (table ∷ tables) digest all id =
    elim (cases_Bool (bytes_eq (digest_of table) digest)) [
      | inl same ↦ rw same (All-head (HaveSameStations first) table tables all id)
      | inr other ↦ rw other (same-found first tables digest (All-tail (HaveSameStations first) table tables all) id)
    ]

-- the table of a revision, or the first where there is none
same-revised : (schedule : Schedule) (revision : Option Revision)
    → HaveSameStations schedule.first (table_by schedule.first schedule.supplied.items revision)
same-revised schedule None id = refl
same-revised schedule (Some revision) id =
    let first : HaveSameStations schedule.first schedule.first = λ other. refl in
    same-found schedule.first (schedule.first ∷ schedule.supplied.items) revision.digest
    (All-cons (HaveSameStations schedule.first) schedule.first schedule.supplied.items first schedule.stations) id

-- whatever revisions there are, a station is known on all days or on none
same-known : (schedule : Schedule) (revisions others : List Revision) (day other : ℤ) (id : ℕ)
    → is_some (station_at (content_of (in_force schedule.first schedule.supplied.items revisions day)) id)
    ≡ is_some (station_at (content_of (in_force schedule.first schedule.supplied.items others other)) id)
same-known schedule revisions others day other id =
    sym (same-revised schedule (last_on revisions day) id) ∙ same-revised schedule (last_on others other) id

-- the station of an act is known by these revisions where it is by others
pub known-by : (schedule : Schedule) (revisions others : List Revision) (act : Act)
    → IsActKnown (scheme_by (tables_in schedule) revisions) act
    → IsActKnown (scheme_by (tables_in schedule) others) act
known-by schedule revisions others (Enter station moment) known =
    subst IsTrue (same-known schedule revisions others
    ((scheme_by (tables_in schedule) revisions).stamp moment).day
    ((scheme_by (tables_in schedule) others).stamp moment).day station) known
known-by schedule revisions others (Leave station moment) known =
    subst IsTrue (same-known schedule revisions others
    ((scheme_by (tables_in schedule) revisions).stamp moment).day
    ((scheme_by (tables_in schedule) others).stamp moment).day station) known
known-by schedule revisions others (TopUp pence moment) known = tt
known-by schedule revisions others (Issue moment) known = tt
known-by schedule revisions others (Revise day moment digest) known = tt
