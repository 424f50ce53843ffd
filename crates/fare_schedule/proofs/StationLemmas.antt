-- All tables of a schedule know the same stations.
use Rattle.std.proofs.Common.{◌≡◌, ℕ, suc, zero, ℤ, ◌==◌, Bool, true, false, ◌||◌, List, [], ◌∷◌}
use Rattle.std.proofs.Common.{length, is_some, refl, sym, ap, ◌∙◌, subst, inl, inr}
use Rattle.std.specs.List.{find, list_all}
use Rattle.std.proofs.lemmas.Bool.{cases_lt, cases_Bool, eqb-true, and_parts}
use Rattle.std.proofs.lemmas.List.{get_or_past}
use Rattle.fare_table.specs.Fare.{station_at}
use Rattle.fare_table.specs.Fares.{content_of}
use Rattle.fare_table.specs.Faults.{is_known}
use Rattle.fare_table.specs.Stations.{has_stations_of}
use Rattle.fare_table.specs.declared.fares.Fares.{Fares}
use Rattle.fare_table.specs.declared.station.Station.{Station}
use Rattle.fare_schedule.specs.Dated.{place_by}
use Rattle.fare_schedule.specs.Places.{table_at}
use Rattle.fare_schedule.specs.Schedule.{content_on}
use Rattle.fare_schedule.specs.Stations.{HaveSameStations, have_same_stations}
use Rattle.fare_schedule.specs.declared.schedule.Schedule.{Schedule}
use Rattle.fare_schedule.proofs.InForceLemmas.{on-place}

same-first : (schedule : Schedule) (place : ℕ) →
    HaveSameStations schedule.first (table_at schedule.first schedule.supplied.items place)
same-first schedule zero id = refl
same-first schedule (suc place) id =
    elim (cases_lt place (length schedule.supplied.items)) [
      | inl below ↦ schedule.stations place schedule.first below id
      | inr past ↦ ap (λ (table : Fares). is_some (station_at (content_of table) id))
          (sym (get_or_past schedule.supplied.items place schedule.first past))
    ]

first-stations : (schedule : Schedule) (day : ℤ) (id : ℕ) →
    is_some (station_at (content_of schedule.first) id) ≡ is_some (station_at (content_on schedule day) id)
first-stations schedule day id =
    same-first schedule (place_by 0 schedule.dated.items day) id
    ∙ ap (λ (table : Fares). is_some (station_at (content_of table) id)) (sym (on-place schedule day))

-- a station is known on all days or on none
pub same-stations : (schedule : Schedule) (day other : ℤ) (id : ℕ) →
    is_some (station_at (content_on schedule day) id) ≡ is_some (station_at (content_on schedule other) id)
same-stations schedule day other id = sym (first-stations schedule day id) ∙ first-stations schedule other id

-- ---- the test that two tables have the same stations

some-found : (id : ℕ) (stations : List Station) →
    is_some (find (λ station. id == station.id) stations) ≡ is_known stations id
some-found id [] = refl
some-found id (s ∷ stations) =
    elim (cases_Bool (id == s.id)) [
      | inl same ↦ rw same refl
      | inr other ↦ rw (other, some-found id stations) refl
    ]

either_other : (a b : Bool) → (a || b) ≡ true → a ≡ false → b ≡ true
either_other true b is off = absurd (cc)
either_other false b is off = is

-- what all of these are known in knows each of them
known-in : (known stations : List Station) (id : ℕ) →
    list_all (λ (station : Station). is_known known station.id) stations ≡ true → is_known stations id ≡ true →
    is_known known id ≡ true
known-in known [] id all is = absurd (cc)
known-in known (s ∷ stations) id all is =
    elim (cases_Bool (id == s.id)) [
      | inl same ↦ subst (λ n. is_known known n ≡ true) (sym (eqb-true id s.id same))
          (and_parts (is_known known s.id) (list_all (λ (station : Station). is_known known station.id) stations) all).0
      | inr other ↦ known-in known stations id
          (and_parts (is_known known s.id) (list_all (λ (station : Station). is_known known station.id) stations) all).1
          (either_other (id == s.id) (is_known stations id) is other)
    ]

both_same : (a b : Bool) → (a ≡ true → b ≡ true) → (b ≡ true → a ≡ true) → a ≡ b
both_same true true there back = refl
both_same true false there back = sym (there refl)
both_same false true there back = back refl
both_same false false there back = refl

pub same-by-test : (one other : Fares) → have_same_stations one other ≡ true → HaveSameStations one other
same-by-test one other same id =
    let a : List Station = (content_of one).stations in
    let b : List Station = (content_of other).stations in
    let both = and_parts (has_stations_of (content_of one) (content_of other))
    (has_stations_of (content_of other) (content_of one)) same in
    some-found id a
    ∙ both_same (is_known a id) (is_known b id) (known-in b a id both.1) (known-in a b id both.0)
    ∙ sym (some-found id b)
