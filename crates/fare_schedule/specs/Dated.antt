-- Revisions as the code keeps them: the place of the table and the fare day, oldest first.
use Rattle.std.specs.Prelude.{◌≡◌, ℕ, ℤ, ◌≤◌, ◌<◌, ◌<ℤ◌, int_le, Bool}
use Rattle.std.specs.Prelude.{true, false, List, [], ◌∷◌, map, length}
use Rattle.std.specs.Prelude.{get_or, slice_get, unwrap_or, option_map, if◌then◌else◌}
use Rattle.std.specs.List.{All, AllPairs}
use Rattle.fare_table.specs.Fares.{digest_of}
use Rattle.fare_table.specs.declared.fares.Fares.{Fares}
use Rattle.fare_schedule.specs.InForce.{Revision}
use Rattle.fare_schedule.specs.Places.{table_at}
use Rattle.fare_schedule.specs.declared.dated.Dated.{Dated}

-- its day is at most this one
abbrev pub is_until : ℤ → Dated → Bool
is_until day dated = int_le dated.day day

-- the place of the last of these whose day is at most this one, and else that given
abbrev pub place_by : ℕ → List Dated → ℤ → ℕ
place_by place [] day = place
place_by place (dated ∷ later) day =
    place_by (if is_until day dated then dated.place else place) later day

-- each place is at most this one
abbrev pub ArePlaced : ℕ → List Dated → Type 0
ArePlaced last dated = All (λ one. one.place ≤ last) dated

-- each day is below the days after it
abbrev pub AreAscending : List Dated → Type 0
AreAscending dated = AllPairs (λ one other. one.day <ℤ other.day) dated

-- the revision that it is, by the digest of its table
abbrev pub revision_of : Fares → List Fares → Dated → Revision
revision_of first supplied dated = record {
  digest = digest_of (table_at first supplied dated.place);
  day = dated.day;
}

-- the revisions that they are
abbrev pub revisions_by : Fares → List Fares → List Dated → List Revision
revisions_by first supplied dated = map (revision_of first supplied) dated

-- there is one at a place, and its day is at most this one
abbrev pub counts_at : ℤ → List Dated → ℕ → Bool
counts_at day dated place = unwrap_or (option_map (is_until day) (slice_get dated place)) false

-- so many of these have a day that is at most this one: the first, and none behind them
pub record IsCountOn (day : ℤ) (dated : List Dated) (count : ℕ) : Type 0 where
  pub first : (place : ℕ) (other : Dated) → place < count
      → is_until day (get_or dated place other) ≡ true
  pub others : (place : ℕ) (other : Dated) → count ≤ place → place < length dated
      → is_until day (get_or dated place other) ≡ false
