-- An opening behind a crash or an end as steps of a station (OFFICE.md, "Rounds";
-- PROOFS.md, "A gate and its station").
use Rattle.std.specs.Prelude.{◌≡◌, ℕ, Bool, true, List, ◌∷◌}
use Rattle.reply_book.specs.Tables.{Tables, listed, AreKnown}
use Rattle.reply_book.specs.Legal.{touches_of}
use Rattle.tap_journal.specs.Layout.{Header}
use Rattle.tap_office.specs.Files.{AreReadFrom, HaveOwnDigests}
use Rattle.tap_office.specs.Opening.{OpeningState}
use Rattle.gate_law.specs.Whole.{Station, Whole}
use Rattle.gate_law.specs.WholeAgreement.{IsRun}
use Rattle.station_calls.specs.Shown.{IsOnDisk}

-- two sets of tables were read from files of which the first is the same, and no two of these files
-- that differ have the same digest
pub record AreOfFiles (tables others : Tables) : Type 0 where
  pub first : List ℕ
  pub files : List (List ℕ)
  pub others_files : List (List ℕ)
  pub read : AreReadFrom (first ∷ files) (listed tables)
  pub others_read : AreReadFrom (first ∷ others_files) (listed others)
  pub own : HaveOwnDigests (first ∷ files) (first ∷ others_files)

-- the station that an opening finds
abbrev pub station_found : {D : Type 0} → OpeningState D → Station
station_found opening = record {
  journal = touches_of opening.recovered;
  capacity = opening.header.capacity;
  going = true;
  tables = opening.tables;
  history = opening.recovered;
}

-- the whole with that station
abbrev pub found_in : {D : Type 0} → Whole → OpeningState D → Whole
found_in whole opening = record whole { station = station_found opening }

-- there is a run of steps to the whole with the station that the opening found
pub record IsOpeningRun {D : Type 0} (alone : ℕ → Bool) (cards : ℕ) (whole : Whole)
    (opening : OpeningState D) : Type 0 where
  pub between : List Whole
  pub run : IsRun alone cards whole between (found_in whole opening)

-- so it is where the disk held what a crash may have left, and the opening is by tables of the same
-- files
abbrev pub IsReopening : {D : Type 0} → List ℕ → OpeningState D → Type 0
IsReopening content opening =
    (h : Header) (alone : ℕ → Bool) (whole : Whole)
    → whole.station.capacity ≡ h.capacity → IsOnDisk h whole content
    → AreKnown whole.station.tables (touches_of whole.station.history)
    → AreOfFiles whole.station.tables opening.tables
    → IsOpeningRun alone h.cards whole opening
