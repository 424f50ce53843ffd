-- Which table is in force on a fare day (TABLE.md, "Revised tables"; this project's choice).
-- Revisions are oldest first, and the tables are the first one and those that were supplied.
use Rattle.std.specs.Prelude.{ℕ, ℤ, int_le, Bool, List, ◌∷◌, Option, Some, None, unwrap_or}
use Rattle.std.specs.List.{filter, find, last_or}
use Rattle.std.specs.Str.{bytes_eq}
use Rattle.fare_table.specs.Fares.{digest_of}
use Rattle.fare_table.specs.declared.fares.Fares.{Fares}

-- a revision: from this fare day on the table of this digest counts
pub record Revision : Type 0 where
  pub digest : List ℕ
  pub day : ℤ

-- the day of a revision is at most this one
abbrev pub counts_on : ℤ → Revision → Bool
counts_on day revision = int_le revision.day day

-- the last revision whose day is at most this one, where there is one
abbrev pub last_on : List Revision → ℤ → Option Revision
last_on revisions day = last_or None (filter (counts_on day) revisions)

-- the table of a digest, where there is one
abbrev pub table_of : List Fares → List ℕ → Option Fares
table_of tables digest = find (λ table. bytes_eq (digest_of table) digest) tables

-- the table of a revision, and where there is none the first
abbrev pub table_by : Fares → List Fares → Option Revision → Fares
table_by first supplied None = first
table_by first supplied (Some revision) =
    unwrap_or (table_of (first ∷ supplied) revision.digest) first

-- the table in force on a fare day: that of the last revision whose day is at most it, else the
-- first
abbrev pub in_force : Fares → List Fares → List Revision → ℤ → Fares
in_force first supplied revisions day = table_by first supplied (last_on revisions day)
