-- Which table is in force, in a reader's words (TABLE.md, "Revised tables").
use Rattle.std.specs.Prelude.{◌≡◌, ℕ, ℤ, ◌≤ℤ◌, ◌<ℤ◌, List, ◌∷◌, ◌++◌, Some}
use Rattle.std.specs.List.{All}
use Rattle.fare_table.specs.Fares.{digest_of}
use Rattle.fare_table.specs.declared.fares.Fares.{Fares}
use Rattle.fare_schedule.specs.InForce.{Revision, table_of, in_force}

-- on a day from that of a revision on, and before those of all later ones, its table is in force
abbrev pub IsLastInForce : Type 0
IsLastInForce =
    (first table : Fares) (supplied : List Fares) (earlier later : List Revision)
    (revision : Revision) (day : ℤ)
    → revision.day ≤ℤ day → All (λ other. day <ℤ other.day) later
    → table_of (first ∷ supplied) revision.digest ≡ Some table
    → in_force first supplied (earlier ++ revision ∷ later) day ≡ table

-- before the days of all revisions the first table is in force
abbrev pub IsFirstInForce : Type 0
IsFirstInForce =
    (first : Fares) (supplied : List Fares) (revisions : List Revision) (day : ℤ)
    → All (λ revision. day <ℤ revision.day) revisions
    → in_force first supplied revisions day ≡ first

-- the table of a digest has it
abbrev pub HasItsDigest : Type 0
HasItsDigest =
    (tables : List Fares) (digest : List ℕ) (table : Fares)
    → table_of tables digest ≡ Some table → digest_of table ≡ digest
