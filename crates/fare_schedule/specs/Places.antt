-- Tables by their places, as the code keeps them: the first at place 0, then those supplied.
use Rattle.std.specs.Prelude.{◌≢◌, ℕ, suc, List, [], ◌∷◌, get_or, Option, Some, None, if◌then◌else◌}
use Rattle.std.specs.List.{AllPairs}
use Rattle.std.specs.Str.{bytes_eq}
use Rattle.fare_table.specs.Fares.{digest_of}
use Rattle.fare_table.specs.declared.fares.Fares.{Fares}

-- the table at a place
abbrev pub table_at : Fares → List Fares → ℕ → Fares
table_at first supplied place = get_or (first ∷ supplied) place first

-- the place of the first of these tables that has this digest, where places count from this one
abbrev pub place_from : ℕ → List Fares → List ℕ → Option ℕ
place_from place [] digest = None
place_from place (table ∷ tables) digest =
    if bytes_eq (digest_of table) digest then Some place else place_from (suc place) tables digest

-- no two tables have the same digest
abbrev pub AreDistinct : List Fares → Type 0
AreDistinct tables = AllPairs (λ one other. digest_of one ≢ digest_of other) tables
