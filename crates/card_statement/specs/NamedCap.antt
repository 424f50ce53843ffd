-- The cap that a statement names for a fare day (FARES.md, "Statement"; this project's
-- choice). Lists are newest first.
use Rattle.std.specs.Prelude.{ℕ, ◌==◌, List, sum_by, Bool, false, if◌then◌else◌, Option, Some, None}
use Rattle.std.specs.List.{find}
use Rattle.fare_table.specs.declared.rows.Cap.{Cap}
use Rattle.oyster_account.specs.declared.journey.Journey.{Journey}
use Rattle.oyster_account.specs.Journey.{pence_of}
use Rattle.oyster_account.specs.Charge.{is_covered, capped, day_charge}

-- what a day's journeys come to by the cap that is named, or by their fares where none is
abbrev pub charged_by : List Journey → Option Cap → ℕ
charged_by made None = sum_by pence_of made
charged_by made (Some cap) = capped made cap

-- the first of these caps that makes of a day's journeys what they are charged
abbrev pub attaining_cap : List Cap → List Journey → Option Cap
attaining_cap caps made = find (λ cap. capped made cap == day_charge caps made) caps

-- the cap that applied to a day: none where its fares are charged, else the first that attains it
abbrev pub applied_cap : List Cap → List Journey → Option Cap
applied_cap caps made =
    if sum_by pence_of made == day_charge caps made then None else attaining_cap caps made

-- the cap that may be named covers the journey
abbrev pub is_covered_by : Option Cap → Journey → Bool
is_covered_by None journey = false
is_covered_by (Some cap) journey = is_covered cap journey.fare
