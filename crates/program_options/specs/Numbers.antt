-- Which numbers of options are allowed (COMMANDS.md; this project's choice).
use Rattle.std.specs.Prelude.{◌≤◌, ℕ}

-- the number is from the least to the most
abbrev pub IsBetween : ℕ → ℕ → ℕ → Type 0
IsBetween least most number = (least ≤ number) × (number ≤ most)

-- the number is from 1 to this limit
abbrev pub IsWithin : ℕ → ℕ → Type 0
IsWithin limit number = IsBetween 1 limit number
