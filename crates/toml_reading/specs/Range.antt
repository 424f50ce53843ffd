-- Whole numbers and counts, with their ranges.
use Rattle.std.specs.Prelude.{ℕ, ℤ, pos, Bool, ◌&&◌, nat_le, int_le, unsigned_abs, is_some}
use Rattle.std.specs.Prelude.{List, Option, Some, None, if◌then◌else◌}
use Rattle.std.specs.List.{list_all}
use Rattle.toml.specs.Data.{Data, as_integer}

-- the number is from the lowest to the highest
abbrev pub is_whole : ℕ → ℕ → ℤ → Bool
is_whole low high n = int_le (pos low) n && int_le n (pos high)

-- the number, where it is there and from the lowest to the highest
abbrev pub whole_of : ℕ → ℕ → Option ℤ → Option ℕ
whole_of low high None = None
whole_of low high (Some n) = if is_whole low high n then Some (unsigned_abs n) else None

-- the whole number that a value is, where it is one from the lowest to the highest
abbrev pub whole_in : ℕ → ℕ → Data → Option ℕ
whole_in low high d = whole_of low high (as_integer d)

-- each value of a list is a whole number
abbrev pub are_whole : List Data → Bool
are_whole ds = list_all (λ d. is_some (as_integer d)) ds

-- the count is from the least to the most
abbrev pub is_count : ℕ → ℕ → ℕ → Bool
is_count least most count = nat_le least count && nat_le count most
