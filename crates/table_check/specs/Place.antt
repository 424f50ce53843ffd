-- A place in a text by its line and its column, both from 1 (FAULTS.md, "The second line";
-- this project's choice).
use Rattle.std.specs.Prelude.{ℕ, suc, Bool, not, ◌&&◌, ◌==◌, nat_le, nat_lt, List}
use Rattle.std.specs.List.{count_by}

-- the line of the place behind these bytes: one more than there are line feeds
abbrev pub line_behind : List ℕ → ℕ
line_behind before = suc (count_by (λ byte. byte == 10) before)

-- a byte of UTF-8 goes on with a character where it is one of 0x80 to 0xbf
abbrev pub goes_on : ℕ → Bool
goes_on byte = nat_le 128 byte && nat_lt byte 192

-- the column of the place behind these bytes of its line: one more than there are characters
abbrev pub column_behind : List ℕ → ℕ
column_behind line = suc (count_by (λ byte. not (goes_on byte)) line)
