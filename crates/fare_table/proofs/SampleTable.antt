-- A small table with no fault, as TOML gives it, its rows, and what changes a key of it.
use Rattle.std.proofs.Common.{ℕ, zero, suc, pos, true, List, [], ◌∷◌, map, if◌then◌else◌}
use Rattle.std.specs.Prelude.{codes}
use Rattle.std.specs.Str.{bytes_eq}
use Rattle.toml.specs.Data.{Data, string, integer, boolean, array, table}
use Rattle.toml.specs.Data.{Items, no_items, item, Members, no_members, member}
use Rattle.fare_table.specs.Keys.{text_of}
use Rattle.fare_table.specs.declared.key.Key.{Key}
use Rattle.fare_table.specs.declared.key.Key.TheVariants as key

abbrev pub whole : ℕ → Data
whole n = integer (pos n)

abbrev pub items : List Data → Items
items [] = no_items
items (d ∷ ds) = item d (items ds)

abbrev pub list : List Data → Data
list ds = array (items ds)

-- so many times the same
abbrev pub copies : {X : Type 0} → ℕ → X → List X
copies zero x = []
copies (suc n) x = x ∷ copies n x

-- a table or a row with this value at a key, in place of what stands there
abbrev pub set : Key → Data → Members → Members
set key d ms = member (text_of key) d ms

-- a table or a row without a key
abbrev pub without : Key → Members → Members
without key no_members = no_members
without key (member text d ms) = if bytes_eq (text_of key) text then ms else member text d (without key ms)

abbrev pub station : ℕ → List ℕ → Members
station id zones =
    set key.StationId (whole id) (set key.StationName (string (codes "A"))
    (set key.StationZones (list (map whole zones)) no_members))

abbrev pub single : ℕ → ℕ → ℕ → ℕ → Members
single low high peak off_peak =
    set key.SingleLow (whole low) (set key.SingleHigh (whole high)
    (set key.SinglePeak (whole peak) (set key.SingleOffPeak (whole off_peak) no_members)))

abbrev pub pair : ℕ → ℕ → ℕ → ℕ → ℕ → ℕ → Members
pair from to lo hi peak off_peak =
    set key.PairFrom (whole from) (set key.PairTo (whole to) (set key.PairLo (whole lo)
    (set key.PairHi (whole hi) (set key.PairPeak (whole peak) (set key.PairOffPeak (whole off_peak) no_members)))))

abbrev pub cap : ℕ → ℕ → List ℕ → ℕ → Members
cap lo hi kind price =
    set key.CapLo (whole lo) (set key.CapHi (whole hi)
    (set key.CapKind (string kind) (set key.CapPrice (whole price) no_members)))

abbrev pub interchange : ℕ → ℕ → ℕ → Members
interchange a b minutes =
    set key.InterchangeA (whole a) (set key.InterchangeB (whole b)
    (set key.InterchangeMinutes (whole minutes) no_members))

abbrev pub rows : List Members → Data
rows mss = list (map table mss)

-- the rows of a table with no fault: stations 1, 2 and 3 in the zones 1, 2, and 2 and 3
abbrev pub stations : List Members
stations = station 1 (1 ∷ []) ∷ station 2 (2 ∷ []) ∷ station 3 (2 ∷ 3 ∷ []) ∷ []

abbrev pub singles : List Members
singles =
    single 1 1 300 250 ∷ single 1 2 350 290 ∷ single 1 3 400 310 ∷ single 2 2 210 190
    ∷ single 2 3 240 210 ∷ single 3 3 210 190 ∷ []

abbrev pub sample : Members
sample =
    set key.Zone (string (codes "UTC0")) (set key.EntryMinimum (whole 190)
    (set key.BalanceLimit (whole 9000) (set key.LegMinutes (whole 90)
    (set key.EveningRule (boolean true) (set key.MaximumPeak (whole 900)
    (set key.MaximumOffPeak (whole 700) (set key.Holidays (list (string (codes "2025-12-25") ∷ []))
    (set key.Station (rows stations) (set key.Single (rows singles)
    (set key.Pair (rows (pair 2 1 1 2 230 200 ∷ []))
    (set key.Cap (rows (cap 1 2 (codes "anytime") 850 ∷ cap 1 2 (codes "off-peak") 600 ∷ []))
    (set key.Interchange (rows (interchange 1 3 10 ∷ [])) no_members))))))))))))
