-- What a journey costs by a fare table, and the lines that tell it (COMMANDS.md, "check";
-- FARES.md has the rules).
use Rattle.std.specs.Prelude.{◌≡◌, ℕ, ◌+◌, ◌/◌, ◌%◌, true, List, [], ◌∷◌, ◌++◌, codes}
use Rattle.std.specs.Prelude.{if◌then◌else◌}
use Rattle.std.specs.Fmt.{decimal}
use Rattle.money_time.specs.declared.stamp.Window.{Window}
use Rattle.money_time.specs.declared.stamp.Window.TheVariants.{Early, Evening, Off}
use Rattle.fare_table.specs.Fare.{Content, fare_of, stamp_of}
use Rattle.fare_table.specs.declared.fare.Fare.{Fare}
use Rattle.fare_table.specs.declared.rows.Cap.{Cap}
use Rattle.oyster_account.specs.declared.travel.Passage.{Passage}
use Rattle.oyster_account.specs.Scheme.{scheme_by}
use Rattle.oyster_account.specs.Travel.{In, Out}
use Rattle.oyster_account.specs.Leg.{is_in_time}
use Rattle.oyster_account.specs.Parts.{part_of}
use Rattle.oyster_account.specs.Charge.{travel_charge}
use Rattle.table_check.specs.declared.fare.Quote.{Quote}

-- a touch at a station and a moment, by a table's clock and holidays
abbrev pub passage_by : Content → ℕ → ℕ → Passage
passage_by content station moment = record { station = station; stamp = stamp_of content moment }

-- the account charges a card so much that travels from one station to the other, from this moment
-- to any later one in time for a leg, and no more
abbrev pub IsChargedFor : Content → ℕ → ℕ → ℕ → ℕ → Type 0
IsChargedFor content from to start pence =
    (finish : ℕ)
    → is_in_time (scheme_by content) (passage_by content from start) (passage_by content to finish)
    ≡ true
    → travel_charge (scheme_by content)
    (Out (passage_by content to finish) ∷ In (passage_by content from start) ∷ []) ≡ pence

-- the quote is of the journey from one station to the other that starts at this moment
pub record IsQuoteOf (content : Content) (from to start : ℕ) (quote : Quote) : Type 0 where
  pub charge : IsChargedFor content from to start quote.charge
  pub fare : quote.fare ≡ fare_of content from to (stamp_of content start).window
  pub stamp : quote.stamp ≡ stamp_of content start

-- what a cap makes of a fare day's only journey of this fare
abbrev pub capped_by : Fare → Cap → ℕ
capped_by fare cap = cap.price + part_of cap fare

-- the name of a window
abbrev pub window_name : Window → List ℕ
window_name Early = codes "early"
window_name Evening = codes "evening"
window_name Off = codes "off"

-- seven lines: the charge and the fare in pence, what gives the fare, its zones and its band, the
-- window, and what the clock shows
abbrev pub printed_quote : Quote → List ℕ
printed_quote quote =
    codes "charge " ++ (decimal quote.charge ++ (codes "\nfare " ++ (decimal quote.fare.pence
    ++ (codes "\nby " ++ ((if quote.is_named then codes "pair" else codes "zones")
    ++ (codes "\nzones " ++ (decimal quote.fare.lo ++ (codes " " ++ (decimal quote.fare.hi
    ++ (codes "\nband "
    ++ ((if quote.fare.off_peak then codes "off-peak" else codes "peak") ++ (codes "\n"
    ++ (codes "window "
    ++ (window_name quote.stamp.window
    ++ (codes "\nclock " ++ (decimal (quote.stamp.minute / 60)
    ++ (codes ":"
    ++ (decimal (quote.stamp.minute % 60 / 10) ++ (decimal (quote.stamp.minute % 60 % 10)
    ++ codes "\n")))))))))))))))))))
