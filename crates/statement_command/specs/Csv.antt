-- A statement as comma-separated values (COMMANDS.md, "statement"; RFC 4180; which fields there
-- are is this project's choice).
use Rattle.std.specs.Prelude.{ℕ, ℤ, List, [], ◌++◌, codes, flat_map, Option, Some, None}
use Rattle.std.specs.Fmt.{decimal}
use Rattle.fare_table.specs.declared.rows.Cap.{Cap}
use Rattle.oyster_account.specs.declared.touch.Act.{Act}
use Rattle.oyster_account.specs.declared.touch.Act.TheVariants.{Enter, Leave, TopUp, Issue, Revise}
use Rattle.card_statement.specs.declared.statement.Incomplete.{Incomplete}
use Rattle.card_statement.specs.declared.statement.JourneyRow.{JourneyRow}
use Rattle.journal_audit.specs.Calendar.{day_text, moment_text}
use Rattle.journal_audit.specs.HistoryRow.{verdict_field}
use Rattle.statement_command.specs.declared.line.Line.{Line}
use Rattle.statement_command.specs.declared.line.Line.TheVariants as lines
use Rattle.statement_command.specs.declared.line.Sums.{Sums}
use Rattle.statement_command.specs.declared.line.RefusedTouch.{RefusedTouch}
use Rattle.statement_command.specs.Words.{band_word, cap_word, covered_word, reason_word}
use Rattle.statement_command.specs.Words.{sign_word, balance_pence}

-- a day, and nothing where there is none
abbrev pub day_field : Option ℤ → List ℕ
day_field None = []
day_field (Some day) = day_text day

-- a moment, and nothing where there is none
abbrev pub moment_field : Option ℕ → List ℕ
moment_field None = []
moment_field (Some moment) = moment_text moment

-- the kind of a row and its day, each with a comma
abbrev pub row_start : List ℕ → Option ℤ → List ℕ
row_start kind day = kind ++ (codes "," ++ (day_field day ++ codes ","))

-- the fields from the pence to the station and the moment, each with a comma
abbrev pub row_middle : List ℕ → Option ℕ → List ℕ
row_middle middle moment = middle ++ (codes "," ++ (moment_field moment ++ codes ","))

-- the other station and its moment, each with a comma
abbrev pub row_other : List ℕ → Option ℕ → List ℕ
row_other to ended = to ++ (codes "," ++ (moment_field ended ++ codes ","))

-- the row of a kind, with its day, the fields from the pence to the station, the moment, the other
-- station, its moment, and whether a cap covers it
abbrev pub csv_row : List ℕ → Option ℤ → List ℕ → Option ℕ → List ℕ → Option ℕ → List ℕ → List ℕ
csv_row kind day middle moment to ended covered =
    row_start kind day
    ++ (row_middle middle moment ++ (row_other to ended ++ (covered ++ codes "\r\n")))

-- a row with its pence alone, and of a day where there is one
unfoldable pub amount_row : List ℕ → Option ℤ → List ℕ → List ℕ
amount_row kind day pence = csv_row kind day (pence ++ codes ",,,,") None [] None []

-- the fare, the zones, the band and the first station of a journey
abbrev pub journey_middle : JourneyRow → List ℕ
journey_middle row =
    decimal row.journey.fare.pence ++ (codes "," ++ (decimal row.journey.fare.lo
    ++ (codes "," ++ (decimal row.journey.fare.hi
    ++ (codes "," ++ (band_word row.journey.fare.off_peak
    ++ (codes "," ++ decimal row.journey.start.station)))))))

-- the row of a journey
abbrev pub journey_row : ℤ → JourneyRow → List ℕ
journey_row day row =
    csv_row (codes "journey") (Some day) (journey_middle row)
    (Some row.journey.start.stamp.moment) (decimal row.journey.finish.station)
    (Some row.journey.finish.stamp.moment) (covered_word row.covered)

-- the price, the zones and the kind of a cap
abbrev pub cap_middle : Cap → List ℕ
cap_middle cap =
    decimal cap.price ++ (codes "," ++ (decimal cap.lo ++ (codes "," ++ (decimal cap.hi
    ++ (codes "," ++ (cap_word cap.off_peak ++ codes ","))))))

-- the row of the cap that applied, and none where none did
abbrev pub cap_row : ℤ → Option Cap → List ℕ
cap_row day None = []
cap_row day (Some cap) = csv_row (codes "cap") (Some day) (cap_middle cap) None [] None []

-- the charge, the reason and the station of an incomplete touch
abbrev pub touch_middle : Incomplete → List ℕ
touch_middle row =
    decimal row.pence ++ (codes ",,," ++ (reason_word row.reason
    ++ (codes "," ++ decimal row.touch.station)))

-- the row of an incomplete touch
abbrev pub touch_row : ℤ → Incomplete → List ℕ
touch_row day row =
    csv_row (codes "touch") (Some day) (touch_middle row) (Some row.touch.stamp.moment) [] None []

-- the rows of the sums before the first day, and none where there are none
abbrev pub sums_rows : Option Sums → List ℕ
sums_rows None = []
sums_rows (Some sums) =
    amount_row (codes "paid_in_before") None (decimal sums.paid_in)
    ++ amount_row (codes "charged_before") None (decimal sums.charged)

-- the pence that a refused top-up asks to pay in, and the station of a refused touch in or out
abbrev pub refused_pence : Act → List ℕ
refused_pence (Enter station moment) = []
refused_pence (Leave station moment) = []
refused_pence (TopUp pence moment) = decimal pence
refused_pence (Issue moment) = []
refused_pence (Revise day moment digest) = []

abbrev pub refused_station : Act → List ℕ
refused_station (Enter station moment) = decimal station
refused_station (Leave station moment) = decimal station
refused_station (TopUp pence moment) = []
refused_station (Issue moment) = []
refused_station (Revise day moment digest) = []

-- the row of a refused touch
abbrev pub refused_row : RefusedTouch → List ℕ
refused_row refusal =
    csv_row (codes "refused") (Some refusal.stamp.day)
    (refused_pence refusal.act ++ (codes ",,," ++ (verdict_field refusal.verdict
    ++ (codes "," ++ refused_station refusal.act))))
    (Some refusal.stamp.moment) [] None []

-- the names of the fields
abbrev pub heading : List ℕ
heading = codes "kind,day,pence,low,high,detail,station,moment,to,ended,covered\r\n"

-- the rows of a line
abbrev pub csv_of : Line → List ℕ
csv_of (lines.Card card days) = heading
csv_of (lines.Before sums) = sums_rows sums
csv_of (lines.Day day) = []
csv_of (lines.Journey day row) = journey_row day row
csv_of (lines.Fares day pence) = amount_row (codes "fares") (Some day) (decimal pence)
csv_of (lines.Cap day cap) = cap_row day cap
csv_of (lines.Journeys day pence) = amount_row (codes "journeys") (Some day) (decimal pence)
csv_of (lines.Touch day row) = touch_row day row
csv_of (lines.Charge day pence) = amount_row (codes "charge") (Some day) (decimal pence)
csv_of (lines.TopUps some) = []
csv_of (lines.TopUp row) =
    csv_row (codes "top_up") (Some row.stamp.day) (decimal row.pence ++ codes ",,,,")
    (Some row.stamp.moment) [] None []
csv_of (lines.Refusals some) = []
csv_of (lines.Refused refusal) = refused_row refusal
csv_of (lines.PaidIn pence) = amount_row (codes "paid_in") None (decimal pence)
csv_of (lines.Charged pence) = amount_row (codes "charged") None (decimal pence)
csv_of (lines.Balance paid_in charged) =
    amount_row (codes "balance") None (sign_word paid_in charged
    ++ decimal (balance_pence paid_in charged))

-- all rows
abbrev pub csv_text : List Line → List ℕ
csv_text listed = flat_map csv_of listed
