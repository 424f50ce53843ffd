-- Words and amounts that more than one format of a statement prints (COMMANDS.md, "statement").
use Rattle.std.specs.Prelude.{ℕ, ◌-◌, nat_lt, List, [], Bool, if◌then◌else◌, codes}
use Rattle.card_statement.specs.declared.statement.Reason.{Reason}
use Rattle.card_statement.specs.declared.statement.Reason.TheVariants as reasons

-- the band of a fare
abbrev pub band_word : Bool → List ℕ
band_word off_peak = if off_peak then codes "off-peak" else codes "peak"

-- the kind of a cap
abbrev pub cap_word : Bool → List ℕ
cap_word off_peak = if off_peak then codes "off-peak" else codes "anytime"

-- whether a cap covers a journey
abbrev pub covered_word : Bool → List ℕ
covered_word covered = if covered then codes "yes" else codes "no"

-- the name of a reason
abbrev pub reason_word : Reason → List ℕ
reason_word reasons.Open = codes "Open"
reason_word reasons.EnteredOver = codes "EnteredOver"
reason_word reasons.NotLeftInTime = codes "NotLeftInTime"
reason_word reasons.Late = codes "Late"
reason_word reasons.Unstarted = codes "Unstarted"

-- the sign of a balance: of what was paid in, less what was charged
abbrev pub sign_word : ℕ → ℕ → List ℕ
sign_word paid_in charged = if nat_lt paid_in charged then codes "-" else []

-- the balance without its sign
abbrev pub balance_pence : ℕ → ℕ → ℕ
balance_pence paid_in charged =
    if nat_lt paid_in charged then charged - paid_in else paid_in - charged
