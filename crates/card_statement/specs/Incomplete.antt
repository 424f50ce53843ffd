-- The touches of travel that miss their other end, as rows of a statement (FARES.md,
-- "Statement"; this project's choice). Lists are newest first.
use Rattle.std.specs.Prelude.{ℕ, ℤ, List, [], ◌∷◌, filter, Bool, ◌||◌, if◌then◌else◌, Option, Some}
use Rattle.std.specs.Prelude.{None}
use Rattle.std.specs.Ordering.{int_eq}
use Rattle.card_statement.specs.declared.statement.Reason.{Reason}
use Rattle.card_statement.specs.declared.statement.Reason.TheVariants.{Open, EnteredOver}
use Rattle.card_statement.specs.declared.statement.Reason.TheVariants.{NotLeftInTime, Late}
use Rattle.card_statement.specs.declared.statement.Reason.TheVariants.{Unstarted}
use Rattle.card_statement.specs.declared.statement.Incomplete.{Incomplete}
use Rattle.oyster_account.specs.Scheme.{Scheme}
use Rattle.oyster_account.specs.Travel.{Tap, In, Out, passage_of, day_of}
use Rattle.oyster_account.specs.Classes.{is_unfinished, is_late, is_unstarted, missing_charge}

-- why a touch in is unfinished, by the touch directly after it
abbrev pub reason_in : Option Tap → Reason
reason_in None = Open
reason_in (Some (In next)) = EnteredOver
reason_in (Some (Out finish)) = NotLeftInTime

-- why a touch out ends no leg, by the touches before it
abbrev pub reason_out : List Tap → Reason
reason_out [] = Unstarted
reason_out (In start ∷ taps) = Late
reason_out (Out earlier ∷ taps) = Unstarted

-- why a touch misses its other end, by the touch directly after it and those before it
abbrev pub reason_of : Option Tap → Tap → List Tap → Reason
reason_of later (In start) taps = reason_in later
reason_of later (Out finish) taps = reason_out taps

-- a touch misses its other end where it is unfinished, late or unstarted
abbrev pub is_missing : Scheme → Option Tap → Tap → List Tap → Bool
is_missing scheme later tap taps =
    is_unfinished scheme later tap || (is_late scheme (tap ∷ taps) || is_unstarted (tap ∷ taps))

-- the row of a touch that misses its other end
abbrev pub incomplete_of : Scheme → Option Tap → Tap → List Tap → Incomplete
incomplete_of scheme later tap taps = record {
  touch = passage_of tap;
  reason = reason_of later tap taps;
  pence = missing_charge scheme later tap taps;
}

-- the rows of those among these touches, which a later one follows or none
abbrev pub incompletes : Scheme → Option Tap → List Tap → List Incomplete
incompletes scheme later [] = []
incompletes scheme later (tap ∷ taps) =
    if is_missing scheme later tap taps
    then incomplete_of scheme later tap taps ∷ incompletes scheme (Some tap) taps
    else incompletes scheme (Some tap) taps

-- an incomplete touch stands on its own fare day
abbrev pub incomplete_day : Incomplete → ℤ
incomplete_day row = day_of row.touch

-- what it is charged
abbrev pub pence_missing : Incomplete → ℕ
pence_missing row = row.pence

-- those of one fare day
abbrev pub incompletes_on : ℤ → List Incomplete → List Incomplete
incompletes_on day rows = filter (λ row. int_eq (incomplete_day row) day) rows
