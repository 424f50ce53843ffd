-- How many bytes numbers and the names of verdicts have at most.
use Rattle.std.proofs.Common.{ℕ, ◌≤◌, ◌<◌, ◌^◌, ◌==◌, Bool, true, false, List, [], length, Option, Some, None, arith}
use Rattle.std.specs.Prelude.{if◌then◌else◌, unwrap_or}
use Rattle.std.specs.Fmt.{decimal}
use Rattle.std.proofs.lemmas.Fmt.{length-decimal-le}
use Rattle.oyster_account.specs.Verdict.{verdict_name, refusal_name}
use Rattle.journal_audit.specs.HistoryRow.{verdict_field}

-- a number of 32 bits has at most 10 digits
pub number_short : (n : ℕ) → n < 2 ^ 32 → length (decimal n) ≤ 10
number_short n bound = length-decimal-le 10 n (omega arith) (omega (arith, bound)) (omega (arith, bound))

-- the amount of a signed number of 64 bits has at most 19
pub amount_short : (n : ℕ) → n ≤ 2 ^ 63 → length (decimal n) ≤ 19
amount_short n bound = length-decimal-le 19 n (omega arith) (omega (arith, bound)) (omega (arith, bound))

-- a name that is there has at most 16 bytes
abbrev IsShort : Option (List ℕ) → Type 0
IsShort None = Unit {0}
IsShort (Some name) = length name ≤ 16

-- the first of two names where a test holds, and else the other
either : (test : Bool) (first second : Option (List ℕ)) → IsShort first → IsShort second
    → IsShort (if test then first else second)
either true first second one other = one
either false first second one other = other

-- no name of a verdict is longer
named_short : (code : ℕ) → IsShort (verdict_name code)
unfolding verdict_name refusal_name
named_short code =
    either (code == 1) _ _ (omega arith)
    (either (code == 2) _ _ (omega arith)
    (either (code == 3) _ _ (omega arith)
    (either (code == 4) _ _ (omega arith)
    (either (code == 5) _ _ (omega arith)
    (either (code == 6) _ _ (omega arith)
    (either (code == 7) _ _ (omega arith)
    (either (code == 8) _ _ (omega arith)
    (either (code == 9) _ _ (omega arith)
    (either (code == 20) _ _ (omega arith)
    (either (code == 21) _ _ (omega arith)
    (either (code == 22) _ _ (omega arith)
    (either (code == 23) _ _ (omega arith)
    (either (code == 24) _ _ (omega arith)
    (either (code == 25) _ _ (omega arith)
    (either (code == 26) _ _ (omega arith)
    (either (code == 27) _ _ (omega arith) tt))))))))))))))))

-- what is said of a verdict has at most 16 bytes
pub verdict_short : (code : ℕ) → length (verdict_field code) ≤ 16
unfolding verdict_field
verdict_short code = said (verdict_name code) (named_short code)
  where
    said : (name : Option (List ℕ)) → IsShort name → length (unwrap_or name []) ≤ 16
    said None short = omega arith
    said (Some name) short = short
