-- What the accepted touches of a card paid in, took from it and gave back (FARES.md, "Accepted
-- and refused" and "Verdicts"; that a statement of a card has these sums is this project's choice).
use Rattle.std.specs.Prelude.{◌≡◌, ◌≤◌, ℕ, suc, ◌+◌, ◌*◌, ◌^◌, ℤ, pos, negsuc, ◌-ℤ◌, List, filter}
use Rattle.std.specs.Prelude.{sum_by, slice_get, Some}
use Rattle.station_limits.specs.declared.limits.TheConstants.{HISTORY_LIMIT}
use Rattle.oyster_account.specs.declared.touch.Act.{Act}
use Rattle.oyster_account.specs.declared.touch.Act.TheVariants.{Enter, Leave, TopUp, Issue, Revise}
use Rattle.oyster_account.specs.declared.reply.Judged.{Judged}
use Rattle.oyster_account.specs.History.{counts_for}
use Rattle.oyster_account.specs.Balance.{pence_paid}
use Rattle.journal_audit.specs.declared.balances.sums.Sums.{Sums}

-- how far a change is below 0
abbrev pub fall : ℤ → ℕ
fall (pos n) = 0
fall (negsuc n) = suc n

-- how far a change is above 0
abbrev pub rise : ℤ → ℕ
rise (pos n) = n
rise (negsuc n) = 0

-- what an act takes from its card: how far its change is below 0, but nothing where money is paid
-- in
abbrev pub pence_taken : Act → ℤ → ℕ
pence_taken (Enter station moment) change = fall change
pence_taken (Leave station moment) change = fall change
pence_taken (TopUp pence moment) change = 0
pence_taken (Issue moment) change = fall change
pence_taken (Revise day moment digest) change = fall change

-- what an act gives back to its card: how far its change is above 0, but nothing where money is
-- paid in
abbrev pub pence_returned : Act → ℤ → ℕ
pence_returned (Enter station moment) change = rise change
pence_returned (Leave station moment) change = rise change
pence_returned (TopUp pence moment) change = 0
pence_returned (Issue moment) change = rise change
pence_returned (Revise day moment digest) change = rise change

-- what a touch paid in, took and gave back
abbrev pub moved : Judged → Sums
moved judged = record {
  paid_in = pence_paid judged.touch.act;
  taken = pence_taken judged.touch.act judged.reply.change;
  returned = pence_returned judged.touch.act judged.reply.change;
}

-- the sums over some touches
abbrev pub sums_over : List Judged → Sums
sums_over judged = record {
  paid_in = sum_by (λ j. pence_paid j.touch.act) judged;
  taken = sum_by (λ j. pence_taken j.touch.act j.reply.change) judged;
  returned = sum_by (λ j. pence_returned j.touch.act j.reply.change) judged;
}

-- the sums over the accepted touches of a card
unfoldable pub sums_of : ℕ → List Judged → Sums
sums_of card history = sums_over (filter (counts_for card) history)

-- what a card was charged: what was taken from it, less what was given back
abbrev pub charge_in : Sums → ℤ
charge_in sums = pos sums.taken -ℤ pos sums.returned

-- what is left of what was paid in: that less what was charged
abbrev pub left_in : Sums → ℤ
left_in sums = pos sums.paid_in -ℤ charge_in sums

-- these sums and those together
abbrev pub plus : Sums → Sums → Sums
plus sums more = record {
  paid_in = sums.paid_in + more.paid_in;
  taken = sums.taken + more.taken;
  returned = sums.returned + more.returned;
}

-- how many pence were moved, in whatever way
abbrev pub pence_moved : Sums → ℕ
pence_moved sums = sums.paid_in + sums.taken + sums.returned

-- the most that so many touches move: each has a change and an amount of 32 bits
abbrev pub most_moved : ℕ → ℕ
most_moved touches = touches * 2 ^ 32

-- all that was moved is within what a longest history moves
abbrev pub AreMeasured : List Sums → Type 0
AreMeasured all = sum_by pence_moved all ≤ most_moved HISTORY_LIMIT

-- the sums at place k are those of card number k + 1
abbrev pub AreSumsOf : List Judged → List Sums → Type 0
AreSumsOf history all = (place : ℕ) (sums : Sums) → slice_get all place ≡ Some sums
    → sums ≡ sums_of (place + 1) history
