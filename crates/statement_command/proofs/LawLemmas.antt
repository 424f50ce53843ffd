-- The sums of a statement without a last day are those of the card's row of `balances`.
use Rattle.std.proofs.Common.{◌≡◌, ℕ, Bool, true, List, [], ◌∷◌, filter, refl, sym, ap, ◌∙◌, pos, ◌-ℤ◌, sum_by, None}
use Rattle.std.proofs.lemmas.Bool.{cond-true}
use Rattle.oyster_account.specs.declared.touch.Act.{Act}
use Rattle.oyster_account.specs.History.{accepted}
use Rattle.oyster_account.specs.Scheme.{Scheme}
use Rattle.oyster_account.specs.Travel.{travel}
use Rattle.oyster_account.specs.Balance.{pence_paid}
use Rattle.oyster_account.specs.Charge.{travel_charge}
use Rattle.reply_book.specs.Tables.{scheme_after}
use Rattle.card_statement.specs.declared.statement.TopUp.{TopUp}
use Rattle.card_statement.specs.Day.{DayContent, day_rows, pence_charged}
use Rattle.card_statement.specs.Statement.{top_up_rows, pence_in_row}
use Rattle.card_statement.proofs.StatementLemmas.{days-sum, top-ups-sum}
use Rattle.statement_command.specs.declared.days.Days.{Days}
use Rattle.statement_command.specs.Days.{is_up_to_last, is_to}
use Rattle.statement_command.specs.Lines.{paid_up_to, charged_up_to}
use Rattle.statement_command.specs.Laws.{AreSumsOfBalances}

all-kept : {X : Type 0} (p : X → Bool) (xs : List X) → ((x : X) → p x ≡ true) → filter p xs ≡ xs
all-kept p [] all = refl
all-kept p (x ∷ xs) all =
    cond-true (p x) (x ∷ filter p xs) (filter p xs) (all x) ∙ ap (λ l. x ∷ l) (all-kept p xs all)

module _ (scheme : Scheme) (acts : List Act) (days : Days) (none : days.to ≡ None) where
  paid-all : paid_up_to days (top_up_rows scheme acts) ≡ sum_by pence_paid acts
  paid-all =
      ap (sum_by pence_in_row) (all-kept (λ (top_up : TopUp). is_up_to_last days top_up.stamp.day)
      (top_up_rows scheme acts) (λ top_up. ap (λ to. is_to to top_up.stamp.day) none))
      ∙ top-ups-sum scheme acts

  charged-all : charged_up_to days (day_rows scheme (travel scheme acts)) ≡ travel_charge scheme (travel scheme acts)
  charged-all =
      ap (sum_by pence_charged) (all-kept (λ (row : DayContent). is_up_to_last days row.day)
      (day_rows scheme (travel scheme acts)) (λ row. ap (λ to. is_to to row.day) none))
      ∙ days-sum scheme (travel scheme acts)

pub sums-of-balances : AreSumsOfBalances
sums-of-balances tables cards history card days account none =
    let scheme : Scheme = scheme_after tables history in
    let acts : List Act = accepted card history in
    let paid = paid-all scheme acts days none in
    let charged = charged-all scheme acts days none in
    record {
      paid_in = paid ∙ sym account.paid_in;
      charged = ap pos charged ∙ sym account.charged;
      balance = ap (λ (n : ℕ). pos n -ℤ pos (charged_up_to days (day_rows scheme (travel scheme acts)))) paid
          ∙ ap (λ (n : ℕ). pos (sum_by pence_paid acts) -ℤ pos n) charged ∙ sym account.holds;
    }
