use Rattle.std.proofs.Common.{List, ℕ, Some, None, sym, subst}
use Rattle.gate_client.specs.Asking.{IsNumber}
use Rattle.gate_client.proofs.AskingLemmas.{number_cut}
use Rattle.gate_client.proofs.asking.number_before.Goals as goal

-- the text is cut behind its number, and that is read
pub returns-in_err-digits-clause-only : goal.returns-in_err-digits-clause-only
returns-in_err-digits-clause-only c n rest begins =
    absurd (number_cut c.args.text.now n rest None c.in_err-digits.ensures.cases begins)

pub returns-in_err-number-clause-only : goal.returns-in_err-number-clause-only
returns-in_err-number-clause-only c n rest begins =
    let cut = number_cut c.args.text.now n rest (Some (c.in_ok-digits.digits, c.in_ok-digits.rest))
    c.in_ok-digits.ensures.cases begins in
    let never = c.in_err-number.ensures.only n (subst (λ (l : List ℕ). IsNumber 32 l n) (sym cut.0) begins.number) in
    absurd cc

pub returns-clause-only : goal.returns-clause-only
returns-clause-only c n rest begins =
    let cut = number_cut c.args.text.now n rest (Some (c.in_ok-digits.digits, c.in_ok-digits.rest))
    c.in_ok-digits.ensures.cases begins in
    let is = c.in_ok-number.ensures.only n (subst (λ (l : List ℕ). IsNumber 32 l n) (sym cut.0) begins.number) in
    (cc, cut.1)
