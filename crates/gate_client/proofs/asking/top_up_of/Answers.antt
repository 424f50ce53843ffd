use Rattle.std.proofs.Common.{◌≡◌, List, ℕ, sym, subst}
use Rattle.gate_client.specs.Asking.{IsNumber}
use Rattle.gate_client.proofs.asking.top_up_of.Goals as goal

-- the card is read, and the pence behind it
pub returns-in_err-card-clause-only : goal.returns-in_err-card-clause-only
returns-in_err-card-clause-only c card pence pair = absurd (c.in_err-card.ensures.only card pair.last pair.begins)

pub returns-in_err-pence-clause-only : goal.returns-in_err-pence-clause-only
returns-in_err-pence-clause-only c card pence pair =
    let same = c.in_ok-card.ensures.only card pair.last pair.begins in
    let never = c.in_err-pence.ensures.only pence
    (subst (λ (l : List ℕ). IsNumber 32 l pence) (sym same.1) pair.number) in
    absurd cc

pub returns-clause-only : goal.returns-clause-only
returns-clause-only c card pence pair =
    let same = c.in_ok-card.ensures.only card pair.last pair.begins in
    let first : c.in_ok-card.card ≡ card = same.0 in
    let is = c.in_ok-pence.ensures.only pence
    (subst (λ (l : List ℕ). IsNumber 32 l pence) (sym same.1) pair.number) in
    cc
