use Rattle.std.proofs.Common.{ℕ}
use Rattle.oyster_account.specs.declared.touch.Act.TheVariants.{Leave}
use Rattle.gate_client.proofs.AskingLemmas.{same_asked}
use Rattle.gate_client.proofs.asking.leave_of.Goals as goal

-- the card and the station are read
pub returns-in_err-card-clause-only : goal.returns-in_err-card-clause-only
returns-in_err-card-clause-only c card station pair =
    let never = c.in_err-card.ensures.only card station pair in absurd cc

pub returns-clause-only : goal.returns-clause-only
returns-clause-only c card station pair =
    same_asked (λ (n : ℕ). Leave n c.args.moment) c.in_ok-card.card c.in_ok-card.station card station
    (c.in_ok-card.ensures.only card station pair)
