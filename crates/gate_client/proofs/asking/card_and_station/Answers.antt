use Rattle.std.proofs.Common.{◌≡◌, List, ℕ, sym, subst}
use Rattle.gate_client.specs.Asking.{IsNumber}
use Rattle.gate_client.proofs.asking.card_and_station.Goals as goal

-- the card is read, and the station behind it
pub returns-in_err-card-clause-only : goal.returns-in_err-card-clause-only
returns-in_err-card-clause-only c card station pair = absurd (c.in_err-card.ensures.only card pair.last pair.begins)

pub returns-in_err-station-clause-only : goal.returns-in_err-station-clause-only
returns-in_err-station-clause-only c card station pair =
    let same = c.in_ok-card.ensures.only card pair.last pair.begins in
    let never = c.in_err-station.ensures.only station
    (subst (λ (l : List ℕ). IsNumber 16 l station) (sym same.1) pair.number) in
    absurd cc

pub returns-clause-only : goal.returns-clause-only
returns-clause-only c card station pair =
    let same = c.in_ok-card.ensures.only card pair.last pair.begins in
    let first : c.in_ok-card.card ≡ card = same.0 in
    let is = c.in_ok-station.ensures.only station
    (subst (λ (l : List ℕ). IsNumber 16 l station) (sym same.1) pair.number) in
    cc
