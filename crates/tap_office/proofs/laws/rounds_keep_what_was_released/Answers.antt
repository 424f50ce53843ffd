use Rattle.tap_office.proofs.RoundLemmas.{earlier_begins, kept_in}
use Rattle.tap_office.proofs.laws.rounds_keep_what_was_released.Goals as goal

pub returns : goal.returns
returns c =
    λ h rounds are i j earlier later less at_i at_j.
    kept_in h earlier later (earlier_begins h are.0 rounds i j earlier later are.1 less at_i at_j)
