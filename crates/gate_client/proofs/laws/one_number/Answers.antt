use Rattle.std.proofs.Common.{◌≡◌, ◌∙◌, sym, ap, arith}
use Rattle.std.specs.Prelude.{slice_get}
use Rattle.gate_client.proofs.NumberLemmas.{by-number}
use Rattle.gate_client.proofs.FrameLemmas.{one_some}
use Rattle.gate_client.proofs.laws.one_number.Goals as goal

-- both stand at the place of their number
pub returns : goal.returns
returns c gate i j touches a b all at_i at_j same =
    let x = by-number gate i touches a (all i a at_i) at_i in
    let y = by-number gate j touches b (all j b at_j) at_j in
    let place : x.0 ≡ y.0 = omega (arith, x.2, y.2, same) in
    one_some (sym x.1 ∙ ap (slice_get touches) place ∙ y.1)
