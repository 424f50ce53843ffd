use Rattle.std.proofs.Common.{arith, []}
use Rattle.oyster_account.specs.Scheme.{scheme_of}
use Rattle.account_tests.proofs.tests.of_oyster_account.wander.Goals as goal

-- A vacant card stands for no touches.
pub loop-touch-init : goal.loop-touch-init
loop-touch-init g c =
    let stands = c.vacant-card.ensures (scheme_of c.args.schedule.now) 1 in
    (omega (arith, stands.count), ([], stands))
