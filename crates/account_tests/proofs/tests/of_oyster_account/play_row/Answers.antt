use Rattle.std.proofs.Common.{arith, []}
use Rattle.oyster_account.specs.Scheme.{scheme_of}
use Rattle.account_tests.proofs.tests.of_oyster_account.play_row.Goals as goal

-- A vacant card stands for no touches.
pub go_on-requires-clause-few : goal.go_on-requires-clause-few
go_on-requires-clause-few g c =
    let stands = c.vacant-card.ensures (scheme_of c.args.schedule.now) 1 in
    omega (arith, stands.count, c.requires.first)

pub go_on-requires-clause-stands : goal.go_on-requires-clause-stands
go_on-requires-clause-stands g c = ([], c.vacant-card.ensures (scheme_of c.args.schedule.now) 1)

pub go_on-requires-2-clause-few : goal.go_on-requires-2-clause-few
go_on-requires-2-clause-few g c =
    let stands = c.vacant-card.ensures (scheme_of c.args.schedule.now) 1 in
    omega (arith, stands.count, c.in_ok-go_on.ensures.count, c.requires.first, c.requires.row)
