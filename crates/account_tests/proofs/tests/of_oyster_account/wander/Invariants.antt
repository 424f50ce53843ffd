use Rattle.std.proofs.Common.{◌≤◌, List}
use Rattle.oyster_account.specs.declared.reply.Judged.{Judged}
use Rattle.oyster_account.specs.Scheme.{scheme_of}
use Rattle.oyster_account.specs.Standing.{StandsFor, touches_in}
use Rattle.account_tests.proofs.tests.of_oyster_account.wander.Given as goal

-- the card stands for the touches so far
abbrev pub invariant-loop-touch : goal.invariant-loop-touch
invariant-loop-touch g l =
    (touches_in l.card ≤ l.touch) × ((history : List Judged) × StandsFor (scheme_of l.schedule) 1 history l.card)
