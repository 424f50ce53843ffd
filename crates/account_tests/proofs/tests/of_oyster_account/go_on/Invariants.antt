use Rattle.std.proofs.Common.{◌≡◌, ◌+◌, List}
use Rattle.oyster_account.specs.declared.reply.Judged.{Judged}
use Rattle.oyster_account.specs.Scheme.{scheme_of}
use Rattle.oyster_account.specs.Standing.{StandsFor, touches_in}
use Rattle.account_tests.proofs.tests.of_oyster_account.go_on.Given as goal

-- the card stands for the touches so far
abbrev pub invariant-loop-step : goal.invariant-loop-step
invariant-loop-step g l =
    (touches_in l.card ≡ touches_in l.initial.card + l.step-index)
    × ((history : List Judged) × StandsFor (scheme_of l.schedule) 1 history l.card)
