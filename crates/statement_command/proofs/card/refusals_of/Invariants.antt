use Rattle.std.proofs.Common.{◌≡◌, ◌++◌, drop}
use Rattle.std.specs.List.{filter_map}
use Rattle.oyster_account.specs.Scheme.{scheme_of}
use Rattle.statement_command.specs.Card.{refusal_of}
use Rattle.statement_command.proofs.card.refusals_of.Given as goal

-- the refusals so far and those of the touches that are left are those of all touches
abbrev pub invariant-loop-judged : goal.invariant-loop-judged
invariant-loop-judged l =
    l.refusals.items ++ filter_map (refusal_of (scheme_of l.schedule) l.card) (drop l.judged-index l.touches)
    ≡ filter_map (refusal_of (scheme_of l.schedule) l.card) l.touches
