use Rattle.std.proofs.Common.{◌≡◌, take, reverse}
use Rattle.oyster_account.specs.Scheme.{scheme_of}
use Rattle.oyster_account.specs.Travel.{travel}
use Rattle.oyster_account.specs.History.{accepted}
use Rattle.card_statement.specs.Gathered.{IsGathered, AreStartsKnown}
use Rattle.card_statement.specs.Statement.{top_up_rows}
use Rattle.card_statement.proofs.making.gather.Given as goal

-- what was gathered is of the touches so far
abbrev pub invariant-loop-judged : goal.invariant-loop-judged
invariant-loop-judged l = record {
  ready : AreStartsKnown (scheme_of l.schedule) l.gathered;
  gathered : IsGathered (scheme_of l.schedule)
      (travel (scheme_of l.schedule) (accepted l.card (take l.judged-index l.touches))) l.gathered;
  top_ups : l.top_ups.items
      ≡ reverse (top_up_rows (scheme_of l.schedule) (accepted l.card (take l.judged-index l.touches)));
}
