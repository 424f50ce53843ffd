use Rattle.oyster_account.specs.Scheme.{scheme_of}
use Rattle.card_statement.proofs.making.gather.Goals as goal

-- Nothing was gathered of no touches.
pub loop-judged-init : goal.loop-judged-init
loop-judged-init c = record {
  ready = c.none-gathered.ensures.ready (scheme_of c.args.schedule.now);
  gathered = c.none-gathered.ensures.of (scheme_of c.args.schedule.now);
  top_ups = c.requires.none;
}
