use Rattle.std.proofs.Common.{◌≡◌, true, take, sym, subst}
use Rattle.std.proofs.lemmas.List.{take_more}
use Rattle.std.proofs.lemmas.List.Elements.{All-more}
use Rattle.oyster_account.specs.declared.reply.Judged.{Judged}
use Rattle.oyster_account.specs.Scheme.{scheme_of}
use Rattle.oyster_account.specs.History.{counts_for}
use Rattle.card_statement.specs.Known.{IsActKnown}
use Rattle.card_statement.specs.Ready.{IsLastOf}
use Rattle.card_statement.proofs.statement.Statement.is_ready.Goals as goal

-- A touch that goes on from the last one is one more.
pub loop-judged-preserved : goal.loop-judged-preserved
loop-judged-preserved c =
    let scheme = scheme_of c.args.schedule.now in
    let touches = c.args.touches.now in
    let at = c.loop-judged.judged-index in
    record {
      order = subst (λ l. IsLastOf scheme c.args.card l c.goes_on.new.last)
          (sym (take_more touches at _ c.loop-judged-test.true))
          (c.in_ok-goes_on.ensures.order (take at touches) c.loop-judged.invariant.order c.if-not-branch.false);
      known = All-more
          (λ (one : Judged). counts_for c.args.card one ≡ true → IsActKnown scheme one.touch.act) touches at _
          c.loop-judged-test.true c.loop-judged.invariant.known
          (c.in_ok-goes_on.ensures.known c.if-not-branch.false);
    }
