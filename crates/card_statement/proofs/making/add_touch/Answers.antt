use Rattle.std.proofs.Common.{◌≡◌, List, reverse, sym, ◌∙◌, subst}
use Rattle.std.specs.Prelude.{IfOk}
use Rattle.oyster_account.specs.declared.touch.Act.{Act}
use Rattle.oyster_account.specs.Scheme.{scheme_of}
use Rattle.oyster_account.specs.Travel.{travel}
use Rattle.oyster_account.specs.History.{accepted}
use Rattle.card_statement.specs.Statement.{top_up_rows}
use Rattle.card_statement.specs.Gathered.{IsGathered}
use Rattle.card_statement.proofs.CountLemmas.{accepted-counted}
use Rattle.card_statement.proofs.making.add_touch.Goals as goal

-- A touch that counts is one accepted act more.
pub returns-then-counts_for-clause-gathered : goal.returns-then-counts_for-clause-gathered
returns-then-counts_for-clause-gathered c history of =
    let scheme = scheme_of c.args.schedule.now in
    subst
    (λ (acts : List Act). IfOk c.add_act.result (λ _. IsGathered scheme (travel scheme acts) c.add_act.new.gathered))
    (sym (accepted-counted c.args.card history c.args.judged.now (sym c.counts_for.ensures ∙ c.if-counts_for.true)))
    (c.add_act.ensures.gathered (accepted c.args.card history) of)

pub returns-then-counts_for-clause-top_ups : goal.returns-then-counts_for-clause-top_ups
returns-then-counts_for-clause-top_ups c history of =
    let scheme = scheme_of c.args.schedule.now in
    subst
    (λ (acts : List Act). IfOk c.add_act.result
    (λ _. c.add_act.new.top_ups.items ≡ reverse (top_up_rows scheme acts)))
    (sym (accepted-counted c.args.card history c.args.judged.now (sym c.counts_for.ensures ∙ c.if-counts_for.true)))
    (c.add_act.ensures.top_ups (accepted c.args.card history) of)
