use Rattle.gate_law.proofs.GateLemmas.{opens, opens-after, opens-given_up}
use Rattle.gate_law.proofs.laws_of_calls.opening_is_a_step.Goals as goal

pub returns-clause-kept : goal.returns-clause-kept
returns-clause-kept g c = opens c.args.opened.now

pub returns-clause-after_asking : goal.returns-clause-after_asking
returns-clause-after_asking g c = opens-after c.args.old.now c.args.opened.now

pub returns-clause-after_giving_up : goal.returns-clause-after_giving_up
returns-clause-after_giving_up g c = opens-given_up c.args.old.now c.args.opened.now
