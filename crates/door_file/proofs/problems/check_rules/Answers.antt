use Rattle.std.proofs.Common.{◌+◌, arith, ◌∙◌}
use Rattle.std.proofs.lemmas.Grind.{common_steps}
use Rattle.door_file.proofs.RulesLemmas.{rules-found-after}
use Rattle.door_file.proofs.problems.check_rules.Goals as goal

pub returns-in-Err-clause-fault : goal.returns-in-Err-clause-fault
returns-in-Err-clause-fault c = λ other.
    c.loop-place.invariant
    ∙ rules-found-after (c.loop-place.place + 1) c.args.rules.now c.loop-place.place c.index-rules-place.result
    (omega arith) c.index-rules-place.is c.in-Err.fault _ (grind (arith, common_steps)) (c.in-Err.ensures.fault other)
