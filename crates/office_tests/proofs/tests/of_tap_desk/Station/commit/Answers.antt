use Rattle.std.proofs.Common.{rules}
use Rattle.office_tests.proofs.tests.of_tap_desk.Station.commit.Goals as goal

-- making room leaves the book standing
pub judge-judged-requires-clause-stands : goal.judge-judged-requires-clause-stands
judge-judged-requires-clause-stands g c = c.ready.ensures.stands c.self.invariant.3

pub stage-requires-clause-stands : goal.stage-requires-clause-stands
stage-requires-clause-stands g c = c.ready.ensures.stands c.self.invariant.3

-- what was judged is staged and entered
pub stage-requires-clause-judged : goal.stage-requires-clause-judged
stage-requires-clause-judged g c = c.judge-judged.ensures.judged

pub enter-requires-clause-stands : goal.enter-requires-clause-stands
enter-requires-clause-stands g c = c.ready.ensures.stands c.self.invariant.3

pub enter-requires-clause-judged : goal.enter-requires-clause-judged
enter-requires-clause-judged g c = c.judge-judged.ensures.judged

-- and leaves what is published
pub invariant_of-self : goal.invariant_of-self
invariant_of-self g c = (
  search rules,
  search rules,
  search rules,
  c.ready.ensures.stands c.self.invariant.3,
)

pub invariant_of-self-in_default-stage : goal.invariant_of-self-in_default-stage
invariant_of-self-in_default-stage g c = (
  search rules,
  search rules,
  search rules,
  c.ready.ensures.stands c.self.invariant.3,
)
