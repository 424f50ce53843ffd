use Rattle.office_tests.proofs.tests.of_tap_desk.is_staged.Goals as goal

-- making room leaves the book standing
pub judge-judged-requires-clause-stands : goal.judge-judged-requires-clause-stands
judge-judged-requires-clause-stands g c = c.ready.ensures.stands c.requires.stands

pub stage-requires-clause-stands : goal.stage-requires-clause-stands
stage-requires-clause-stands g c = c.ready.ensures.stands c.requires.stands

-- what was judged is staged
pub stage-requires-clause-judged : goal.stage-requires-clause-judged
stage-requires-clause-judged g c = c.judge-judged.ensures.judged
