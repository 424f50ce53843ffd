use Rattle.account_tests.proofs.tests.of_oyster_account.give.Goals as goal

-- Making room leaves what the card stands for.
pub judge-requires-clause-stands : goal.judge-requires-clause-stands
judge-requires-clause-stands g c = (c.requires.stands.0, c.ready.ensures.same _ 1 _ c.requires.stands.1)

pub apply-reply-requires-clause-stands : goal.apply-reply-requires-clause-stands
apply-reply-requires-clause-stands g c = (c.requires.stands.0, c.ready.ensures.same _ 1 _ c.requires.stands.1)

-- The card stands for the history with the touch.
pub returns-clause-stands : goal.returns-clause-stands
returns-clause-stands g c =
    (_, c.apply-reply.ensures.stands c.requires.stands.0 (c.ready.ensures.same _ 1 _ c.requires.stands.1))
