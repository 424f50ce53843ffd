use Rattle.std.proofs.Common.{refl, subst}
use Rattle.text_io.specs.Writing.{IsBeginning}
use Rattle.gate_law.proofs.SettledLemmas.{settled, round-heard, round-unheard, round-none}
use Rattle.gate_law.proofs.round.settle_in_memory.Goals as goal

-- no memory: nothing was done
pub returns-in_default-clause-steps : goal.returns-in_default-clause-steps
returns-in_default-clause-steps g c station gate cards s touch keeps shows waits =
    round-none gate cards s touch _ c.args.client.now c.args.client.now (station c.args.clerk.now) shows refl

pub returns-in-Ok-hear_in-clause-ok : goal.returns-in-Ok-hear_in-clause-ok
returns-in-Ok-hear_in-clause-ok g c station asked touch keeps has waits legal =
    settled g.C.Clerk.gives station keeps touch c.in-Ok.frame.items c.brought.result.now c.served-text.result.items
    c.brought-2.result.now c.args.clerk.now c.served-text.new.clerk (c.in-Ok.ensures.fits touch waits)
    (c.in-Ok.ensures.written touch waits)
    (subst (IsBeginning c.brought.result.now) c.deref.ensures.value c.brought.ensures) c.served-text.ensures asked
    c.args.client.now c.hear_in.new.self c.in-Ok-hear_in.reply has waits legal (c.in-Ok-hear_in.ensures.asked asked has)
    c.in-Ok-hear_in.ensures.answered
    (subst (IsBeginning c.brought-2.result.now) c.deref-2.ensures.value c.brought-2.ensures)
    (c.in-Ok-hear_in.ensures.reply touch waits) c.in-Ok-hear_in.ensures.fits

pub returns-in-Ok-hear_in-clause-steps : goal.returns-in-Ok-hear_in-clause-steps
returns-in-Ok-hear_in-clause-steps g c station gate cards s touch keeps shows waits =
    round-heard g.C.Clerk.gives station keeps.does keeps.fitting touch c.in-Ok.frame.items c.brought.result.now
    c.served-text.result.items c.args.clerk.now c.served-text.new.clerk (c.in-Ok.ensures.fits touch waits)
    (c.in-Ok.ensures.written touch waits)
    (subst (IsBeginning c.brought.result.now) c.deref.ensures.value c.brought.ensures) c.served-text.ensures gate cards
    s c.args.client.now shows waits c.hear_in.new.self c.brought-2.result.now c.in-Ok-hear_in.reply (record {
      waited = waits;
      answered = c.in-Ok-hear_in.ensures.answered;
      kept = c.in-Ok-hear_in.ensures.asked s.asked shows.gate_is.asked;
    })
    (subst (IsBeginning c.brought-2.result.now) c.deref-2.ensures.value c.brought-2.ensures)
    (c.in-Ok-hear_in.ensures.reply touch waits) c.in-Ok-hear_in.ensures.fits

-- nothing was heard
pub returns-clause-steps : goal.returns-clause-steps
returns-clause-steps g c station gate cards s touch keeps shows waits =
    round-unheard g.C.Clerk.gives station keeps.does keeps.fitting touch c.in-Ok.frame.items c.brought.result.now
    c.served-text.result.items c.args.clerk.now c.served-text.new.clerk (c.in-Ok.ensures.fits touch waits)
    (c.in-Ok.ensures.written touch waits)
    (subst (IsBeginning c.brought.result.now) c.deref.ensures.value c.brought.ensures) c.served-text.ensures gate cards
    s c.args.client.now shows waits c.hear_in.new.self _ c.in-Err.ensures.kept
