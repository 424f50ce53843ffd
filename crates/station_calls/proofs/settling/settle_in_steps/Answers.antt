use Rattle.std.proofs.Common.{◌≡◌, Ok, Err, Some, sym, ◌∙◌, subst}
use Rattle.oyster_account.specs.declared.touch.Touch.{Touch}
use Rattle.oyster_account.specs.declared.reply.Reply.{Reply}
use Rattle.gate_session.specs.declared.answer.Answer.{Answer}
use Rattle.gate_session.specs.declared.answer.Answer.TheVariants as answers
use Rattle.gate_client.specs.declared.fault.HearFault.TheVariants.{Refused}
use Rattle.gate_client.specs.Client.{waits_of, answered}
use Rattle.station_calls.specs.Commits.{IsCommitRun}
use Rattle.station_calls.specs.Settled.{IsSettling}
use Rattle.gate_law.specs.declared.round.NoReplyFault.TheVariants.{Unheard}
use Rattle.station_calls.proofs.SettleLemmas.{unsent, settles, one-waits, one-reply, one-refused}
use Rattle.station_calls.proofs.SettleLemmas.{no-fault, no-reply}
use Rattle.station_calls.proofs.settling.settle_in_steps.Goals as goal

pub returns-in_default-send_in_steps : goal.returns-in_default-send_in_steps
returns-in_default-send_in_steps g c alone number whole touch waits gate station =
    unsent g.K.Disk.honest g.K.Disk.outcome alone g.N.Named.opened number whole touch c.args.client.now
    c.args.client.now c.args.keeper.now c.args.keeper.now waits station gate

pub returns-in-Ok-heard : goal.returns-in-Ok-heard
returns-in-Ok-heard g c alone number whole touch waits gate station =
    let opened = g.N.Named.opened in
    let old = c.args.client.now in
    let new = c.heard.new.client in
    let t = c.in-Some.touch in
    let mine : waits_of old ≡ Some t = sym c.waiting.ensures ∙ c.in-Some.is in
    let answer = c.answer_for-answer.result in
    let heard = c.in-Ok-heard.reply in
    subst (λ (x : Touch). IsSettling g.K.Disk.honest g.K.Disk.outcome alone opened number whole x (Ok heard) new
    c.commit_in_steps.new.keeper) (one-waits (waits_of old) t touch mine waits)
    (settles g.K.Disk.honest g.K.Disk.outcome alone opened number whole t old new c.args.keeper.now
    c.commit_in_steps.new.keeper mine station (Ok heard) answer
    (c.in-Ok.ensures.steps alone opened.header.cards number whole t gate mine)
    (λ w shown line.
    subst (λ (a : Answer). IsCommitRun alone g.K.Disk.honest g.K.Disk.outcome opened w a c.commit_in_steps.new.keeper)
    (sym c.answer_for-answer.ensures.value) (c.commit_in_steps.ensures.steps alone w shown line))
    c.heard.ensures.asked
    (λ reply is. (
      c.in-Ok-heard.ensures.answered,
      subst (λ (r : Reply). answer ≡ answers.Reply t.gate t.number r) (one-reply heard reply is)
          (c.in-Ok-heard.ensures.reply t mine (c.send_in_steps.ensures.fits t mine) c.answer_for-answer.ensures.fits),
    ))
    (λ fault is. no-fault (new ≡ old) heard fault is)
    (λ code is. no-fault (answer ≡ answers.Fault code t.gate t.number) heard (Unheard (Refused code)) is))

pub returns : goal.returns
returns g c alone number whole touch waits gate station =
    let opened = g.N.Named.opened in
    let old = c.args.client.now in
    let new = c.heard.new.client in
    let t = c.in-Some.touch in
    let mine : waits_of old ≡ Some t = sym c.waiting.ensures ∙ c.in-Some.is in
    let answer = c.answer_for-answer.result in
    subst (λ (x : Touch). IsSettling g.K.Disk.honest g.K.Disk.outcome alone opened number whole x
    (Err (Unheard c.in-Err.fault)) new c.commit_in_steps.new.keeper) (one-waits (waits_of old) t touch mine waits)
    (settles g.K.Disk.honest g.K.Disk.outcome alone opened number whole t old new c.args.keeper.now
    c.commit_in_steps.new.keeper mine station (Err (Unheard c.in-Err.fault)) answer
    (c.in-Ok.ensures.steps alone opened.header.cards number whole t gate mine)
    (λ w shown line.
    subst (λ (a : Answer). IsCommitRun alone g.K.Disk.honest g.K.Disk.outcome opened w a c.commit_in_steps.new.keeper)
    (sym c.answer_for-answer.ensures.value) (c.commit_in_steps.ensures.steps alone w shown line))
    c.heard.ensures.asked
    (λ reply is.
    no-reply ((new ≡ answered old) × (answer ≡ answers.Reply t.gate t.number reply)) (Unheard c.in-Err.fault) reply is)
    (λ fault is. c.in-Err.ensures.kept)
    (λ code is.
    c.in-Err.ensures.refused t code mine (c.send_in_steps.ensures.fits t mine) c.answer_for-answer.ensures.fits
    (one-refused c.in-Err.fault code is)))
