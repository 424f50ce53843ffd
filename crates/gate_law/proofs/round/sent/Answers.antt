use Rattle.gate_law.proofs.SettledLemmas.{sent_whole}
use Rattle.gate_law.proofs.round.sent.Goals as goal

pub returns-clause-written : goal.returns-clause-written
returns-clause-written g c touch waits =
    sent_whole c.new-frame.result.items c.send.new.writer.items touch c.new-frame.ensures.items
    (c.in_ok-send.ensures.written touch waits)
