use Rattle.std.proofs.Common.{subst}
use Rattle.std.specs.Io.KnownBytes.{Appends}
use Rattle.gate_client.proofs.attempt.exchange.Goals as goal

-- the frame was sent whole, and the reply to it was heard
pub returns-in-Ok-hear-clause-settled : goal.returns-in-Ok-hear-clause-settled
returns-in-Ok-hear-clause-settled g c t waits =
    let wrote = c.in-Ok.ensures.written t waits in
    record {
      sent = subst (Appends (g.W.Write.contents c.args.writer.now) (g.W.Write.contents c.send.new.writer)) wrote.says
          wrote.appended;
      heard = c.in-Ok-hear.ensures.reply t waits;
    }
