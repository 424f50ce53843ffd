use Rattle.gate_session.specs.Answers.{answer_frame}
use Rattle.station_calls.proofs.SettleLemmas.{one-heard, fault-heard, whole-of}
use Rattle.station_calls.proofs.settling.heard.Goals as goal

pub returns-clause-reply : goal.returns-clause-reply
returns-clause-reply g c touch waits fits fit =
    let answer = c.args.answer.now in
    let wrote = c.write_into-size.ensures in
    one-heard c.hear_in.result touch answer _
    (whole-of c.write_into-size.new.out (answer_frame answer) _ c.write_into-size.result wrote.written wrote.length)
    fits fit c.hear_in.ensures.fits (c.hear_in.ensures.reply touch waits)

pub returns-clause-refused : goal.returns-clause-refused
returns-clause-refused g c touch code waits fits fit is =
    let answer = c.args.answer.now in
    let wrote = c.write_into-size.ensures in
    fault-heard touch answer code _
    (whole-of c.write_into-size.new.out (answer_frame answer) _ c.write_into-size.result wrote.written wrote.length)
    fits fit (c.hear_in.ensures.refused touch code waits is)
