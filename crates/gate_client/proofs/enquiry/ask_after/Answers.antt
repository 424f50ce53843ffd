use Rattle.std.proofs.Common.{◌≡◌, Some, Err, ap, ◌∙◌, sym}
use Rattle.gate_session.specs.declared.answer.FaultCode.TheVariants as faults
use Rattle.gate_session.specs.Answers.{fault_code}
use Rattle.gate_client.specs.declared.enquiry.EnquireFault.TheVariants.{NotAllowed}
use Rattle.gate_client.proofs.SettlingLemmas.{begun_by, not_allowed-is, refused_by_line}
use Rattle.gate_client.proofs.enquiry.ask_after.Goals as goal

-- the line of the last try was the one at hand, or was made
pub returns-in-Ok-clause-answered : goal.returns-in-Ok-clause-answered
returns-in-Ok-clause-answered g c =
    let done = c.in-Ok.ensures.answered in (
      done.0,
      begun_by g.S.Station.made c.loop.ready c.args.line c.line_for-line.result done.0 c.line_for-line.ensures
          c.loop.invariant done.1,
      done.2,
    )

-- and over it the refusal was read
pub returns-in-Some-clause-refused : goal.returns-in-Some-clause-refused
returns-in-Some-clause-refused g c is =
    let last : c.in-Some.last ≡ NotAllowed = cc in
    let fault = not_allowed-is c.in-Err.fault (sym c.in-Some.ensures ∙ ap (λ x. Some x) last) in
    refused_by_line g.R.Read.remaining g.S.Station.made c.loop.ready c.args.line c.line_for-line.result
    (fault_code faults.NotAllowed) c.line_for-line.ensures c.loop.invariant
    (c.in-Err.ensures.refused (fault_code faults.NotAllowed) (ap (λ x. Err x) fault))
