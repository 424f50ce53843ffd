use Rattle.std.proofs.Common.{◌≡◌, Err, sym, ap, ◌∙◌}
use Rattle.std.proofs.lemmas.Result.{err_from_is_err_and}
use Rattle.gate_client.specs.declared.fault.HearFault.TheVariants.{Refused}
use Rattle.gate_client.specs.declared.attempt.TryFault.TheVariants.{Unheard}
use Rattle.gate_client.proofs.enquiry.enquire_over.Goals as goal

-- the refusal was read over the line that was handed in
pub returns-in_err-holding-clause-refused : goal.returns-in_err-holding-clause-refused
returns-in_err-holding-clause-refused g c code is =
    let p = err_from_is_err_and c.from_residual.result c.from_residual.ensures.1 in
    let same : c.from_residual.result ≡ Err c.in_err-holding.field-0.0 = p.1 ∙ ap (λ fault. Err fault) p.2 in
    let both = sym same ∙ is in
    let fault : c.in_err-holding.field-0.0 ≡ Unheard (Refused code) = cc in
    record {
      begun = c.in-Some.line;
      left = record { reader = c.enquire.new.reader; writer = c.enquire.new.writer };
      one = c.in-Some.is;
      read = c.in_err-holding.ensures.refused code (ap (λ x. Err x) fault);
    }
