-- Where a line came from, and what was read over it of an enquiry.
use Rattle.std.proofs.Common.{◌≡◌, ◌⊎◌, inl, inr, Option, Some, None, IfSome, subst, sym, ap, ◌∙◌}
use Rattle.std.proofs.Common.{◌==◌, if◌then◌else◌, Bool, true, false, ℕ, List, arith, refl}
use Rattle.std.proofs.lemmas.Bool.Decides.{nat_tests}
use Rattle.gate_session.specs.declared.answer.FaultCode.TheVariants as faults
use Rattle.gate_session.specs.Answers.{fault_code}
use Rattle.gate_client.specs.declared.fault.HearFault.TheVariants.{NoAnswer, Stray, Refused}
use Rattle.gate_client.specs.declared.attempt.TryFault.{TryFault}
use Rattle.gate_client.specs.declared.attempt.TryFault.TheVariants.{Unreached, Cut, Unheard}
use Rattle.gate_client.specs.declared.settling.Line.{Line}
use Rattle.gate_client.specs.declared.enquiry.EnquireFault.TheVariants.{NotAllowed}
use Rattle.gate_client.specs.Tries.{IsTaken}
use Rattle.gate_client.specs.Enquiring.{IsRefusedOver, last_enquiry_fault}

-- the line at hand is the one that was handed in, or it was made
pub begun_by : {L : Type 0} (Made : L → Type 0) (ready line taken : Option L) (begun : L) → IsTaken Made ready taken
    → IfSome ready (λ one. line ≡ Some one) → taken ≡ Some begun → (line ≡ Some begun) ⊎ Made begun
begun_by Made (Some one) line taken begun has kept is =
    let same : Some one ≡ Some begun = sym has ∙ is in
    inl (kept ∙ same)
begun_by Made None line None begun has kept is = absurd cc
begun_by Made None line (Some one) begun has kept is = let same : one ≡ begun = cc in inr (subst Made same has)

-- the one fault that ends an enquiry
pub not_allowed-is : (fault : TryFault) → last_enquiry_fault fault ≡ Some NotAllowed
    → fault ≡ Unheard (Refused (fault_code faults.NotAllowed))
not_allowed-is Unreached is = absurd cc
not_allowed-is Cut is = absurd cc
not_allowed-is (Unheard NoAnswer) is = absurd cc
not_allowed-is (Unheard Stray) is = absurd cc
not_allowed-is (Unheard (Refused code)) is = by (code == fault_code faults.NotAllowed) refl is
  where
    same : (code == fault_code faults.NotAllowed) ≡ true → code ≡ fault_code faults.NotAllowed
    same e = grind (arith, nat_tests, e)

    by : (b : Bool) → (code == fault_code faults.NotAllowed) ≡ b
        → (if b then Some NotAllowed else None) ≡ Some NotAllowed
        → Unheard (Refused code) ≡ Unheard (Refused (fault_code faults.NotAllowed))
    by true e given = ap (λ (n : ℕ). Unheard (Refused n)) (same e)
    by false e given = absurd cc

-- a refusal over the line at hand is one over the line that was handed in, or over one that was made
pub refused_by_line : {R W : Type 0} (remaining : R → Option (List ℕ)) (Made : Line R W → Type 0)
    (ready line taken : Option (Line R W)) (code : ℕ) → IsTaken Made ready taken
    → IfSome ready (λ one. line ≡ Some one)
    → IsRefusedOver remaining (λ (begun : Line R W). taken ≡ Some begun) code
    → IsRefusedOver remaining (λ (begun : Line R W). (line ≡ Some begun) ⊎ Made begun) code
refused_by_line remaining Made ready line taken code has kept refused = record {
  begun = refused.begun;
  left = refused.left;
  one = begun_by Made ready line taken refused.begun has kept refused.one;
  read = refused.read;
}
