-- What a gate and the station are together after a step: of that gate, or of another.
use Rattle.std.proofs.Common.{◌≡◌, ℕ, ◌==◌, Bool, true, false, cond, [], ◌∷◌, refl, sym, ap, ◌∙◌, subst}
use Rattle.reply_book.proofs.NameLemmas.{equal, equal-refl}
use Rattle.gate_law.specs.Joint.{Joint}
use Rattle.gate_law.specs.Steps.{Step}
use Rattle.gate_law.specs.Whole.{Gate, Whole, with_gate, view_by, view_of}
use Rattle.gate_law.specs.WholeAgreement.{LeadsTo}

-- the gate that was changed
pub with-own : (gates : ℕ → Gate) (number : ℕ) (gate : Gate) → with_gate gates number gate number ≡ gate
with-own gates number gate = ap (λ (b : Bool). cond b gate (gates number)) (equal-refl number)

-- and another one
pub with-other : (gates : ℕ → Gate) (number other : ℕ) (gate : Gate) → (other == number) ≡ false
    → with_gate gates number gate other ≡ gates other
with-other gates number other gate differs = ap (λ (b : Bool). cond b gate (gates other)) differs

-- nothing happens
pub stay : (gate cards : ℕ) (old new : Joint) → new ≡ old → LeadsTo gate cards old new
stay gate cards old new is = record { between = []; run = is }

-- one step
pub by_step : (gate cards : ℕ) (old new : Joint) → Step gate cards old new → LeadsTo gate cards old new
by_step gate cards old new step = record { between = new ∷ []; run = (step, refl) }

-- two steps
pub by_two : (gate cards : ℕ) (old mid new : Joint) → Step gate cards old mid → Step gate cards mid new
    → LeadsTo gate cards old new
by_two gate cards old mid new first second = record { between = mid ∷ new ∷ []; run = (first, (second, refl)) }

-- where a gate is changed, it goes where that leads, and each other one stays
module _ (cards : ℕ) (old new : Whole) (number : ℕ) (gate : Gate) where
  pub by_gate : new ≡ record old { gates = with_gate old.gates number gate }
      → LeadsTo number cards (view_of number old) (view_by gate old) → (other : ℕ)
      → LeadsTo other cards (view_of other old) (view_of other new)
  by_gate is lead other = by_test (other == number) refl
    where
      by_test : (b : Bool) → (other == number) ≡ b → LeadsTo other cards (view_of other old) (view_of other new)
      by_test true e =
          let own : view_of number new ≡ view_by gate old =
          ap (view_of number) is ∙ ap (λ (x : Gate). view_by x old) (with-own old.gates number gate) in
          let here = subst (LeadsTo number cards (view_of number old)) (sym own) lead in
          subst (λ (n : ℕ). LeadsTo n cards (view_of n old) (view_of n new)) (sym (equal other number e)) here
      by_test false e =
          stay other cards (view_of other old) (view_of other new)
          (ap (view_of other) is ∙ ap (λ (x : Gate). view_by x old) (with-other old.gates number other gate e))
