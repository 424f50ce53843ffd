-- What comes of a touch that a gate has given up, whatever gate and station do then (PROOFS.md, "A
-- gate and its station"; this project's choice).
use Rattle.std.specs.Prelude.{◌≡◌, ◌≢◌, ℕ, ◌==◌, Bool, true, List, ◌++◌, filter, Contains}
use Rattle.oyster_account.specs.declared.touch.Touch.{Touch}
use Rattle.oyster_account.specs.declared.reply.Judged.{Judged}
use Rattle.gate_law.specs.Joint.{Joint, is_given_up}
use Rattle.gate_law.specs.Agreement as one_gate
use Rattle.gate_law.specs.Whole.{Whole, Refusal, view_of}
use Rattle.gate_law.specs.WholeAgreement.{IsRun, IsStart}

-- what was told of the touch of this number
abbrev pub told_of : ℕ → List Judged → List Judged
told_of number told = filter (λ judged. judged.touch.number == number) told

-- and the faults that were told of it
abbrev pub refused_of : ℕ → List Refusal → List Refusal
refused_of number refused = filter (λ refusal. refusal.touch.number == number) refused

-- between two states the touch of this number was left alone: it is given up still, no more was
-- told of it, and of what was sent since nothing is this gate's touch of that number
pub record IsLeftAlone (gate number : ℕ) (old new : Joint) : Type 0 where
  pub given_up : is_given_up new.asked number ≡ true
  pub told : told_of number new.told ≡ told_of number old.told
  pub since : List Touch
  pub sent : new.sent ≡ old.sent ++ since
  pub never : (touch : Touch) → Contains since touch → touch.gate ≡ gate → touch.number ≢ number

-- what a gate has given up is left alone: so it is on every further run
abbrev pub IsGivenUpForGood : Type 0
IsGivenUpForGood =
    (gate cards number : ℕ) (old mid new : Joint) (before after : List Joint)
    → one_gate.IsStart gate cards old → one_gate.IsRun gate cards old before mid
    → one_gate.IsRun gate cards mid after new → is_given_up mid.asked number ≡ true
    → IsLeftAlone gate number mid new

-- of all gates: it is left alone, and no more faults were told of it either
pub record IsLeftToItself (gate number : ℕ) (old new : Whole) : Type 0 where
  pub alone : IsLeftAlone gate number (view_of gate old) (view_of gate new)
  pub refused :
      refused_of number (new.gates gate).refused ≡ refused_of number (old.gates gate).refused

-- so it is of each gate that has its number to itself
abbrev pub IsEachGivenUpForGood : Type 0
IsEachGivenUpForGood =
    (alone : ℕ → Bool) (cards gate number : ℕ) (old mid new : Whole) (before after : List Whole)
    → IsStart alone cards old → IsRun alone cards old before mid → IsRun alone cards mid after new
    → alone gate ≡ true → is_given_up (mid.gates gate).file number ≡ true
    → IsLeftToItself gate number mid new
