-- A commit as steps of a station (OFFICE.md, "A commit"; PROOFS.md, "A gate and its
-- station").
use Rattle.std.specs.Prelude.{ℕ, Bool, List, [], ◌∷◌, ◌++◌, Result, Ok, Err}
use Rattle.oyster_account.specs.declared.touch.Touch.{Touch}
use Rattle.gate_session.specs.declared.answer.Answer.{Answer}
use Rattle.gate_session.specs.declared.answer.Answer.TheVariants as answers
use Rattle.gate_session.specs.declared.answer.FaultCode.{FaultCode}
use Rattle.gate_session.specs.declared.answer.FaultCode.TheVariants as codes
use Rattle.gate_session.specs.Answers.{fault_code}
use Rattle.tap_desk.specs.declared.copy_version.LogName.{Ghosts}
use Rattle.tap_office.specs.declared.receipt.Receipt.{Receipt}
use Rattle.tap_office.specs.declared.fault.SubmitFault.{SubmitFault}
use Rattle.tap_office.specs.declared.fault.SubmitFault.TheVariants as faults
use Rattle.tap_office.specs.Name.{Opened}
use Rattle.tap_office.specs.Keeper.{KeeperState}
use Rattle.gate_law.specs.Whole.{Station, Whole}
use Rattle.gate_law.specs.WholeAgreement.{IsRun}
use Rattle.station_calls.specs.Shown.{IsShownBy}

-- the fault that a gate is sent for a fault of the keeper: the one of the same name
abbrev pub code_of : SubmitFault → FaultCode
code_of faults.Conflict = codes.Conflict
code_of faults.Halted = codes.Halted
code_of faults.Memory = codes.Memory
code_of faults.Full = codes.Full
code_of faults.UnknownTable = codes.UnknownTable

-- what a gate is written of a commit: the reply, or the fault, under the touch's gate and number
abbrev pub answer_to :
    {N : Type 0} {g : Ghosts N} → Touch → Result (Receipt N g) SubmitFault → Answer
answer_to touch (Ok receipt) = answers.Reply touch.gate touch.number receipt.reply
answer_to touch (Err fault) = answers.Fault (fault_code (code_of fault)) touch.gate touch.number

-- the whole with this station, and with an answer more
abbrev pub answered_in : Whole → Station → Answer → Whole
answered_in whole station answer =
    record whole { station = station; answers = whole.answers ++ answer ∷ [] }

-- there is a run of steps to a whole with this answer more, in which nothing but the station has
-- changed beside, and which the keeper shows
pub record IsCommitRun {D : Type 0} (alone : ℕ → Bool) (honest : D → Type 0)
    (outcome : D → List ℕ → Type 0) (opened : Opened) (whole : Whole) (answer : Answer)
    (keeper : KeeperState D) : Type 0 where
  pub station : Station
  pub between : List Whole
  pub run : IsRun alone opened.header.cards whole between (answered_in whole station answer)
  pub shown : IsShownBy honest outcome opened keeper (answered_in whole station answer)
