-- The faults that end the settling of a touch, and their text (PROTOCOL.md, "Faults";
-- FAULTS.md; this project's choice).
use Rattle.std.specs.Prelude.{codes, ℕ, ◌==◌, if◌then◌else◌, List, ◌++◌, Option, Some, None}
use Rattle.std.specs.Fmt.{decimal}
use Rattle.gate_session.specs.declared.answer.FaultCode.TheVariants as faults
use Rattle.gate_session.specs.Answers.{fault_code}
use Rattle.gate_client.specs.declared.fault.HearFault.TheVariants.{Refused}
use Rattle.gate_client.specs.declared.attempt.TryFault.{TryFault}
use Rattle.gate_client.specs.declared.attempt.TryFault.TheVariants.{Unheard}
use Rattle.gate_client.specs.declared.settling.SettleFault.{SettleFault}
use Rattle.gate_client.specs.declared.settling.SettleFault.TheVariants.{Conflict, Full}
use Rattle.gate_client.specs.declared.settling.SettleFault.TheVariants.{UnknownTable, NotAllowed}
use Rattle.gate_client.specs.declared.settling.SettleFault.TheVariants.{Tries}

-- what a fault prints behind `fault `
abbrev pub printed_settle_fault : SettleFault → List ℕ
printed_settle_fault Conflict = codes "answer 2 Conflict"
printed_settle_fault Full = codes "answer 5 Full"
printed_settle_fault UnknownTable = codes "answer 6 UnknownTable"
printed_settle_fault NotAllowed = codes "answer 7 NotAllowed"
printed_settle_fault (Tries tries) = codes "tries " ++ decimal tries

-- the fault is the station's answer, and not that there was none
abbrev pub IsAnswer : SettleFault → Type 0
IsAnswer Conflict = Unit {0}
IsAnswer Full = Unit {0}
IsAnswer UnknownTable = Unit {0}
IsAnswer NotAllowed = Unit {0}
IsAnswer (Tries tries) = ⊥

-- an answer of the station that repeats don't change
abbrev pub last_answer : ℕ → Option SettleFault
last_answer code =
    if code == fault_code faults.Conflict then Some Conflict
    else if code == fault_code faults.Full then Some Full
    else if code == fault_code faults.UnknownTable then Some UnknownTable
    else if code == fault_code faults.NotAllowed then Some NotAllowed
    else None

-- a try's fault ends the settling where it is such an answer
abbrev pub last_fault : TryFault → Option SettleFault
last_fault (Unheard (Refused code)) = last_answer code
last_fault _ = None
