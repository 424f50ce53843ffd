-- An enquiry over a line: which lines ask for one, what passes, and the line of its answer
-- (COMMANDS.md, "gate_send"; PROTOCOL.md, "Frames"; this project's choice).
use Rattle.std.specs.Prelude.{◌≡◌, ◌==◌, if◌then◌else◌, ℕ, List, ◌++◌, codes, Option, Some, None}
use Rattle.std.specs.Prelude.{Result, Ok, Err}
use Rattle.std.specs.Fmt.{decimal, signed_decimal}
use Rattle.std.specs.Io.KnownBytes.{Appends, Consumes}
use Rattle.oyster_account.specs.declared.reply.CardState.{CardState}
use Rattle.oyster_account.specs.declared.reply.CardState.TheVariants.{Vacant, Outside, Inside}
use Rattle.gate_session.specs.declared.request.Request.TheVariants as requests
use Rattle.gate_session.specs.declared.answer.Answer.TheVariants as answers
use Rattle.gate_session.specs.declared.answer.FaultCode.TheVariants as faults
use Rattle.gate_session.specs.Frames.{request_frame}
use Rattle.gate_session.specs.Answers.{answer_frame, fault_code}
use Rattle.text_io.specs.Writing.{IsCutShort}
use Rattle.gate_client.specs.Asking.{IsNumber, spaced}
use Rattle.gate_client.specs.declared.fault.HearFault.TheVariants.{Refused}
use Rattle.gate_client.specs.declared.fault.LineFault.{LineFault}
use Rattle.gate_client.specs.declared.settling.Line.{Line}
use Rattle.gate_client.specs.declared.attempt.TryFault.{TryFault}
use Rattle.gate_client.specs.declared.attempt.TryFault.TheVariants.{Unreached, Cut, Unheard}
use Rattle.gate_client.specs.declared.enquiry.Holding.{Holding}
use Rattle.gate_client.specs.declared.enquiry.EnquireFault.{EnquireFault}
use Rattle.gate_client.specs.declared.enquiry.EnquireFault.TheVariants.{NotAllowed, Tries}

-- a line asks what this card holds: `enquire 3`
pub record Enquires (line : List ℕ) (card : ℕ) : Type 0 where
  pub rest : List ℕ
  pub parts : line ≡ spaced (codes "enquire") rest
  pub number : IsNumber 32 rest card

-- the one frame of an enquiry
abbrev pub enquiry_frame : ℕ → List ℕ
enquiry_frame card = request_frame (requests.Enquire card)

-- what a sending wrote of an enquiry's frame: all of it, or a beginning of which some is missing
abbrev pub IsEnquired : ℕ → List ℕ → Result Unit LineFault → Type 0
IsEnquired card text (Ok sent) = text ≡ enquiry_frame card
IsEnquired card text (Err fault) = IsCutShort text (enquiry_frame card)

-- what a try wrote of it: all of it, but where it was cut a beginning, and nothing where there was
-- no line
abbrev pub HasEnquired : ℕ → List ℕ → Result Holding TryFault → Type 0
HasEnquired card text (Ok holding) = text ≡ enquiry_frame card
HasEnquired card text (Err Cut) = IsCutShort text (enquiry_frame card)
HasEnquired card text (Err (Unheard fault)) = text ≡ enquiry_frame card
HasEnquired card text (Err Unreached) = ⊥

-- the one frame of an enquiry's answer
abbrev pub holding_frame : Holding → List ℕ
holding_frame holding = answer_frame (answers.Holding holding.view holding.front)

-- between two moments of a line the enquiry's frame was written to it, and this answer was read,
-- and nothing else
pub record HasAnswered (card : ℕ) (holding : Holding) (unread left written after : Option (List ℕ))
    : Type 0 where
  pub sent : Appends written after (enquiry_frame card)
  pub heard : Consumes unread left (holding_frame holding)

-- over one of these lines a fault of this code was read that is of no touch, and nothing else
pub record IsRefusedOver {R W : Type 0} (remaining : R → Option (List ℕ))
    (IsOne : Line R W → Type 0) (code : ℕ) : Type 0 where
  pub begun : Line R W
  pub left : Line R W
  pub one : IsOne begun
  pub read : Consumes (remaining begun.reader) (remaining left.reader)
      (answer_frame (answers.Fault code 0 0))

-- where a card is, in a word
abbrev pub state_text : CardState → List ℕ
state_text Vacant = codes "vacant"
state_text Outside = codes "outside"
state_text Inside = codes "inside"

-- the fields of a reply's line: no number, station, pence or change stand there, and the card's
-- state in the place of a verdict
abbrev pub holding_text : ℕ → ℕ → Holding → List ℕ
holding_text gate card holding = decimal gate ++ (codes ",," ++ (decimal card
    ++ (codes ",enquiry,,," ++ (state_text holding.view.state
    ++ (codes ",," ++ signed_decimal holding.view.balance)))))

-- what a fault prints behind `fault enquiry `
abbrev pub printed_enquire_fault : EnquireFault → List ℕ
printed_enquire_fault NotAllowed = codes "answer 7 NotAllowed"
printed_enquire_fault (Tries tries) = codes "tries " ++ decimal tries

-- a try's fault ends the asking where it is the answer that the enquiry isn't allowed
abbrev pub last_enquiry_fault : TryFault → Option EnquireFault
last_enquiry_fault (Unheard (Refused code)) =
    if code == fault_code faults.NotAllowed then Some NotAllowed else None
last_enquiry_fault _ = None
