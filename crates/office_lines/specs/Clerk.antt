-- What a connection's clerk answers to a request, and what it leaves of its seat and of its desk
-- (PROTOCOL.md, "Requests and their answers"; this project's choice).
use Rattle.std.specs.Prelude.{◌≡◌, ◌⊎◌, ◌≤◌, ◌++◌, ◌∷◌, ℕ, List, take, length, Some, slice_get}
use mathlib.Core.List.{IsPrefix}
use Rattle.oyster_account.specs.declared.touch.Touch.{Touch}
use Rattle.oyster_account.specs.declared.reply.Reply.{Reply}
use Rattle.gate_session.specs.declared.request.Request.{Request}
use Rattle.gate_session.specs.declared.request.Request.TheVariants as requests
use Rattle.gate_session.specs.declared.answer.Answer.{Answer}
use Rattle.gate_session.specs.declared.answer.Answer.TheVariants as answers
use Rattle.gate_session.specs.declared.answer.FaultCode.{FaultCode}
use Rattle.gate_session.specs.declared.answer.FaultCode.TheVariants as codes
use Rattle.gate_session.specs.Answers.{fault_code}
use Rattle.reply_book.specs.declared.entry.Entry.{Entry}
use Rattle.reply_book.specs.Legal.{history_of}
use Rattle.tap_desk.specs.declared.desk.Enquiry.{Enquiry}
use Rattle.tap_desk.specs.Desks.{DeskState}
use Rattle.tap_desk.specs.Listed.{BeginsWith}
use Rattle.tap_office.specs.declared.fault.SubmitFault.{SubmitFault}
use Rattle.tap_office.specs.declared.fault.SubmitFault.TheVariants.{Conflict, Halted, Memory, Full}
use Rattle.tap_office.specs.declared.fault.SubmitFault.TheVariants.{UnknownTable}
use Rattle.tap_office.specs.declared.receipt.Filed.{Filed}
use Rattle.tap_office.specs.Enquiry.{IsAnswerFrom}
use Rattle.tap_office.specs.Given.{IsLegalFor}
use Rattle.tap_office.specs.Name.{Opened}
use Rattle.tap_office.specs.Refusal.{IsCauseAfter}
use Rattle.tap_office.specs.Seat.{SeatState}

-- the fault that a gate is sent for a fault of the office: the one of the same name
abbrev pub code_of : SubmitFault → FaultCode
code_of Conflict = codes.Conflict
code_of Halted = codes.Halted
code_of Memory = codes.Memory
code_of Full = codes.Full
code_of UnknownTable = codes.UnknownTable

-- what a clerk has: its seat, and its desk with the list that it saw last and its log points
pub record ClerkState : Type 0 where
  pub seat : SeatState
  pub desk : DeskState

-- a clerk at this seat and desk
abbrev pub clerk_at : SeatState → DeskState → ClerkState
clerk_at seat desk = record { seat = seat; desk = desk }

-- a seat goes on over so many requests: its number is the same, its earlier receipts come first,
-- and no request filed more than one behind them
pub record GoesOn (requests : ℕ) (before after : SeatState) : Type 0 where
  pub number : after.number ≡ before.number
  pub later : List Filed
  pub receipts : after.receipts ≡ before.receipts ++ later
  pub few : length later ≤ requests

-- a desk goes on over so many requests: its list begins with the one before, the log points before
-- are still there, and by no request it learnt more than one
pub record DeskGoesOn (requests : ℕ) (before after : DeskState) : Type 0 where
  pub list : IsPrefix before.list after.list
  pub newer : List (List Entry)
  pub points : after.points ≡ newer ++ before.points
  pub few : length newer ≤ requests

-- a touch is answered by the reply that stands beside it, under its gate and number, in the log
-- point that the desk learnt; the log point is legal, begins with what the opening found, is as
-- long as the seat has seen then, and no shorter than it had seen before
pub record IsReplied (opened : Opened) (before after : ClerkState) (touch : Touch) (answer : Answer)
    : Type 0 where
  pub point : List Entry
  pub legal : IsLegalFor opened (history_of point)
  pub begins : take (length opened.recovered) point ≡ opened.recovered
  pub place : ℕ
  pub reply : Reply
  pub seat : ℕ
  pub stands : slice_get point place ≡ Some (record { touch = touch; reply = reply; seat = seat })
  pub seen : after.seat.seen ≡ length point
  pub not_below : before.seat.seen ≤ after.seat.seen
  pub goes_on : GoesOn 1 before.seat after.seat
  pub learnt : after.desk.points ≡ point ∷ before.desk.points
  pub list : after.desk.list ≡ before.desk.list
  pub is : answer ≡ answers.Reply touch.gate touch.number reply

-- a touch is answered by its fault, for its cause in the log point that the desk learnt, which is
-- legal and begins with what the opening found; the seat stays
pub record IsRefused (opened : Opened) (before after : ClerkState) (touch : Touch) (answer : Answer)
    : Type 0 where
  pub fault : SubmitFault
  pub point : List Entry
  pub legal : IsLegalFor opened (history_of point)
  pub begins : take (length opened.recovered) point ≡ opened.recovered
  pub cause : IsCauseAfter opened point touch fault
  pub is : answer ≡ answers.Fault (fault_code (code_of fault)) touch.gate touch.number
  pub kept : after.seat ≡ before.seat
  pub learnt : after.desk.points ≡ point ∷ before.desk.points
  pub list : after.desk.list ≡ before.desk.list

-- an enquiry is answered by what is seen of the card after the desk's list, and by its length; that
-- list begins with the one before and with each of the log points
pub record IsTold (opened : Opened) (before after : ClerkState) (card : ℕ) (answer : Answer)
    : Type 0 where
  pub enquiry : Enquiry
  pub from : IsAnswerFrom opened after.desk.list card enquiry
  pub is : answer ≡ answers.Holding enquiry.view enquiry.front
  pub list : IsPrefix before.desk.list after.desk.list
  pub begins : BeginsWith before.desk.points after.desk.list
  pub points : after.desk.points ≡ before.desk.points
  pub kept : after.seat ≡ before.seat

-- an enquiry for which the desk has no answer is answered by the fault of a halted office, with
-- gate 0 and number 0
pub record IsUntold (before after : ClerkState) (answer : Answer) : Type 0 where
  pub is : answer ≡ answers.Fault (fault_code codes.Halted) 0 0
  pub list : after.desk.list ≡ before.desk.list
  pub points : after.desk.points ≡ before.desk.points
  pub kept : after.seat ≡ before.seat

-- what a request is given
abbrev pub HasGiven : Opened → ClerkState → ClerkState → Request → Answer → Type 0
HasGiven opened before after (requests.Touch touch) answer =
    IsReplied opened before after touch answer ⊎ IsRefused opened before after touch answer
HasGiven opened before after (requests.Enquire card) answer =
    IsTold opened before after card answer ⊎ IsUntold before after answer
