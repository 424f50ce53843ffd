-- The tries of a settling: over which line each was, what passed over that, and how they came to
-- an end (PROTOCOL.md, "Writing a client"; this project's choice).
use Rattle.std.specs.Prelude.{◌≡◌, ◌⊎◌, ℕ, ◌≤◌, List, [], ◌∷◌, length, Option, Some, None, IfSome}
use Rattle.std.specs.Prelude.{Result, Ok, Err}
use Rattle.std.specs.Io.KnownBytes.{Consumes}
use Rattle.oyster_account.specs.declared.touch.Touch.{Touch}
use Rattle.oyster_account.specs.declared.reply.Reply.{Reply}
use Rattle.gate_session.specs.declared.answer.Answer.{Answer}
use Rattle.gate_session.specs.declared.answer.Answer.TheVariants as answers
use Rattle.gate_session.specs.Answers.{answer_frame}
use Rattle.text_io.specs.Writing.{Wrote}
use Rattle.gate_client.specs.Heard.{IsUnder}
use Rattle.gate_client.specs.Exchange.{HasSent}
use Rattle.gate_client.specs.SettleTexts.{last_fault}
use Rattle.gate_client.specs.declared.fault.HearFault.TheVariants.{NoAnswer, Stray, Refused}
use Rattle.gate_client.specs.declared.attempt.TryFault.{TryFault}
use Rattle.gate_client.specs.declared.attempt.TryFault.TheVariants.{Unreached, Cut, Unheard}
use Rattle.gate_client.specs.declared.settling.Line.{Line}
use Rattle.gate_client.specs.declared.settling.SettleFault.{SettleFault}
use Rattle.gate_client.specs.declared.settling.SettleFault.TheVariants.{Tries}

-- an answer under another gate or number was read, and nothing else
pub record HasStrayed (t : Touch) (unread left : Option (List ℕ)) : Type 0 where
  pub answer : Answer
  pub another : IsUnder t.gate t.number answer → ⊥
  pub read : Consumes unread left (answer_frame answer)

-- what a try read of the answer to a touch: the reply to it, a fault of it, or what is another's,
-- and nothing else. Of what was read where no answer came nothing is said
abbrev pub HasRead : Touch → Option (List ℕ) → Option (List ℕ) → Result Reply TryFault → Type 0
HasRead t unread left (Ok reply) =
    Consumes unread left (answer_frame (answers.Reply t.gate t.number reply))
HasRead t unread left (Err (Unheard (Refused code))) =
    Consumes unread left (answer_frame (answers.Fault code t.gate t.number))
HasRead t unread left (Err (Unheard Stray)) = HasStrayed t unread left
HasRead t unread left (Err (Unheard NoAnswer)) = Unit {0}
HasRead t unread left (Err Cut) = Unit {0}
HasRead t unread left (Err Unreached) = ⊥

-- one try: there was no line for it, or it was over a line, as it was before the try and after it,
-- with this result
pub data Try (R W : Type 0) : Type 0 where
  no_line : Try R W
  over : Line R W → Line R W → Result Reply TryFault → Try R W

-- the line over which it was, as it was before
abbrev pub line_of : {R W : Type 0} → Try R W → Option (Line R W)
line_of no_line = None
line_of (over begun left result) = Some begun

-- what came of it
abbrev pub result_of : {R W : Type 0} → Try R W → Result Reply TryFault
result_of no_line = Err Unreached
result_of (over begun left result) = result

-- a reply comes with the line over which it was read
abbrev pub handed : {L : Type 0} → L → Result Reply TryFault → Result (Reply × L) TryFault
handed left (Ok reply) = Ok (reply, left)
handed left (Err fault) = Err fault

-- what came of it, a reply with its line as it was after the try
abbrev pub outcome_of : {R W : Type 0} → Try R W → Result (Reply × Line R W) TryFault
outcome_of no_line = Err Unreached
outcome_of (over begun left result) = handed left result

-- a settling ends by a fault, where there is one that ends it
abbrev pub ends_with : {T : Type 0} → Option SettleFault → Option (Result T SettleFault)
ends_with (Some fault) = Some (Err fault)
ends_with None = None

-- a reply ends the settling, and so does a fault that repeats don't change. `None` where it goes on
abbrev pub end_by : {T : Type 0} → Result T TryFault → Option (Result T SettleFault)
end_by (Ok done) = Some (Ok done)
end_by (Err fault) = ends_with (last_fault fault)

-- the line of a try is the one that was ready, where one was, and else a new one, if one was made
abbrev pub IsTaken : {L : Type 0} → (L → Type 0) → Option L → Option L → Type 0
IsTaken Made (Some ready) taken = taken ≡ Some ready
IsTaken Made None taken = IfSome taken Made

-- by what a reader has left, and what a writer holds
module _ {R W : Type 0} (remaining : R → Option (List ℕ)) (contents : W → Option (List ℕ)) where
  -- what passed over a line in a try: so much of the touch's frame was written as the result says,
  -- and the answer was read that it says. Behind a cut frame nothing was read
  pub record HasPassed (t : Touch) (begun left : Line R W) (result : Result Reply TryFault)
      : Type 0 where
    pub sent : Wrote (contents begun.writer) (contents left.writer)
        (λ text. HasSent t text result)
    pub read : HasRead t (remaining begun.reader) (remaining left.reader) result
    pub cut : result ≡ Err Cut → left.reader ≡ begun.reader

  -- it passed over the line of a try, where there was one
  abbrev pub HasPassedIn : Touch → Try R W → Type 0
  HasPassedIn t no_line = Unit {0}
  HasPassedIn t (over begun left result) = HasPassed t begun left result

  -- a try of this touch over this line, where there is one, with this outcome
  pub record IsTriedOver (t : Touch) (line : Option (Line R W))
      (outcome : Result (Reply × Line R W) TryFault) : Type 0 where
    pub one : Try R W
    pub line_is : line_of one ≡ line
    pub passed : HasPassedIn t one
    pub outcome_is : outcome ≡ outcome_of one

-- and by which lines were made
module _ {R W : Type 0} (remaining : R → Option (List ℕ)) (contents : W → Option (List ℕ))
    (Made : Line R W → Type 0) where
  -- a try of this touch, where this line was ready
  pub record IsTry (t : Touch) (ready : Option (Line R W)) (one : Try R W) : Type 0 where
    pub taken : IsTaken Made ready (line_of one)
    pub passed : HasPassedIn remaining contents t one

  -- tries one after the other, the first with the line that is ready and each later one with a new
  -- line. One that ends the settling is the last; where none does, all tries were used up
  abbrev pub Follow :
      Touch → ℕ → Option (Line R W) → List (Try R W) → Result (Reply × Line R W) SettleFault
      → Type 0
  Follow t tries ready [] result = result ≡ Err (Tries tries)
  Follow t tries ready (one ∷ later) result = IsTry t ready one
      × (((later ≡ []) × (end_by (outcome_of one) ≡ Some result))
      ⊎ ((end_by (outcome_of one) ≡ None) × Follow t tries None later result))

  -- these are the tries of a settling of this touch with this result, which began with this line.
  -- There are no more than were allowed, and so many where none brought an end
  pub record AreTries (t : Touch) (tries : ℕ) (line : Option (Line R W)) (tried : List (Try R W))
      (result : Result (Reply × Line R W) SettleFault) : Type 0 where
    pub follow : Follow t tries line tried result
    pub within : length tried ≤ tries
    pub used_up : (n : ℕ) → result ≡ Err (Tries n) → (n ≡ tries) × (length tried ≡ tries)
