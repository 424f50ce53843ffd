-- What was said at a desk, by the log points that it learnt (ENQUIRIES.md; OFFICE.md, "Closing";
-- PROOFS.md, "A gate and its station").
use Rattle.std.specs.Prelude.{◌≡◌, ℕ, ◌≤◌, List, [], ◌∷◌, ◌++◌, length, map}
use Rattle.oyster_account.specs.declared.touch.Touch.{Touch}
use Rattle.oyster_account.specs.declared.reply.Reply.{Reply}
use Rattle.reply_book.specs.declared.entry.Entry.{Entry}
use Rattle.gate_session.specs.declared.request.Request.{Request}
use Rattle.gate_session.specs.declared.request.Request.TheVariants as requests
use Rattle.gate_session.specs.declared.answer.Answer.{Answer}
use Rattle.gate_session.specs.declared.answer.FaultCode.{FaultCode}
use Rattle.gate_session.specs.Session.{refusal}
use Rattle.door_clerk.specs.Door.{refusal_of}
use Rattle.gate_law.specs.WholeSteps.{IsOfNoTouch}
use Rattle.tap_desk.specs.Desks.{DeskState}
use Rattle.tap_office.specs.declared.fault.SubmitFault.{SubmitFault}
use Rattle.tap_office.specs.Name.{Opened}
use Rattle.tap_office.specs.Refusal.{IsCauseAfter}
use Rattle.office_lines.specs.Clerk.{code_of}
use Rattle.clerk_calls.specs.Logged.{HasLearnt}
use Rattle.clerk_calls.specs.Turns.{Said, replies, refuses, tells, answer_of, StandsBeside}

-- the newest of these log points; no entries where there is none
abbrev pub newest : List (List Entry) → List Entry
newest [] = []
newest (point ∷ earlier) = point

-- the reply stands beside its touch in this log point, which is no shorter than what the opening
-- found
pub record IsReplyIn (opened : Opened) (point : List Entry) (touch : Touch) (reply : Reply)
    : Type 0 where
  pub beside : StandsBeside point touch reply
  pub no_shorter : length opened.recovered ≤ length point

-- the office refuses the touch for its cause in this log point, which is no shorter than what the
-- opening found
pub record IsRefusedIn (opened : Opened) (point : List Entry) (touch : Touch) (fault : FaultCode)
    : Type 0 where
  pub office : SubmitFault
  pub is : fault ≡ code_of office
  pub cause : IsCauseAfter opened point touch office
  pub no_shorter : length opened.recovered ≤ length point

-- what is said is right by this log point; an answer of no touch says nothing of one
abbrev pub IsSaidBy : Opened → List Entry → Said → Type 0
IsSaidBy opened point (replies touch reply) = IsReplyIn opened point touch reply
IsSaidBy opened point (refuses touch fault) = IsRefusedIn opened point touch fault
IsSaidBy opened point (tells answer) = IsOfNoTouch answer

-- what was said at a desk, and the newest log point that the desk had then
pub record Saying : Type 0 where
  pub said : Said
  pub point : List Entry

-- all that was said, without the log points
abbrev pub said_of : List Saying → List Said
said_of sayings = map (λ saying. saying.said) sayings

-- a desk with the first of these log points said this, one after the other, each by the newest log
-- point that it had then, and has the second at the end. It may have learnt one for an answer that
-- wasn't written
abbrev pub AreAnswered :
    Opened → List (List Entry) → List Saying → List (List Entry) → Type 0
AreAnswered opened before [] after = HasLearnt before after
AreAnswered opened before (saying ∷ later) after =
    (mid : List (List Entry)) × HasLearnt before mid × (saying.point ≡ newest mid)
    × IsSaidBy opened saying.point saying.said × AreAnswered opened mid later after

-- what a desk said in one session, and then in a later one, it said one after the other, also where
-- it has learnt more in between
abbrev pub DoSessionsFollow : Type 0
DoSessionsFollow =
    (opened : Opened) (before mid later after : List (List Entry)) (first second : List Saying)
    → AreAnswered opened before first mid → HasLearnt mid later
    → AreAnswered opened later second after → AreAnswered opened before (first ++ second) after

-- this is said to the request: to a touch its reply, its refusal, or that it isn't allowed, and to
-- an enquiry an answer of no touch
abbrev pub IsSaidTo : Request → Said → Type 0
IsSaidTo (requests.Touch touch) (replies other reply) = other ≡ touch
IsSaidTo (requests.Touch touch) (refuses other fault) = other ≡ touch
IsSaidTo (requests.Touch touch) (tells answer) = answer ≡ refusal_of (requests.Touch touch)
IsSaidTo (requests.Enquire card) (replies other reply) = ⊥
IsSaidTo (requests.Enquire card) (refuses other fault) = ⊥
IsSaidTo (requests.Enquire card) (tells answer) = Unit {0}

-- this is said to the requests, one after the other, to all of them or to the first; and at the end
-- it may be said of bytes that they begin no request
abbrev pub AreSaidTo : List Request → List Said → Type 0
AreSaidTo handed [] = Unit {0}
AreSaidTo [] (said ∷ later) = (said ≡ tells refusal) × (later ≡ [])
AreSaidTo (request ∷ handed) (said ∷ later) = IsSaidTo request said × AreSaidTo handed later

-- what a session that was handed these requests, and wrote these answers, has said at its desk,
-- which had the first of these log points before it and the second after it
pub record HasSaid (opened : Opened) (before after : List (List Entry)) (handed : List Request)
    (sent : List Answer) : Type 0 where
  pub sayings : List Saying
  pub written : sent ≡ map answer_of (said_of sayings)
  pub to : AreSaidTo handed (said_of sayings)
  pub answered : AreAnswered opened before sayings after

-- each of these desks said what is in its list, from its first log point on
abbrev pub HaveAnswered : Opened → List (List Saying) → List DeskState → Type 0
HaveAnswered opened [] [] = Unit {0}
HaveAnswered opened [] (desk ∷ desks) = ⊥
HaveAnswered opened (list ∷ lists) [] = ⊥
HaveAnswered opened (list ∷ lists) (desk ∷ desks) =
    AreAnswered opened [] list desk.points × HaveAnswered opened lists desks

-- how many entries the history has when this is said, where it had so many before: as many as the
-- log point of a reply or of a refusal, and as before for an answer of no touch
abbrev pub count_by : ℕ → List Entry → Said → ℕ
count_by count point (replies touch reply) = length point
count_by count point (refuses touch fault) = length point
count_by count point (tells answer) = count

-- where this is said in this order, the history never has fewer entries than before
abbrev pub DoesGrow : ℕ → List Saying → Type 0
DoesGrow count [] = Unit {0}
DoesGrow count (saying ∷ later) = (count ≤ count_by count saying.point saying.said)
    × DoesGrow (count_by count saying.point saying.said) later
