-- What a door before a clerk does of a request (PROTOCOL.md, "Faults"; this project's
-- choice).
use Rattle.std.specs.Prelude.{◌≡◌, ◌⊎◌, ℕ, true, false, Option, Some, None}
use Rattle.oyster_account.specs.declared.touch.Touch.{Touch}
use Rattle.gate_session.specs.declared.request.Request.{Request}
use Rattle.gate_session.specs.declared.request.Request.TheVariants as requests
use Rattle.gate_session.specs.declared.answer.Answer.{Answer}
use Rattle.gate_session.specs.declared.answer.Answer.TheVariants as answers
use Rattle.gate_session.specs.declared.answer.FaultCode.TheVariants.{NotAllowed}
use Rattle.gate_session.specs.Answers.{fault_code}
use Rattle.door_clerk.specs.declared.bucket.Bucket.{Bucket}
use Rattle.door_clerk.specs.declared.reading.Clocks.{Clocks}
use Rattle.door_clerk.specs.declared.reading.Standing.{Standing}
use Rattle.door_clerk.specs.declared.refusal.DoorRefusal.{DoorRefusal}
use Rattle.door_clerk.specs.declared.refusal.DoorRefusal.TheVariants.{Kind}
use Rattle.door_clerk.specs.Rule.{Terms}
use Rattle.door_clerk.specs.Allowed.{IsAdmitted, IsRefusedFor}

-- the fault of a request that isn't allowed, with this gate and number
abbrev pub not_allowed : ℕ → ℕ → Answer
not_allowed gate number = answers.Fault (fault_code NotAllowed) gate number

-- the answer to a request that isn't allowed: an enquiry has no gate and no number
abbrev pub refusal_of : Request → Answer
refusal_of (requests.Touch touch) = not_allowed touch.gate touch.number
refusal_of (requests.Enquire card) = not_allowed 0 0

-- what a door has: its bucket, why the last request was kept out, if it was, and the clerk behind
pub record DoorState (C : Type 0) : Type 0 where
  pub bucket : Bucket
  pub last : Option DoorRefusal
  pub clerk : C

-- a door that has these
abbrev pub door_state : {C : Type 0} → Bucket → Option DoorRefusal → C → DoorState C
door_state bucket last clerk = record { bucket = bucket; last = last; clerk = clerk }

-- the request is answered as the clerk behind answers it, and the door then has this bucket
pub record IsLetThrough {C : Type 0} (gives : C → Request → Answer → C → Type 0)
    (old : DoorState C) (request : Request) (answer : Answer) (new : DoorState C) (after : Bucket)
    : Type 0 where
  pub given : gives old.clerk request answer new.clerk
  pub bucket : new.bucket ≡ after
  pub last : new.last ≡ None

-- the request is answered by the fault of one that isn't allowed, and nothing else is done
pub record IsKeptOut {C : Type 0} (old : DoorState C) (request : Request) (answer : Answer)
    (new : DoorState C) (refusal : DoorRefusal) : Type 0 where
  pub is : answer ≡ refusal_of request
  pub clerk : new.clerk ≡ old.clerk
  pub bucket : new.bucket ≡ old.bucket
  pub last : new.last ≡ Some refusal

-- the request is allowed, and this is the bucket after it: an enquiry leaves it as it is
abbrev pub IsPassed : (Clocks → Type 0) → (Touch → Standing → Type 0) → Terms → Bucket → Request
    → Bucket → Type 0
IsPassed shows stands terms bucket (requests.Touch touch) after =
    IsAdmitted shows stands terms bucket touch after
IsPassed shows stands terms bucket (requests.Enquire card) after =
    (terms.kinds.enquire ≡ true) × (after ≡ bucket)

-- the request isn't allowed, for this reason
abbrev pub IsStopped : (Clocks → Type 0) → (Touch → Standing → Type 0) → Terms → Bucket → Request
    → DoorRefusal → Type 0
IsStopped shows stands terms bucket (requests.Touch touch) refusal =
    IsRefusedFor shows stands terms bucket touch refusal
IsStopped shows stands terms bucket (requests.Enquire card) refusal =
    (terms.kinds.enquire ≡ false) × (refusal ≡ Kind)

-- a request is let through where it is allowed, and kept out where it isn't
abbrev pub DoesAtDoor : {C : Type 0} → (C → Request → Answer → C → Type 0)
    → (Clocks → Type 0) → (Touch → Standing → Type 0) → Terms → DoorState C → Request → Answer
    → DoorState C → Type 0
DoesAtDoor gives shows stands terms old request answer new =
    ((after : Bucket) × IsPassed shows stands terms old.bucket request after
    × IsLetThrough gives old request answer new after)
    ⊎ ((refusal : DoorRefusal) × IsStopped shows stands terms old.bucket request refusal
    × IsKeptOut old request answer new refusal)
