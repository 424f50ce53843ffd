-- What a door makes of a whole list of requests (this project's choice).
use Rattle.std.specs.Prelude.{◌≡◌, ◌⊎◌, ℕ, ◌+◌, ◌-◌, ◌*◌, ◌≤◌, List, [], ◌∷◌}
use Rattle.oyster_account.specs.declared.touch.Touch.{Touch}
use Rattle.gate_session.specs.declared.request.Request.{Request}
use Rattle.gate_session.specs.declared.request.Request.TheVariants as requests
use Rattle.gate_session.specs.declared.answer.Answer.{Answer}
use Rattle.gate_session.specs.Clerk.{IsRun}
use Rattle.door_clerk.specs.declared.bucket.Bucket.{Bucket}
use Rattle.door_clerk.specs.declared.bucket.TheConstants.{TICKS_PER_SECOND}
use Rattle.door_clerk.specs.declared.rule.Rate.{Rate}
use Rattle.door_clerk.specs.declared.reading.Clocks.{Clocks}
use Rattle.door_clerk.specs.declared.reading.Standing.{Standing}
use Rattle.door_clerk.specs.declared.refusal.DoorRefusal.{DoorRefusal}
use Rattle.door_clerk.specs.Rule.{Terms}
use Rattle.door_clerk.specs.Door.{DoorState, IsPassed, IsStopped, refusal_of}

-- the requests that are let through, and their answers, are the first and these lists: the others
-- are answered by the fault of a request that isn't allowed
abbrev pub AreSorted : (Clocks → Type 0) → (Touch → Standing → Type 0) → Terms → Bucket
    → List Request → List Answer → List Request → List Answer → Bucket → Type 0
AreSorted shows stands terms bucket [] [] through replies last =
    (through ≡ []) × (replies ≡ []) × (last ≡ bucket)
AreSorted shows stands terms bucket (request ∷ requests) (answer ∷ answers) through replies last =
    ((refusal : DoorRefusal) × IsStopped shows stands terms bucket request refusal
    × (answer ≡ refusal_of request)
    × AreSorted shows stands terms bucket requests answers through replies last)
    ⊎ ((after : Bucket) × (more : List Request) × (rest : List Answer)
    × IsPassed shows stands terms bucket request after
    × (through ≡ request ∷ more) × (replies ≡ answer ∷ rest)
    × AreSorted shows stands terms after requests answers more rest last)
AreSorted shows stands terms bucket [] (answer ∷ answers) through replies last = ⊥
AreSorted shows stands terms bucket (request ∷ requests) [] through replies last = ⊥

-- the clerk behind the door was given exactly the requests that are let through, in their order,
-- and its answers are handed on
pub record IsSortedRun {C : Type 0} (gives : C → Request → Answer → C → Type 0)
    (shows : Clocks → Type 0) (stands : Touch → Standing → Type 0) (terms : Terms)
    (old new : DoorState C)
    (requests : List Request) (answers : List Answer) : Type 0 where
  pub through : List Request
  pub replies : List Answer
  pub sorted : AreSorted shows stands terms old.bucket requests answers through replies new.bucket
  pub run : IsRun gives old.clerk through replies new.clerk

-- how many of these requests are touches
abbrev pub touches_in : List Request → ℕ
touches_in [] = 0
touches_in (requests.Touch touch ∷ more) = touches_in more + 1
touches_in (requests.Enquire card ∷ more) = touches_in more

-- these touches, as much as each takes, are no more than what was in the bucket and what it gained
-- since
abbrev pub IsPaced : Rate → Bucket → Bucket → ℕ → Type 0
IsPaced rate before after touches =
    touches * TICKS_PER_SECOND ≤ before.level + (after.ticks - before.ticks) * rate.touches
