-- The premises of the laws of a door: a later reading, and a rule that allows all.
use Rattle.std.specs.Prelude.{◌≡◌, ◌<◌, ◌≤◌, ◌^◌, ℕ, true, None}
use Rattle.door_clerk.specs.declared.reading.Standing.{Standing}
use Rattle.door_clerk.specs.declared.reading.Standing.TheVariants.{Repeat, New}
use Rattle.gate_session.specs.declared.request.Request.{Request}
use Rattle.gate_session.specs.declared.request.Request.TheVariants as requests
use Rattle.door_clerk.specs.Rule.{Terms, allows_gate, allows_kind}

-- a touch stands as well later as before: the history has it, or no less room for it
abbrev pub StandsAsWell : Standing → Standing → Type 0
StandsAsWell before Repeat = Unit {0}
StandsAsWell Repeat (New room) = ⊥
StandsAsWell (New before) (New room) = before ≤ room

-- the rule allows all: each kind, each gate number, any moment, any rate, and the whole journal
pub record AllowsAll (terms : Terms) : Type 0 where
  pub kinds : (request : Request) → allows_kind terms.kinds request ≡ true
  pub gates : (gate : ℕ) → gate < 2 ^ 16 → allows_gate terms.gates gate ≡ true
  pub ahead : terms.ahead ≡ None
  pub rate : terms.rate ≡ None
  pub reserved : terms.reserved ≡ 0

-- the gate number of the request, if it has one, is of its type
abbrev pub HasGate : Request → Type 0
HasGate (requests.Touch touch) = touch.gate < 2 ^ 16
HasGate (requests.Enquire card) = Unit {0}
