-- What always holds of a gate and its station, whatever they do and lose (PROOFS.md, "A gate
-- and its station"; this project's choice).
use Rattle.std.specs.Prelude.{◌≡◌, ◌≢◌, ◌⊎◌, ℕ, Bool, true, false, List, [], ◌∷◌, ◌++◌, IsTrue}
use Rattle.std.specs.Prelude.{Contains, Some, slice_get}
use Rattle.oyster_account.specs.declared.touch.Touch.{Touch}
use Rattle.oyster_account.specs.declared.reply.Reply.{Reply}
use Rattle.oyster_account.specs.declared.reply.Judged.{Judged}
use Rattle.reply_book.specs.declared.entry.Found.TheVariants.{Conflict}
use Rattle.reply_book.specs.Names.{has_same_name, AreNamedOnce}
use Rattle.reply_book.specs.Lookup.{found}
use Rattle.reply_book.specs.Legal.{IsLegal, history_of, touches_of}
use Rattle.gate_session.specs.declared.answer.Answer.TheVariants as answers
use Rattle.gate_client.specs.File.{AreNumbered}
use Rattle.gate_law.specs.Joint.{Joint, of_gate, is_given_up, not_given_up, IsWaiting}
use Rattle.gate_law.specs.Premises.{Alone}
use Rattle.gate_law.specs.Steps.{Step}

-- a run of steps of this kind, from the first state over these to the last
abbrev pub IsRunOf : (Joint → Joint → Type 0) → Joint → List Joint → Joint → Type 0
IsRunOf step old [] new = new ≡ old
IsRunOf step old (next ∷ later) new = step old next × IsRunOf step next later new

-- a run of the gate, its station and other gates
abbrev pub IsRun : ℕ → ℕ → Joint → List Joint → Joint → Type 0
IsRun gate cards old between new = IsRunOf (Step gate cards) old between new

-- the gate has asked nothing and told nothing; the station has a legal history, and neither in that
-- nor on the way to it is a touch of this gate, nor was a reply written under its name
pub record IsStart (gate cards : ℕ) (s : Joint) : Type 0 where
  pub asked : s.asked ≡ []
  pub waits : s.waits ≡ false
  pub sent : (touch : Touch) → Contains s.sent touch → Alone gate touch
  pub legal : IsLegal s.tables cards (history_of s.history)
  pub alone : (touch : Touch) → Contains (touches_of s.history) touch → Alone gate touch
  pub unanswered : (number : ℕ) (reply : Reply)
      → Contains s.answers (answers.Reply gate number reply) → ⊥
  pub told : s.told ≡ []

-- these are all of those but the last, and that one waits
pub record AreAllButLast (row asked : List Touch) (waits : Bool) : Type 0 where
  pub last : Touch
  pub parts : asked ≡ row ++ last ∷ []
  pub is : waits ≡ true

-- but for those that were given up, these are the touches that were asked, in their order, or all
-- of them but the last, which waits
abbrev pub AreInOrder : List Touch → List Touch → Bool → Type 0
AreInOrder row asked waits = (not_given_up asked row ≡ not_given_up asked asked)
    ⊎ AreAllButLast (not_given_up asked row) (not_given_up asked asked) waits

-- where a name stands at two places, there stands the same touch, and it was given up
abbrev pub AreNamedAlike : List Touch → Type 0
AreNamedAlike asked =
    (i j : ℕ) (a b : Touch) → slice_get asked i ≡ Some a → slice_get asked j ≡ Some b
    → IsTrue (has_same_name a b) → (a ≡ b) × ((i ≡ j) ⊎ (is_given_up asked a.number ≡ true))

-- the touch was asked, and stands in the history with this reply, at one place, and nothing else
-- stands under its name
pub record IsDone (s : Joint) (judged : Judged) : Type 0 where
  pub asked : Contains s.asked judged.touch
  pub place : ℕ
  pub stands : slice_get (history_of s.history) place ≡ Some judged
  pub alone : (other : ℕ) (touch : Touch) → slice_get (touches_of s.history) other ≡ Some touch
      → IsTrue (has_same_name judged.touch touch) → other ≡ place

-- the gate's touches in the history are those that were asked, in their order, or all of them but
-- the last, which waits; of the touches that were given up some stand there too, at any place; none
-- stands there that wasn't asked, and no name stands there twice, so a touch that was given up
-- stands there at most once. Each touch that the caller was told is done stands there, with its
-- reply. Each touch has its place and one as its number, or gives up the one before it; no name was
-- asked for two touches, so no touch that was asked conflicts with one that stands; and one that
-- was given up doesn't wait. The history is legal: each reply is the account's at that point
pub record Agrees (gate cards : ℕ) (s : Joint) : Type 0 where
  pub row : AreInOrder (of_gate gate (touches_of s.history)) s.asked s.waits
  pub kept : (touch : Touch) → touch.gate ≡ gate → Contains (touches_of s.history) touch
      → Contains s.asked touch
  pub once : AreNamedOnce (touches_of s.history)
  pub told : (judged : Judged) → Contains s.told judged → IsDone s judged
  pub numbered : AreNumbered gate s.asked
  pub named : AreNamedAlike s.asked
  pub waiting : (touch : Touch) → IsWaiting s touch → is_given_up s.asked touch.number ≡ false
  pub no_conflict : (touch : Touch) → Contains s.asked touch → found s.history touch ≢ Conflict
  pub legal : IsLegal s.tables cards (history_of s.history)

-- after every run the gate and its station agree
abbrev pub DoGateAndStationAgree : Type 0
DoGateAndStationAgree =
    (gate cards : ℕ) (old new : Joint) (between : List Joint)
    → IsStart gate cards old → IsRun gate cards old between new → Agrees gate cards new
