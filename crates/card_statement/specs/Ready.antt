-- The last passage of a card's accepted travel, which is in order.
use Rattle.std.specs.Prelude.{◌≡◌, ℕ, List, [], ◌∷◌, Option, Some, None}
use Rattle.oyster_account.specs.declared.travel.Passage.{Passage}
use Rattle.oyster_account.specs.declared.reply.Judged.{Judged}
use Rattle.oyster_account.specs.declared.touch.Act.{Act}
use Rattle.oyster_account.specs.Scheme.{Scheme}
use Rattle.oyster_account.specs.Travel.{Tap, tap_of, passage_of, travel}
use Rattle.oyster_account.specs.History.{accepted}
use Rattle.oyster_account.specs.Order.{GoesOn, IsInOrder}

-- where and when a touch in or out was, if there is one
abbrev pub passage_in : Option Tap → Option Passage
passage_in None = None
passage_in (Some tap) = Some (passage_of tap)

-- that of an act
abbrev pub passage_at : Scheme → Act → Option Passage
passage_at scheme act = passage_in (tap_of scheme act)

-- the passage of the newest of these touches
abbrev pub last_of : List Tap → Option Passage
last_of [] = None
last_of (tap ∷ taps) = Some (passage_of tap)

-- a passage goes on from this one, where there is one
abbrev pub GoesOnFrom : Option Passage → Passage → Type 0
GoesOnFrom None passage = Unit {0}
GoesOnFrom (Some last) passage = GoesOn last passage

-- the travel is in order, and this is its last passage
pub record IsLastOf (scheme : Scheme) (card : ℕ) (history : List Judged) (last : Option Passage)
    : Type 0 where
  pub order : IsInOrder (travel scheme (accepted card history))
  pub newest : last ≡ last_of (travel scheme (accepted card history))
