-- What is seen of a card after a history, and what a refused touch leaves (FARES.md,
-- "Balance", "Accepted and refused" and "Revision").
use Rattle.std.specs.Prelude.{◌≡◌, ℕ, ℤ, pos, List, [], ◌∷◌, ◌++◌, if◌then◌else◌}
use Rattle.oyster_account.specs.declared.touch.Act.{Act}
use Rattle.oyster_account.specs.declared.reply.Reply.{Reply}
use Rattle.oyster_account.specs.declared.reply.Judged.{Judged}
use Rattle.oyster_account.specs.declared.reply.CardView.{CardView}
use Rattle.oyster_account.specs.declared.reply.CardState.TheVariants.{Vacant}
use Rattle.oyster_account.specs.Touch.{is_revision}
use Rattle.oyster_account.specs.History.{accepted}
use Rattle.oyster_account.specs.Balance.{view}
use Rattle.oyster_account.specs.Judge.{is_card}
use Rattle.reply_book.specs.Tables.{Tables, scheme_after}

-- a card number that no card has is vacant, with nothing on it
abbrev pub no_view : CardView
no_view = record { state = Vacant; balance = pos 0 }

-- what is seen of a card after a history: the view by its accepted acts, where there is such a card
unfoldable pub view_after : Tables → ℕ → List Judged → ℕ → CardView
view_after tables cards history card =
    if is_card cards card
    then view (scheme_after tables history) (accepted card history)
    else no_view

-- the balance that a refusal says: that which was seen of the touch's card, and 0 for a revision,
-- which is of no card
abbrev pub balance_told : Act → CardView → ℤ
balance_told act before = if is_revision act then pos 0 else before.balance

-- a touch of this act changes nothing by its reply: the change is 0, the balance is the one that a
-- refusal says, and what is seen of the touch's card stays
pub record ChangesNothingBy (act : Act) (before after : CardView) (reply : Reply) : Type 0 where
  pub change : reply.change ≡ pos 0
  pub balance : reply.balance ≡ balance_told act before
  pub seen : after ≡ before

-- a touch changes nothing by its reply: nothing of its card, nor what is seen of any other
pub record ChangesNoCard (tables : Tables) (cards : ℕ) (history : List Judged) (judged : Judged)
    : Type 0 where
  pub own : ChangesNothingBy judged.touch.act
      (view_after tables cards history judged.touch.card)
      (view_after tables cards (history ++ judged ∷ []) judged.touch.card) judged.reply
  pub others : (card : ℕ)
      → view_after tables cards (history ++ judged ∷ []) card ≡ view_after tables cards history card
