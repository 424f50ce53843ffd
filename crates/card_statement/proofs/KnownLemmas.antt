-- A history whose replies are those of the rules is in order, and of known stations.
use Rattle.std.proofs.Common.{◌≡◌, ℕ, Bool, true, false, ◌&&◌, List, [], ◌∷◌, ◌++◌, refl, sym, ap, ◌∙◌, subst, inl, inr}
use Rattle.std.proofs.Common.{append_assoc}
use Rattle.std.proofs.lemmas.Bool.{cases_Bool}
use Rattle.std.proofs.lemmas.List.{append-nil}
use Rattle.std.proofs.lemmas.List.Elements.{All-nil, All-cons}
use Rattle.oyster_account.specs.declared.touch.Act.{Act}
use Rattle.oyster_account.specs.declared.touch.Act.TheVariants.{Enter, Leave, TopUp, Issue, Revise}
use Rattle.oyster_account.specs.declared.reply.Judged.{Judged}
use Rattle.oyster_account.specs.Touch.{is_of}
use Rattle.oyster_account.specs.Scheme.{Scheme}
use Rattle.oyster_account.specs.Account.{IsSound}
use Rattle.oyster_account.specs.Balance.{balance, is_issued}
use Rattle.oyster_account.specs.Refusal.{is_backwards, terms_for}
use Rattle.oyster_account.specs.History.{accepted, counts_for, is_accepted}
use Rattle.oyster_account.specs.Travel.{travel}
use Rattle.oyster_account.specs.Order.{IsInOrder}
use Rattle.oyster_account.specs.Judge.{judge}
use Rattle.oyster_account.proofs.HistoryLemmas.{accepted_unrefused, unrefused_sound, acts_after-in_order}
use Rattle.oyster_account.proofs.HistoryLemmas.{accepted-append}
use Rattle.card_statement.specs.Known.{IsActKnown, AreStationsKnown, IsAcceptedKnown, AreReplied, IsHistoryReady}
use Rattle.card_statement.proofs.CountLemmas.{accepted-uncounted}

sound-known : (scheme : Scheme) (act : Act) → IsSound (terms_for scheme act) act → IsActKnown scheme act
sound-known scheme (Enter station moment) sound = sound
sound-known scheme (Leave station moment) sound = sound
sound-known scheme (TopUp pence moment) sound = tt
sound-known scheme (Issue moment) sound = tt
sound-known scheme (Revise day moment digest) sound = tt

pub accepted-known : IsAcceptedKnown
accepted-known scheme acts act is =
    sound-known scheme act
    (unrefused_sound (terms_for scheme act) (is_issued acts) (is_backwards scheme (travel scheme acts) act)
    (balance scheme acts) act (accepted_unrefused scheme acts act _ is))

and_left : (a b : Bool) → (a && b) ≡ true → a ≡ true
and_left true b is = refl
and_left false b is = absurd (cc)

and_right : (a b : Bool) → (a && b) ≡ true → b ≡ true
and_right true b is = is
and_right false b is = absurd (cc)

not_both : (a b : Bool) → a ≡ false → (a && b) ≡ false
not_both true b is = absurd (cc)
not_both false b is = refl

module _ (scheme : Scheme) (card : ℕ) where
  -- a touch that counts is of the card and accepted, so its station is known
  one-known : (before : List Judged) (one : Judged) →
      (is_of card one.touch ≡ true → one.reply ≡ judge scheme (accepted card before) one.touch.act) →
      counts_for card one ≡ true → IsActKnown scheme one.touch.act
  one-known before one replied counts =
      let own : is_of card one.touch ≡ true = and_left (is_of card one.touch) (is_accepted one.reply) counts in
      let taken : is_accepted one.reply ≡ true = and_right (is_of card one.touch) (is_accepted one.reply) counts in
      accepted-known scheme (accepted card before) one.touch.act (ap is_accepted (sym (replied own)) ∙ taken)

  one-in_order : (before : List Judged) (one : Judged) →
      (is_of card one.touch ≡ true → one.reply ≡ judge scheme (accepted card before) one.touch.act) →
      IsInOrder (travel scheme (accepted card before)) →
      IsInOrder (travel scheme (accepted card (before ++ one ∷ [])))
  one-in_order before one replied order =
      elim (cases_Bool (is_of card one.touch)) [
        | inl own ↦ subst (λ (acts : List Act). IsInOrder (travel scheme acts))
            (sym (accepted-append card before one own))
            (acts_after-in_order scheme (accepted card before) one.touch.act one.reply (replied own) order)
        | inr other ↦ subst (λ (acts : List Act). IsInOrder (travel scheme acts))
            (sym (accepted-uncounted card before one
            (not_both (is_of card one.touch) (is_accepted one.reply) other))) order
      ]

  all-known : (before judged : List Judged) → AreReplied scheme card before judged → AreStationsKnown scheme card judged
  all-known before [] replied = All-nil (λ (one : Judged). counts_for card one ≡ true → IsActKnown scheme one.touch.act)
  all-known before (one ∷ judged) replied =
      All-cons (λ (one : Judged). counts_for card one ≡ true → IsActKnown scheme one.touch.act) one judged
      (one-known before one replied.0) (all-known (before ++ one ∷ []) judged replied.1)

  all-in_order : (before judged : List Judged) → AreReplied scheme card before judged →
      IsInOrder (travel scheme (accepted card before)) →
      IsInOrder (travel scheme (accepted card (before ++ judged)))
  all-in_order before [] replied order =
      subst (λ (l : List Judged). IsInOrder (travel scheme (accepted card l))) (sym (append-nil before)) order
  all-in_order before (one ∷ judged) replied order =
      subst (λ (l : List Judged). IsInOrder (travel scheme (accepted card l))) (append_assoc before (one ∷ []) judged)
      (all-in_order (before ++ one ∷ []) judged replied.1 (one-in_order before one replied.0 order))

pub history-ready : IsHistoryReady
history-ready scheme card judged replied =
    (all-in_order scheme card [] judged replied tt, all-known scheme card [] judged replied)
