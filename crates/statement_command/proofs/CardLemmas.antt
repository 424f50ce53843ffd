-- A statement goes by the touches of its card alone.
use Rattle.std.proofs.Common.{◌≡◌, ℕ, true, false, cond, not, ◌&&◌, ◌≤◌, List, [], ◌∷◌, length, reverse, refl, sym, ap}
use Rattle.std.proofs.Common.{◌∙◌, subst, arith, inl, inr, Option, Some, None}
use Rattle.std.specs.List.{filter_map, cons_option}
use Rattle.std.proofs.lemmas.Bool.{cases_Bool, cond-true, cond-false}
use Rattle.std.proofs.lemmas.List.Elements.{All-filter}
use Rattle.oyster_account.specs.declared.touch.Act.{Act}
use Rattle.oyster_account.specs.declared.reply.Judged.{Judged}
use Rattle.oyster_account.specs.Touch.{is_of, moment_of}
use Rattle.oyster_account.specs.History.{accepted, is_accepted, counts_for, of_card}
use Rattle.oyster_account.specs.Scheme.{Scheme}
use Rattle.oyster_account.specs.Travel.{travel}
use Rattle.oyster_account.specs.Order.{IsInOrder}
use Rattle.oyster_account.proofs.CallerLemmas.{accepted-of_card}
use Rattle.card_statement.specs.Known.{IsActKnown, AreStationsKnown}
use Rattle.card_statement.specs.Statement.{statement_of}
use Rattle.statement_command.specs.declared.days.Days.{Days}
use Rattle.statement_command.specs.declared.line.RefusedTouch.{RefusedTouch}
use Rattle.statement_command.specs.Lines.{lines_back}
use Rattle.statement_command.specs.Card.{refusal_of, refusals_of, lines_of}

-- the touches of a card are no more than all
pub few-of_card : (card : ℕ) (history : List Judged) → length (of_card card history) ≤ length history
few-of_card card [] = omega arith
few-of_card card (judged ∷ history) =
    let rest : List Judged = of_card card history in
    let fewer : length rest ≤ length history = few-of_card card history in
    elim (cases_Bool (is_of card judged.touch)) [
      | inl own ↦
          let is : length (of_card card (judged ∷ history)) ≡ length (judged ∷ rest) =
          ap length (cond-true (is_of card judged.touch) (judged ∷ rest) rest own) in omega (arith, is, fewer)
      | inr other ↦
          let is : length (of_card card (judged ∷ history)) ≡ length rest =
          ap length (cond-false (is_of card judged.touch) (judged ∷ rest) rest other) in omega (arith, is, fewer)
    ]

module _ (scheme : Scheme) (card : ℕ) where
  pub order-of_card : (history : List Judged) → IsInOrder (travel scheme (accepted card history))
      → IsInOrder (travel scheme (accepted card (of_card card history)))
  order-of_card history order =
      subst (λ (acts : List Act). IsInOrder (travel scheme acts)) (sym (accepted-of_card card history)) order

  pub known-of_card : (history : List Judged) → AreStationsKnown scheme card history
      → AreStationsKnown scheme card (of_card card history)
  known-of_card history known =
      All-filter (λ (judged : Judged). is_of card judged.touch)
      (λ (one : Judged). counts_for card one ≡ true → IsActKnown scheme one.touch.act) history known

  -- a touch of another card is no refusal
  not-own : (judged : Judged) → is_of card judged.touch ≡ false → refusal_of scheme card judged ≡ None
  not-own judged other =
      ap (λ b. cond (b && not (is_accepted judged.reply)) (Some (record {
        act = judged.touch.act;
        stamp = scheme.stamp (moment_of judged.touch.act);
        verdict = judged.reply.verdict;
      })) None) other

  found-own : (history : List Judged)
      → filter_map (refusal_of scheme card) (of_card card history) ≡ filter_map (refusal_of scheme card) history
  found-own [] = refl
  found-own (judged ∷ history) =
      let rest : List Judged = of_card card history in
      elim (cases_Bool (is_of card judged.touch)) [
        | inl own ↦
            ap (filter_map (refusal_of scheme card)) (cond-true (is_of card judged.touch) (judged ∷ rest) rest own)
            ∙ ap (cons_option (refusal_of scheme card judged)) (found-own history)
        | inr other ↦
            ap (filter_map (refusal_of scheme card)) (cond-false (is_of card judged.touch) (judged ∷ rest) rest other)
            ∙ found-own history
            ∙ sym (ap (λ (o : Option RefusedTouch). cons_option o (filter_map (refusal_of scheme card) history))
            (not-own judged other))
      ]

  -- the lines of its statement are those of all touches
  pub lines-of_card : (days : Days) (history : List Judged)
      → lines_of scheme card days (of_card card history) ≡ lines_of scheme card days history
  lines-of_card days history =
      ap (λ (acts : List Act). reverse (lines_back card days (statement_of scheme acts)
      (refusals_of scheme card (of_card card history)))) (accepted-of_card card history)
      ∙ ap (λ (refusals : List RefusedTouch). reverse (lines_back card days
      (statement_of scheme (accepted card history)) (reverse refusals))) (found-own history)
