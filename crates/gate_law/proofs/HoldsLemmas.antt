-- What holds of a gate and its station at the start, and what of it the steps rest on.
use Rattle.std.proofs.Common.{◌≡◌, inl, inr, ℕ, ◌+◌, ◌<◌, ◌≤◌, Bool, true, false, List, [], ◌∷◌, ◌++◌}
use Rattle.std.proofs.Common.{length, is_some, sym, ap, ◌∙◌, subst, arith, length-append, Some, IsTrue}
use Rattle.std.specs.Prelude.{Contains, slice_get}
use Rattle.std.proofs.lemmas.Option.{slice_get_within}
use Rattle.oyster_account.specs.declared.touch.Touch.{Touch}
use Rattle.oyster_account.specs.declared.reply.Reply.{Reply}
use Rattle.oyster_account.specs.declared.reply.Judged.{Judged}
use Rattle.reply_book.specs.declared.entry.Entry.{Entry}
use Rattle.reply_book.specs.declared.entry.Found.TheVariants.{New}
use Rattle.reply_book.specs.Names.{has_same_name, AreNamedOnce}
use Rattle.reply_book.specs.Lookup.{found}
use Rattle.reply_book.specs.Legal.{IsLegal, history_of, touches_of}
use Rattle.reply_book.proofs.PlaceLemmas.{slice_get-mapped, slice_get-of, slice_get-append_left}
use Rattle.reply_book.proofs.NameLemmas.{same-name-refl}
use Rattle.reply_book.proofs.LookupLemmas.{new-other}
use Rattle.reply_book.proofs.LegalLemmas.{touches_in-history_of}
use Rattle.reply_book.proofs.CallerLemmas.{judged_of}
use Rattle.gate_session.specs.declared.answer.Answer.TheVariants as answers
use Rattle.gate_client.specs.File.{AreNumbered, waiting_of}
use Rattle.gate_law.specs.Joint.{Joint, of_gate, is_given_up, not_given_up, IsWaiting}
use Rattle.gate_law.specs.Agreement.{IsStart, AreInOrder}
use Rattle.gate_law.proofs.ListLemmas.{placed, contained, contains-left, contains-last, contains-none}
use Rattle.gate_law.proofs.ListLemmas.{contains-push_cases, of_gate-has, of_gate-of, of_gate-none, push-both}
use Rattle.gate_law.proofs.FileLemmas.{left-has, left-of, left-file, waiting-stays, waits-number, own, number-below}
use Rattle.gate_law.proofs.FileLemmas.{one_touch}

-- a judged touch of this gate and number, with this reply, stands in the history
pub record IsAnswered (gate number : ℕ) (reply : Reply) (history : List Judged) : Type 0 where
  pub judged : Judged
  pub there : Contains history judged
  pub own : judged.touch.gate ≡ gate
  pub named : judged.touch.number ≡ number
  pub replied : judged.reply ≡ reply

-- each touch that is kept is the gate's, with the number of its place and one, or gives up the one before it, and the
-- one that waits isn't given up; of this gate only such are on their way, and stand in the history; that is legal; but
-- for those that were given up its touches of the gate are those that are kept, or all but the last; each reply that
-- was written, and each that was told, stands in it
pub record Holds (gate cards : ℕ) (s : Joint) : Type 0 where
  pub numbered : AreNumbered gate s.asked
  pub waits : s.waits ≡ true → is_some (waiting_of s.asked) ≡ true
  pub sent : (t : Touch) → Contains s.sent t → t.gate ≡ gate → Contains s.asked t
  pub kept : (t : Touch) → t.gate ≡ gate → Contains (touches_of s.history) t → Contains s.asked t
  pub legal : IsLegal s.tables cards (history_of s.history)
  pub row : AreInOrder (of_gate gate (touches_of s.history)) s.asked s.waits
  pub answered : (number : ℕ) (reply : Reply) → Contains s.answers (answers.Reply gate number reply)
      → IsAnswered gate number reply (history_of s.history)
  pub told : (judged : Judged) → Contains s.told judged
      → Contains s.asked judged.touch × Contains (history_of s.history) judged

-- a history has the replies that it had before it grew
pub grown : (gate number : ℕ) (reply : Reply) (before more : List Judged) → IsAnswered gate number reply before
    → IsAnswered gate number reply (before ++ more)
grown gate number reply before more is = record {
  judged = is.judged;
  there = contains-left before more is.judged is.there;
  own = is.own;
  named = is.named;
  replied = is.replied;
}

pub starts : (gate cards : ℕ) (s : Joint) → IsStart gate cards s → Holds gate cards s
starts gate cards s is = record {
  numbered = λ i t at. absurd (contains-none s.asked t is.asked (contained s.asked i t at));
  waits = λ waits. let no : true ≡ false = sym waits ∙ is.waits in absurd cc;
  sent = λ t there own. absurd (is.sent t there own);
  kept = λ t own there. absurd (is.alone t there own);
  legal = is.legal;
  row = inl (ap (not_given_up s.asked) (of_gate-none gate (touches_of s.history) is.alone ∙ sym is.asked));
  answered = λ number reply there. absurd (is.unanswered number reply there);
  told = λ judged there. absurd (contains-none s.told judged is.told there);
}

-- the same of another row that is left the same
pub order-as : (row other asked : List Touch) (waits : Bool) → not_given_up asked other ≡ not_given_up asked row
    → AreInOrder row asked waits → AreInOrder other asked waits
order-as row other asked waits same order = elim order [
  | inl all ↦ inl (same ∙ all)
  | inr r ↦ inr (record {
    last = r.last;
    parts = r.parts ∙ ap (λ (l : List Touch). l ++ r.last ∷ []) (sym same);
    is = r.is;
  })
]

-- a touch that stands with its reply is among the history's
pub judged-in : (entries : List Entry) (judged : Judged) → Contains (history_of entries) judged
    → Contains (touches_of entries) judged.touch
judged-in entries judged there =
    let at = placed (history_of entries) judged there in
    let seen = slice_get-mapped judged_of entries at.0 judged at.1 in
    contained (touches_of entries) at.0 judged.touch
    (slice_get-of (λ (e : Entry). e.touch) entries at.0 seen.0 seen.1 ∙ ap (λ (j : Judged). Some j.touch) seen.2)

module _ (gate cards : ℕ) (s : Joint) (h : Holds gate cards s) where
  -- the gate's touches in the history
  abbrev pub was : List Touch
  was = of_gate gate (touches_of s.history)

  -- no name stands twice in the history
  pub once : AreNamedOnce (touches_of s.history)
  once = subst AreNamedOnce (touches_in-history_of s.history) h.legal.once

  -- of the touches that are kept, two with one number are one
  pub same-touch : (a b : Touch) → Contains s.asked a → Contains s.asked b → a.number ≡ b.number → a ≡ b
  same-touch a b in_a in_b =
      let at_a = placed s.asked a in_a in
      let at_b = placed s.asked b in_b in
      one_touch gate s.asked h.numbered at_a.0 at_b.0 a b at_a.1 at_b.1

  -- the touch that waits is among those that were asked, is the gate's, and has the last number
  pub waiting-asked : (touch : Touch) → IsWaiting s touch → Contains s.asked touch
  waiting-asked touch is =
      subst (λ (l : List Touch). Contains l touch) (sym is.last) (contains-last is.earlier touch)

  pub waiting-own : (touch : Touch) → IsWaiting s touch → touch.gate ≡ gate
  waiting-own touch is =
      let at = placed s.asked touch (waiting-asked touch is) in own gate s.asked h.numbered at.0 touch at.1

  pub waiting-number : (touch : Touch) → IsWaiting s touch → touch.number ≡ length s.asked
  waiting-number touch is = waits-number s.asked is.earlier touch is.last (h.waits is.waits)

  -- so it isn't given up
  pub waiting-left : (touch : Touch) → IsWaiting s touch → is_given_up s.asked touch.number ≡ false
  waiting-left touch is = waiting-stays s.asked is.earlier touch is.last (waiting-number touch is)

  -- where it stands in the history, all do that weren't given up
  pub all-there : (touch : Touch) → IsWaiting s touch → Contains (touches_of s.history) touch
      → not_given_up s.asked was ≡ not_given_up s.asked s.asked
  all-there touch is there = elim h.row [
    | inl all ↦ all
    | inr r ↦
        let number = waiting-number touch is in
        let here = left-has s.asked was touch (waiting-left touch is)
        (of_gate-has gate (touches_of s.history) touch (waiting-own touch is) there) in
        let same = push-both (not_given_up s.asked was) (not_given_up s.asked is.earlier) r.last touch
        (sym r.parts ∙ left-file s.asked is.earlier touch is.last number) in
        let before = left-of s.asked is.earlier touch (subst (λ (l : List Touch). Contains l touch) same.0 here) in
        let at = placed is.earlier touch before in
        let within : at.0 < length is.earlier = slice_get_within is.earlier at.0 touch at.1 in
        let below : touch.number ≤ at.0 + 1 = number-below gate s.asked h.numbered at.0 touch
        (ap (λ (l : List Touch). slice_get l at.0) is.last
        ∙ slice_get-append_left is.earlier (touch ∷ []) at.0 touch at.1) in
        let size : length s.asked ≡ length is.earlier + 1 =
        ap length is.last ∙ length-append is.earlier (touch ∷ []) in
        let count : touch.number ≡ length s.asked = number in
        absurd (omega (arith, within, below, size, count))
  ]

  -- a new touch isn't among the gate's touches yet
  pub not_yet : (touch : Touch) → found s.history touch ≡ New → Contains was touch → ⊥
  not_yet touch fresh there =
      let at = placed (touches_of s.history) touch (of_gate-of gate (touches_of s.history) touch there) in
      let seen = slice_get-mapped (λ (e : Entry). e.touch) s.history at.0 touch at.1 in
      new-other s.history touch at.0 seen.0 fresh seen.1
      (subst (λ (t : Touch). IsTrue (has_same_name touch t)) (sym seen.2) (same-name-refl touch))

  -- so it is the one that waits, where it isn't given up
  pub new-last : (touch : Touch) → found s.history touch ≡ New → Contains s.asked touch
      → is_given_up s.asked touch.number ≡ false → not_given_up s.asked was ++ touch ∷ [] ≡ not_given_up s.asked s.asked
  new-last touch fresh there stays =
      let left = left-has s.asked s.asked touch stays there in
      elim h.row [
        | inl all ↦
            absurd (not_yet touch fresh (left-of s.asked was touch
            (subst (λ (l : List Touch). Contains l touch) (sym all) left)))
        | inr r ↦ elim (contains-push_cases (not_given_up s.asked was) r.last touch
            (subst (λ (l : List Touch). Contains l touch) r.parts left)) [
              | inl before ↦ absurd (not_yet touch fresh (left-of s.asked was touch before))
              | inr last ↦ ap (λ (t : Touch). not_given_up s.asked was ++ t ∷ []) (sym last) ∙ sym r.parts
            ]
      ]
