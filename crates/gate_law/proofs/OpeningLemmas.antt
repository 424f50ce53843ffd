-- What a station that is opened makes of its journal, where that has one touch more than the history.
use Rattle.std.proofs.Common.{◌≡◌, ℕ, ◌<◌, List, [], ◌∷◌, ◌++◌, length, take, refl, ap, ◌∙◌}
use Rattle.std.proofs.Common.{subst, arith, Some}
use Rattle.std.specs.Prelude.{slice_get}
use Rattle.std.proofs.lemmas.Option.{slice_get_within}
use Rattle.oyster_account.specs.declared.touch.Touch.{Touch}
use Rattle.oyster_account.specs.declared.reply.Judged.{Judged}
use Rattle.reply_book.specs.declared.entry.Entry.{Entry}
use Rattle.reply_book.specs.declared.entry.Found.TheVariants.{New}
use Rattle.reply_book.specs.Names.{AreNamedOnce}
use Rattle.reply_book.specs.Tables.{Tables}
use Rattle.reply_book.specs.Lookup.{found}
use Rattle.reply_book.specs.Legal.{IsLegal, history_of, touches_of, judge_after}
use Rattle.reply_book.proofs.PlaceLemmas.{slice_get-append_left, slice_get-behind, slice_get-of, take-front}
use Rattle.reply_book.proofs.NameLemmas.{same-name-sym}
use Rattle.reply_book.proofs.LegalLemmas.{legal-take, touches_in-history_of}
use Rattle.reply_book.proofs.LawLemmas.{new-exact}
use Rattle.reply_book.proofs.CallerLemmas.{judged_of, history_of-push, touches_of-push}
use Rattle.reply_book.proofs.CallerLemmas.{length-touches_of}
use Rattle.gate_law.specs.Premises.{TheLock}

-- entries of these touches and one more are entries of these touches, and one more
pub record IsPushed (entries : List Entry) (touches : List Touch) (touch : Touch) : Type 0 where
  pub earlier : List Entry
  pub last : Entry
  pub parts : entries ≡ earlier ++ last ∷ []
  pub touches_are : touches_of earlier ≡ touches
  pub touch_is : last.touch ≡ touch

pub pushed-of : (entries : List Entry) (touches : List Touch) (touch : Touch)
    → touches_of entries ≡ touches ++ touch ∷ [] → IsPushed entries touches touch
pushed-of [] [] touch is = absurd cc
pushed-of [] (t ∷ ts) touch is = absurd cc
pushed-of (e ∷ []) [] touch is = record {
  earlier = [];
  last = e;
  parts = refl;
  touches_are = refl;
  touch_is = cc;
}
pushed-of (e ∷ f ∷ es) [] touch is = absurd cc
pushed-of (e ∷ es) (t ∷ ts) touch is =
    let here : e.touch ≡ t = cc in
    let behind : touches_of es ≡ ts ++ touch ∷ [] = cc in
    let rest = pushed-of es ts touch behind in
    record {
      earlier = e ∷ rest.earlier;
      last = rest.last;
      parts = ap (λ (l : List Entry). e ∷ l) rest.parts;
      touches_are = ap (λ (u : Touch). u ∷ touches_of rest.earlier) here
          ∙ ap (λ (l : List Touch). t ∷ l) rest.touches_are;
      touch_is = rest.touch_is;
    }

-- of a legal history all but the last entry is legal, the last one was new then, and has its judgement
module _ (tables : Tables) (cards : ℕ) (earlier : List Entry) (last : Entry)
    (legal : IsLegal tables cards (history_of (earlier ++ last ∷ []))) where
  parts : history_of (earlier ++ last ∷ []) ≡ history_of earlier ++ judged_of last ∷ []
  parts = history_of-push earlier last

  all : IsLegal tables cards (history_of earlier ++ judged_of last ∷ [])
  all = subst (IsLegal tables cards) parts legal

  front : take (length (history_of earlier)) (history_of earlier ++ judged_of last ∷ []) ≡ history_of earlier
  front = take-front (history_of earlier) (judged_of last ∷ [])

  pub legal-earlier : IsLegal tables cards (history_of earlier)
  legal-earlier =
      subst (IsLegal tables cards) front
      (legal-take tables cards (history_of earlier ++ judged_of last ∷ []) (length (history_of earlier)) all)

  pub lock-last : TheLock cards tables earlier last.touch last.reply
  lock-last =
      all.replies (length (history_of earlier)) (judged_of last)
      (slice_get-behind (history_of earlier) (judged_of last) [])
      ∙ ap (λ (h : List Judged). judge_after tables cards h last.touch) front

  once : AreNamedOnce (touches_of earlier ++ last.touch ∷ [])
  once = subst AreNamedOnce (touches_in-history_of (earlier ++ last ∷ []) ∙ touches_of-push earlier last) legal.once

  pub new-last : found earlier last.touch ≡ New
  new-last = (new-exact earlier last.touch).1 (λ place entry at same.
      let below : place < length earlier = slice_get_within earlier place entry at in
      let touched : slice_get (touches_of earlier) place ≡ Some entry.touch =
      slice_get-of (λ (e : Entry). e.touch) earlier place entry at in
      let place_is : place ≡ length (touches_of earlier) =
      once place (length (touches_of earlier)) entry.touch last.touch
      (slice_get-append_left (touches_of earlier) (last.touch ∷ []) place entry.touch touched)
      (slice_get-behind (touches_of earlier) last.touch []) (same-name-sym last.touch entry.touch same) in
      let long : length (touches_of earlier) ≡ length earlier = length-touches_of earlier in
      absurd (omega (arith, below, place_is, long)))
