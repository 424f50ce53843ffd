-- That the gate and its station agree after every run.
use Rattle.std.proofs.Common.{◌≡◌, ℕ, ◌==◌, sym, ap, ◌∙◌, Some}
use Rattle.std.specs.Prelude.{Contains, slice_get, ◌≢◌}
use Rattle.oyster_account.specs.declared.touch.Touch.{Touch}
use Rattle.oyster_account.specs.declared.reply.Judged.{Judged}
use Rattle.reply_book.specs.declared.entry.Entry.{Entry}
use Rattle.reply_book.specs.declared.entry.Found.TheVariants.{Conflict}
use Rattle.reply_book.specs.Lookup.{found}
use Rattle.reply_book.specs.Legal.{history_of, touches_of}
use Rattle.reply_book.proofs.PlaceLemmas.{slice_get-mapped, slice_get-of}
use Rattle.reply_book.proofs.NameLemmas.{both, equal}
use Rattle.reply_book.proofs.LawLemmas.{conflict-exact}
use Rattle.reply_book.proofs.CallerLemmas.{judged_of}
use Rattle.gate_law.specs.Joint.{Joint}
use Rattle.gate_law.specs.Agreement.{IsDone, DoGateAndStationAgree}
use Rattle.gate_law.proofs.ListLemmas.{placed, contained}
use Rattle.gate_law.proofs.FileLemmas.{own, named}
use Rattle.gate_law.proofs.HoldsLemmas.{Holds, starts, once, same-touch, waiting-left}
use Rattle.gate_law.proofs.StepLemmas.{runs}

module _ (gate cards : ℕ) (s : Joint) (h : Holds gate cards s) where
  done : (judged : Judged) → Contains s.told judged → IsDone s judged
  done judged there =
      let was = h.told judged there in
      let at = placed (history_of s.history) judged was.1 in
      record {
        asked = was.0;
        place = at.0;
        stands = at.1;
        alone = λ other touch at_other same.
            let seen = slice_get-mapped judged_of s.history at.0 judged at.1 in
            let here : slice_get (touches_of s.history) at.0 ≡ Some judged.touch =
            slice_get-of (λ (e : Entry). e.touch) s.history at.0 seen.0 seen.1
            ∙ ap (λ (j : Judged). Some j.touch) seen.2 in
            sym (once gate cards s h at.0 other judged.touch touch here at_other same);
      }

  no_conflict : (touch : Touch) → Contains s.asked touch → found s.history touch ≢ Conflict
  no_conflict touch there is =
      let other = (conflict-exact s.history touch (once gate cards s h)).0 is in
      let parts = both (touch.gate == other.entry.touch.gate) (touch.number == other.entry.touch.number) other.named in
      let asked = placed s.asked touch there in
      let own_gate : other.entry.touch.gate ≡ gate =
      sym (equal touch.gate other.entry.touch.gate parts.0) ∙ own gate s.asked h.numbered asked.0 touch asked.1 in
      let stands = h.kept other.entry.touch own_gate
      (contained (touches_of s.history) other.place other.entry.touch
      (slice_get-of (λ (e : Entry). e.touch) s.history other.place other.entry other.at)) in
      other.other (same-touch gate cards s h other.entry.touch touch stands there
      (sym (equal touch.number other.entry.touch.number parts.1)))

pub they_agree : DoGateAndStationAgree
they_agree gate cards old new between start is =
    let h = runs gate cards old new between (starts gate cards old start) is in
    record {
      row = h.row;
      kept = h.kept;
      once = once gate cards new h;
      told = done gate cards new h;
      numbered = h.numbered;
      named = named gate new.asked h.numbered;
      waiting = waiting-left gate cards new h;
      no_conflict = no_conflict gate cards new h;
      legal = h.legal;
    }
