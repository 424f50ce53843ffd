-- That a touch which a gate of a whole has given up is left to itself from then on.
use Rattle.std.proofs.Common.{◌≡◌, ℕ, ◌<◌, ◌==◌, Bool, true, false, List, [], ◌∷◌, ◌++◌, length, refl, sym, ap}
use Rattle.std.proofs.Common.{◌∙◌, subst, arith, append-nil}
use Rattle.std.specs.Prelude.{◌≢◌}
use Rattle.std.proofs.lemmas.List.Elements.{filter-append}
use Rattle.reply_book.proofs.NameLemmas.{equal}
use Rattle.gate_law.specs.Joint.{is_given_up, IsWaiting}
use Rattle.gate_law.specs.Whole.{Gate, Whole, Refusal, with_gate, view_of, IsWaitingAt}
use Rattle.gate_law.specs.WholeSteps.{Step, HearsFault, asks, sends, others_send, hears, hears_fault, gives_up}
use Rattle.gate_law.specs.WholeSteps.{gate_stops, gate_opens, enters, replies, refuses, tells, station_stops}
use Rattle.gate_law.specs.WholeSteps.{station_opens}
use Rattle.gate_law.specs.WholeAgreement.{IsRun}
use Rattle.gate_law.specs.GivenUp.{refused_of, IsLeftAlone, IsEachGivenUpForGood}
use Rattle.gate_law.proofs.FilterLemmas.{filter-one}
use Rattle.gate_law.proofs.FileLemmas.{differ, given_up-below}
use Rattle.gate_law.proofs.GivenUpLemmas.{goes-on}
use Rattle.gate_law.proofs.HoldsLemmas.{Holds, waiting-number}
use Rattle.gate_law.proofs.ViewLemmas.{with-own, with-other}
use Rattle.gate_law.proofs.WholeLemmas.{Reached, reached-first, reached-next, reached, holds, ways}

-- the fault that was told
abbrev refusal_of : (old new : Whole) → HearsFault old new → Refusal
refusal_of old new a = record { touch = a.touch; code = a.code }

-- of a whole that was reached, what it and a further step or run leave of the touch of this number
module _ (alone : ℕ → Bool) (cards gate number : ℕ) (is_alone : alone gate ≡ true) where
  -- the touch of that number was given up
  abbrev IsUp : Whole → Type 0
  IsUp whole = is_given_up (whole.gates gate).file number ≡ true

  -- what the gate and the station are, as the law over one gate has it
  held : (whole : Whole) → Reached alone cards whole → Holds gate cards (view_of gate whole)
  held whole h = holds gate cards (view_of gate whole) (h.each gate is_alone)

  left : (old new : Whole) (between : List Whole) → Reached alone cards old → IsUp old
      → IsRun alone cards old between new → IsLeftAlone gate number (view_of gate old) (view_of gate new)
  left old new between h up is =
      let way = ways alone cards old new between h.stands is gate is_alone in
      goes-on gate cards number (view_of gate old) (view_of gate new) way.between (held old h) up way.run

  -- a gate that was told no more faults
  same-faults : (old : Whole) (other : ℕ) (changed : Gate) → changed.refused ≡ (old.gates other).refused
      → (with_gate old.gates other changed gate).refused ≡ (old.gates gate).refused
  same-faults old other changed same = by_test (gate == other) refl
    where
      by_test : (b : Bool) → (gate == other) ≡ b
          → (with_gate old.gates other changed gate).refused ≡ (old.gates gate).refused
      by_test true e =
          let at : gate ≡ other = equal gate other e in
          ap (λ (n : ℕ). (with_gate old.gates other changed n).refused) at
          ∙ ap (λ (g : Gate). g.refused) (with-own old.gates other changed)
          ∙ same
          ∙ ap (λ (n : ℕ). (old.gates n).refused) (sym at)
      by_test false e = ap (λ (g : Gate). g.refused) (with-other old.gates other gate changed e)

  -- one that was told a fault of the touch that waits
  told-fault : (old new : Whole) → Reached alone cards old → IsUp old → (a : HearsFault old new) (changed : Gate)
      → changed.refused ≡ (old.gates a.number).refused ++ record { touch = a.touch; code = a.code } ∷ []
      → refused_of number (with_gate old.gates a.number changed gate).refused
      ≡ refused_of number (old.gates gate).refused
  told-fault old new h up a changed more = by_test (gate == a.number) refl
    where
      -- it isn't the touch that waits
      another : gate ≡ a.number → a.touch.number ≢ number
      another at is =
          let waits : IsWaitingAt (old.gates gate) a.touch =
          subst (λ (n : ℕ). IsWaitingAt (old.gates n) a.touch) (sym at) a.waiting in
          let waiting : IsWaiting (view_of gate old) a.touch =
          record { earlier = waits.earlier; last = waits.last; waits = waits.waits } in
          let last : a.touch.number ≡ length (old.gates gate).file =
          waiting-number gate cards (view_of gate old) (held old h) a.touch waiting in
          let below : number < length (old.gates gate).file = given_up-below (old.gates gate).file number up in
          let same : a.touch.number ≡ number = is in
          omega (arith, last, below, same)

      by_test : (b : Bool) → (gate == a.number) ≡ b
          → refused_of number (with_gate old.gates a.number changed gate).refused
          ≡ refused_of number (old.gates gate).refused
      by_test true e =
          let refusal = refusal_of old new a in
          let at : gate ≡ a.number = equal gate a.number e in
          let list : (with_gate old.gates a.number changed gate).refused ≡ (old.gates gate).refused ++ refusal ∷ [] =
          ap (λ (n : ℕ). (with_gate old.gates a.number changed n).refused) at
          ∙ ap (λ (g : Gate). g.refused) (with-own old.gates a.number changed)
          ∙ more
          ∙ ap (λ (n : ℕ). (old.gates n).refused ++ refusal ∷ []) (sym at) in
          ap (refused_of number) list
          ∙ filter-append (λ (r : Refusal). r.touch.number == number) (old.gates gate).refused (refusal ∷ [])
          ∙ ap (λ (l : List Refusal). refused_of number (old.gates gate).refused ++ l)
          (filter-one (λ (r : Refusal). r.touch.number == number) refusal false
          (differ a.touch.number number (another at)))
          ∙ append-nil (refused_of number (old.gates gate).refused)
      by_test false e =
          ap (λ (g : Gate). refused_of number g.refused) (with-other old.gates a.number gate changed e)

  -- what it was refused
  abbrev told_in : Whole → List Refusal
  told_in whole = refused_of number (whole.gates gate).refused

  -- a step after which no gate was told more faults
  as-before : (old new : Whole) (other : ℕ) (changed : Gate)
      → new ≡ record old { gates = with_gate old.gates other changed }
      → changed.refused ≡ (old.gates other).refused → told_in new ≡ told_in old
  as-before old new other changed is same =
      ap told_in is ∙ ap (refused_of number) (same-faults old other changed same)

  next : (old new : Whole) → Reached alone cards old → IsUp old → Step alone cards old new
      → told_in new ≡ told_in old
  next old new h up (asks a) = as-before old new a.number _ a.is refl
  next old new h up (sends a) = ap told_in a.is
  next old new h up (others_send a) = ap told_in a.is
  next old new h up (hears a) = as-before old new a.number _ a.is refl
  next old new h up (hears_fault a) = ap told_in a.is ∙ told-fault old new h up a _ refl
  next old new h up (gives_up a) = as-before old new a.number _ a.is refl
  next old new h up (gate_stops a) = as-before old new a.number _ a.is refl
  next old new h up (gate_opens a) = as-before old new a.number _ a.is refl
  next old new h up (enters a) = ap told_in a.is
  next old new h up (replies a) = ap told_in a.is
  next old new h up (refuses a) = ap told_in a.is
  next old new h up (tells a) = ap told_in a.is
  next old new h up (station_stops a) = ap told_in a.is
  next old new h up (station_opens a) = ap told_in a.is

  runs : (old new : Whole) (between : List Whole) → Reached alone cards old → IsUp old
      → IsRun alone cards old between new → told_in new ≡ told_in old
  runs old new [] h up is = ap told_in is
  runs old new (mid ∷ later) h up is =
      runs mid new later (reached-next alone cards old mid h is.0)
      (left old mid (mid ∷ []) h up (is.0, refl)).given_up is.1
      ∙ next old mid h up is.0

pub each_for_good : IsEachGivenUpForGood
each_for_good alone cards gate number old mid new before after start to_mid to_new is_alone up =
    let h = reached alone cards old mid before (reached-first alone cards old start) to_mid in
    record {
      alone = left alone cards gate number is_alone mid new after h up to_new;
      refused = runs alone cards gate number is_alone mid new after h up to_new;
    }
