-- That all gates agree with their station after every run.
use Rattle.std.proofs.Common.{◌≡◌, inl, inr, ℕ, ◌==◌, Bool, true, false, List, [], ◌∷◌, ◌++◌, refl, sym, ap, ◌∙◌}
use Rattle.std.proofs.Common.{subst, Some, is_some}
use Rattle.std.specs.Prelude.{Contains, slice_get, ◌≢◌}
use Rattle.oyster_account.specs.declared.touch.Touch.{Touch}
use Rattle.oyster_account.specs.declared.reply.Judged.{Judged}
use Rattle.reply_book.specs.declared.entry.Entry.{Entry}
use Rattle.reply_book.specs.declared.entry.Found.TheVariants.{Conflict as Other}
use Rattle.reply_book.specs.Lookup.{found}
use Rattle.reply_book.specs.Legal.{history_of, touches_of}
use Rattle.reply_book.proofs.PlaceLemmas.{slice_get-mapped, slice_get-of}
use Rattle.reply_book.proofs.NameLemmas.{equal}
use Rattle.reply_book.proofs.CallerLemmas.{judged_of}
use Rattle.gate_session.specs.declared.answer.Answer.{Answer}
use Rattle.gate_session.specs.declared.answer.Answer.TheVariants as answers
use Rattle.gate_session.specs.declared.answer.FaultCode.{FaultCode}
use Rattle.gate_session.specs.declared.answer.FaultCode.TheVariants.{BadFrame, Conflict, Halted}
use Rattle.gate_session.specs.declared.answer.FaultCode.TheVariants.{Memory, Full, UnknownTable, NotAllowed}
use Rattle.gate_session.specs.Answers.{fault_code}
use Rattle.gate_client.specs.File.{waiting_of}
use Rattle.gate_law.specs.Joint.{Joint}
use Rattle.gate_law.specs.Steps as one_steps
use Rattle.gate_law.specs.Agreement.{Agrees}
use Rattle.gate_law.specs.Agreement as one_gate
use Rattle.gate_law.proofs.ListLemmas.{contained, contains-left, contains-none, contains-push_cases}
use Rattle.gate_law.proofs.HoldsLemmas.{Holds, starts}
use Rattle.gate_law.proofs.StepLemmas.{runs, run-append}
use Rattle.gate_law.proofs.AgreementLemmas.{they_agree}
use Rattle.gate_law.specs.Whole.{Gate, Station, Whole, Refusal, with_gate, view_of, IsCause}
use Rattle.gate_law.specs.WholeSteps.{Refuses, Tells, HearsFault, IsOfNoTouch, Step, IsLeftBehind}
use Rattle.gate_law.specs.WholeSteps.{asks, sends, others_send, hears, hears_fault, gives_up, gate_stops, gate_opens}
use Rattle.gate_law.specs.WholeSteps.{enters, replies, refuses, tells, station_stops, station_opens}
use Rattle.gate_law.specs.WholeAgreement.{IsRun, IsStart, LeadsTo, DoAllAgree, IsEachARun}
use Rattle.gate_law.proofs.ViewLemmas.{with-own, with-other}
use Rattle.gate_law.proofs.StandsLemmas.{Stands, stands-first, stands-next, waiting-own}
use Rattle.gate_law.proofs.LeadsLemmas.{leads}

-- a run, and then another one from where it ends
pub run-then : (alone : ℕ → Bool) (cards : ℕ) (old mid new : Whole) (xs ys : List Whole) → IsRun alone cards old xs mid
    → IsRun alone cards mid ys new → IsRun alone cards old (xs ++ ys) new
run-then alone cards old mid new [] ys is more = subst (λ (w : Whole). IsRun alone cards w ys new) is more
run-then alone cards old mid new (x ∷ xs) ys is more = (is.0, run-then alone cards x mid new xs ys is.1 more)

-- a gate and the station came here by a run of gate_law from where it had asked nothing
pub record IsReached (gate cards : ℕ) (s : Joint) : Type 0 where
  pub first : Joint
  pub starts : one_gate.IsStart gate cards first
  pub way : LeadsTo gate cards first s

-- what holds of the whole on the way
pub record Reached (alone : ℕ → Bool) (cards : ℕ) (whole : Whole) : Type 0 where
  pub stands : Stands whole
  pub each : (number : ℕ) → alone number ≡ true → IsReached number cards (view_of number whole)
  pub no_conflict : (gate number : ℕ) → alone gate ≡ true
      → Contains whole.answers (answers.Fault (fault_code Conflict) gate number) → ⊥
  pub never : (number : ℕ) (refusal : Refusal) → alone number ≡ true
      → Contains (whole.gates number).refused refusal → refusal.code ≢ fault_code Conflict

start-of : (alone : ℕ → Bool) (cards : ℕ) (whole : Whole) → IsStart alone cards whole → (number : ℕ)
    → alone number ≡ true → one_gate.IsStart number cards (view_of number whole)
start-of alone cards whole start number is_alone = record {
  asked = (start.blank number).file;
  waits = (start.blank number).waits;
  sent = λ touch there own.
      let no : true ≡ false = sym is_alone ∙ ap alone (sym own) ∙ start.sent touch there in absurd cc;
  legal = start.legal;
  alone = λ touch there own.
      let no : true ≡ false = sym is_alone ∙ ap alone (sym own) ∙ start.others touch there in absurd cc;
  unanswered = λ n reply there. start.unanswered number n reply is_alone there;
  told = (start.blank number).told;
}

pub reached-first : (alone : ℕ → Bool) (cards : ℕ) (whole : Whole) → IsStart alone cards whole
    → Reached alone cards whole
reached-first alone cards whole start = record {
  stands = stands-first alone cards whole start;
  each = λ number is_alone. record {
    first = view_of number whole;
    starts = start-of alone cards whole start number is_alone;
    way = record { between = []; run = refl };
  };
  no_conflict = start.no_conflict;
  never = λ number refusal is_alone there.
      absurd (contains-none (whole.gates number).refused refusal (start.blank number).refused there);
}

-- on by one leading more
further : (gate cards : ℕ) (first mid new : Joint) → LeadsTo gate cards first mid → LeadsTo gate cards mid new
    → LeadsTo gate cards first new
further gate cards first mid new one two = record {
  between = one.between ++ two.between;
  run = run-append (one_steps.Step gate cards) first mid new one.between two.between one.run two.run;
}

agrees : (gate cards : ℕ) (s : Joint) → IsReached gate cards s → Agrees gate cards s
agrees gate cards s is = they_agree gate cards is.first s is.way.between is.starts is.way.run

pub holds : (gate cards : ℕ) (s : Joint) → IsReached gate cards s → Holds gate cards s
holds gate cards s is = runs gate cards is.first s is.way.between (starts gate cards is.first is.starts) is.way.run

-- a fault of this code comes of a conflict
conflicts : (station : Station) (touch : Touch) (fault : FaultCode) → fault_code fault ≡ fault_code Conflict
    → IsCause station touch fault → found station.history touch ≡ Other
conflicts station touch Conflict is cause = cause
conflicts station touch BadFrame is cause = absurd cause
conflicts station touch Halted is cause = absurd cc
conflicts station touch Memory is cause = absurd cc
conflicts station touch Full is cause = absurd cc
conflicts station touch UnknownTable is cause = absurd cc
conflicts station touch NotAllowed is cause = absurd cc

module _ (alone : ℕ → Bool) (cards : ℕ) (old : Whole) (h : Reached alone cards old) where
  -- a touch of a gate that has its number to itself conflicts with none
  none-conflicts : (touch : Touch) → alone touch.gate ≡ true → Contains old.sent touch
      → found old.station.history touch ≢ Other
  none-conflicts touch is_alone sent =
      let at = h.each touch.gate is_alone in
      let asked = (holds touch.gate cards (view_of touch.gate old) at).sent touch sent refl in
      (agrees touch.gate cards (view_of touch.gate old) at).no_conflict touch asked

  -- no answer that is written is a conflict of such a gate
  conflict-refuses : (new : Whole) (a : Refuses old new) (gate number : ℕ) → alone gate ≡ true
      → Contains (old.answers ++ answers.Fault (fault_code a.fault) a.touch.gate a.touch.number ∷ [])
      (answers.Fault (fault_code Conflict) gate number) → ⊥
  conflict-refuses new a gate number is_alone there =
      elim (contains-push_cases old.answers (answers.Fault (fault_code a.fault) a.touch.gate a.touch.number)
      (answers.Fault (fault_code Conflict) gate number) there) [
        | inl before ↦ h.no_conflict gate number is_alone before
        | inr last ↦
            let code : fault_code a.fault ≡ fault_code Conflict = cc in
            let own : a.touch.gate ≡ gate = cc in
            none-conflicts a.touch (ap alone own ∙ is_alone) a.line
            (conflicts old.station a.touch a.fault code a.cause)
      ]

  of-none : (answer : Answer) (gate number : ℕ) → IsOfNoTouch answer
      → answer ≡ answers.Fault (fault_code Conflict) gate number → ⊥
  of-none (answers.Reply g n reply) gate number none is = absurd none
  of-none (answers.Holding view front) gate number none is = absurd cc
  of-none (answers.Fault code g n) gate number none is =
      let same : code ≡ fault_code Conflict = cc in
      elim none [
        | inl bad ↦ absurd cc
        | inr others ↦ elim others [ inl halted ↦ absurd cc | inr barred ↦ absurd cc ]
      ]

  conflict-tells : (new : Whole) (a : Tells old new) (gate number : ℕ) → alone gate ≡ true
      → Contains (old.answers ++ a.answer ∷ []) (answers.Fault (fault_code Conflict) gate number) → ⊥
  conflict-tells new a gate number is_alone there =
      elim (contains-push_cases old.answers a.answer (answers.Fault (fault_code Conflict) gate number) there) [
        | inl before ↦ h.no_conflict gate number is_alone before
        | inr last ↦ of-none a.answer gate number a.of_none last
      ]

  conflict-replies : (g n : ℕ) (gate number : ℕ) (new : Answer)
      → (new ≡ answers.Fault (fault_code Conflict) gate number → ⊥)
      → alone gate ≡ true → Contains (old.answers ++ new ∷ []) (answers.Fault (fault_code Conflict) gate number) → ⊥
  conflict-replies g n gate number new other is_alone there =
      elim (contains-push_cases old.answers new (answers.Fault (fault_code Conflict) gate number) there) [
        | inl before ↦ h.no_conflict gate number is_alone before
        | inr last ↦ other last
      ]

  -- a gate that was told no more faults
  never-same : (number : ℕ) (gate : Gate) → gate.refused ≡ (old.gates number).refused → (other : ℕ)
      (refusal : Refusal) → alone other ≡ true → Contains (with_gate old.gates number gate other).refused refusal
      → refusal.code ≢ fault_code Conflict
  never-same number gate same other refusal is_alone = by_test (other == number) refl
    where
      by_test : (b : Bool) → (other == number) ≡ b
          → Contains (with_gate old.gates number gate other).refused refusal → refusal.code ≢ fault_code Conflict
      by_test true e there =
          let at : other ≡ number = equal other number e in
          let here : with_gate old.gates number gate other ≡ gate =
          ap (with_gate old.gates number gate) at ∙ with-own old.gates number gate in
          let list : (with_gate old.gates number gate other).refused ≡ (old.gates other).refused =
          ap (λ (g : Gate). g.refused) here ∙ same ∙ ap (λ (n : ℕ). (old.gates n).refused) (sym at) in
          h.never other refusal is_alone (subst (λ (l : List Refusal). Contains l refusal) list there)
      by_test false e there =
          h.never other refusal is_alone (subst (λ (g : Gate). Contains g.refused refusal)
          (with-other old.gates number other gate e) there)

  -- one that was told one more, which was written
  never-told : (new : Whole) (a : HearsFault old new) (gate : Gate)
      → gate.refused ≡ (old.gates a.number).refused ++ record { touch = a.touch; code = a.code } ∷ []
      → (other : ℕ) (refusal : Refusal) → alone other ≡ true
      → Contains (with_gate old.gates a.number gate other).refused refusal → refusal.code ≢ fault_code Conflict
  never-told new a gate more other refusal is_alone = by_test (other == a.number) refl
    where
      by_test : (b : Bool) → (other == a.number) ≡ b
          → Contains (with_gate old.gates a.number gate other).refused refusal → refusal.code ≢ fault_code Conflict
      by_test true e there =
          let at : other ≡ a.number = equal other a.number e in
          let here : with_gate old.gates a.number gate other ≡ gate =
          ap (with_gate old.gates a.number gate) at ∙ with-own old.gates a.number gate in
          let list = ap (λ (g : Gate). g.refused) here ∙ more in
          let is_here : alone a.number ≡ true = ap alone (sym at) ∙ is_alone in
          elim (contains-push_cases (old.gates a.number).refused (record { touch = a.touch; code = a.code }) refusal
          (subst (λ (l : List Refusal). Contains l refusal) list there)) [
            | inl before ↦ h.never a.number refusal is_here before
            | inr last ↦ λ code.
                let same : a.code ≡ fault_code Conflict = ap (λ (r : Refusal). r.code) last ∙ code in
                let own = waiting-own old h.stands a.number a.touch a.waiting in
                h.no_conflict a.touch.gate a.touch.number (ap alone own ∙ is_here)
                (subst (λ (n : ℕ). Contains old.answers (answers.Fault n a.touch.gate a.touch.number)) same a.line)
          ]
      by_test false e there =
          h.never other refusal is_alone (subst (λ (g : Gate). Contains g.refused refusal)
          (with-other old.gates a.number other gate e) there)

-- what is known of the faults after a step
record AreTrue (alone : ℕ → Bool) (whole : Whole) : Type 0 where
  pub no_conflict : (gate number : ℕ) → alone gate ≡ true
      → Contains whole.answers (answers.Fault (fault_code Conflict) gate number) → ⊥
  pub never : (number : ℕ) (refusal : Refusal) → alone number ≡ true
      → Contains (whole.gates number).refused refusal → refusal.code ≢ fault_code Conflict

true-next : (alone : ℕ → Bool) (cards : ℕ) (old new : Whole) → Reached alone cards old
    → Step alone cards old new → AreTrue alone new
true-next alone cards old new h (asks a) = subst (AreTrue alone) (sym a.is) (record {
  no_conflict = h.no_conflict;
  never = never-same alone cards old h a.number (record {
    file = (old.gates a.number).file ++ a.touch ∷ [];
    going = true;
    waits = true;
    told = (old.gates a.number).told;
    refused = (old.gates a.number).refused;
  }) refl;
})
true-next alone cards old new h (sends a) = subst (AreTrue alone) (sym a.is) (record {
  no_conflict = h.no_conflict;
  never = h.never;
})
true-next alone cards old new h (others_send a) = subst (AreTrue alone) (sym a.is) (record {
  no_conflict = h.no_conflict;
  never = h.never;
})
true-next alone cards old new h (hears a) = subst (AreTrue alone) (sym a.is) (record {
  no_conflict = h.no_conflict;
  never = never-same alone cards old h a.number (record {
    file = (old.gates a.number).file;
    going = true;
    waits = false;
    told = (old.gates a.number).told ++ record { touch = a.touch; reply = a.reply } ∷ [];
    refused = (old.gates a.number).refused;
  }) refl;
})
true-next alone cards old new h (hears_fault a) = subst (AreTrue alone) (sym a.is) (record {
  no_conflict = h.no_conflict;
  never = never-told alone cards old h new a (record {
    file = (old.gates a.number).file;
    going = true;
    waits = true;
    told = (old.gates a.number).told;
    refused = (old.gates a.number).refused ++ record { touch = a.touch; code = a.code } ∷ [];
  }) refl;
})
true-next alone cards old new h (gives_up a) = subst (AreTrue alone) (sym a.is) (record {
  no_conflict = h.no_conflict;
  never = never-same alone cards old h a.number (record {
    file = (old.gates a.number).file ++ a.touch ∷ [];
    going = true;
    waits = false;
    told = (old.gates a.number).told;
    refused = (old.gates a.number).refused;
  }) refl;
})
true-next alone cards old new h (gate_stops a) = subst (AreTrue alone) (sym a.is) (record {
  no_conflict = h.no_conflict;
  never = never-same alone cards old h a.number (record {
    file = a.left;
    going = false;
    waits = a.waits;
    told = (old.gates a.number).told;
    refused = (old.gates a.number).refused;
  }) refl;
})
true-next alone cards old new h (gate_opens a) = subst (AreTrue alone) (sym a.is) (record {
  no_conflict = h.no_conflict;
  never = never-same alone cards old h a.number (record {
    file = a.kept;
    going = true;
    waits = is_some (waiting_of a.kept);
    told = (old.gates a.number).told;
    refused = (old.gates a.number).refused;
  }) refl;
})
true-next alone cards old new h (enters a) = subst (AreTrue alone) (sym a.is) (record {
  no_conflict = h.no_conflict;
  never = h.never;
})
true-next alone cards old new h (replies a) = subst (AreTrue alone) (sym a.is) (record {
  no_conflict = λ gate number.
      conflict-replies alone cards old h a.touch.gate a.touch.number gate number
      (answers.Reply a.touch.gate a.touch.number a.reply) (λ is. absurd cc);
  never = h.never;
})
true-next alone cards old new h (refuses a) = subst (AreTrue alone) (sym a.is) (record {
  no_conflict = conflict-refuses alone cards old h new a;
  never = h.never;
})
true-next alone cards old new h (tells a) = subst (AreTrue alone) (sym a.is) (record {
  no_conflict = conflict-tells alone cards old h new a;
  never = h.never;
})
true-next alone cards old new h (station_stops a) = subst (AreTrue alone) (sym a.is) (record {
  no_conflict = h.no_conflict;
  never = h.never;
})
true-next alone cards old new h (station_opens a) = subst (AreTrue alone) (sym a.is) (record {
  no_conflict = h.no_conflict;
  never = h.never;
})

pub reached-next : (alone : ℕ → Bool) (cards : ℕ) (old new : Whole) → Reached alone cards old
    → Step alone cards old new → Reached alone cards new
reached-next alone cards old new h step =
    let truly = true-next alone cards old new h step in
    record {
      stands = stands-next alone cards old new h.stands step;
      each = λ number is_alone.
          let was = h.each number is_alone in
          record {
            first = was.first;
            starts = was.starts;
            way = further number cards was.first (view_of number old) (view_of number new) was.way
                (leads alone cards old new h.stands step number is_alone);
          };
      no_conflict = truly.no_conflict;
      never = truly.never;
    }

pub reached : (alone : ℕ → Bool) (cards : ℕ) (old new : Whole) (between : List Whole) → Reached alone cards old
    → IsRun alone cards old between new → Reached alone cards new
reached alone cards old new [] h is = subst (Reached alone cards) (sym is) h
reached alone cards old new (next ∷ later) h is =
    reached alone cards next new later (reached-next alone cards old next h is.0) is.1

-- the way of a gate from the first state of a run
pub ways : (alone : ℕ → Bool) (cards : ℕ) (old new : Whole) (between : List Whole) → Stands old
    → IsRun alone cards old between new → (number : ℕ) → alone number ≡ true
    → LeadsTo number cards (view_of number old) (view_of number new)
ways alone cards old new [] h is number is_alone = record { between = []; run = ap (view_of number) is }
ways alone cards old new (next ∷ later) h is number is_alone =
    further number cards (view_of number old) (view_of number next) (view_of number new)
    (leads alone cards old next h is.0 number is_alone)
    (ways alone cards next new later (stands-next alone cards old next h is.0) is.1 number is_alone)

pub each_is_a_run : IsEachARun
each_is_a_run alone cards old new between start is =
    ways alone cards old new between (stands-first alone cards old start) is

-- what stands in the history is in the journal
pub in-journal : (sent history journal : List Touch) (touch : Touch) → IsLeftBehind sent history journal
    → Contains history touch → Contains journal touch
in-journal sent history journal touch left there = elim left [
  | inl all ↦ subst (λ (l : List Touch). Contains l touch) (sym all) there
  | inr flight ↦
      subst (λ (l : List Touch). Contains l touch) (sym flight.is)
      (contains-left history (flight.touch ∷ []) touch there)
]

-- a touch that stands with its reply is among the history's
pub in-history : (entries : List Entry) (place : ℕ) (judged : Judged)
    → slice_get (history_of entries) place ≡ Some judged → Contains (touches_of entries) judged.touch
in-history entries place judged at =
    let seen = slice_get-mapped judged_of entries place judged at in
    contained (touches_of entries) place judged.touch
    (slice_get-of (λ (e : Entry). e.touch) entries place seen.0 seen.1 ∙ ap (λ (j : Judged). Some j.touch) seen.2)

pub all_agree : DoAllAgree
all_agree alone cards old new between start is =
    let h = reached alone cards old new between (reached-first alone cards old start) is in
    record {
      each = λ number is_alone. agrees number cards (view_of number new) (h.each number is_alone);
      durable = λ number judged is_alone told.
          let done = (agrees number cards (view_of number new) (h.each number is_alone)).told judged told in
          in-journal new.sent (touches_of new.station.history) new.station.journal judged.touch h.stands.left
          (in-history new.station.history done.place judged done.stands);
      never_conflict = h.never;
      going = h.stands.going;
      left = h.stands.left;
    }
