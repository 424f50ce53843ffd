-- That what gates and their station do is what one account machine does.
use Rattle.std.proofs.Common.{◌≡◌, inl, inr, ℕ, ◌<◌, ◌==◌, Bool, true, false, cond, IsTrue, List, []}
use Rattle.std.proofs.Common.{◌∷◌, ◌++◌}
use Rattle.std.proofs.Common.{length, refl, sym, ap, ◌∙◌, subst, arith, Some, append-nil, append_assoc}
use Rattle.std.specs.Prelude.{Contains, slice_get}
use Rattle.std.proofs.lemmas.Option.{slice_get_within}
use Rattle.oyster_account.specs.declared.touch.Touch.{Touch}
use Rattle.oyster_account.specs.declared.reply.Judged.{Judged}
use Rattle.reply_book.specs.declared.entry.Entry.{Entry}
use Rattle.reply_book.specs.declared.entry.Found.TheVariants.{New}
use Rattle.reply_book.specs.Names.{has_same_name}
use Rattle.reply_book.specs.Tables.{Tables}
use Rattle.reply_book.specs.Lookup.{found}
use Rattle.reply_book.specs.Legal.{IsLegal, history_of, touches_of, touches_in, judge_after, book}
use Rattle.reply_book.proofs.PlaceLemmas.{slice_get-append_left, slice_get-behind, slice_get-mapped, slice_get-of}
use Rattle.reply_book.proofs.PlaceLemmas.{take-front}
use Rattle.reply_book.proofs.NameLemmas.{equal-refl, same-name-sym}
use Rattle.reply_book.proofs.LookupLemmas.{new-other}
use Rattle.reply_book.proofs.LegalLemmas.{touches_in-history_of, legal-add, legal-is_book}
use Rattle.reply_book.proofs.CallerLemmas.{judged_of, history_of-push}
use Rattle.gate_law.specs.Joint.{of_gate}
use Rattle.gate_law.specs.Premises.{SameTables, TheLock}
use Rattle.gate_law.specs.Agreement.{AreInOrder}
use Rattle.gate_law.specs.Whole.{Whole}
use Rattle.gate_law.specs.WholeSteps.{Step, StationOpens, asks, sends, others_send, hears, hears_fault, gives_up}
use Rattle.gate_law.specs.WholeSteps.{gate_stops, gate_opens, enters, replies, refuses, tells, station_stops}
use Rattle.gate_law.specs.WholeSteps.{station_opens}
use Rattle.gate_law.specs.WholeAgreement.{IsRun, IsStart, AllAgree}
use Rattle.gate_law.specs.Machine.{Machine, replies_to, IsAsk, AreAsks, machine_of, IsAskOrNone, IsEachStepAtomic}
use Rattle.gate_law.specs.Machine.{IsEachRunOfMachine}
use Rattle.gate_law.proofs.ListLemmas.{placed, contained}
use Rattle.gate_law.proofs.FilterLemmas.{filter-has}
use Rattle.gate_law.proofs.OpeningLemmas.{pushed-of, legal-earlier, lock-last, new-last}
use Rattle.gate_law.proofs.StandsLemmas.{Stands, stands-first, stands-next}
use Rattle.gate_law.proofs.WholeLemmas.{all_agree}

-- ---- one ask

-- a touch that is new has no other one's gate and number
none-named : (entries : List Entry) (touch : Touch) → found entries touch ≡ New → (other : Judged)
    → Contains (history_of entries) other → IsTrue (has_same_name touch other.touch) → ⊥
none-named entries touch fresh other there same =
    let at = placed (history_of entries) other there in
    let seen = slice_get-mapped judged_of entries at.0 other at.1 in
    new-other entries touch at.0 seen.0 fresh seen.1
    (subst (λ (j : Judged). IsTrue (has_same_name touch j.touch)) (sym seen.2) same)

-- an entry that was new, with its judgement, is one ask
ask-of : (tables : Tables) (cards : ℕ) (entries : List Entry) (entry : Entry) → found entries entry.touch ≡ New
    → TheLock cards tables entries entry.touch entry.reply
    → IsAsk tables cards entry.touch entry.reply (record { history = history_of entries })
    (record { history = history_of (entries ++ entry ∷ []) })
ask-of tables cards entries entry fresh lock = record {
  fresh = none-named entries entry.touch fresh;
  judged = lock;
  is = ap (λ (h : List Judged). record { history = h }) (history_of-push entries entry);
}

-- ---- one step

-- the history is legal, and the journal has it
record IsSound (cards : ℕ) (whole : Whole) : Type 0 where
  pub stands : Stands whole
  pub legal : IsLegal whole.station.tables cards (history_of whole.station.history)

-- the same touches by tables that make the same book of them
same-book : (cards : ℕ) (tables others : Tables) (entries kept : List Entry)
    → IsLegal tables cards (history_of entries) → IsLegal others cards (history_of kept)
    → touches_of kept ≡ touches_of entries → SameTables cards (touches_of entries) tables others
    → history_of kept ≡ history_of entries
same-book cards tables others entries kept legal again touches same =
    legal-is_book others cards (history_of kept) again
    ∙ ap (book others cards) (touches_in-history_of kept ∙ touches)
    ∙ same
    ∙ ap (book tables cards) (sym (touches_in-history_of entries))
    ∙ sym (legal-is_book tables cards (history_of entries) legal)

module _ (alone : ℕ → Bool) (cards : ℕ) (old new : Whole) (h : IsSound cards old) where
  -- an opening: nothing, or the touch that was in flight
  opens : StationOpens cards old new → IsAskOrNone cards old new
  opens a = subst (IsAskOrNone cards old) (sym a.is) (elim h.stands.left [
    | inl all ↦
        inl (ap (λ (l : List Judged). record { history = l })
        (same-book cards old.station.tables a.tables old.station.history a.kept h.legal a.legal (a.one_journal ∙ all)
        a.same_tables))
    | inr flight ↦
        let split = pushed-of a.kept (touches_of old.station.history) flight.touch (a.one_journal ∙ flight.is) in
        let legal = subst (λ (l : List Entry). IsLegal a.tables cards (history_of l)) split.parts a.legal in
        let earlier = same-book cards old.station.tables a.tables old.station.history split.earlier h.legal
        (legal-earlier a.tables cards split.earlier split.last legal) split.touches_are a.same_tables in
        let ask = ask-of a.tables cards split.earlier split.last
        (new-last a.tables cards split.earlier split.last legal)
        (lock-last a.tables cards split.earlier split.last legal) in
        let from : IsAsk a.tables cards split.last.touch split.last.reply (machine_of old)
        (record { history = history_of (split.earlier ++ split.last ∷ []) }) =
        subst (λ (l : List Judged). IsAsk a.tables cards split.last.touch split.last.reply (record { history = l })
        (record { history = history_of (split.earlier ++ split.last ∷ []) })) earlier ask in
        inr (
          split.last.touch,
          split.last.reply,
          subst (λ (l : List Entry). IsAsk a.tables cards split.last.touch split.last.reply (machine_of old)
              (record { history = history_of l })) (sym split.parts) from,
        )
  ])

  one-step : Step alone cards old new → IsAskOrNone cards old new
  one-step (asks a) = inl (ap machine_of a.is)
  one-step (sends a) = inl (ap machine_of a.is)
  one-step (others_send a) = inl (ap machine_of a.is)
  one-step (hears a) = inl (ap machine_of a.is)
  one-step (hears_fault a) = inl (ap machine_of a.is)
  one-step (gives_up a) = inl (ap machine_of a.is)
  one-step (gate_stops a) = inl (ap machine_of a.is)
  one-step (gate_opens a) = inl (ap machine_of a.is)
  one-step (enters a) =
      subst (IsAskOrNone cards old) (sym a.is) (inr (
        a.touch,
        a.reply,
        ask-of old.station.tables cards old.station.history
            (record { touch = a.touch; reply = a.reply; seat = a.seat }) a.fresh a.lock,
      ))
  one-step (replies a) = inl (ap machine_of a.is)
  one-step (refuses a) = inl (ap machine_of a.is)
  one-step (tells a) = inl (ap machine_of a.is)
  one-step (station_stops a) = inl (ap machine_of a.is)
  one-step (station_opens a) = opens a

  -- whose history is legal
  abbrev IsLegalIn : Whole → Type 0
  IsLegalIn whole = IsLegal whole.station.tables cards (history_of whole.station.history)

  legal-next : Step alone cards old new → IsLegalIn new
  legal-next (asks a) = subst IsLegalIn (sym a.is) h.legal
  legal-next (sends a) = subst IsLegalIn (sym a.is) h.legal
  legal-next (others_send a) = subst IsLegalIn (sym a.is) h.legal
  legal-next (hears a) = subst IsLegalIn (sym a.is) h.legal
  legal-next (hears_fault a) = subst IsLegalIn (sym a.is) h.legal
  legal-next (gives_up a) = subst IsLegalIn (sym a.is) h.legal
  legal-next (gate_stops a) = subst IsLegalIn (sym a.is) h.legal
  legal-next (gate_opens a) = subst IsLegalIn (sym a.is) h.legal
  legal-next (enters a) =
      subst IsLegalIn (sym a.is) (legal-add old.station.tables cards old.station.history
      (record { touch = a.touch; reply = a.reply; seat = a.seat }) a.fresh a.lock h.legal)
  legal-next (replies a) = subst IsLegalIn (sym a.is) h.legal
  legal-next (refuses a) = subst IsLegalIn (sym a.is) h.legal
  legal-next (tells a) = subst IsLegalIn (sym a.is) h.legal
  legal-next (station_stops a) = subst IsLegalIn (sym a.is) h.legal
  legal-next (station_opens a) = subst IsLegalIn (sym a.is) a.legal

  sound-next : Step alone cards old new → IsSound cards new
  sound-next step = record { stands = stands-next alone cards old new h.stands step; legal = legal-next step }

-- ---- a run

sound-first : (alone : ℕ → Bool) (cards : ℕ) (whole : Whole) → IsStart alone cards whole → IsSound cards whole
sound-first alone cards whole start =
    record { stands = stands-first alone cards whole start; legal = start.legal }

sound-run : (alone : ℕ → Bool) (cards : ℕ) (old new : Whole) (between : List Whole) → IsSound cards old
    → IsRun alone cards old between new → IsSound cards new
sound-run alone cards old new [] h is = subst (IsSound cards) (sym is) h
sound-run alone cards old new (next ∷ later) h is =
    sound-run alone cards next new later (sound-next alone cards old next h is.0) is.1

pub each_step_atomic : IsEachStepAtomic
each_step_atomic alone cards old mid new between start is =
    one-step alone cards mid new
    (sound-run alone cards old mid between (sound-first alone cards old start) is)

-- a history that has grown by these
abbrev HasGrown : Whole → Whole → Type 0
HasGrown old new = (more : List Judged) × ((machine_of new).history ≡ (machine_of old).history ++ more)

grown-next : (cards : ℕ) (old new : Whole) → IsAskOrNone cards old new → HasGrown old new
grown-next cards old new (inl same) =
    ([], ap (λ (m : Machine). m.history) same ∙ sym (append-nil (machine_of old).history))
grown-next cards old new (inr (touch, reply, ask)) =
    (record { touch = touch; reply = reply } ∷ [], ap (λ (m : Machine). m.history) ask.is)

grown-run : (alone : ℕ → Bool) (cards : ℕ) (old new : Whole) (between : List Whole) → IsSound cards old
    → IsRun alone cards old between new → HasGrown old new
grown-run alone cards old new [] h is =
    ([], ap (λ (w : Whole). (machine_of w).history) is ∙ sym (append-nil (machine_of old).history))
grown-run alone cards old new (next ∷ later) h is =
    let first = grown-next cards old next (one-step alone cards old next h is.0) in
    let rest = grown-run alone cards next new later (sound-next alone cards old next h is.0) is.1 in (
      first.0 ++ rest.0,
      rest.1 ∙ ap (λ (l : List Judged). l ++ rest.0) first.1
          ∙ append_assoc (machine_of old).history first.0 rest.0,
    )

-- in a legal history what stands behind some of it was asked after them, one by one
module _ (tables : Tables) (cards : ℕ) where
  next-asked : (before : List Judged) (judged : Judged) (later : List Judged)
      → IsLegal tables cards (before ++ judged ∷ later)
      → IsAsk tables cards judged.touch judged.reply (record { history = before })
      (record { history = before ++ judged ∷ [] })
  next-asked before judged later legal = record {
    fresh = λ other there same.
        let at = placed before other there in
        let all = before ++ judged ∷ later in
        let other_at : slice_get (touches_in all) at.0 ≡ Some other.touch =
        slice_get-of (λ (j : Judged). j.touch) all at.0 other (slice_get-append_left before (judged ∷ later) at.0 other
        at.1) in
        let here : slice_get (touches_in all) (length before) ≡ Some judged.touch =
        slice_get-of (λ (j : Judged). j.touch) all (length before) judged (slice_get-behind before judged later) in
        let place : at.0 ≡ length before = legal.once at.0 (length before) other.touch judged.touch other_at here
        (same-name-sym judged.touch other.touch same) in
        let within : at.0 < length before = slice_get_within before at.0 other at.1 in
        absurd (omega (arith, place, within));
    judged = legal.replies (length before) judged (slice_get-behind before judged later)
        ∙ ap (λ (l : List Judged). judge_after tables cards l judged.touch) (take-front before (judged ∷ later));
    is = refl;
  }

  all-asked : (before more : List Judged) → IsLegal tables cards (before ++ more)
      → AreAsks tables cards (record { history = before }) more (record { history = before ++ more })
  all-asked before [] legal = ap (λ (l : List Judged). record { history = l }) (append-nil before)
  all-asked before (judged ∷ later) legal =
      let parts : (before ++ judged ∷ []) ++ later ≡ before ++ judged ∷ later =
      append_assoc before (judged ∷ []) later in
      let rest = all-asked (before ++ judged ∷ []) later (subst (IsLegal tables cards) (sym parts) legal) in (
        record { history = before ++ judged ∷ [] },
        next-asked before judged later legal,
        subst (λ (l : List Judged). AreAsks tables cards (record { history = before ++ judged ∷ [] }) later
            (record { history = l })) parts rest,
      )

-- ---- what a gate was told

-- the touches of the replies to a gate are the gate's touches in the history
replies-of : (gate : ℕ) (entries : List Entry)
    → touches_in (replies_to gate (record { history = history_of entries })) ≡ of_gate gate (touches_of entries)
replies-of gate [] = refl
replies-of gate (e ∷ es) = by_test (e.touch.gate == gate) (replies-of gate es)
  where
    rest : List Judged
    rest = replies_to gate (record { history = history_of es })

    by_test : (b : Bool) → touches_in rest ≡ of_gate gate (touches_of es)
        → touches_in (cond b (judged_of e ∷ rest) rest)
        ≡ cond b (e.touch ∷ of_gate gate (touches_of es)) (of_gate gate (touches_of es))
    by_test true is = ap (λ (l : List Touch). e.touch ∷ l) is
    by_test false is = is

-- what was told is of the gate, and among the replies to it
told-of : (alone : ℕ → Bool) (cards : ℕ) (whole : Whole) → Stands whole → AllAgree alone cards whole → (gate : ℕ)
    (judged : Judged) → alone gate ≡ true → Contains (whole.gates gate).told judged
    → Contains (replies_to gate (machine_of whole)) judged
told-of alone cards whole stands all gate judged is_alone told =
    let done = (all.each gate is_alone).told judged told in
    let at = placed (whole.gates gate).file judged.touch done.asked in
    let own : judged.touch.gate ≡ gate = stands.own gate at.0 judged.touch at.1 in
    let passes : (judged.touch.gate == gate) ≡ true =
    subst (λ (n : ℕ). (judged.touch.gate == n) ≡ true) own (equal-refl judged.touch.gate) in
    filter-has (λ (j : Judged). j.touch.gate == gate) (history_of whole.station.history) judged passes
    (contained (history_of whole.station.history) done.place judged done.stands)

pub each_run_of_machine : IsEachRunOfMachine
each_run_of_machine alone cards old new between start is =
    let first = sound-first alone cards old start in
    let last = sound-run alone cards old new between first is in
    let grown = grown-run alone cards old new between first is in
    let all = all_agree alone cards old new between start is in
    record {
      asked = grown.0;
      run = subst (λ (l : List Judged). AreAsks new.station.tables cards (machine_of old) grown.0
          (record { history = l })) (sym grown.1)
          (all-asked new.station.tables cards (machine_of old).history grown.0
          (subst (IsLegal new.station.tables cards) grown.1 last.legal));
      told = λ gate judged is_alone told. told-of alone cards new last.stands all gate judged is_alone told;
      order = λ gate is_alone.
          subst (λ (l : List Touch). AreInOrder l (new.gates gate).file (new.gates gate).waits)
          (sym (replies-of gate new.station.history)) (all.each gate is_alone).row;
    }
