-- What holds at the start and is kept by each step; and what each step is for one gate and the station.
use Rattle.std.proofs.Common.{◌≡◌, inl, inr, ℕ, ◌==◌, Bool, true, false, List, [], ◌∷◌, ◌++◌, refl, sym, ap}
use Rattle.std.proofs.Common.{◌∙◌, subst, Some, length, is_some}
use Rattle.std.specs.Prelude.{slice_get}
use Rattle.oyster_account.specs.declared.touch.Touch.{Touch}
use Rattle.reply_book.specs.declared.entry.Entry.{Entry}
use Rattle.reply_book.specs.Legal.{touches_of}
use Rattle.reply_book.proofs.PlaceLemmas.{slice_get-push_cases, slice_get-behind}
use Rattle.reply_book.proofs.NameLemmas.{equal}
use Rattle.reply_book.proofs.CallerLemmas.{touches_of-push}
use Rattle.gate_session.specs.declared.answer.Answer.{Answer}
use Rattle.gate_session.specs.declared.answer.Answer.TheVariants as answers
use Rattle.gate_client.specs.File.{waiting_of}
use Rattle.gate_law.proofs.ListLemmas.{contains-left, contains-none, contained}
use Rattle.gate_law.specs.Whole.{Gate, Whole, with_gate, IsWaitingAt}
use Rattle.gate_law.specs.WholeSteps.{IsLeftBehind, Step, asks, sends, others_send, hears, hears_fault}
use Rattle.gate_law.specs.WholeSteps.{gives_up, gate_stops, gate_opens, enters, replies, refuses, tells, station_stops}
use Rattle.gate_law.specs.WholeSteps.{station_opens}
use Rattle.gate_law.specs.WholeAgreement.{IsStart}
use Rattle.gate_law.proofs.ViewLemmas.{with-own, with-other}

-- each touch in a gate's file is of that gate
abbrev pub AreOwn : (ℕ → Gate) → Type 0
AreOwn gates = (number i : ℕ) (touch : Touch) → slice_get (gates number).file i ≡ Some touch → touch.gate ≡ number

-- and the journal has the history's touches, or one more where the station doesn't go on
pub record Stands (whole : Whole) : Type 0 where
  pub own : AreOwn whole.gates
  pub going : whole.station.going ≡ true → whole.station.journal ≡ touches_of whole.station.history
  pub left : IsLeftBehind whole.sent (touches_of whole.station.history) whole.station.journal

pub stands-first : (alone : ℕ → Bool) (cards : ℕ) (whole : Whole) → IsStart alone cards whole → Stands whole
stands-first alone cards whole start = record {
  own = λ number i touch at.
      absurd (contains-none (whole.gates number).file touch (start.blank number).file
      (contained (whole.gates number).file i touch at));
  going = λ is. start.journal;
  left = inl start.journal;
}

-- ---- what is kept

-- more that was sent
left-sent : (sent more history journal : List Touch) → IsLeftBehind sent history journal
    → IsLeftBehind (sent ++ more) history journal
left-sent sent more history journal left = elim left [
  | inl all ↦ inl all
  | inr flight ↦ inr (record {
    touch = flight.touch;
    line = contains-left sent more flight.touch flight.line;
    is = flight.is;
  })
]

-- a gate of its own touches in place of another
own-with : (gates : ℕ → Gate) (number : ℕ) (gate : Gate) → AreOwn gates
    → ((i : ℕ) (touch : Touch) → slice_get gate.file i ≡ Some touch → touch.gate ≡ number)
    → AreOwn (with_gate gates number gate)
own-with gates number gate own mine other i touch = by_test (other == number) refl
  where
    by_test : (b : Bool) → (other == number) ≡ b
        → slice_get (with_gate gates number gate other).file i ≡ Some touch → touch.gate ≡ other
    by_test true e at =
        let same : other ≡ number = equal other number e in
        let here : with_gate gates number gate other ≡ gate =
        ap (with_gate gates number gate) same ∙ with-own gates number gate in
        mine i touch (subst (λ (g : Gate). slice_get g.file i ≡ Some touch) here at) ∙ sym same
    by_test false e at =
        own other i touch (subst (λ (g : Gate). slice_get g.file i ≡ Some touch)
        (with-other gates number other gate e) at)

module _ (old : Whole) (h : Stands old) where
  -- the touch that waits is of its gate
  pub waiting-own : (number : ℕ) (touch : Touch) → IsWaitingAt (old.gates number) touch → touch.gate ≡ number
  waiting-own number touch waiting =
      h.own number (length waiting.earlier) touch
      (ap (λ (l : List Touch). slice_get l (length waiting.earlier)) waiting.last
      ∙ slice_get-behind waiting.earlier touch [])

  -- a gate whose file is as it was
  same-file : (number : ℕ) (gate : Gate) → gate.file ≡ (old.gates number).file
      → Stands (record old { gates = with_gate old.gates number gate })
  same-file number gate same = record {
    own = own-with old.gates number gate h.own (λ i touch at.
        h.own number i touch (subst (λ (l : List Touch). slice_get l i ≡ Some touch) same at));
    going = h.going;
    left = h.left;
  }

  -- a gate whose file has one touch more, of its own
  more-file : (number : ℕ) (gate : Gate) (touch : Touch) → touch.gate ≡ number
      → gate.file ≡ (old.gates number).file ++ touch ∷ []
      → Stands (record old { gates = with_gate old.gates number gate })
  more-file number gate touch own more = record {
    own = own-with old.gates number gate h.own (λ i other at.
        elim (slice_get-push_cases (old.gates number).file touch i other
        (subst (λ (l : List Touch). slice_get l i ≡ Some other) more at)) [
          | inl before ↦ h.own number i other before
          | inr last ↦ ap (λ (t : Touch). t.gate) (sym last.1) ∙ own
        ]);
    going = h.going;
    left = h.left;
  }

  -- more was sent
  more-sent : (touch : Touch) → Stands (record old { sent = old.sent ++ touch ∷ [] })
  more-sent touch = record {
    own = h.own;
    going = h.going;
    left = left-sent old.sent (touch ∷ []) (touches_of old.station.history) old.station.journal h.left;
  }

  -- more was answered
  more-answers : (answer : Answer) → Stands (record old { answers = old.answers ++ answer ∷ [] })
  more-answers answer = record { own = h.own; going = h.going; left = h.left }

pub stands-next : (alone : ℕ → Bool) (cards : ℕ) (old new : Whole) → Stands old → Step alone cards old new
    → Stands new
stands-next alone cards old new h (asks a) =
    subst Stands (sym a.is) (more-file old h a.number (record {
      file = (old.gates a.number).file ++ a.touch ∷ [];
      going = true;
      waits = true;
      told = (old.gates a.number).told;
      refused = (old.gates a.number).refused;
    }) a.touch a.asked.own refl)
stands-next alone cards old new h (sends a) = subst Stands (sym a.is) (more-sent old h a.touch)
stands-next alone cards old new h (others_send a) = subst Stands (sym a.is) (more-sent old h a.touch)
stands-next alone cards old new h (hears a) =
    subst Stands (sym a.is) (same-file old h a.number (record {
      file = (old.gates a.number).file;
      going = true;
      waits = false;
      told = (old.gates a.number).told ++ record { touch = a.touch; reply = a.reply } ∷ [];
      refused = (old.gates a.number).refused;
    }) refl)
stands-next alone cards old new h (hears_fault a) =
    subst Stands (sym a.is) (same-file old h a.number (record {
      file = (old.gates a.number).file;
      going = true;
      waits = true;
      told = (old.gates a.number).told;
      refused = (old.gates a.number).refused ++ record { touch = a.touch; code = a.code } ∷ [];
    }) refl)
stands-next alone cards old new h (gives_up a) =
    subst Stands (sym a.is) (more-file old h a.number (record {
      file = (old.gates a.number).file ++ a.touch ∷ [];
      going = true;
      waits = false;
      told = (old.gates a.number).told;
      refused = (old.gates a.number).refused;
    }) a.touch (waiting-own old h a.number a.touch a.waited) refl)
stands-next alone cards old new h (gate_stops a) =
    let gate : Gate = record {
      file = a.left;
      going = false;
      waits = a.waits;
      told = (old.gates a.number).told;
      refused = (old.gates a.number).refused;
    } in
    subst Stands (sym a.is) (elim a.either [
      | inl same ↦ same-file old h a.number gate same.0
      | inr other ↦ elim other [
        | inl more ↦ more-file old h a.number gate more.0 more.1.own more.2
        | inr up ↦ more-file old h a.number gate up.0 (waiting-own old h a.number up.0 up.1) up.2
      ]
    ])
stands-next alone cards old new h (gate_opens a) =
    subst Stands (sym a.is) (same-file old h a.number (record {
      file = a.kept;
      going = true;
      waits = is_some (waiting_of a.kept);
      told = (old.gates a.number).told;
      refused = (old.gates a.number).refused;
    }) a.one_journal)
stands-next alone cards old new h (enters a) =
    let entry : Entry = record { touch = a.touch; reply = a.reply; seat = a.seat } in
    let journal : old.station.journal ++ a.touch ∷ [] ≡ touches_of (old.station.history ++ entry ∷ []) =
    ap (λ (l : List Touch). l ++ a.touch ∷ []) (h.going a.going) ∙ sym (touches_of-push old.station.history entry) in
    subst Stands (sym a.is) (record { own = h.own; going = λ is. journal; left = inl journal })
stands-next alone cards old new h (replies a) =
    subst Stands (sym a.is) (more-answers old h (answers.Reply a.touch.gate a.touch.number a.reply))
stands-next alone cards old new h (refuses a) = subst Stands (sym a.is) (record {
  own = h.own;
  going = h.going;
  left = h.left;
})
stands-next alone cards old new h (tells a) = subst Stands (sym a.is) (more-answers old h a.answer)
stands-next alone cards old new h (station_stops a) = subst Stands (sym a.is) (record {
  own = h.own;
  going = λ is. let no : false ≡ true = is in absurd cc;
  left = a.either;
})
stands-next alone cards old new h (station_opens a) = subst Stands (sym a.is) (record {
  own = h.own;
  going = λ is. refl;
  left = inl refl;
})
