-- That what comes of a commit is a run of a station's steps.
use Rattle.std.proofs.Common.{◌≡◌, ◌⊎◌, inl, inr, ℕ, ◌<◌, Bool, true, false, not, List, [], ◌∷◌, ◌++◌, length, refl}
use Rattle.std.proofs.Common.{sym, ap}
use Rattle.std.proofs.Common.{◌∙◌, subst, Option, Some, Result, Ok, Err, IfOk, OnErr, ◌↔◌}
use Rattle.std.specs.Prelude.{IsErrOf}
use Rattle.oyster_account.specs.declared.touch.Touch.{Touch}
use Rattle.oyster_account.specs.declared.reply.Reply.{Reply}
use Rattle.tap_journal.specs.Layout.{Header}
use Rattle.tap_journal.specs.Image.{Image, WithOrWithout}
use Rattle.tap_journal.specs.Left.{AllLeft}
use Rattle.reply_book.specs.declared.entry.Entry.{Entry}
use Rattle.reply_book.specs.declared.entry.Found.TheVariants as finds
use Rattle.reply_book.specs.Names.{AreNamedOnce}
use Rattle.reply_book.specs.Tables.{Tables}
use Rattle.reply_book.specs.Lookup.{found}
use Rattle.reply_book.specs.Legal.{IsLegal, history_of, touches_of, judge_after}
use Rattle.reply_book.proofs.PlaceLemmas.{slice_get-behind}
use Rattle.reply_book.proofs.LegalLemmas.{legal-add, touches_in-history_of}
use Rattle.reply_book.proofs.LawLemmas.{first-exact}
use Rattle.gate_session.specs.declared.answer.Answer.{Answer}
use Rattle.gate_session.specs.declared.answer.Answer.TheVariants as answers
use Rattle.gate_session.specs.declared.answer.FaultCode.TheVariants as codes
use Rattle.gate_session.specs.Answers.{fault_code}
use Rattle.gate_law.specs.Premises.{Line, TheLock}
use Rattle.tap_desk.specs.declared.copy_version.LogName.{Ghosts}
use Rattle.tap_office.specs.declared.receipt.Receipt.{Receipt}
use Rattle.tap_office.specs.declared.fault.SubmitFault.{SubmitFault}
use Rattle.tap_office.specs.declared.fault.SubmitFault.TheVariants as faults
use Rattle.tap_office.specs.Name.{Opened}
use Rattle.tap_office.specs.Given.{IsGiven, IsLegalFor, IsReplyFor, is_known_to, is_known_by}
use Rattle.tap_office.specs.Keeper.{KeeperState, MayGo, MayNotGo, IsLeft}
use Rattle.tap_office.specs.Seat.{SeatState}
use Rattle.tap_office.specs.Receipt.{IsRepeat, IsFirst, IsReceiptOf}
use Rattle.gate_law.specs.Whole.{Station, Whole, IsCause}
use Rattle.gate_law.specs.WholeSteps.{enters, replies, refuses, station_stops}
use Rattle.station_calls.specs.Shown.{IsOnDisk, IsShownBy}
use Rattle.station_calls.specs.Commits.{IsCommitRun, answer_to, answered_in, code_of}

-- an opening was given one set of tables
one-pair : (p q : Tables × ℕ) → Some p ≡ Some q → p ≡ q
one-pair p q e = cc

pub one-given : (opened : Opened) (a b : Tables) → IsGiven opened a → IsGiven opened b → a ≡ b
one-given opened a b is other =
    ap (λ (p : Tables × ℕ). p.0) (one-pair (a, opened.header.cards) (b, opened.header.cards) (sym is ∙ other))

-- what the clauses of a commit say, of a keeper and a seat before and after it
pub record Committed {D N : Type 0} {g : Ghosts N} (honest : D → Type 0) (outcome : D → List ℕ → Type 0)
    (failed : Type 0) (opened : Opened) (touch : Touch) (old new : KeeperState D) (before after : SeatState)
    (result : Result (Receipt N g) SubmitFault) : Type 0 where
  pub repeat : IfOk result (λ r. r.fresh ≡ false → IsRepeat old.history new.history before after r)
  pub first : IfOk result (λ r. r.fresh ≡ true → IsFirst opened old.history new.history before after r)
  pub receipt : IfOk result (IsReceiptOf touch new.history before after)
  pub kept : OnErr result (new.history ≡ old.history)
  pub in_flight : IsErrOf result faults.Halted → old.halted ≡ false → honest new.disk
      → AllLeft (outcome new.disk) (WithOrWithout opened.header (touches_of old.history) touch)
  pub idle : MayNotGo old before → new.disk ≡ old.disk
  pub refuses : MayNotGo old before → IsErrOf result faults.Halted
  pub conflict : IsErrOf result faults.Conflict ↔ (MayGo old before × (found old.history touch ≡ finds.Conflict))
  pub unknown_table : IsErrOf result faults.UnknownTable
      ↔ (MayGo old before × (found old.history touch ≡ finds.New) × (is_known_to opened touch ≡ false))
  pub full : IsErrOf result faults.Full
      ↔ (MayGo old before × (found old.history touch ≡ finds.New) × (is_known_to opened touch ≡ true)
      × (length old.history ≡ opened.header.capacity))
  pub memory : IsErrOf result faults.Memory
      → MayGo old before × (found old.history touch ≡ finds.New) × (is_known_to opened touch ≡ true)
      × (length old.history < opened.header.capacity)
  pub halts : new.halted ≡ true → (old.halted ≡ true) ⊎ (IsErrOf result faults.Halted × failed)
  pub stays : old.halted ≡ true → new.halted ≡ true

-- what a crash may leave, of the history's touches or of one more that was sent
pub on_disk : (h : Header) (whole : Whole) (history : List Entry) (touch : Touch) (content : List ℕ)
    → whole.station.history ≡ history → Line whole.sent touch → WithOrWithout h (touches_of history) touch content
    → IsOnDisk h whole content
on_disk h whole history touch content same line either = elim either [
  | inl without ↦ record {
    left = touches_of whole.station.history;
    either = inl refl;
    image = subst (λ (l : List Entry). Image h (touches_of l) content) (sym same) without;
  }
  | inr with_it ↦ record {
    left = touches_of whole.station.history ++ touch ∷ [];
    either = inr (record { touch = touch; line = line; is = refl });
    image = subst (λ (l : List Entry). Image h (touches_of l ++ touch ∷ []) content) (sym same) with_it;
  }
]

module _ {D : Type 0} (alone : ℕ → Bool) (honest : D → Type 0) (content : D → List ℕ)
    (outcome : D → List ℕ → Type 0) (opened : Opened) (old new : KeeperState D) (whole : Whole) (touch : Touch)
    (shown : IsShownBy honest outcome opened old whole) (line : Line whole.sent touch)
    (legal : IsLegalFor opened (history_of old.history))
    (leaves : IsLeft honest content outcome opened.header new.history new.halted new.disk) where
  abbrev was : Station
  was = whole.station

  abbrev cards : ℕ
  cards = opened.header.cards

  is_legal : IsLegal was.tables cards (history_of was.history)
  is_legal =
      subst (λ (t : Tables). IsLegal t cards (history_of was.history))
      (one-given opened legal.tables was.tables legal.given shown.given)
      (subst (λ (l : List Entry). IsLegal legal.tables cards (history_of l)) (sym shown.history) legal.legal)

  lock : (reply : Reply) → IsReplyFor opened (history_of old.history) touch reply
      → TheLock cards was.tables was.history touch reply
  lock reply by =
      by.is
      ∙ ap (λ (t : Tables). judge_after t cards (history_of old.history) touch)
      (one-given opened by.tables was.tables by.given shown.given)
      ∙ ap (λ (l : List Entry). judge_after was.tables cards (history_of l) touch) (sym shown.history)

  goes : old.halted ≡ false → was.going ≡ true
  goes is = shown.going ∙ ap not is

  -- a keeper that isn't halted shows a station that goes on with its history
  shows : (w : Whole) → new.halted ≡ false → IsGiven opened w.station.tables
      → w.station.capacity ≡ opened.header.capacity → w.station.history ≡ new.history → w.station.going ≡ true
      → IsShownBy honest outcome opened new w
  shows w is given capacity history going = record {
    given = given;
    capacity = capacity;
    history = history;
    going = going ∙ sym (ap not is);
    left = λ well c out. record {
      left = touches_of w.station.history;
      either = inl refl;
      image = subst (λ (l : List Entry). Image opened.header (touches_of l) c) (sym history)
          (leaves.left is well c out);
    };
  }

  module _ {N : Type 0} {g : Ghosts N} (before after : SeatState) where
    -- a new touch is entered, and answered
    enter-run : (r : Receipt N g) → r.touch ≡ touch → IsFirst opened old.history new.history before after r
        → old.halted ≡ false → new.halted ≡ false
        → IsCommitRun alone honest outcome opened whole (answers.Reply touch.gate touch.number r.reply) new
    enter-run r touch_is first was_going is_going =
        let entry : Entry = record { touch = touch; reply = r.reply; seat = before.number } in
        let fresh : found was.history touch ≡ finds.New =
        subst (λ (t : Touch). found was.history t ≡ finds.New) touch_is
        (subst (λ (l : List Entry). found l r.touch ≡ finds.New) (sym shown.history) first.is_new) in
        let reply = lock r.reply
        (subst (λ (t : Touch). IsReplyFor opened (history_of old.history) t r.reply) touch_is first.reply) in
        let grown : was.history ++ entry ∷ [] ≡ new.history =
        ap (λ (l : List Entry). l ++ entry ∷ []) shown.history
        ∙ ap (λ (t : Touch). old.history ++ record { touch = t; reply = r.reply; seat = before.number } ∷ [])
        (sym touch_is) ∙ sym first.added in
        let once : AreNamedOnce (touches_of (was.history ++ entry ∷ [])) =
        subst AreNamedOnce (touches_in-history_of (was.history ++ entry ∷ []))
        (legal-add was.tables cards was.history entry fresh reply is_legal).once in
        let stands : found (was.history ++ entry ∷ []) touch ≡ finds.First (length was.history) r.reply =
        (first-exact (was.history ++ entry ∷ []) touch (length was.history) r.reply once).1
        (record { entry = entry; at = slice_get-behind was.history entry []; touched = refl; replied = refl }) in
        let station : Station = record {
          journal = was.journal ++ touch ∷ [];
          capacity = was.capacity;
          going = true;
          tables = was.tables;
          history = was.history ++ entry ∷ [];
        } in
        let answer : Answer = answers.Reply touch.gate touch.number r.reply in
        record {
          station = station;
          between = record whole { station = station } ∷ answered_in whole station answer ∷ [];
          run = (
            enters (record {
              touch = touch;
              reply = r.reply;
              seat = before.number;
              going = goes was_going;
              line = line;
              fresh = fresh;
              lock = reply;
              is = refl;
            }),
            (
              replies (record {
                touch = touch;
                place = length was.history;
                reply = r.reply;
                going = refl;
                first = stands;
                is = refl;
              }),
              refl,
            ),
          );
          shown = shows (answered_in whole station answer) is_going shown.given shown.capacity grown refl;
        }

    -- a repeat is answered
    repeat-run : (r : Receipt N g) → r.touch ≡ touch → IsRepeat old.history new.history before after r
        → old.halted ≡ false → new.halted ≡ false
        → IsCommitRun alone honest outcome opened whole (answers.Reply touch.gate touch.number r.reply) new
    repeat-run r touch_is repeat was_going is_going =
        let answer : Answer = answers.Reply touch.gate touch.number r.reply in
        let stands : found was.history touch ≡ finds.First r.place r.reply =
        subst (λ (t : Touch). found was.history t ≡ finds.First r.place r.reply) touch_is
        (subst (λ (l : List Entry). found l r.touch ≡ finds.First r.place r.reply) (sym shown.history) repeat.first) in
        record {
          station = was;
          between = answered_in whole was answer ∷ [];
          run = (
            replies (record {
              touch = touch;
              place = r.place;
              reply = r.reply;
              going = goes was_going;
              first = stands;
              is = refl;
            }),
            refl,
          );
          shown = shows (answered_in whole was answer) is_going shown.given shown.capacity
              (shown.history ∙ sym repeat.same) (goes was_going);
        }

  -- the answer of a fault
  abbrev refusal : SubmitFault → Answer
  refusal fault = answers.Fault (fault_code (code_of fault)) touch.gate touch.number

  -- a touch is refused, and the station goes on
  refuse-run : (fault : SubmitFault) → IsCause was touch (code_of fault) → new.history ≡ old.history
      → old.halted ≡ false → new.halted ≡ false → IsCommitRun alone honest outcome opened whole (refusal fault) new
  refuse-run fault cause same was_going is_going = record {
    station = was;
    between = answered_in whole was (refusal fault) ∷ [];
    run = (
      refuses (record { touch = touch; fault = code_of fault; line = line; cause = cause; is = refl }),
      refl,
    );
    shown = shows (answered_in whole was (refusal fault)) is_going shown.given shown.capacity
        (shown.history ∙ sym same) (goes was_going);
  }

  -- the disk fails: the station doesn't go on, and tells so
  stop-run : new.history ≡ old.history → new.halted ≡ true
      → (honest new.disk → AllLeft (outcome new.disk) (WithOrWithout opened.header (touches_of old.history) touch))
      → IsCommitRun alone honest outcome opened whole (refusal faults.Halted) new
  stop-run same stopped either =
      let station : Station = record {
        journal = touches_of was.history;
        capacity = was.capacity;
        going = false;
        tables = was.tables;
        history = was.history;
      } in
      let last = answered_in whole station (refusal faults.Halted) in
      record {
        station = station;
        between = record whole { station = station } ∷ last ∷ [];
        run = (
          station_stops (record { left = touches_of was.history; either = inl refl; is = refl }),
          (
            refuses (record { touch = touch; fault = codes.Halted; line = line; cause = tt; is = refl }),
            refl,
          ),
        );
        shown = record {
          given = shown.given;
          capacity = shown.capacity;
          history = shown.history ∙ sym same;
          going = sym (ap not stopped);
          left = λ well c out. on_disk opened.header last old.history touch c shown.history line (either well c out);
        };
      }

  -- a station that doesn't go on tells so
  halted-run : new.history ≡ old.history → new.halted ≡ true → old.halted ≡ true → new.disk ≡ old.disk
      → IsCommitRun alone honest outcome opened whole (refusal faults.Halted) new
  halted-run same stopped was_stopped disk =
      let last = answered_in whole was (refusal faults.Halted) in
      record {
        station = was;
        between = last ∷ [];
        run = (
          refuses (record { touch = touch; fault = codes.Halted; line = line; cause = tt; is = refl }),
          refl,
        );
        shown = record {
          given = shown.given;
          capacity = shown.capacity;
          history = shown.history ∙ sym same;
          going = shown.going ∙ ap not was_stopped ∙ sym (ap not stopped);
          left = λ well c out.
              let was_well : honest old.disk = subst honest disk well in
              let before : outcome old.disk c = subst (λ (d : D). outcome d c) disk out in
              let on = shown.left was_well c before in
              record { left = on.left; either = on.either; image = on.image };
        };
      }

  module _ {N : Type 0} {g : Ghosts N} (before after : SeatState) (failed : Type 0) where
    -- why a keeper that isn't halted refuses a touch
    cause : (fault : SubmitFault)
        → Committed {N = N} {g = g} honest outcome failed opened touch old new before after (Err fault)
        → IsCause was touch (code_of fault)
    cause faults.Conflict by =
        subst (λ (l : List Entry). found l touch ≡ finds.Conflict) (sym shown.history) (by.conflict.0 refl).1
    cause faults.Halted by = tt
    cause faults.Memory by =
        subst (λ (l : List Entry). found l touch ≡ finds.New) (sym shown.history) (by.memory refl).1
    cause faults.Full by =
        let is = by.full.0 refl in (
          subst (λ (l : List Entry). found l touch ≡ finds.New) (sym shown.history) is.1,
          ap length shown.history ∙ is.3 ∙ sym shown.capacity,
        )
    cause faults.UnknownTable by =
        let is = by.unknown_table.0 refl in (
          subst (λ (l : List Entry). found l touch ≡ finds.New) (sym shown.history) is.1,
          sym (ap (λ (o : Option (Tables × ℕ)). is_known_by o touch) shown.given) ∙ is.2,
        )

    by_fault : (fault : SubmitFault) (was_halted is_halted : Bool) → old.halted ≡ was_halted
        → new.halted ≡ is_halted
        → Committed {N = N} {g = g} honest outcome failed opened touch old new before after (Err fault)
        → IsCommitRun alone honest outcome opened whole (refusal fault) new
    by_fault fault true is_halted e f by =
        let none : Err fault ≡ Err faults.Halted = by.refuses (inl e) in
        let same : fault ≡ faults.Halted = cc in
        subst (λ (x : SubmitFault). IsCommitRun alone honest outcome opened whole (refusal x) new) (sym same)
        (halted-run by.kept (by.stays e) e (by.idle (inl e)))
    by_fault fault false true e f by = elim (by.halts f) [
      | inl halted ↦ let no : true ≡ false = sym halted ∙ e in absurd cc
      | inr is ↦
          let none : Err fault ≡ Err faults.Halted = is.0 in
          let same : fault ≡ faults.Halted = cc in
          subst (λ (x : SubmitFault). IsCommitRun alone honest outcome opened whole (refusal x) new) (sym same)
          (stop-run by.kept f (by.in_flight is.0 e))
    ]
    by_fault fault false false e f by = refuse-run fault (cause fault by) by.kept e f

    by_receipt : (r : Receipt N g) (was_halted is_halted fresh : Bool) → old.halted ≡ was_halted
        → new.halted ≡ is_halted → r.fresh ≡ fresh
        → Committed {N = N} {g = g} honest outcome failed opened touch old new before after (Ok r)
        → IsCommitRun alone honest outcome opened whole (answers.Reply touch.gate touch.number r.reply) new
    by_receipt r true is_halted fresh e f n by = let no = by.refuses (inl e) in absurd cc
    by_receipt r false true fresh e f n by = elim (by.halts f) [
      | inl halted ↦ let no : true ≡ false = sym halted ∙ e in absurd cc
      | inr is ↦ let no = is.0 in absurd cc
    ]
    by_receipt r false false true e f n by = enter-run before after r by.receipt.touch_is (by.first n) e f
    by_receipt r false false false e f n by = repeat-run before after r by.receipt.touch_is (by.repeat n) e f

    pub commits : (result : Result (Receipt N g) SubmitFault)
        → Committed {N = N} {g = g} honest outcome failed opened touch old new before after result
        → IsCommitRun alone honest outcome opened whole (answer_to touch result) new
    commits (Ok r) by = by_receipt r old.halted new.halted r.fresh refl refl refl by
    commits (Err fault) by = by_fault fault old.halted new.halted refl refl by
