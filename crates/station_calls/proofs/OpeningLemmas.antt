-- That an opening behind a crash is a run of a station's steps.
use Rattle.std.proofs.Common.{◌≡◌, inl, inr, ℕ, Bool, true, false, List, [], ◌∷◌, ◌++◌, refl, sym, ap, subst, Result}
use Rattle.std.proofs.Common.{Ok, Err, IfOk, Some, not}
use Rattle.std.proofs.lemmas.List.Elements.{All-nil, All-cons, All-head, All-tail}
use Rattle.oyster_account.specs.declared.touch.Touch.{Touch}
use Rattle.oyster_account.specs.declared.reply.Judged.{Judged}
use Rattle.reply_book.specs.Tables.{Tables, is_known, AreKnown}
use Rattle.reply_book.specs.Legal.{IsLegal, history_of, touches_of}
use Rattle.tap_journal.specs.Layout.{Header}
use Rattle.tap_journal.specs.Image.{Image}
use Rattle.tap_journal.proofs.OneLemmas.{one_journal}
use Rattle.tap_office.specs.Name.{Opened}
use Rattle.tap_office.specs.Keeper.{KeeperState, IsLeft}
use Rattle.tap_office.specs.Opening.{OpeningState, IsOpeningOf, opened_of}
use Rattle.reply_book.specs.declared.entry.Entry.{Entry}
use Rattle.gate_law.proofs.ListLemmas.{contains-left}
use Rattle.tap_office.proofs.FilesLemmas.{files-decide}
use Rattle.tap_office.proofs.TablesLemmas.{same-book}
use Rattle.gate_law.specs.Whole.{Gate, Whole}
use Rattle.gate_law.specs.WholeSteps.{IsLeftBehind, station_stops, station_opens}
use Rattle.station_calls.specs.Openings.{AreOfFiles, IsOpeningRun, IsReopening, station_found, found_in}
use Rattle.station_calls.specs.Shown.{IsOnDisk, IsShownBy, HasTouch, with_gates}
use Rattle.gate_law.specs.WholeAgreement.{IsStart, IsRun}
use Rattle.gate_law.proofs.WholeLemmas.{all_agree, in-journal, in-history}
use Rattle.tap_journal.specs.Left.{AllLeft}
use Rattle.std.specs.Prelude.{Contains}

-- what is known of a list is known of how it begins
known-first : (tables : Tables) (touches more : List Touch) → AreKnown tables (touches ++ more)
    → AreKnown tables touches
known-first tables [] more known = All-nil (λ (touch : Touch). is_known tables touch ≡ true)
known-first tables (touch ∷ touches) more known =
    let IsKnown = λ (touch : Touch). is_known tables touch ≡ true in
    All-cons IsKnown touch touches (All-head IsKnown touch (touches ++ more) known)
    (known-first tables touches more (All-tail IsKnown touch (touches ++ more) known))

-- what a crash leaves begins with the history
known-left : (tables : Tables) (sent history left : List Touch) → IsLeftBehind sent history left
    → AreKnown tables left → AreKnown tables history
known-left tables sent history left either known = elim either [
  | inl all ↦ subst (AreKnown tables) all known
  | inr flight ↦ known-first tables history (flight.touch ∷ []) (subst (AreKnown tables) flight.is known)
]

reopens-by : {D : Type 0} (given : Tables) (cards seats : ℕ) (content : List ℕ) (opening : OpeningState D)
    → IsOpeningOf given cards seats opening → Image opening.header (touches_of opening.recovered) content
    → (alone : ℕ → Bool) (whole : Whole) → whole.station.capacity ≡ opening.header.capacity
    → IsOnDisk opening.header whole content
    → AreKnown whole.station.tables (touches_of whole.station.history)
    → AreOfFiles whole.station.tables opening.tables → IsOpeningRun alone opening.header.cards whole opening
reopens-by given cards seats content opening of image alone whole capacity disk known files =
    let h = opening.header in
    let found = touches_of opening.recovered in
    let one : disk.left ≡ found = (one_journal h h disk.left found content disk.image image).1 in
    let others_known : AreKnown opening.tables found =
    subst (λ (t : Tables). AreKnown t found) (sym of.tables_is) of.known in
    let of_history = known-left opening.tables whole.sent (touches_of whole.station.history) found
    (subst (IsLeftBehind whole.sent (touches_of whole.station.history)) one disk.either) others_known in
    let mid : Whole = record whole {
      station = record {
        journal = disk.left;
        capacity = whole.station.capacity;
        going = false;
        tables = whole.station.tables;
        history = whole.station.history;
      };
    } in
    record {
      between = mid ∷ record whole { station = station_found opening } ∷ [];
      run = (
        station_stops (record { left = disk.left; either = disk.either; is = refl }),
        (
          station_opens (record {
            tables = opening.tables;
            kept = opening.recovered;
            going = refl;
            one_journal = sym one;
            same_tables = same-book whole.station.tables opening.tables h.cards (touches_of whole.station.history)
                (files-decide files.first files.files files.others_files whole.station.tables opening.tables files.read
                files.others_read files.own (touches_of whole.station.history) known of_history);
            legal = subst (λ (t : Tables). IsLegal t h.cards (history_of opening.recovered)) (sym of.tables_is)
                (subst (λ (n : ℕ). IsLegal given n (history_of opening.recovered)) (sym of.cards_is) of.legal);
            is = ap (λ (n : ℕ). record whole { station = record (station_found opening) { capacity = n } })
                (sym capacity);
          }),
          refl,
        ),
      );
    }

-- of a journal by whichever header: a content has one
pub reopens : {D : Type 0} (given : Tables) (cards seats : ℕ) (content : List ℕ) (opening : OpeningState D)
    → IsOpeningOf given cards seats opening → Image opening.header (touches_of opening.recovered) content
    → IsReopening content opening
reopens given cards seats content opening of image h alone whole capacity disk known files =
    let one : h ≡ opening.header =
    (one_journal h opening.header disk.left (touches_of opening.recovered) content disk.image image).0 in
    subst (λ (k : Header). IsOpeningRun alone k.cards whole opening) (sym one)
    (reopens-by given cards seats content opening of image alone whole
    (subst (λ (k : Header). whole.station.capacity ≡ k.capacity) one capacity)
    (subst (λ (k : Header). IsOnDisk k whole content) one disk) known files)

-- where the opening succeeded
pub reopened : {D E : Type 0} (honest : D → Type 0) (given : Tables) (cards seats : ℕ) (content : List ℕ)
    (result : Result (OpeningState D) E) → IfOk result (IsOpeningOf given cards seats)
    → IfOk result (λ o. honest o.disk → Image o.header (touches_of o.recovered) content)
    → IfOk result (λ o. honest o.disk → IsReopening content o)
reopened honest given cards seats content (Ok opening) of image =
    λ well. reopens given cards seats content opening of (image well)
reopened honest given cards seats content (Err fault) of image = tt

-- a keeper that an opening made shows the station that was found
pub made : {D : Type 0} (honest : D → Type 0) (content : D → List ℕ) (outcome : D → List ℕ → Type 0) (opened : Opened)
    (opening : OpeningState D) (keeper : KeeperState D) (whole : Whole) → opened ≡ opened_of opening
    → keeper.history ≡ opening.recovered → keeper.halted ≡ false
    → IsLeft honest content outcome opened.header keeper.history keeper.halted keeper.disk
    → IsShownBy honest outcome opened keeper (found_in whole opening)
made honest content outcome opened opening keeper whole named history going leaves = record {
  given = subst (λ (o : Opened). o.table ≡ Some (opening.tables, o.header.cards)) (sym named) refl;
  capacity = ap (λ (o : Opened). o.header.capacity) (sym named);
  history = sym history;
  going = sym (ap not going);
  left = λ well c out. record {
    left = touches_of opening.recovered;
    either = inl refl;
    image = subst (λ (l : List Entry). Image opened.header (touches_of l) c) history (leaves.left going well c out);
  };
}

-- what gates do leaves what a keeper shows
pub beside : {D : Type 0} (honest : D → Type 0) (outcome : D → List ℕ → Type 0) (opened : Opened)
    (keeper : KeeperState D) (whole : Whole) (gates : ℕ → Gate) (more : List Touch)
    → IsShownBy honest outcome opened keeper whole
    → IsShownBy honest outcome opened keeper (with_gates whole gates more)
beside honest outcome opened keeper whole gates more shown = record {
  given = shown.given;
  capacity = shown.capacity;
  history = shown.history;
  going = shown.going;
  left = λ well c out.
      let on = shown.left well c out in
      record {
        left = on.left;
        either = elim on.either [
          | inl all ↦ inl all
          | inr flight ↦ inr (record {
            touch = flight.touch;
            line = contains-left whole.sent more flight.touch flight.line;
            is = flight.is;
          })
        ];
        image = on.image;
      };
}

-- what was told stands in whatever a crash leaves
pub survives : {D : Type 0} (honest : D → Type 0) (outcome : D → List ℕ → Type 0) (opened : Opened)
    (keeper : KeeperState D) (alone : ℕ → Bool) (old new : Whole) (between : List Whole)
    → IsStart alone opened.header.cards old → IsRun alone opened.header.cards old between new
    → IsShownBy honest outcome opened keeper new → (number : ℕ) (judged : Judged) → alone number ≡ true
    → Contains (new.gates number).told judged → honest keeper.disk
    → AllLeft (outcome keeper.disk) (HasTouch opened.header judged.touch)
survives honest outcome opened keeper alone old new between start run shown number judged is told well c out =
    let all = all_agree alone opened.header.cards old new between start run in
    let done = (all.each number is).told judged told in
    let on = shown.left well c out in
    record {
      touches = on.left;
      image = on.image;
      there = in-journal new.sent (touches_of new.station.history) on.left judged.touch on.either
          (in-history new.station.history done.place judged done.stands);
    }
