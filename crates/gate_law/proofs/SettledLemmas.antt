-- A touch that is sent, served and heard over a line in memory.
use Rattle.std.proofs.Common.{◌≡◌, ◌⊎◌, inl, inr, ℕ, zero, suc, true, false, List, [], ◌∷◌, ◌++◌, length, get_or, take}
use Rattle.std.proofs.Common.{drop, Option, Some, None, IfSome, Result, Ok, Err, refl, sym, ap, ◌∙◌, subst}
use Rattle.std.proofs.Common.{append-nil, append_assoc, is_some}
use Rattle.std.specs.Prelude.{Contains, slice_get, IsSome}
use Rattle.std.proofs.lemmas.List.Elements.{All-nil, All-cons}
use Rattle.oyster_account.specs.declared.touch.Touch.{Touch}
use Rattle.oyster_account.specs.declared.reply.Reply.{Reply}
use Rattle.oyster_account.specs.Touch.{Fits}
use Rattle.reply_book.specs.declared.entry.Entry.{Entry}
use Rattle.reply_book.specs.declared.entry.Found.TheVariants.{First}
use Rattle.reply_book.specs.Lookup.{found}
use Rattle.reply_book.specs.Legal.{IsLegal, history_of, touches_of}
use Rattle.reply_book.proofs.PlaceLemmas.{slice_get-of}
use Rattle.reply_book.proofs.LawLemmas.{first-exact}
use Rattle.reply_book.proofs.CallerLemmas.{judged_of}
use Rattle.tap_disk.specs.declared.disk.Disk.{Ghosts}
use Rattle.gate_session.specs.declared.request.Request.{Request}
use Rattle.gate_session.specs.declared.request.Request.TheVariants as requests
use Rattle.gate_session.specs.declared.answer.Answer.{Answer}
use Rattle.gate_session.specs.declared.answer.Answer.TheVariants as answers
use Rattle.gate_session.specs.Answers.{AnswerFits, ReplyFits, answer_frame}
use Rattle.gate_session.specs.Clerk.{IsRun as IsClerksRun}
use Rattle.gate_session.specs.Session.{Exchange, IsRefused, IsAnswerCut, IsRefusalCut, refusal}
use Rattle.text_io.specs.Writing.{IsBeginning, Wrote}
use Rattle.gate_client.specs.declared.client.Client.{Client}
use Rattle.gate_client.specs.Client.{HasAsked, answered, gate_of, waits_of}
use Rattle.gate_client.specs.File.{waiting_of}
use Rattle.gate_client.specs.Heard.{frame_of}
use Rattle.gate_law.specs.Joint.{Joint}
use Rattle.gate_law.specs.Steps.{Asks, Step, is_reply}
use Rattle.gate_law.specs.Agreement.{IsRun}
use Rattle.gate_law.specs.Lines.{IsWritten, AreFirstOf}
use Rattle.gate_law.proofs.ListLemmas.{contained, placed, contains-left, contains-last, contains-none}
use Rattle.gate_law.proofs.ListLemmas.{contains-push_cases}
use Rattle.gate_law.proofs.LineLemmas.{answers as bring_answers, by_line}
use Rattle.gate_law.proofs.StepLemmas.{run-append}
use Rattle.gate_law.specs.Gate.{IsGateOf, asked_in, sent_in, heard_in}
use Rattle.gate_law.specs.Calls.{HasHeard}
use Rattle.gate_law.specs.Station.{StationState, DoesAnswer, IsStationsClerk, GivesFitting, KeepsStation, IsStationOf}
use Rattle.gate_law.specs.Sessions.{WereSent, IsSessionRun, served_in}
use Rattle.gate_law.specs.Settled.{StandsOnce, IsSettled, HasLegal, IsServed, IsShown, IsRound}
use Rattle.gate_law.proofs.GateLemmas.{written-whole, sends, hears}
use Rattle.gate_law.proofs.StationLemmas.{legal-once, entered-found}
use Rattle.gate_law.proofs.SessionLemmas.{IsWhole, ways, session, session-written}

-- ---- what is in a list of one

only : {X : Type 0} (x y : X) → Contains (x ∷ []) y → x ≡ y
only x y there = by_place (placed (x ∷ []) y there)
  where
    by_place : ((i : ℕ) × (slice_get (x ∷ []) i ≡ Some y)) → x ≡ y
    by_place (zero, at) = cc
    by_place (suc i, at) = absurd cc

abbrev touch_in : Touch → Request → Touch
touch_in other (requests.Touch touch) = touch
touch_in other (requests.Enquire card) = other

abbrev reply_in : Reply → Answer → Reply
reply_in other (answers.Reply gate number reply) = reply
reply_in other (answers.Holding view front) = other
reply_in other (answers.Fault code gate number) = other

contains-right : {X : Type 0} (xs ys : List X) (x : X) → Contains ys x → Contains (xs ++ ys) x
contains-right [] ys x there = there
contains-right (z ∷ xs) ys x there =
    let at = placed (xs ++ ys) x (contains-right xs ys x there) in contained (z ∷ (xs ++ ys)) (suc at.0) x at.1

-- ---- the station's clerk

-- a touch that is replied to is found with that reply
by_answer : (old mid : StationState) (touch : Touch) (reply : Reply) (answer : Answer)
    → IsLegal old.tables old.cards (history_of old.history) → DoesAnswer old (requests.Touch touch) answer mid
    → answer ≡ answers.Reply touch.gate touch.number reply
    → (place : ℕ) × (found mid.history touch ≡ First place reply)
by_answer old mid touch reply answer legal (inl is) same =
    let replied : is.reply ≡ reply = ap (reply_in reply) (sym is.is ∙ same) in
    (length old.history, entered-found old mid touch answer legal is ∙ ap (First (length old.history)) replied)
by_answer old mid touch reply answer legal (inr (inl is)) same =
    let replied : is.reply ≡ reply = ap (reply_in reply) (sym is.is ∙ same) in (
      is.place,
      ap (λ (x : StationState). found x.history touch) is.kept ∙ is.first ∙ ap (First is.place) replied,
    )
by_answer old mid touch reply answer legal (inr (inr is)) same =
    let no : true ≡ false = sym (ap is_reply same) ∙ is.none in absurd cc

-- where one request was written at most, and its reply is among the answers
replied : {C : Type 0} (gives : C → Request → Answer → C → Type 0) (station : C → StationState)
    (does : IsStationsClerk gives station) (old new : C) (touch : Touch) (reply : Reply) (handed : List Request)
    (replies : List Answer)
    → IsLegal (station old).tables (station old).cards (history_of (station old).history)
    → IsClerksRun gives old handed replies new → AreFirstOf handed (requests.Touch touch ∷ [])
    → Contains replies (answers.Reply touch.gate touch.number reply)
    → (place : ℕ) × (found (station new).history touch ≡ First place reply)
replied gives station does old new touch reply [] [] legal run first there = absurd (contains-none [] _ refl there)
replied gives station does old new touch reply [] (a ∷ replies) legal run first there = absurd run
replied gives station does old new touch reply (h ∷ handed) [] legal run first there = absurd run
replied {C = C} gives station does old new touch reply (h ∷ []) (a ∷ []) legal run first there =
    let is : h ≡ requests.Touch touch =
    sym (ap (λ (l : List Request). get_or l 0 (requests.Touch touch)) first.1) in
    let given = subst (λ (r : Request). DoesAnswer (station old) r a (station run.0)) is (does old run.0 h a run.1) in
    let seen = by_answer (station old) (station run.0) touch reply a legal given
    (only a (answers.Reply touch.gate touch.number reply) there) in
    (seen.0, ap (λ (x : C). found (station x).history touch) run.2 ∙ seen.1)
replied gives station does old new touch reply (h ∷ []) (a ∷ b ∷ replies) legal run first there = absurd run.2
replied gives station does old new touch reply (h ∷ q ∷ handed) (a ∷ replies) legal run first there =
    let no : [] ≡ q ∷ (handed ++ first.0) = ap (drop 1) first.1 in absurd cc

-- ---- what is heard

-- a reply that was written is one of the clerk's
in-replies : (e : Exchange) (x : Answer) → is_reply x ≡ true
    → IsWhole e ⊎ IsRefused e ⊎ IsAnswerCut e ⊎ IsRefusalCut e → Contains e.sent x → Contains e.replies x
in-replies e x is (inl whole) there = subst (λ (l : List Answer). Contains l x) whole.sent there
in-replies e x is (inr (inl refused)) there =
    elim (contains-push_cases e.replies refusal x (subst (λ (l : List Answer). Contains l x) refused.sent there)) [
      | inl before ↦ before
      | inr last ↦ let no : false ≡ true = ap is_reply last ∙ is in absurd cc
    ]
in-replies e x is (inr (inr (inl cut))) there =
    subst (λ (l : List Answer). Contains l x) (sym cut.sent) (contains-left e.sent (cut.last ∷ []) x there)
in-replies e x is (inr (inr (inr cut))) there = subst (λ (l : List Answer). Contains l x) cut.sent there

-- what is heard of a beginning of the text was written
heard-sent : (text back : List ℕ) (sent : List Answer) (touch : Touch) (reply : Reply)
    → IsWritten AnswerFits answer_frame text sent → IsBeginning back text
    → IsBeginning (answer_frame (answers.Reply touch.gate touch.number reply)) back → Fits touch → ReplyFits reply
    → Contains sent (answers.Reply touch.gate touch.number reply)
heard-sent text back sent touch reply written later begins fits reply_fits =
    let heard : Answer = answers.Reply touch.gate touch.number reply in
    let first = bring_answers text back sent (heard ∷ []) written later (record {
      rest = begins.0;
      fits = All-cons AnswerFits heard [] (fits.gate, fits.number, reply_fits) (All-nil AnswerFits);
      parts = begins.1 ∙ ap (λ (l : List ℕ). l ++ begins.0) (sym (append-nil (answer_frame heard)));
    }) in
    by_line Answer (heard ∷ []) sent heard first (contained (heard ∷ []) 0 heard refl)

-- what is found in a legal history stands there once
once : (station : StationState) (touch : Touch) (reply : Reply) (place : ℕ)
    → IsLegal station.tables station.cards (history_of station.history)
    → found station.history touch ≡ First place reply
    → StandsOnce station.history (record { touch = touch; reply = reply })
once station touch reply place legal first =
    let named = legal-once station legal in
    let is = (first-exact station.history touch place reply named).0 first in
    let judged : judged_of is.entry ≡ record { touch = touch; reply = reply } =
    ap (λ (t : Touch). record { touch = t; reply = is.entry.reply }) is.touched
    ∙ ap (λ (r : Reply). record { touch = touch; reply = r }) is.replied in
    let here : slice_get (touches_of station.history) place ≡ Some touch =
    slice_get-of (λ (e : Entry). e.touch) station.history place is.entry is.at ∙ ap Some is.touched in
    record {
      place = place;
      stands = slice_get-of judged_of station.history place is.entry is.at ∙ ap Some judged;
      alone = λ other t at same. sym (named place other touch t here at same);
    }

-- ---- a round

module _ {C : Type 0} (gives : C → Request → Answer → C → Type 0) (station : C → StationState)
    (does : IsStationsClerk gives station) (fitting : GivesFitting gives) (touch : Touch) (frame bytes text : List ℕ)
    (a b : C) (fits : Fits touch) (whole : frame ≡ frame_of touch) (brought : IsBeginning bytes frame)
    (served : IsServed gives a b bytes text) where
  -- what the station read begins the frame
  begins : IsBeginning served.read frame
  begins = (
    served.begins.0 ++ brought.0,
    brought.1 ∙ ap (λ (l : List ℕ). l ++ brought.0) served.begins.1
        ∙ append_assoc served.read served.begins.0 brought.0,
  )

  were : (sent : List Touch) → Contains sent touch → WereSent (requests.Touch touch ∷ []) sent
  were sent there t is =
      let same : touch ≡ t = ap (touch_in touch) (only (requests.Touch touch) (requests.Touch t) is) in
      subst (λ (x : Touch). Contains sent x) same there

  -- the station's session is a run
  run : (gate cards : ℕ) (s : Joint) → IsStationOf cards s (station a) → Contains s.sent touch
      → IsSessionRun gate cards s (station b) (requests.Touch touch ∷ []) served.is.exchange.handed text
  run gate cards s shows there =
      session gives station does fitting gate cards served.turns a b served.served served.read text frame
      (requests.Touch touch ∷ []) s served.is (written-whole touch frame fits whole) begins
      (were s.sent there) shows

  -- a reply that is heard is that of the touch's entry
  pub stands : (back : List ℕ) (reply : Reply)
      → IsLegal (station a).tables (station a).cards (history_of (station a).history) → IsBeginning back text
      → IsBeginning (answer_frame (answers.Reply touch.gate touch.number reply)) back → ReplyFits reply
      → StandsOnce (station b).history (record { touch = touch; reply = reply })
  stands back reply legal later heard reply_fits =
      let e = served.is.exchange in
      let s : Joint = record {
        asked = [];
        waits = false;
        sent = touch ∷ [];
        tables = (station a).tables;
        history = (station a).history;
        answers = [];
        told = [];
      } in
      let known = run 0 (station a).cards s (record { tables = refl; cards_are = refl; history = refl; legal = legal })
      (contained (touch ∷ []) 0 touch refl) in
      let ended = ways served.served.end e served.is.ended in
      let sent = heard-sent text back e.sent touch reply
      (session-written gives fitting a b served.turns served.served served.read text served.is) later heard fits
      reply_fits in
      let seen = replied gives station does a b touch reply e.handed e.replies legal served.is.is.run known.first
      (in-replies e (answers.Reply touch.gate touch.number reply) refl ended sent) in
      once (station b) touch reply seen.0 known.shown.legal seen.1

  module _ {D : Type 0} {g : Ghosts D} (gate cards : ℕ) (s : Joint) (client : Client D g)
      (shows : IsShown gate cards s client (station a)) (waits : waits_of client ≡ Some touch) where
    abbrev sent : Joint
    sent = sent_in s touch

    known : IsSessionRun gate cards sent (station b) (requests.Touch touch ∷ []) served.is.exchange.handed text
    known =
        run gate cards sent (record {
          tables = shows.station_is.tables;
          cards_are = shows.station_is.cards_are;
          history = shows.station_is.history;
          legal = shows.station_is.legal;
        }) (contains-last s.sent touch)

    abbrev after : Joint
    after = served_in sent (station b) known.sent

    runs : IsRun gate cards s (sent ∷ known.between) after
    runs = (inr (inl (sends client gate s touch frame shows.gate_is waits fits whole).0.is), known.run)

    gate_after : IsGateOf gate after client
    gate_after = record {
      number = shows.gate_is.number;
      asked = shows.gate_is.asked;
      waits = shows.gate_is.waits;
    }

    -- nothing was heard
    pub round-unheard : {E : Type 0} (new : Client D g) (fault : E) → new ≡ client
        → IsRound gate cards s touch (Err fault) new (station b)
    round-unheard new fault kept =
        subst (λ (c : Client D g). IsRound gate cards s touch (Err fault) c (station b)) (sym kept) (record {
          new = after;
          between = sent ∷ known.between;
          run = runs;
          told = refl;
          shown = record { gate_is = gate_after; station_is = known.shown };
        })

    -- a reply was heard
    pub round-heard : {E : Type 0} (new : Client D g) (back : List ℕ) (reply : Reply)
        → HasHeard s.asked touch client new → IsBeginning back text
        → IsBeginning (answer_frame (answers.Reply touch.gate touch.number reply)) back → ReplyFits reply
        → IsRound {E = E} gate cards s touch (Ok reply) new (station b)
    round-heard new back reply heard later is reply_fits =
        let line = heard-sent text back known.sent touch reply known.answers later is fits reply_fits in
        let told = hears client new gate after touch reply gate_after heard
        (contains-right s.answers known.sent (answers.Reply touch.gate touch.number reply) line) in
        record {
          new = heard_in after touch reply;
          between = (sent ∷ known.between) ++ heard_in after touch reply ∷ [];
          run =
              run-append (Step gate cards) s after (heard_in after touch reply) (sent ∷ known.between)
              (heard_in after touch reply ∷ []) runs (inr (inr (inr (inr (inr (inr (inl told.is)))))), refl);
          told = refl;
          shown = record {
            gate_is = told.shown;
            station_is = record {
              tables = known.shown.tables;
              cards_are = known.shown.cards_are;
              history = known.shown.history;
              legal = known.shown.legal;
            };
          };
        }

-- what stands where a reply was heard
pub settled : {C D : Type 0} {g : Ghosts D} (gives : C → Request → Answer → C → Type 0) (station : C → StationState)
    (keeps : KeepsStation gives station) (touch : Touch) (frame bytes text back : List ℕ) (a b : C) → Fits touch
    → frame ≡ frame_of touch → IsBeginning bytes frame → IsServed gives a b bytes text → (asked : List Touch)
    (old new : Client D g) (reply : Reply) → HasAsked asked old → waits_of old ≡ Some touch → HasLegal (station a)
    → HasAsked asked new → new ≡ answered old → IsBeginning back text
    → IsBeginning (answer_frame (answers.Reply touch.gate touch.number reply)) back → ReplyFits reply
    → IsSettled asked touch reply new (station b).history
settled {D = D} {g = g} gives station keeps touch frame bytes text back a b fits whole brought served asked old new
    reply has waits legal kept answered later heard reply_fits = record {
      file = kept;
      last = subst (λ (o : Option Touch). IfSome o (λ t. waiting_of asked ≡ Some t)) waits has.last;
      once =
          stands gives station keeps.does keeps.fitting touch frame bytes text a b fits whole brought served back reply
          legal later heard reply_fits;
      none = ap (λ (c : Client D g). waits_of c) answered;
    }

-- nothing was done
pub round-none : {D E : Type 0} {g : Ghosts D} (gate cards : ℕ) (s : Joint) (touch : Touch) (fault : E)
    (client new : Client D g) (station : StationState) → IsShown gate cards s client station → new ≡ client
    → IsRound gate cards s touch (Err fault) new station
round-none {D = D} {g = g} gate cards s touch fault client new station shows kept =
    subst (λ (c : Client D g). IsRound gate cards s touch (Err fault) c station) (sym kept)
    (record { new = s; between = []; run = refl; told = refl; shown = shows })

-- no touch was asked, and the client shows what it showed
pub round-unasked : {D E : Type 0} {g : Ghosts D} (gate cards : ℕ) (s : Joint) (touch : Touch) (fault : E)
    (client new : Client D g) (station : StationState) → IsShown gate cards s client station
    → gate_of new ≡ gate_of client → HasAsked s.asked new → waits_of new ≡ waits_of client
    → IsRound gate cards s touch (Err fault) new station
round-unasked gate cards s touch fault client new station shows number asked waits = record {
  new = s;
  between = [];
  run = refl;
  told = refl;
  shown = record {
    gate_is = record {
      number = number ∙ shows.gate_is.number;
      asked = asked;
      waits = shows.gate_is.waits ∙ sym (ap is_some waits);
    };
    station_is = shows.station_is;
  };
}

-- ---- a touch that is asked first

-- none waits where a waiting touch would have been a fault
pub none_waits : {E : Type 0} (touch : Touch) (fault : E) (waits : Option Touch)
    → (IsSome waits → ◌≡◌ {A = Result Touch E} (Ok touch) (Err fault)) → waits ≡ None
none_waits touch fault None told = refl
none_waits touch fault (Some other) told = let no = told refl in absurd cc

-- what is shown once the touch is asked
pub asked-shown : {D : Type 0} {g : Ghosts D} (gate cards : ℕ) (s : Joint) (touch : Touch) (client : Client D g)
    (station : StationState) → IsStationOf cards s station → IsGateOf gate (asked_in s touch) client
    → IsShown gate cards (asked_in s touch) client station
asked-shown gate cards s touch client station shows gate_is = record {
  gate_is = gate_is;
  station_is = record {
    tables = shows.tables;
    cards_are = shows.cards_are;
    history = shows.history;
    legal = shows.legal;
  };
}

module _ {D E F : Type 0} {g : Ghosts D} (gate cards : ℕ) (s : Joint) (touch : Touch) (client : Client D g)
    (station : StationState) (asks : Asks gate s (asked_in s touch)) where
  pub asked-heard : (reply : Reply) → IsRound {E = E} gate cards (asked_in s touch) touch (Ok reply) client station
      → IsRound {E = F} gate cards s touch (Ok reply) client station
  asked-heard reply round = record {
    new = round.new;
    between = asked_in s touch ∷ round.between;
    run = (inl asks, round.run);
    told = round.told;
    shown = round.shown;
  }

  pub asked-unheard : (fault : E) (other : F)
      → IsRound {E = E} gate cards (asked_in s touch) touch (Err fault) client station
      → IsRound {E = F} gate cards s touch (Err other) client station
  asked-unheard fault other round = record {
    new = round.new;
    between = asked_in s touch ∷ round.between;
    run = (inl asks, round.run);
    told = round.told;
    shown = round.shown;
  }

-- ---- bytes

-- a beginning is what a line brings
pub begins_take : (n : ℕ) (xs : List ℕ) → IsBeginning (take n xs) xs
begins_take zero xs = (xs, refl)
begins_take (suc n) [] = ([], refl)
begins_take (suc n) (x ∷ xs) = let rest = begins_take n xs in (rest.0, ap (λ (l : List ℕ). x ∷ l) rest.1)

-- what was written whole to nothing is the frame
pub sent_whole : (before after : List ℕ) (touch : Touch) → before ≡ []
    → Wrote (Some before) (Some after) (λ text. text ≡ frame_of touch) → after ≡ frame_of touch
sent_whole before after touch none wrote =
    wrote.appended ∙ ap (λ (l : List ℕ). l ++ wrote.text) none ∙ wrote.says
