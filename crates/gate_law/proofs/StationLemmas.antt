-- What a station does of one request, as steps.
use Rattle.std.proofs.Common.{◌≡◌, inl, inr, ℕ, List, [], ◌∷◌, ◌++◌, length, refl, sym, ap, ◌∙◌, subst, append-nil}
use Rattle.std.proofs.Common.{append_assoc}
use Rattle.std.specs.Prelude.{slice_get}
use Rattle.oyster_account.specs.declared.touch.Touch.{Touch}
use Rattle.oyster_account.specs.declared.reply.Reply.{Reply}
use Rattle.reply_book.specs.declared.entry.Entry.{Entry}
use Rattle.reply_book.specs.declared.entry.Found.TheVariants.{First}
use Rattle.reply_book.specs.Names.{AreNamedOnce}
use Rattle.reply_book.specs.Tables.{Tables}
use Rattle.reply_book.specs.Lookup.{found}
use Rattle.reply_book.specs.Legal.{IsLegal, history_of, touches_of, judge_after}
use Rattle.reply_book.proofs.PlaceLemmas.{slice_get-behind}
use Rattle.reply_book.proofs.LegalLemmas.{touches_in-history_of, legal-add}
use Rattle.reply_book.proofs.LawLemmas.{first-exact}
use Rattle.gate_session.specs.declared.request.Request.{Request}
use Rattle.gate_session.specs.declared.request.Request.TheVariants as requests
use Rattle.gate_session.specs.declared.answer.Answer.{Answer}
use Rattle.gate_session.specs.declared.answer.Answer.TheVariants as answers
use Rattle.gate_law.specs.Joint.{Joint}
use Rattle.gate_law.specs.Premises.{Line}
use Rattle.gate_law.specs.Steps.{Step}
use Rattle.gate_law.specs.Agreement.{IsRun}
use Rattle.gate_law.proofs.StepLemmas.{run-append}
use Rattle.gate_law.specs.Station.{StationState, IsEntered, IsNoReply, DoesAnswer, IsStationOf}
use Rattle.gate_law.specs.Sessions.{served_in}

-- in a legal history no name stands twice
pub legal-once : (station : StationState)
    → IsLegal station.tables station.cards (history_of station.history) → AreNamedOnce (touches_of station.history)
legal-once station legal = subst AreNamedOnce (touches_in-history_of station.history) legal.once

module _ (a b : StationState) (touch : Touch) (answer : Answer)
    (legal : IsLegal a.tables a.cards (history_of a.history)) (is : IsEntered a b touch answer) where
  abbrev entry : Entry
  entry = record { touch = touch; reply = is.reply; seat = is.seat }

  -- what a station enters makes its history no less legal
  pub entered-legal : IsLegal b.tables b.cards (history_of b.history)
  entered-legal =
      subst (λ (x : StationState). IsLegal x.tables x.cards (history_of x.history)) (sym is.grown)
      (legal-add a.tables a.cards a.history entry is.fresh is.lock legal)

  -- and is found with its reply
  pub entered-found : found b.history touch ≡ First (length a.history) is.reply
  entered-found =
      (first-exact b.history touch (length a.history) is.reply (legal-once b entered-legal)).1 (record {
        entry = entry;
        at =
            ap (λ (x : StationState). slice_get x.history (length a.history)) is.grown
            ∙ slice_get-behind a.history entry [];
        touched = refl;
        replied = refl;
      })

-- from this state there is a run of the station's steps to its history, with these answers more
pub record Serves (gate cards : ℕ) (s : Joint) (station : StationState) (sent : List Answer) : Type 0 where
  pub between : List Joint
  pub run : IsRun gate cards s between (served_in s station sent)
  pub shown : IsStationOf cards (served_in s station sent) station

module _ (gate cards : ℕ) where
  -- the station shows the same where its history is the state's
  same : (s : Joint) (a b : StationState) (sent : List Answer) → IsStationOf cards s a → b ≡ a
      → IsStationOf cards (served_in s b sent) b
  same s a b sent shows kept = record {
    tables = shows.tables ∙ sym (ap (λ (x : StationState). x.tables) kept);
    cards_are = ap (λ (x : StationState). x.cards) kept ∙ shows.cards_are;
    history = refl;
    legal = subst (λ (x : StationState). IsLegal x.tables x.cards (history_of x.history)) (sym kept) shows.legal;
  }

  -- nothing is done and nothing written
  pub stays : (s : Joint) (a b : StationState) → IsStationOf cards s a → b ≡ a → Serves gate cards s b []
  stays s a b shows kept = record {
    between = [];
    run =
        ap (λ (h : List Entry). record s { history = h; answers = s.answers ++ [] })
        (ap (λ (x : StationState). x.history) kept ∙ sym shows.history)
        ∙ ap (λ (l : List Answer). record s { answers = l }) (append-nil s.answers);
    shown = same s a b [] shows kept;
  }

  -- some of it, and then more
  pub then : (s : Joint) (a b : StationState) (first later : List Answer) → Serves gate cards s a first
      → Serves gate cards (served_in s a first) b later → Serves gate cards s b (first ++ later)
  then s a b first later before behind =
      let all : (s.answers ++ first) ++ later ≡ s.answers ++ (first ++ later) = append_assoc s.answers first later in
      let last : served_in (served_in s a first) b later ≡ served_in s b (first ++ later) =
      ap (λ (l : List Answer). record s { history = b.history; answers = l }) all in
      record {
        between = before.between ++ behind.between;
        run =
            subst (λ (x : Joint). IsRun gate cards s (before.between ++ behind.between) x) last
            (run-append (Step gate cards) s (served_in s a first) (served_in (served_in s a first) b later)
            before.between behind.between before.run behind.run);
        shown = subst (λ (x : Joint). IsStationOf cards x b) last behind.shown;
      }

  -- a touch is entered, and not answered yet
  enters : (s : Joint) (a b : StationState) (touch : Touch) (answer : Answer) → IsStationOf cards s a
      → Line s.sent touch → IsEntered a b touch answer → Serves gate cards s b []
  enters s a b touch answer shows line is =
      let added : Entry = record { touch = touch; reply = is.reply; seat = is.seat } in
      let grown : b.history ≡ s.history ++ added ∷ [] =
      ap (λ (x : StationState). x.history) is.grown
      ∙ ap (λ (h : List Entry). h ++ added ∷ []) (sym shows.history) in
      record {
        between = served_in s b [] ∷ [];
        run = (
          inr (inr (inr (inl (record {
            touch = touch;
            reply = is.reply;
            seat = is.seat;
            line = line;
            fresh = ap (λ (h : List Entry). found h touch) shows.history ∙ is.fresh;
            lock =
                is.lock ∙ ap (λ (t : Tables). judge_after t a.cards (history_of a.history) touch) (sym shows.tables)
                ∙ ap (λ (n : ℕ). judge_after s.tables n (history_of a.history) touch) shows.cards_are
                ∙ ap (λ (h : List Entry). judge_after s.tables cards (history_of h) touch) (sym shows.history);
            is =
                ap (λ (h : List Entry). record s { history = h; answers = s.answers ++ [] }) grown
                ∙ ap (λ (l : List Answer). record s { history = s.history ++ added ∷ []; answers = l })
                (append-nil s.answers);
          })))),
          refl,
        );
        shown = record {
          tables = shows.tables ∙ sym (ap (λ (x : StationState). x.tables) is.grown);
          cards_are = ap (λ (x : StationState). x.cards) is.grown ∙ shows.cards_are;
          history = refl;
          legal = entered-legal a b touch answer shows.legal is;
        };
      }

  -- the reply that is found is written
  answers-by : (s : Joint) (b : StationState) (touch : Touch) (answer : Answer) (place : ℕ) (reply : Reply)
      → IsStationOf cards s b → found b.history touch ≡ First place reply
      → answer ≡ answers.Reply touch.gate touch.number reply → Serves gate cards s b (answer ∷ [])
  answers-by s b touch answer place reply shows first is = record {
    between = served_in s b (answer ∷ []) ∷ [];
    run = (
      inr (inr (inr (inr (inl (record {
        touch = touch;
        place = place;
        reply = reply;
        first = ap (λ (h : List Entry). found h touch) shows.history ∙ first;
        is =
            ap (λ (h : List Entry). record s { history = h; answers = s.answers ++ answer ∷ [] }) (sym shows.history)
            ∙ ap (λ (x : Answer). record s { answers = s.answers ++ x ∷ [] }) is;
      }))))),
      refl,
    );
    shown = same s b b (answer ∷ []) shows refl;
  }

  -- what is no reply is written
  pub tells : (s : Joint) (a b : StationState) (answer : Answer) → IsStationOf cards s a → IsNoReply a b answer
      → Serves gate cards s b (answer ∷ [])
  tells s a b answer shows is = record {
    between = served_in s b (answer ∷ []) ∷ [];
    run = (
      inr (inr (inr (inr (inr (inl (record {
        answer = answer;
        none = is.none;
        is =
            ap (λ (h : List Entry). record s { history = h; answers = s.answers ++ answer ∷ [] })
            (ap (λ (x : StationState). x.history) is.kept ∙ sym shows.history);
      })))))),
      refl,
    );
    shown = same s a b (answer ∷ []) shows is.kept;
  }

  -- a request is answered, and its answer written
  pub answered : (s : Joint) (a b : StationState) (request : Request) (answer : Answer) → IsStationOf cards s a
      → ((touch : Touch) → request ≡ requests.Touch touch → Line s.sent touch) → DoesAnswer a request answer b
      → Serves gate cards s b (answer ∷ [])
  answered s a b (requests.Touch touch) answer shows line (inl is) =
      let entered = enters s a b touch answer shows (line touch refl) is in
      then s b b [] (answer ∷ []) entered (answers-by (served_in s b []) b touch answer (length a.history) is.reply
      entered.shown (entered-found a b touch answer shows.legal is) is.is)
  answered s a b (requests.Touch touch) answer shows line (inr (inl is)) =
      let stayed = stays s a b shows is.kept in
      then s b b [] (answer ∷ []) stayed (answers-by (served_in s b []) b touch answer is.place is.reply stayed.shown
      (ap (λ (x : StationState). found x.history touch) is.kept ∙ is.first) is.is)
  answered s a b (requests.Touch touch) answer shows line (inr (inr is)) = tells s a b answer shows is
  answered s a b (requests.Enquire card) answer shows line is = tells s a b answer shows is

  -- a request is answered, and its answer isn't written
  pub unanswered : (s : Joint) (a b : StationState) (request : Request) (answer : Answer) → IsStationOf cards s a
      → ((touch : Touch) → request ≡ requests.Touch touch → Line s.sent touch) → DoesAnswer a request answer b
      → Serves gate cards s b []
  unanswered s a b (requests.Touch touch) answer shows line (inl is) =
      enters s a b touch answer shows (line touch refl) is
  unanswered s a b (requests.Touch touch) answer shows line (inr (inl is)) = stays s a b shows is.kept
  unanswered s a b (requests.Touch touch) answer shows line (inr (inr is)) = stays s a b shows is.kept
  unanswered s a b (requests.Enquire card) answer shows line is = stays s a b shows is.kept
