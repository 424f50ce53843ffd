-- That a session of a clerk of a log is a run of steps.
use Rattle.std.proofs.Common.{◌≡◌, ◌⊎◌, inl, inr, ℕ, zero, suc, ◌+◌, ◌-◌, ◌≤◌, List, [], ◌∷◌, ◌++◌, length, take}
use Rattle.std.proofs.Common.{refl, sym, ap, ◌∙◌, subst, arith, Some}
use Rattle.std.specs.Prelude.{Contains, slice_get}
use Rattle.oyster_account.specs.declared.touch.Touch.{Touch}
use Rattle.oyster_account.specs.declared.reply.Reply.{Reply}
use Rattle.reply_book.specs.declared.entry.Entry.{Entry}
use Rattle.reply_book.specs.declared.entry.Found.TheVariants.{First}
use Rattle.reply_book.specs.Names.{AreNamedOnce}
use Rattle.reply_book.specs.Lookup.{found as find_in}
use Rattle.reply_book.specs.Legal.{IsLegal, history_of, touches_of}
use Rattle.reply_book.proofs.LegalLemmas.{legal-take, touches_in-history_of}
use Rattle.reply_book.proofs.LawLemmas.{first-exact}
use Rattle.reply_book.proofs.CallerLemmas.{history_of-take}
use Rattle.gate_session.specs.declared.request.Request.{Request}
use Rattle.gate_session.specs.declared.request.Request.TheVariants as requests
use Rattle.gate_session.specs.declared.answer.Answer.{Answer}
use Rattle.gate_session.specs.declared.answer.Answer.TheVariants as answers
use Rattle.gate_session.specs.Clerk.{IsRun as IsClerksRun}
use Rattle.gate_law.specs.Joint.{Joint}
use Rattle.gate_session.specs.declared.session.Served.{Served}
use Rattle.gate_session.specs.Session.{Exchange, IsSession, IsRefused, IsAnswerCut, IsRefusalCut, refusal}
use Rattle.gate_law.specs.Premises.{Line}
use Rattle.gate_law.proofs.LineLemmas.{by_line}
use Rattle.tap_desk.specs.Listed.{BeginsWith}
use Rattle.gate_law.specs.Station.{IsStationOf}
use Rattle.gate_law.specs.Sessions.{WereSent, served_in}
use Rattle.gate_law.proofs.StationLemmas.{Serves, stays, then, tells, answered, unanswered}
use Rattle.gate_law.proofs.SessionLemmas.{IsWhole, ways, sent-head, sent-tail, handed-first, session-written}
use Rattle.gate_law.proofs.OpeningLemmas.{lock-last, new-last}
use Rattle.clerk_calls.proofs.EntryLemmas.{take-next, stands-below, front-of, begins-before}
use Rattle.clerk_calls.specs.Logged.{Log, station_at, IsFromPoint, IsBeside, DoesFromLog, KeepsLog}
use Rattle.clerk_calls.specs.Logged.{IsBehind, IsServedFromLog}

module _ (log : Log) (legal : IsLegal log.tables log.cards (history_of log.entries)) (gate : ℕ) where
  abbrev entries : List Entry
  entries = log.entries

  pub legal-at : (n : ℕ) → IsLegal log.tables log.cards (history_of (take n entries))
  legal-at n =
      subst (IsLegal log.tables log.cards) (sym (history_of-take n entries))
      (legal-take log.tables log.cards (history_of entries) n legal)

  -- the next entry is entered, by whomever
  enters-next : (s : Joint) (n : ℕ) (entry : Entry) → slice_get entries n ≡ Some entry
      → IsStationOf log.cards s (station_at log n) → Line s.sent entry.touch
      → Serves gate log.cards s (station_at log (suc n)) []
  enters-next s n entry at shows line =
      let parts = take-next entries n entry at in
      let both = subst (λ (l : List Entry). IsLegal log.tables log.cards (history_of l)) parts (legal-at (suc n)) in
      unanswered gate log.cards s (station_at log n) (station_at log (suc n)) (requests.Touch entry.touch)
      (answers.Reply entry.touch.gate entry.touch.number entry.reply) shows
      (λ touch is.
      let same : entry.touch ≡ touch = cc in subst (Contains s.sent) same line)
      (inl (record {
        reply = entry.reply;
        seat = entry.seat;
        fresh = new-last log.tables log.cards (take n entries) entry both;
        lock = lock-last log.tables log.cards (take n entries) entry both;
        grown = ap (λ (l : List Entry). record (station_at log n) { history = l }) parts;
        is = refl;
      }))

  -- as many more as there are up to a place
  grows : (s : Joint) (n k : ℕ) → n + k ≤ length entries → IsStationOf log.cards s (station_at log n)
      → ((place : ℕ) (entry : Entry) → n ≤ place → slice_get entries place ≡ Some entry → Line s.sent entry.touch)
      → Serves gate log.cards s (station_at log (n + k)) []
  grows s n zero within shows sent =
      stays gate log.cards s (station_at log n) (station_at log (n + 0)) shows
      (ap (station_at log) (let e : n + 0 ≡ n = omega arith in e))
  grows s n (suc k) within shows sent =
      let at = stands-below entries n (omega arith) in
      let first = enters-next s n at.0 at.1 shows (sent n at.0 (omega arith) at.1) in
      let later = grows (served_in s (station_at log (suc n)) []) (suc n) k (omega arith) first.shown
      (λ place entry above there. sent place entry (omega arith) there) in
      let count : suc n + k ≡ n + suc k = omega arith in
      subst (λ (m : ℕ). Serves gate log.cards s (station_at log m) []) count
      (then gate log.cards s (station_at log (suc n)) (station_at log (suc n + k)) [] [] first later)

  -- up to a larger count
  grows-to : (s : Joint) (n m : ℕ) → n ≤ m → m ≤ length entries → IsStationOf log.cards s (station_at log n)
      → ((place : ℕ) (entry : Entry) → n ≤ place → slice_get entries place ≡ Some entry → Line s.sent entry.touch)
      → Serves gate log.cards s (station_at log m) []
  grows-to s n m less within shows sent =
      let count : n + (m - n) ≡ m = omega arith in
      subst (λ (k : ℕ). Serves gate log.cards s (station_at log k) []) count
      (grows s n (m - n) (omega (arith, count)) shows sent)

  -- what stands in a point is found there
  pub found-in : (n place : ℕ) (touch : Touch) (reply : Reply) (seat : ℕ)
      → slice_get (take n entries) place ≡ Some (record { touch = touch; reply = reply; seat = seat })
      → find_in (take n entries) touch ≡ First place reply
  found-in n place touch reply seat at =
      let once : AreNamedOnce (touches_of (take n entries)) =
      subst AreNamedOnce (touches_in-history_of (take n entries)) (legal-at n).once in
      (first-exact (take n entries) touch place reply once).1 (record {
        entry = record { touch = touch; reply = reply; seat = seat };
        at = at;
        touched = refl;
        replied = refl;
      })

-- ---- requests and answers

-- the station comes to what the log had at a later count, with these answers more
pub record Reaches (gate : ℕ) (log : Log) (count : ℕ) (s : Joint) (sent : List Answer) : Type 0 where
  pub last : ℕ
  pub grown : count ≤ last
  pub reached : last ≤ length log.entries
  pub serves : Serves gate log.cards s (station_at log last) sent

-- each touch behind the count was sent
abbrev pub AreSentFrom : Log → ℕ → Joint → Type 0
AreSentFrom log count s =
    (place : ℕ) (entry : Entry) → count ≤ place → slice_get log.entries place ≡ Some entry → Line s.sent entry.touch

module _ {C : Type 0} (gives : C → Request → Answer → C → Type 0) (points : C → List (List Entry)) (seen : C → ℕ)
    (found : ℕ) (keeps : KeepsLog gives points seen found) (log : Log)
    (legal : IsLegal log.tables log.cards (history_of log.entries)) (gate : ℕ) where
  -- the points that were learnt before are among those after
  before-one : (old new : C) (request : Request) (answer : Answer)
      → DoesFromLog points seen found old request answer new → BeginsWith (points new) log.entries
      → BeginsWith (points old) log.entries
  before-one old new (requests.Touch touch) answer (inl is) begins =
      (subst (λ (l : List (List Entry)). BeginsWith l log.entries) is.learnt begins).1
  before-one old new (requests.Touch touch) answer (inr is) begins =
      begins-before (points old) (points new) log.entries is.learnt begins
  before-one old new (requests.Enquire card) answer is begins =
      begins-before (points old) (points new) log.entries is.learnt begins

  before-all : (old new : C) (handed : List Request) (replies : List Answer)
      → IsClerksRun gives old handed replies new → BeginsWith (points new) log.entries
      → BeginsWith (points old) log.entries
  before-all old new [] [] run begins = subst (λ (c : C). BeginsWith (points c) log.entries) run begins
  before-all old new [] (a ∷ replies) run begins = absurd run
  before-all old new (r ∷ handed) [] run begins = absurd run
  before-all old new (r ∷ handed) (a ∷ replies) run begins =
      before-one old run.0 r a (keeps.does old run.0 r a run.1) (before-all run.0 new handed replies run.2 begins)

  abbrev IsAt : ℕ → C → Type 0
  IsAt count clerk = IsBehind found (seen clerk) count

  -- where a request leads, answered or with its answer not written
  pub record Leads (count : ℕ) (s : Joint) (clerk : C) (sent : List Answer) : Type 0 where
    pub reaches : Reaches gate log count s sent
    pub at : IsAt reaches.last clerk

  point-first : (s : Joint) (count : ℕ) (old new : C) (touch : Touch) (answer : Answer)
      (is : IsFromPoint points seen found old new touch answer) → BeginsWith (points new) log.entries
      → IsAt count old → count ≤ length is.point
  point-first s count old new touch answer is begins (inl few) = let a = is.no_shorter in omega (arith, few, a)
  point-first s count old new touch answer is begins (inr few) =
      let a = is.not_below in let b : seen new ≡ length is.point = is.seen_is in omega (arith, few, a, b)

  from-point : (s : Joint) (count : ℕ) (old new : C) (touch : Touch) (answer : Answer)
      (is : IsFromPoint points seen found old new touch answer) → BeginsWith (points new) log.entries
      → IsAt count old → IsStationOf log.cards s (station_at log count) → AreSentFrom log count s
      → Line s.sent touch → Leads count s new (answer ∷ []) × Leads count s new []
  from-point s count old new touch answer is begins at shows sent line =
      let prefix = (subst (λ (l : List (List Entry)). BeginsWith l log.entries) is.learnt begins).0 in
      let front = front-of is.point log.entries prefix in
      let m = length is.point in
      let more = point-first s count old new touch answer is begins at in
      let grown = grows-to log legal gate s count m more front.1 shows sent in
      let there : slice_get (take m log.entries) is.place
      ≡ Some (record { touch = touch; reply = is.reply; seat = is.seat }) =
      ap (λ (l : List Entry). slice_get l is.place) front.0 ∙ is.stands in (
        record {
          reaches = record {
            last = m;
            grown = more;
            reached = front.1;
            serves = then gate log.cards s (station_at log m) (station_at log m) [] (answer ∷ []) grown
                (answered gate log.cards (served_in s (station_at log m) []) (station_at log m) (station_at log m)
                (requests.Touch touch) answer grown.shown
                (λ t e. let same : touch ≡ t = cc in subst (Contains s.sent) same line)
                (inr (inl (record {
                  place = is.place;
                  reply = is.reply;
                  first = found-in log legal gate m is.place touch is.reply is.seat there;
                  kept = refl;
                  is = is.is;
                }))));
          };
          at = inr (let b : seen new ≡ m = is.seen_is in omega (arith, b));
        },
        record {
          reaches = record { last = m; grown = more; reached = front.1; serves = grown };
          at = inr (let b : seen new ≡ m = is.seen_is in omega (arith, b));
        },
      )

  beside : (s : Joint) (count : ℕ) (old new : C) (answer : Answer) → IsBeside points seen found old new answer
      → IsAt count old → count ≤ length log.entries → IsStationOf log.cards s (station_at log count)
      → Leads count s new (answer ∷ []) × Leads count s new []
  beside s count old new answer is at within shows =
      let still : IsAt count new = elim at [
        | inl few ↦ inl few
        | inr few ↦ inr (subst (λ (n : ℕ). count ≤ n) (sym is.seen_is) few)
      ] in
      let less : count ≤ count = omega arith in (
        record {
          reaches = record {
            last = count;
            grown = less;
            reached = within;
            serves = tells gate log.cards s (station_at log count) (station_at log count) answer shows
                (record { none = is.none; kept = refl });
          };
          at = still;
        },
        record {
          reaches = record {
            last = count;
            grown = less;
            reached = within;
            serves = stays gate log.cards s (station_at log count) (station_at log count) shows refl;
          };
          at = still;
        },
      )

  -- a request, with its answer written or not
  one : (s : Joint) (count : ℕ) (old new : C) (request : Request) (answer : Answer)
      → DoesFromLog points seen found old request answer new → BeginsWith (points new) log.entries → IsAt count old
      → count ≤ length log.entries → IsStationOf log.cards s (station_at log count) → AreSentFrom log count s
      → ((touch : Touch) → request ≡ requests.Touch touch → Line s.sent touch)
      → Leads count s new (answer ∷ []) × Leads count s new []
  one s count old new (requests.Touch touch) answer (inl is) begins at within shows sent line =
      from-point s count old new touch answer is begins at shows sent (line touch refl)
  one s count old new (requests.Touch touch) answer (inr is) begins at within shows sent line =
      beside s count old new answer is at within shows
  one s count old new (requests.Enquire card) answer is begins at within shows sent line =
      beside s count old new answer is at within shows

  -- and then more
  leads-then : (s : Joint) (count : ℕ) (mid new : C) (first later : List Answer) (l : Leads count s mid first)
      → Leads l.reaches.last (served_in s (station_at log l.reaches.last) first) new later
      → Leads count s new (first ++ later)
  leads-then s count mid new first later l m =
      let a = l.reaches.grown in
      let b = m.reaches.grown in
      record {
        reaches = record {
          last = m.reaches.last;
          grown = omega (arith, a, b);
          reached = m.reaches.reached;
          serves = then gate log.cards s (station_at log l.reaches.last) (station_at log m.reaches.last) first later
              l.reaches.serves m.reaches.serves;
        };
        at = m.at;
      }

  sent-on : (s : Joint) (count last : ℕ) (sent : List Answer) → count ≤ last → AreSentFrom log count s
      → AreSentFrom log last (served_in s (station_at log last) sent)
  sent-on s count last sent more were place entry above at = were place entry (omega (arith, more, above)) at

  -- the requests are answered, and all answers written
  serves : (s : Joint) (count : ℕ) (old new : C) (handed : List Request) (replies : List Answer)
      → IsClerksRun gives old handed replies new → BeginsWith (points new) log.entries → IsAt count old
      → count ≤ length log.entries → IsStationOf log.cards s (station_at log count) → AreSentFrom log count s
      → WereSent handed s.sent → Leads count s new replies
  serves s count old new [] [] run begins at within shows sent were =
      let less : count ≤ count = omega arith in
      record {
        reaches = record {
          last = count;
          grown = less;
          reached = within;
          serves = stays gate log.cards s (station_at log count) (station_at log count) shows refl;
        };
        at = subst (IsAt count) (sym run) at;
      }
  serves s count old new [] (a ∷ replies) run begins at within shows sent were = absurd run
  serves s count old new (r ∷ handed) [] run begins at within shows sent were = absurd run
  serves s count old new (r ∷ handed) (a ∷ replies) run begins at within shows sent were =
      let first = (one s count old run.0 r a (keeps.does old run.0 r a run.1)
      (before-all run.0 new handed replies run.2 begins) at within shows sent (sent-head r handed s.sent were)).0 in
      let n = first.reaches.last in
      leads-then s count run.0 new (a ∷ []) replies first
      (serves (served_in s (station_at log n) (a ∷ [])) n run.0 new handed replies run.2 begins first.at
      first.reaches.reached first.reaches.serves.shown (sent-on s count n (a ∷ []) first.reaches.grown sent)
      (sent-tail r handed s.sent were))

  -- the answers were written but for the last
  serves-cut : (s : Joint) (count : ℕ) (old new : C) (handed : List Request) (front : List Answer) (last : Answer)
      → IsClerksRun gives old handed (front ++ last ∷ []) new → BeginsWith (points new) log.entries → IsAt count old
      → count ≤ length log.entries → IsStationOf log.cards s (station_at log count) → AreSentFrom log count s
      → WereSent handed s.sent → Leads count s new front
  serves-cut s count old new [] [] last run begins at within shows sent were = absurd run
  serves-cut s count old new [] (a ∷ front) last run begins at within shows sent were = absurd run
  serves-cut s count old new (r ∷ []) [] last run begins at within shows sent were =
      subst (λ (c : C). Leads count s c []) (sym run.2)
      (one s count old run.0 r last (keeps.does old run.0 r last run.1)
      (subst (λ (c : C). BeginsWith (points c) log.entries) run.2 begins) at within shows sent
      (sent-head r [] s.sent were)).1
  serves-cut s count old new (r ∷ q ∷ handed) [] last run begins at within shows sent were = absurd run.2
  serves-cut s count old new (r ∷ handed) (a ∷ front) last run begins at within shows sent were =
      let first = (one s count old run.0 r a (keeps.does old run.0 r a run.1)
      (before-all run.0 new handed (front ++ last ∷ []) run.2 begins) at within shows sent
      (sent-head r handed s.sent were)).0 in
      let n = first.reaches.last in
      leads-then s count run.0 new (a ∷ []) front first
      (serves-cut (served_in s (station_at log n) (a ∷ [])) n run.0 new handed front last run.2 begins first.at
      first.reaches.reached first.reaches.serves.shown (sent-on s count n (a ∷ []) first.reaches.grown sent)
      (sent-tail r handed s.sent were))

  -- whatever the end, the answers that were written whole are those of a run
  pub serves-all : (s : Joint) (count : ℕ) (old new : C) (e : Exchange) → IsClerksRun gives old e.handed e.replies new
      → BeginsWith (points new) log.entries → IsAt count old → count ≤ length log.entries
      → IsStationOf log.cards s (station_at log count) → AreSentFrom log count s → WereSent e.handed s.sent
      → IsWhole e ⊎ IsRefused e ⊎ IsAnswerCut e ⊎ IsRefusalCut e → Leads count s new e.sent
  serves-all s count old new e run begins at within shows sent were (inl whole) =
      subst (Leads count s new) (sym whole.sent)
      (serves s count old new e.handed e.replies run begins at within shows sent were)
  serves-all s count old new e run begins at within shows sent were (inr (inl refused)) =
      let all = serves s count old new e.handed e.replies run begins at within shows sent were in
      let n = all.reaches.last in
      let told = tells gate log.cards (served_in s (station_at log n) e.replies) (station_at log n) (station_at log n)
      refusal all.reaches.serves.shown (record { none = refl; kept = refl }) in
      subst (Leads count s new) (sym refused.sent) (record {
        reaches = record {
          last = n;
          grown = all.reaches.grown;
          reached = all.reaches.reached;
          serves = then gate log.cards s (station_at log n) (station_at log n) e.replies (refusal ∷ [])
              all.reaches.serves told;
        };
        at = all.at;
      })
  serves-all s count old new e run begins at within shows sent were (inr (inr (inl cut))) =
      serves-cut s count old new e.handed e.sent cut.last
      (subst (λ (l : List Answer). IsClerksRun gives old e.handed l new) cut.sent run) begins at within shows sent were
  serves-all s count old new e run begins at within shows sent were (inr (inr (inr cut))) =
      subst (Leads count s new) (sym cut.sent)
      (serves s count old new e.handed e.replies run begins at within shows sent were)

-- ---- a session

pub session-logged : {C : Type 0} (gives : C → Request → Answer → C → Type 0) (points : C → List (List Entry))
    (seen : C → ℕ) (found : ℕ) → KeepsLog gives points seen found → (old new : C) (turns : ℕ) (served : Served)
    (bytes text : List ℕ) → (is : IsSession gives old new turns served bytes text)
    → IsServedFromLog found (seen old) (points new) is.exchange.handed is.exchange.sent bytes text
session-logged gives points seen found keeps old new turns served bytes text is log of gate count s line written
    logged at lined begins sent =
    let e = is.exchange in
    let first = handed-first gives old new turns served bytes text line written is lined begins in
    let were : WereSent e.handed s.sent =
    λ touch there. sent touch (by_line Request e.handed written (requests.Touch touch) first there) in
    let all = serves-all gives points seen found keeps log of.legal gate s count old new e is.is.run of.begins at
    logged.within logged.shown logged.sent were (ways served.end e is.ended) in
    record {
      first = first;
      last = all.reaches.last;
      grown = all.reaches.grown;
      reached = all.reaches.reached;
      between = all.reaches.serves.between;
      run = all.reaches.serves.run;
      shown = all.reaches.serves.shown;
      answers = session-written gives keeps.fitting old new turns served bytes text is;
    }
