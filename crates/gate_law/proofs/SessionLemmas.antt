-- A whole session is a run of the station's steps.
use Rattle.std.proofs.Common.{◌≡◌, ◌⊎◌, inl, inr, ℕ, suc, List, [], ◌∷◌, ◌++◌, flat_map, Some, refl, sym, ap, ◌∙◌}
use Rattle.std.proofs.Common.{subst, append_assoc, arith}
use Rattle.std.specs.Prelude.{Contains, All}
use Rattle.std.proofs.lemmas.List.Elements.{All-nil, All-cons, All-head, All-tail, All-append}
use Rattle.oyster_account.specs.declared.touch.Touch.{Touch}
use Rattle.gate_session.specs.declared.request.Request.{Request}
use Rattle.gate_session.specs.declared.request.Request.TheVariants as requests
use Rattle.gate_session.specs.declared.answer.Answer.{Answer}
use Rattle.gate_session.specs.declared.session.End.{End}
use Rattle.gate_session.specs.declared.session.End.TheVariants as ends
use Rattle.gate_session.specs.declared.session.Served.{Served}
use Rattle.gate_session.specs.Frames.{RequestFits, request_frame}
use Rattle.gate_session.specs.Answers.{AnswerFits, answer_frame}
use Rattle.gate_session.specs.Clerk.{IsRun as IsClerksRun}
use Rattle.gate_session.specs.Session.{Exchange, HasEnded, IsSession, IsRefused, IsAnswerCut, IsRefusalCut, joined}
use Rattle.gate_session.specs.Session.{refusal}
use Rattle.text_io.specs.Writing.{IsBeginning}
use Rattle.gate_law.specs.Joint.{Joint}
use Rattle.gate_law.specs.Lines.{IsWritten, AreFirstOf}
use Rattle.gate_law.proofs.ListLemmas.{contained, placed}
use Rattle.gate_law.proofs.LineLemmas.{requests as bring_requests, by_line}
use Rattle.gate_law.specs.Station.{StationState, IsStationsClerk, GivesFitting, IsStationOf}
use Rattle.gate_law.specs.Sessions.{WereSent, served_in, AreSessionsRuns}
use Rattle.gate_law.proofs.StationLemmas.{Serves, stays, then, tells, answered, unanswered}

-- ---- ends

-- the answers were all written, and nothing else
pub record IsWhole (e : Exchange) : Type 0 where
  pub sent : e.sent ≡ e.replies
  pub part : e.part ≡ []

-- how a session can have ended
pub ways : (end : End) (e : Exchange) → HasEnded end e → IsWhole e ⊎ IsRefused e ⊎ IsAnswerCut e ⊎ IsRefusalCut e
ways ends.Closed e is = inl (record { sent = is.0.sent; part = is.0.part })
ways ends.CutFrame e is = inl (record { sent = is.0.sent; part = is.0.part })
ways ends.BadFrame e is = inr (inl is)
ways ends.ReadFault e is = inl (record { sent = is.sent; part = is.part })
ways ends.WriteFault e (inl is) = inr (inr (inl is))
ways ends.WriteFault e (inr is) = inr (inr (inr is))
ways ends.Turns e is = inl (record { sent = is.sent; part = is.part })
ways ends.Memory e is = inl (record { sent = is.sent; part = is.part })

-- ---- which requests were sent

-- the first of these requests, and the others
pub sent-head : (r : Request) (rs : List Request) (sent : List Touch) → WereSent (r ∷ rs) sent → (touch : Touch)
    → r ≡ requests.Touch touch → Contains sent touch
sent-head r rs sent were touch is = were touch (contained (r ∷ rs) 0 (requests.Touch touch) (ap Some is))

pub sent-tail : (r : Request) (rs : List Request) (sent : List Touch) → WereSent (r ∷ rs) sent → WereSent rs sent
sent-tail r rs sent were touch there =
    let at = placed rs (requests.Touch touch) there in
    were touch (contained (r ∷ rs) (suc at.0) (requests.Touch touch) at.1)

module _ {C : Type 0} (gives : C → Request → Answer → C → Type 0) (station : C → StationState)
    (does : IsStationsClerk gives station) (gate cards : ℕ) where
  -- the requests are answered, and all answers written
  serves : (s : Joint) (old new : C) (handed : List Request) (replies : List Answer)
      → IsClerksRun gives old handed replies new → IsStationOf cards s (station old) → WereSent handed s.sent
      → Serves gate cards s (station new) replies
  serves s old new [] [] run shows were = stays gate cards s (station old) (station new) shows (ap station run)
  serves s old new [] (a ∷ replies) run shows were = absurd run
  serves s old new (r ∷ handed) [] run shows were = absurd run
  serves s old new (r ∷ handed) (a ∷ replies) run shows were =
      let first = answered gate cards s (station old) (station run.0) r a shows (sent-head r handed s.sent were)
      (does old run.0 r a run.1) in
      then gate cards s (station run.0) (station new) (a ∷ []) replies first
      (serves (served_in s (station run.0) (a ∷ [])) run.0 new handed replies run.2 first.shown
      (sent-tail r handed s.sent were))

  -- the answers were written but for the last
  serves-cut : (s : Joint) (old new : C) (handed : List Request) (sent : List Answer) (last : Answer)
      → IsClerksRun gives old handed (sent ++ last ∷ []) new → IsStationOf cards s (station old)
      → WereSent handed s.sent → Serves gate cards s (station new) sent
  serves-cut s old new [] [] last run shows were = absurd run
  serves-cut s old new [] (a ∷ sent) last run shows were = absurd run
  serves-cut s old new (r ∷ []) [] last run shows were =
      subst (λ (c : C). Serves gate cards s (station c) []) (sym run.2)
      (unanswered gate cards s (station old) (station run.0) r last shows (sent-head r [] s.sent were)
      (does old run.0 r last run.1))
  serves-cut s old new (r ∷ q ∷ handed) [] last run shows were = absurd run.2
  serves-cut s old new (r ∷ handed) (a ∷ sent) last run shows were =
      let first = answered gate cards s (station old) (station run.0) r a shows (sent-head r handed s.sent were)
      (does old run.0 r a run.1) in
      then gate cards s (station run.0) (station new) (a ∷ []) sent first
      (serves-cut (served_in s (station run.0) (a ∷ [])) run.0 new handed sent last run.2 first.shown
      (sent-tail r handed s.sent were))

  -- whatever the end, the answers that were written whole are those of a run
  pub serves-all : (s : Joint) (old new : C) (e : Exchange) → IsClerksRun gives old e.handed e.replies new
      → IsStationOf cards s (station old) → WereSent e.handed s.sent
      → IsWhole e ⊎ IsRefused e ⊎ IsAnswerCut e ⊎ IsRefusalCut e → Serves gate cards s (station new) e.sent
  serves-all s old new e run shows were (inl whole) =
      subst (Serves gate cards s (station new)) (sym whole.sent) (serves s old new e.handed e.replies run shows were)
  serves-all s old new e run shows were (inr (inl refused)) =
      let all = serves s old new e.handed e.replies run shows were in
      subst (Serves gate cards s (station new)) (sym refused.sent)
      (then gate cards s (station new) (station new) e.replies (refusal ∷ []) all
      (tells gate cards (served_in s (station new) e.replies) (station new) (station new) refusal all.shown
      (record { none = refl; kept = refl })))
  serves-all s old new e run shows were (inr (inr (inl cut))) =
      serves-cut s old new e.handed e.sent cut.last
      (subst (λ (l : List Answer). IsClerksRun gives old e.handed l new) cut.sent run) shows were
  serves-all s old new e run shows were (inr (inr (inr cut))) =
      subst (Serves gate cards s (station new)) (sym cut.sent) (serves s old new e.handed e.replies run shows were)

-- ---- numbers of their types

refusal-fits : AnswerFits refusal
refusal-fits = (omega arith, omega arith, omega arith)

-- a clerk's answers fit where the requests do
replies-fit : {C : Type 0} (gives : C → Request → Answer → C → Type 0) (fitting : GivesFitting gives) (old new : C)
    (handed : List Request) (replies : List Answer) → IsClerksRun gives old handed replies new
    → All RequestFits handed → All AnswerFits replies
replies-fit gives fitting old new [] [] run fits = All-nil AnswerFits
replies-fit gives fitting old new [] (a ∷ replies) run fits = absurd run
replies-fit gives fitting old new (r ∷ handed) [] run fits = absurd run
replies-fit gives fitting old new (r ∷ handed) (a ∷ replies) run fits =
    All-cons AnswerFits a replies (fitting old run.0 r a (All-head RequestFits r handed fits) run.1)
    (replies-fit gives fitting run.0 new handed replies run.2 (All-tail RequestFits r handed fits))

-- the first of some that fit, and the last
fit-front : (front : List Answer) (last : Answer) → All AnswerFits (front ++ last ∷ []) → All AnswerFits front
fit-front [] last fits = All-nil AnswerFits
fit-front (a ∷ front) last fits =
    All-cons AnswerFits a front (All-head AnswerFits a (front ++ last ∷ []) fits)
    (fit-front front last (All-tail AnswerFits a (front ++ last ∷ []) fits))

fit-last : (front : List Answer) (last : Answer) → All AnswerFits (front ++ last ∷ []) → AnswerFits last
fit-last [] last fits = All-head AnswerFits last [] fits
fit-last (a ∷ front) last fits = fit-last front last (All-tail AnswerFits a (front ++ last ∷ []) fits)

-- the text is frames of the answers that were written whole, and a part of one more
pub answers-written : (e : Exchange) (text : List ℕ) → All AnswerFits e.replies
    → (text ≡ flat_map answer_frame e.sent ++ e.part) → IsWhole e ⊎ IsRefused e ⊎ IsAnswerCut e ⊎ IsRefusalCut e
    → IsWritten AnswerFits answer_frame text e.sent
answers-written e text fits parts (inl whole) = record {
  part = e.part;
  fits = subst (All AnswerFits) (sym whole.sent) fits;
  parts = parts;
  ends = inl whole.part;
}
answers-written e text fits parts (inr (inl refused)) = record {
  part = e.part;
  fits =
      subst (All AnswerFits) (sym refused.sent)
      (All-append AnswerFits e.replies (refusal ∷ []) fits
      (All-cons AnswerFits refusal [] refusal-fits (All-nil AnswerFits)));
  parts = parts;
  ends = inl refused.part;
}
answers-written e text fits parts (inr (inr (inl cut))) =
    let all : All AnswerFits (e.sent ++ cut.last ∷ []) = subst (All AnswerFits) cut.sent fits in
    record {
      part = e.part;
      fits = fit-front e.sent cut.last all;
      parts = parts;
      ends = inr (cut.last, fit-last e.sent cut.last all, cut.cut);
    }
answers-written e text fits parts (inr (inr (inr cut))) = record {
  part = e.part;
  fits = subst (All AnswerFits) (sym cut.sent) fits;
  parts = parts;
  ends = inr (refusal, refusal-fits, cut.cut);
}

-- ---- a session

-- what the pieces give begins the line of which the bytes are a beginning
pieces-begin : (bytes line pieces lost : List ℕ) → IsBeginning bytes line → bytes ≡ pieces ++ lost
    → IsBeginning pieces line
pieces-begin bytes line pieces lost begins read = (
  lost ++ begins.0,
  begins.1 ∙ ap (λ (l : List ℕ). l ++ begins.0) read ∙ append_assoc pieces lost begins.0,
)

-- the requests that were handed over are the first of those written
pub handed-first : {C : Type 0} (gives : C → Request → Answer → C → Type 0) (old new : C) (turns : ℕ) (served : Served)
    (bytes text line : List ℕ) (written : List Request) (is : IsSession gives old new turns served bytes text)
    → IsWritten RequestFits request_frame line written → IsBeginning bytes line
    → AreFirstOf is.exchange.handed written
handed-first gives old new turns served bytes text line written is lined begins =
    bring_requests line (joined is.pieces) written is.exchange.handed lined
    (pieces-begin bytes line (joined is.pieces) is.lost begins is.read) (record {
      rest = is.exchange.rest;
      fits = is.is.first.fits;
      parts = is.is.first.parts;
    })

-- the text is frames of the answers that were sent, and a part of one more
pub session-written : {C : Type 0} (gives : C → Request → Answer → C → Type 0) → GivesFitting gives → (old new : C)
    (turns : ℕ) (served : Served) (bytes text : List ℕ)
    (is : IsSession gives old new turns served bytes text)
    → IsWritten AnswerFits answer_frame text is.exchange.sent
session-written gives fitting old new turns served bytes text is =
    let e = is.exchange in
    answers-written e text (replies-fit gives fitting old new e.handed e.replies is.is.run is.is.first.fits)
    is.is.written (ways served.end e is.ended)

pub session : {C : Type 0} (gives : C → Request → Answer → C → Type 0) → AreSessionsRuns gives
session gives station does fitting gate cards turns old new served bytes text line written s is lined begins sent
    shows =
    let e = is.exchange in
    let first = handed-first gives old new turns served bytes text line written is lined begins in
    let were : WereSent e.handed s.sent =
    λ touch there. sent touch (by_line Request e.handed written (requests.Touch touch) first there) in
    let ended = ways served.end e is.ended in
    let all = serves-all gives station does gate cards s old new e is.is.run shows were ended in
    record {
      first = first;
      sent = e.sent;
      between = all.between;
      run = all.run;
      shown = all.shown;
      answers = session-written gives fitting old new turns served bytes text is;
    }
