-- That what a session writes was said at its desk: each answer is by the newest log point that the desk had then.
use Rattle.std.proofs.Common.{◌≡◌, ◌⊎◌, inl, inr, ℕ, List, [], ◌∷◌, ◌++◌, map, refl, sym, ap, ◌∙◌, subst}
use Rattle.std.proofs.lemmas.List.{map-append}
use Rattle.reply_book.specs.declared.entry.Entry.{Entry}
use Rattle.gate_session.specs.declared.request.Request.{Request}
use Rattle.gate_session.specs.declared.request.Request.TheVariants as requests
use Rattle.gate_session.specs.declared.answer.Answer.{Answer}
use Rattle.gate_session.specs.declared.session.Served.{Served}
use Rattle.gate_session.specs.Clerk.{IsRun as IsClerksRun}
use Rattle.gate_session.specs.Session.{Exchange, IsSession, IsRefused, IsAnswerCut, IsRefusalCut, refusal}
use Rattle.gate_law.specs.WholeSteps.{IsOfNoTouch}
use Rattle.gate_law.proofs.SessionLemmas.{IsWhole, ways}
use Rattle.tap_office.specs.Name.{Opened}
use Rattle.office_lines.specs.Clerk.{ClerkState, code_of, HasGiven}
use Rattle.clerk_calls.specs.Turns.{Said, replies, refuses, tells, answer_of}
use Rattle.clerk_calls.specs.Answered.{newest, IsSaidBy, Saying, said_of, AreAnswered, IsSaidTo, AreSaidTo, HasSaid}
use Rattle.clerk_calls.proofs.AnsweredLemmas.{learnt-none, answered-then, answered-front}
use Rattle.clerk_calls.proofs.OfficeLemmas.{IsGivenOrOut, begins-length}

-- ---- one request

-- the answer to a request, as something that was said to it at the desk
pub record IsOneSaid (opened : Opened) (before after : List (List Entry)) (request : Request) (answer : Answer)
    : Type 0 where
  pub saying : Saying
  pub written : answer ≡ answer_of saying.said
  pub to : IsSaidTo request saying.said
  pub answered : AreAnswered opened before (saying ∷ []) after

-- by the newest point, which the desk learns for it
learnt-one : (opened : Opened) (before after : List (List Entry)) (request : Request) (answer : Answer)
    (point : List Entry) (said : Said) → answer ≡ answer_of said → IsSaidTo request said → after ≡ point ∷ before
    → IsSaidBy opened point said → IsOneSaid opened before after request answer
learnt-one opened before after request answer point said written to learnt is = record {
  saying = record { said = said; point = point };
  written = written;
  to = to;
  answered = (point ∷ before, (point ∷ [], refl), refl, is, ([], learnt));
}

-- and of no touch, where the desk learns none
none-one : (opened : Opened) (before after : List (List Entry)) (request : Request) (answer : Answer)
    → after ≡ before → IsSaidTo request (tells answer) → IsOfNoTouch answer
    → IsOneSaid opened before after request answer
none-one opened before after request answer same to none = record {
  saying = record { said = tells answer; point = newest before };
  written = refl;
  to = to;
  answered = (before, learnt-none before, refl, none, ([], same));
}

given-said : (opened : Opened) (before after : ClerkState) (request : Request) (answer : Answer)
    → HasGiven opened before after request answer
    → IsOneSaid opened before.desk.points after.desk.points request answer
given-said opened before after (requests.Touch touch) answer (inl is) =
    learnt-one opened before.desk.points after.desk.points (requests.Touch touch) answer is.point
    (replies touch is.reply) is.is refl is.learnt (record {
      beside = record { place = is.place; seat = is.seat; stands = is.stands };
      no_shorter = begins-length opened.recovered is.point is.begins;
    })
given-said opened before after (requests.Touch touch) answer (inr is) =
    learnt-one opened before.desk.points after.desk.points (requests.Touch touch) answer is.point
    (refuses touch (code_of is.fault)) is.is refl is.learnt (record {
      office = is.fault;
      is = refl;
      cause = is.cause;
      no_shorter = begins-length opened.recovered is.point is.begins;
    })
given-said opened before after (requests.Enquire card) answer (inl is) =
    none-one opened before.desk.points after.desk.points (requests.Enquire card) answer is.points tt
    (subst IsOfNoTouch (sym is.is) tt)
given-said opened before after (requests.Enquire card) answer (inr is) =
    none-one opened before.desk.points after.desk.points (requests.Enquire card) answer is.points tt
    (subst IsOfNoTouch (sym is.is) (inr (inl refl)))

-- what a door keeps out isn't allowed, and the desk learns nothing
out-said : (opened : Opened) (before after : ClerkState) (request : Request) (answer : Answer)
    → IsGivenOrOut opened before after request answer
    → IsOneSaid opened before.desk.points after.desk.points request answer
out-said opened before after request answer (inl does) = given-said opened before after request answer does.0
out-said opened before after (requests.Touch touch) answer (inr out) =
    none-one opened before.desk.points after.desk.points (requests.Touch touch) answer
    (ap (λ (k : ClerkState). k.desk.points) out.1) out.0 (subst IsOfNoTouch (sym out.0) (inr (inr refl)))
out-said opened before after (requests.Enquire card) answer (inr out) =
    none-one opened before.desk.points after.desk.points (requests.Enquire card) answer
    (ap (λ (k : ClerkState). k.desk.points) out.1) tt (subst IsOfNoTouch (sym out.0) (inr (inr refl)))

-- ---- what was said to requests

-- the last of it may be lost
to-front : (handed : List Request) (front : List Said) (last : Said) → AreSaidTo handed (front ++ last ∷ [])
    → AreSaidTo handed front
to-front handed [] last to = tt
to-front [] (said ∷ []) last to = absurd (let no : last ∷ [] ≡ [] = to.1 in cc)
to-front [] (said ∷ next ∷ front) last to = absurd (let no : next ∷ (front ++ last ∷ []) ≡ [] = to.1 in cc)
to-front (r ∷ handed) (said ∷ front) last to = (to.0, to-front handed front last to.1)

-- a list with an answer more is what was said and one more
record IsFront (front : List Answer) (sayings : List Saying) : Type 0 where
  earlier : List Saying
  final : Saying
  parts : sayings ≡ earlier ++ final ∷ []
  written : front ≡ map answer_of (said_of earlier)

front-said : (front : List Answer) (last : Answer) (sayings : List Saying)
    → front ++ last ∷ [] ≡ map answer_of (said_of sayings) → IsFront front sayings
front-said [] last [] is = absurd cc
front-said [] last (s ∷ []) is = record { earlier = []; final = s; parts = refl; written = refl }
front-said [] last (s ∷ t ∷ sayings) is = absurd cc
front-said (a ∷ front) last [] is = absurd cc
front-said (a ∷ front) last (s ∷ sayings) is =
    let here : a ≡ answer_of s.said = cc in
    let behind : front ++ last ∷ [] ≡ map answer_of (said_of sayings) = cc in
    let rest = front-said front last sayings behind in
    record {
      earlier = s ∷ rest.earlier;
      final = rest.final;
      parts = ap (λ (l : List Saying). s ∷ l) rest.parts;
      written = ap (λ (x : Answer). x ∷ front) here ∙ ap (λ (l : List Answer). answer_of s.said ∷ l) rest.written;
    }

-- with the refusal of bytes that begin no request
abbrev refused_by : List (List Entry) → Saying
refused_by points = record { said = tells refusal; point = newest points }

said-more : (sayings : List Saying) (last : Saying) → said_of (sayings ++ last ∷ []) ≡ said_of sayings ++ last.said ∷ []
said-more sayings last = map-append (λ (s : Saying). s.said) sayings (last ∷ [])

-- ---- a session

module _ {C : Type 0} (gives : C → Request → Answer → C → Type 0) (points : C → List (List Entry)) (opened : Opened)
    (one : (old new : C) (request : Request) (answer : Answer) → gives old request answer new
    → IsOneSaid opened (points old) (points new) request answer) where
  -- each request was answered
  record IsAllSaid (old new : C) (handed : List Request) (answers : List Answer) : Type 0 where
    sayings : List Saying
    written : answers ≡ map answer_of (said_of sayings)
    to : AreSaidTo handed (said_of sayings)
    then_refused : AreSaidTo handed (said_of sayings ++ tells refusal ∷ [])
    answered : AreAnswered opened (points old) sayings (points new)

  run-said : (old new : C) (handed : List Request) (answers : List Answer) → IsClerksRun gives old handed answers new
      → IsAllSaid old new handed answers
  run-said old new [] [] run = record {
    sayings = [];
    written = refl;
    to = tt;
    then_refused = (refl, refl);
    answered = subst (λ (c : C). AreAnswered opened (points old) [] (points c)) (sym run) (learnt-none (points old));
  }
  run-said old new [] (a ∷ answers) run = absurd run
  run-said old new (r ∷ handed) [] run = absurd run
  run-said old new (r ∷ handed) (a ∷ answers) run =
      let first = one old run.0 r a run.1 in
      let rest = run-said run.0 new handed answers run.2 in
      record {
        sayings = first.saying ∷ rest.sayings;
        written = ap (λ (x : Answer). x ∷ answers) first.written
            ∙ ap (λ (l : List Answer). answer_of first.saying.said ∷ l) rest.written;
        to = (first.to, rest.to);
        then_refused = (first.to, rest.then_refused);
        answered = answered-then opened (points old) (points run.0) (points new) (first.saying ∷ []) rest.sayings
            first.answered rest.answered;
      }

  -- whatever the end, the answers that were written whole were said
  exchange-said : (old new : C) (e : Exchange) → IsClerksRun gives old e.handed e.replies new
      → IsWhole e ⊎ IsRefused e ⊎ IsAnswerCut e ⊎ IsRefusalCut e
      → HasSaid opened (points old) (points new) e.handed e.sent
  exchange-said old new e run (inl whole) =
      let all = run-said old new e.handed e.replies run in
      record { sayings = all.sayings; written = whole.sent ∙ all.written; to = all.to; answered = all.answered }
  exchange-said old new e run (inr (inl refused)) =
      let all = run-said old new e.handed e.replies run in
      let last = refused_by (points new) in
      let more = said-more all.sayings last in
      record {
        sayings = all.sayings ++ last ∷ [];
        written = refused.sent ∙ ap (λ (l : List Answer). l ++ refusal ∷ []) all.written
            ∙ sym (map-append answer_of (said_of all.sayings) (tells refusal ∷ [])) ∙ ap (map answer_of) (sym more);
        to = subst (AreSaidTo e.handed) (sym more) all.then_refused;
        answered = answered-then opened (points old) (points new) (points new) all.sayings (last ∷ []) all.answered
            (points new, learnt-none (points new), refl, inl refl, learnt-none (points new));
      }
  exchange-said old new e run (inr (inr (inl cut))) =
      let all = run-said old new e.handed e.replies run in
      let front = front-said e.sent cut.last all.sayings (sym cut.sent ∙ all.written) in
      record {
        sayings = front.earlier;
        written = front.written;
        to = to-front e.handed (said_of front.earlier) front.final.said
            (subst (AreSaidTo e.handed) (ap said_of front.parts ∙ said-more front.earlier front.final) all.to);
        answered = answered-front opened (points old) (points new) front.earlier front.final
            (subst (λ (l : List Saying). AreAnswered opened (points old) l (points new)) front.parts all.answered);
      }
  exchange-said old new e run (inr (inr (inr cut))) =
      let all = run-said old new e.handed e.replies run in
      record { sayings = all.sayings; written = cut.sent ∙ all.written; to = all.to; answered = all.answered }

-- so a session of a clerk that gives what an office's clerk gives, or keeps out, has said its answers at the desk
pub office-said : {C : Type 0} {gives : C → Request → Answer → C → Type 0} (old new : C) (turns : ℕ)
    (served : Served) (bytes text : List ℕ) → (is : IsSession gives old new turns served bytes text)
    → (clerk : C → ClerkState) (opened : Opened)
    → ((before after : C) (request : Request) (answer : Answer) → gives before request answer after
    → IsGivenOrOut opened (clerk before) (clerk after) request answer)
    → HasSaid opened (clerk old).desk.points (clerk new).desk.points is.exchange.handed is.exchange.sent
office-said {gives = gives} old new turns served bytes text is clerk opened has =
    exchange-said gives (λ c. (clerk c).desk.points) opened
    (λ before after request answer given.
    out-said opened (clerk before) (clerk after) request answer (has before after request answer given))
    old new is.exchange is.is.run (ways served.end is.exchange is.ended)
