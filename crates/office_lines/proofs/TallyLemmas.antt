-- A tally grows by one session, and by the next.
use Rattle.std.proofs.Common.{◌≡◌, ℕ, ◌+◌, ◌≤◌, ◌<◌, true, false, cond, ◌==◌, List, [], ◌∷◌, ◌++◌, length, slice_index}
use Rattle.std.proofs.Common.{slice_set, refl, ap, ◌∙◌, inl, inr, arith}
use Rattle.std.specs.List.{sum_by}
use Rattle.std.proofs.lemmas.Bool.{cases_eq}
use Rattle.std.proofs.lemmas.Bool.Decides.{nat_tests}
use Rattle.std.proofs.lemmas.List.{get_or-set_same, get_or-set_other}
use Rattle.std.proofs.lemmas.List.{length-append}
use Rattle.std.proofs.lemmas.List.Sums.{sum_by-set, sum_by_push}
use Rattle.gate_session.specs.declared.session.End.{End}
use Rattle.gate_session.specs.declared.session.End.TheVariants.{Closed, CutFrame, BadFrame, ReadFault, WriteFault}
use Rattle.gate_session.specs.declared.session.End.TheVariants.{Turns, Memory}
use Rattle.gate_session.specs.Session.{HasCounted}
use Rattle.office_lines.specs.declared.tally.Tally.{Tally}
use Rattle.gate_session.specs.declared.session.Served.{Served}
use Rattle.office_lines.specs.Tally.{place_of, ended, all_ended, has_ended, HasCountedIn, HasGrown, IsBelow}

-- one more at the place that was counted
abbrev one_at : ℕ → ℕ → ℕ
one_at place other = cond (other == place) 1 0

raised : (counts : List ℕ) (place other : ℕ) → place < length counts
    → slice_index (slice_set counts place (slice_index counts place + 1)) other
    ≡ slice_index counts other + one_at place other
raised counts place other within =
    elim (cases_eq other place) [
      | inl same ↦
          let here : slice_index (slice_set counts place (slice_index counts place + 1)) place
          ≡ slice_index counts place + 1 =
          get_or-set_same counts place (slice_index counts place + 1) 0 within in
          let equal : (place == place) ≡ true = grind (arith, nat_tests) in
          rw (same, equal) here
      | inr else ↦
          let there = get_or-set_other counts place other (slice_index counts place + 1) 0 else in
          let unequal : (other == place) ≡ false = grind (arith, nat_tests, else) in
          rw unequal (there ∙ omega arith)
    ]

raised-sum : (counts : List ℕ) (place : ℕ) → place < length counts
    → sum_by (λ count. count) (slice_set counts place (slice_index counts place + 1))
    ≡ sum_by (λ count. count) counts + 1
raised-sum counts place within =
    let sums = sum_by-set (λ (count : ℕ). count) counts place (slice_index counts place + 1) 0 within in
    omega (arith, sums)

within_ends : (end : End) → place_of end < 7
within_ends Closed = omega arith
within_ends CutFrame = omega arith
within_ends BadFrame = omega arith
within_ends ReadFault = omega arith
within_ends WriteFault = omega arith
within_ends Turns = omega arith
within_ends Memory = omega arith

-- the answers of a session, by its end
record Answered (old new : Tally) : Type 0 where
  most : new.answers + (old.requests + ended old BadFrame) ≤ old.answers + (new.requests + ended new BadFrame)
  least : old.answers + (new.requests + ended new BadFrame) + ended old WriteFault
      ≤ new.answers + (old.requests + ended old BadFrame) + ended new WriteFault

as_many : (old new : Tally) (requests answers : ℕ) → ended new BadFrame ≡ ended old BadFrame
    → ended new WriteFault ≡ ended old WriteFault → new.requests ≡ old.requests + requests
    → new.answers ≡ old.answers + answers → answers ≡ requests → Answered old new
as_many old new requests answers bad failed r a is = record { most = omega arith; least = omega arith }

answered : (end : End) (old new : Tally) (requests answers : ℕ)
    → ended new BadFrame ≡ ended old BadFrame + one_at (place_of end) 2
    → ended new WriteFault ≡ ended old WriteFault + one_at (place_of end) 4
    → new.requests ≡ old.requests + requests → new.answers ≡ old.answers + answers
    → HasCounted end requests answers → Answered old new
answered Closed old new requests answers bad failed r a is =
    as_many old new requests answers (bad ∙ omega arith) (failed ∙ omega arith) r a is
answered CutFrame old new requests answers bad failed r a is =
    as_many old new requests answers (bad ∙ omega arith) (failed ∙ omega arith) r a is
answered BadFrame old new requests answers bad failed r a is =
    let one : ended new BadFrame ≡ ended old BadFrame + 1 = bad in
    let same : ended new WriteFault ≡ ended old WriteFault + 0 = failed in
    record { most = omega (arith, one, same, r, a, is); least = omega (arith, one, same, r, a, is) }
answered ReadFault old new requests answers bad failed r a is =
    as_many old new requests answers (bad ∙ omega arith) (failed ∙ omega arith) r a is
answered WriteFault old new requests answers bad failed r a is =
    let same : ended new BadFrame ≡ ended old BadFrame + 0 = bad in
    let one : ended new WriteFault ≡ ended old WriteFault + 1 = failed in
    elim is [
      | inl less ↦ record {
        most = omega (arith, one, same, r, a, less);
        least = omega (arith, one, same, r, a, less);
      }
      | inr equal ↦ record {
        most = omega (arith, one, same, r, a, equal);
        least = omega (arith, one, same, r, a, equal);
      }
    ]
answered Turns old new requests answers bad failed r a is =
    as_many old new requests answers (bad ∙ omega arith) (failed ∙ omega arith) r a is
answered Memory old new requests answers bad failed r a is =
    as_many old new requests answers (bad ∙ omega arith) (failed ∙ omega arith) r a is

-- a session that was counted
pub HasGrown-one : (end : End) (old new : Tally) (requests answers : ℕ) → length old.ends ≡ 7
    → new.ends ≡ slice_set old.ends (place_of end) (slice_index old.ends (place_of end) + 1)
    → new.connections ≡ old.connections + 1 → new.requests ≡ old.requests + requests
    → new.answers ≡ old.answers + answers → HasCounted end requests answers → HasGrown 1 old new
HasGrown-one end old new requests answers size ends c r a counted =
    let within : place_of end < length old.ends = omega (arith, within_ends end, size) in
    let at : (other : ℕ) → slice_index new.ends other ≡ slice_index old.ends other + one_at (place_of end) other =
    λ other. ap (λ (l : List ℕ). slice_index l other) ends ∙ raised old.ends (place_of end) other within in
    let sum : all_ended new ≡ all_ended old + 1 =
    ap (sum_by (λ (count : ℕ). count)) ends ∙ raised-sum old.ends (place_of end) within in
    let is = answered end old new requests answers (at 2) (at 4) r a counted in
    record {
      few = omega arith;
      rises = omega arith;
      ends = omega (arith, sum, c);
      each = λ other. omega (arith, at (place_of other));
      most = is.most;
      least = is.least;
    }

pub HasGrown-none : (tally : Tally) → HasGrown 0 tally tally
HasGrown-none tally = record {
  few = omega arith;
  rises = omega arith;
  ends = refl;
  each = λ end. omega arith;
  most = omega arith;
  least = omega arith;
}

-- one session after others
pub HasGrown-more : (count : ℕ) (old between new : Tally) → HasGrown count old between → HasGrown 1 between new
    → HasGrown (count + 1) old new
HasGrown-more count old between new first last = record {
  few = omega (arith, first.few, last.few);
  rises = omega (arith, first.rises, last.rises);
  ends = omega (arith, first.ends, last.ends);
  each = λ end. omega (arith, first.each end, last.each end);
  most = omega (arith, first.most, last.most);
  least = omega (arith, first.least, last.least);
}

-- counts below one bound are below a larger one
pub IsBelow-more : (least most : ℕ) (tally : Tally) → least ≤ most → IsBelow least tally → IsBelow most tally
IsBelow-more least most tally more below = record {
  connections = omega (arith, more, below.connections);
  requests = omega (arith, more, below.requests);
  answers = omega (arith, more, below.answers);
  ends = λ place other within. let count = below.ends place other within in omega (arith, more, count);
}

-- ---- sessions

-- a session that was counted
pub HasCountedIn-one : (session : Served) (old new : Tally) → length old.ends ≡ 7
    → new.ends ≡ slice_set old.ends (place_of session.end) (slice_index old.ends (place_of session.end) + 1)
    → new.connections ≡ old.connections + 1 → new.requests ≡ old.requests + session.requests
    → new.answers ≡ old.answers + session.answers → HasCountedIn (session ∷ []) old new
HasCountedIn-one session old new size ends c r a =
    let within : place_of session.end < length old.ends = omega (arith, within_ends session.end, size) in
    record {
      connections = c;
      requests = r ∙ ap (λ (n : ℕ). old.requests + n) (alone session.requests);
      answers = a ∙ ap (λ (n : ℕ). old.answers + n) (alone session.answers);
      ends = λ end. ap (λ (l : List ℕ). slice_index l (place_of end)) ends
          ∙ raised old.ends (place_of session.end) (place_of end) within
          ∙ ap (λ (n : ℕ). ended old end + n) (alone (one_at (place_of session.end) (place_of end)));
    }
  where
    alone : (n : ℕ) → n ≡ 0 + n
    alone n = omega arith

pub HasCountedIn-none : (tally : Tally) → HasCountedIn [] tally tally
HasCountedIn-none tally = record {
  connections = omega arith;
  requests = omega arith;
  answers = omega arith;
  ends = λ end. omega arith;
}

-- one session after others
pub HasCountedIn-more : (sessions : List Served) (session : Served) (old between new : Tally)
    → HasCountedIn sessions old between → HasCountedIn (session ∷ []) between new
    → HasCountedIn (sessions ++ session ∷ []) old new
HasCountedIn-more sessions session old between new first last = record {
  connections = omega (arith, first.connections, last.connections, length-append sessions (session ∷ []));
  requests = omega (arith, first.requests, last.requests, sum_by_push (λ (s : Served). s.requests) sessions session);
  answers = omega (arith, first.answers, last.answers, sum_by_push (λ (s : Served). s.answers) sessions session);
  ends = λ end. omega (
    arith,
    first.ends end,
    last.ends end,
    sum_by_push (λ (s : Served). cond (has_ended end s) 1 0) sessions session,
  );
}
