-- A post serves one session, and the next.
use Rattle.std.proofs.Common.{◌≡◌, ℕ, ◌+◌, List, [], ◌∷◌, ◌++◌, Option, length, refl, sym, subst, arith}
use Rattle.std.proofs.lemmas.List.{length-append}
use Rattle.std.proofs.lemmas.List.Elements.{All-nil, All-push}
use Rattle.std.proofs.lemmas.List.Sums.{sum_by_push}
use Rattle.gate_session.specs.declared.session.Served.{Served}
use Rattle.gate_session.specs.Session.{HasCounted}
use Rattle.tap_desk.specs.Desks.{DeskState}
use Rattle.tap_office.specs.Seat.{SeatState}
use Rattle.office_lines.specs.declared.tally.Tally.{Tally}
use Rattle.office_lines.specs.Clerk.{GoesOn, DeskGoesOn}
use Rattle.office_lines.specs.Post.{HasGivenMore, HasServed}
use Rattle.office_lines.specs.Tally.{HasCountedIn, HasGrown, requests_of}
use Rattle.office_lines.proofs.PostLemmas.{GoesOn-same, GoesOn-more, DeskGoesOn-same, DeskGoesOn-more}
use Rattle.office_lines.proofs.PostLemmas.{HasGivenMore-none, HasGivenMore-more}
use Rattle.office_lines.proofs.TallyLemmas.{HasCountedIn-none, HasCountedIn-more, HasGrown-none, HasGrown-more}

-- nobody was served
pub HasServed-none : (given : Option ℕ) (tally : Tally) (seat : SeatState) (desk : DeskState)
    → HasServed 0 given given tally tally seat seat desk desk
HasServed-none given tally seat desk = record {
  sessions = [];
  few = omega arith;
  given_more = HasGivenMore-none given;
  each = All-nil (λ (s : Served). HasCounted s.end s.requests s.answers);
  counted = HasCountedIn-none tally;
  grown = HasGrown-none tally;
  seat = GoesOn-same seat seat refl;
  desk = DeskGoesOn-same desk desk refl refl;
}

-- one session after others
pub HasServed-more : (count : ℕ) (session : Served) (given gave gives : Option ℕ) (old between new : Tally)
    (before mid after : SeatState) (earlier then later : DeskState)
    → HasServed count given gave old between before mid earlier then → HasGivenMore gave gives 1
    → HasCounted session.end session.requests session.answers → HasCountedIn (session ∷ []) between new
    → HasGrown 1 between new → GoesOn session.requests mid after → DeskGoesOn session.requests then later
    → HasServed (count + 1) given gives old new before after earlier later
HasServed-more count session given gave gives old between new before mid after earlier then later served one has
    counted grown seat desk =
    let all : List Served = served.sessions ++ session ∷ [] in
    let long : length all ≡ length served.sessions + 1 = length-append served.sessions (session ∷ []) in
    let asked : requests_of all ≡ requests_of served.sessions + session.requests =
    sum_by_push (λ (s : Served). s.requests) served.sessions session in
    record {
      sessions = all;
      few = omega (arith, long, served.few);
      given_more = subst (HasGivenMore given gives) (sym long)
          (HasGivenMore-more given gave gives (length served.sessions) 1 served.given_more one);
      each = All-push (λ (s : Served). HasCounted s.end s.requests s.answers) served.sessions session served.each has;
      counted = HasCountedIn-more served.sessions session old between new served.counted counted;
      grown = HasGrown-more count old between new served.grown grown;
      seat = subst (λ (n : ℕ). GoesOn n before after) (sym asked)
          (GoesOn-more (requests_of served.sessions) session.requests before mid after served.seat seat);
      desk = subst (λ (n : ℕ). DeskGoesOn n earlier later) (sym asked)
          (DeskGoesOn-more (requests_of served.sessions) session.requests earlier then later served.desk desk);
    }
