-- What serving leaves of a post (COMMANDS.md, "The report"; this project's choice).
use Rattle.std.specs.Prelude.{◌≡◌, ◌+◌, ◌≤◌, ℕ, List, All, Option, Some, None, length}
use Rattle.gate_session.specs.declared.session.Served.{Served}
use Rattle.gate_session.specs.Session.{HasCounted}
use Rattle.tap_desk.specs.Desks.{DeskState}
use Rattle.tap_office.specs.Seat.{SeatState}
use Rattle.office_lines.specs.declared.tally.Tally.{Tally}
use Rattle.office_lines.specs.Clerk.{GoesOn, DeskGoesOn}
use Rattle.office_lines.specs.Tally.{HasCountedIn, HasGrown, requests_of}

-- a line that says how many connections it gave has given so many more
abbrev pub HasGivenMore : Option ℕ → Option ℕ → ℕ → Type 0
HasGivenMore None after count = Unit {0}
HasGivenMore (Some before) None count = ⊥
HasGivenMore (Some before) (Some after) count = after ≡ before + count

-- a line's post served some sessions, so many at most, one for each connection that the line gave;
-- each is counted in the tally, and the seat and the desk go on over their requests
pub record HasServed (connections : ℕ) (given gives : Option ℕ) (old new : Tally)
    (before after : SeatState) (earlier later : DeskState) : Type 0 where
  pub sessions : List Served
  pub few : length sessions ≤ connections
  pub given_more : HasGivenMore given gives (length sessions)
  pub each : All (λ session. HasCounted session.end session.requests session.answers) sessions
  pub counted : HasCountedIn sessions old new
  pub grown : HasGrown connections old new
  pub seat : GoesOn (requests_of sessions) before after
  pub desk : DeskGoesOn (requests_of sessions) earlier later
