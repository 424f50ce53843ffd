-- How a line's tally grows by its sessions (COMMANDS.md, "The report"; this project's choice).
use Rattle.std.specs.Prelude.{◌≡◌, ◌==◌, ℕ, ◌+◌, ◌≤◌, Bool, List, length, sum_by, count_by}
use Rattle.std.specs.Prelude.{slice_index}
use Rattle.std.specs.List.{All}
use Rattle.gate_session.specs.declared.session.End.{End}
use Rattle.gate_session.specs.declared.session.End.TheVariants.{Closed, CutFrame, BadFrame}
use Rattle.gate_session.specs.declared.session.End.TheVariants.{ReadFault, WriteFault, Turns}
use Rattle.gate_session.specs.declared.session.End.TheVariants.{Memory}
use Rattle.gate_session.specs.declared.session.Served.{Served}
use Rattle.office_lines.specs.declared.tally.Tally.{Tally}

-- the ends are counted in this order
abbrev pub place_of : End → ℕ
place_of Closed = 0
place_of CutFrame = 1
place_of BadFrame = 2
place_of ReadFault = 3
place_of WriteFault = 4
place_of Turns = 5
place_of Memory = 6

-- how many sessions ended so
abbrev pub ended : Tally → End → ℕ
ended tally end = slice_index tally.ends (place_of end)

-- how many sessions ended, however they did
abbrev pub all_ended : Tally → ℕ
all_ended tally = sum_by (λ count. count) tally.ends

-- nothing was counted yet
pub record IsEmpty (tally : Tally) : Type 0 where
  pub connections : tally.connections ≡ 0
  pub requests : tally.requests ≡ 0
  pub answers : tally.answers ≡ 0
  pub ends : All (λ count. count ≡ 0) tally.ends

-- every count is at most this
pub record IsBelow (most : ℕ) (tally : Tally) : Type 0 where
  pub connections : tally.connections ≤ most
  pub requests : tally.requests ≤ most
  pub answers : tally.answers ≤ most
  pub ends : All (λ count. count ≤ most) tally.ends

-- by so many connections at most: there are as many more ends as connections, and as many more
-- answers as requests and bad frames together, less at most one for each failed write
pub record HasGrown (connections : ℕ) (old new : Tally) : Type 0 where
  pub few : new.connections ≤ old.connections + connections
  pub rises : old.connections ≤ new.connections
  pub ends : new.connections + all_ended old ≡ old.connections + all_ended new
  pub each : (end : End) → ended old end ≤ ended new end
  pub most : new.answers + (old.requests + ended old BadFrame)
      ≤ old.answers + (new.requests + ended new BadFrame)
  pub least : old.answers + (new.requests + ended new BadFrame) + ended old WriteFault
      ≤ new.answers + (old.requests + ended old BadFrame) + ended new WriteFault

-- a session ended so
abbrev pub has_ended : End → Served → Bool
has_ended end session = place_of end == place_of session.end

-- how many requests were handed over in these sessions
abbrev pub requests_of : List Served → ℕ
requests_of sessions = sum_by (λ session. session.requests) sessions

-- these sessions were counted: there are as many connections more, and as many more requests,
-- answers and ends of each kind as they had together
pub record HasCountedIn (sessions : List Served) (old new : Tally) : Type 0 where
  pub connections : new.connections ≡ old.connections + length sessions
  pub requests : new.requests ≡ old.requests + requests_of sessions
  pub answers : new.answers ≡ old.answers + sum_by (λ session. session.answers) sessions
  pub ends : (end : End) → ended new end ≡ ended old end + count_by (has_ended end) sessions
