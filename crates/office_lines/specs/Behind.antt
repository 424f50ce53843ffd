-- What reaches a clerk behind a door (FAULTS.md, "What a door refuses"; this project's choice).
use Rattle.std.specs.Prelude.{ℕ, ◌≤◌, List, length}
use Rattle.gate_session.specs.declared.request.Request.{Request}
use Rattle.gate_session.specs.declared.answer.Answer.{Answer}
use Rattle.gate_session.specs.Clerk.{IsRun}

-- the clerk answered some of so many requests, one after the other, and came from the old state to
-- the new
pub record HasAnsweredSome {C : Type 0} (gives : C → Request → Answer → C → Type 0) (old new : C)
    (requests : ℕ) : Type 0 where
  pub through : List Request
  pub replies : List Answer
  pub run : IsRun gives old through replies new
  pub few : length through ≤ requests
