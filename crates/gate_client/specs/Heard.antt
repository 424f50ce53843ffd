-- What a client sends of its touch, and what it hears (PROTOCOL.md, "Frames"; this project's
-- choice).
use Rattle.std.specs.Prelude.{◌≡◌, ℕ, List, Result, Ok, Err}
use Rattle.oyster_account.specs.declared.touch.Touch.{Touch}
use Rattle.gate_session.specs.declared.request.Request.TheVariants as requests
use Rattle.gate_session.specs.declared.answer.Answer.{Answer}
use Rattle.gate_session.specs.declared.answer.Answer.TheVariants as answers
use Rattle.gate_session.specs.Frames.{request_frame}
use Rattle.text_io.specs.Writing.{IsCutShort}
use Rattle.gate_client.specs.declared.fault.LineFault.{LineFault}

-- the one frame of a touch
abbrev pub frame_of : Touch → List ℕ
frame_of t = request_frame (requests.Touch t)

-- what a sending wrote of a touch's frame: all of it, or a beginning of which some is missing
abbrev pub IsSent : Touch → List ℕ → Result Unit LineFault → Type 0
IsSent t text (Ok sent) = text ≡ frame_of t
IsSent t text (Err fault) = IsCutShort text (frame_of t)

-- the answer is under this gate and number
abbrev pub IsUnder : ℕ → ℕ → Answer → Type 0
IsUnder gate number (answers.Reply g n reply) = (g ≡ gate) × (n ≡ number)
IsUnder gate number (answers.Fault code g n) = (g ≡ gate) × (n ≡ number)
IsUnder gate number (answers.Holding view front) = ⊥
