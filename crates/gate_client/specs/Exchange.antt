-- What passes over a line for a touch (PROTOCOL.md, "Writing a client"; this project's
-- choice).
use Rattle.std.specs.Prelude.{◌≡◌, ℕ, List, ◌++◌, codes, Option, Result, Ok, Err}
use Rattle.std.specs.Io.KnownBytes.{Appends, Consumes}
use Rattle.oyster_account.specs.declared.touch.Touch.{Touch}
use Rattle.oyster_account.specs.declared.reply.Reply.{Reply}
use Rattle.gate_session.specs.declared.answer.Answer.TheVariants as answers
use Rattle.gate_session.specs.Answers.{answer_frame}
use Rattle.text_io.specs.Writing.{IsCutShort}
use Rattle.gate_client.specs.Heard.{frame_of}
use Rattle.gate_client.specs.Texts.{printed_hear_fault}
use Rattle.gate_client.specs.declared.attempt.TryFault.{TryFault}
use Rattle.gate_client.specs.declared.attempt.TryFault.TheVariants.{Unreached, Cut, Unheard}

-- what a try wrote of a touch's frame: all of it, but where it was cut a beginning, and nothing
-- where there was no line
abbrev pub HasSent : Touch → List ℕ → Result Reply TryFault → Type 0
HasSent t text (Ok reply) = text ≡ frame_of t
HasSent t text (Err Cut) = IsCutShort text (frame_of t)
HasSent t text (Err (Unheard fault)) = text ≡ frame_of t
HasSent t text (Err Unreached) = ⊥

-- between two moments of a line the frame of this touch was written to it, and the reply to it was
-- read, and nothing else
pub record HasSettled (t : Touch) (reply : Reply) (unread left written after : Option (List ℕ))
    : Type 0 where
  pub sent : Appends written after (frame_of t)
  pub heard : Consumes unread left (answer_frame (answers.Reply t.gate t.number reply))

-- what a notice says of a try's fault (COMMANDS.md, "gate_send")
abbrev pub printed_try_fault : TryFault → List ℕ
printed_try_fault Unreached = codes "connect"
printed_try_fault Cut = codes "send"
printed_try_fault (Unheard fault) = codes "hear " ++ printed_hear_fault fault
