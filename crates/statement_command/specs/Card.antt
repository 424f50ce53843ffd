-- The statement of a card after a history (COMMANDS.md, "statement"). Histories are oldest first.
use Rattle.std.specs.Prelude.{◌≡◌, ℕ, List, reverse, Option, Some, None, not, ◌&&◌, Bool}
use Rattle.std.specs.Prelude.{if◌then◌else◌}
use Rattle.std.specs.List.{filter_map}
use Rattle.oyster_account.specs.declared.reply.Judged.{Judged}
use Rattle.oyster_account.specs.Touch.{is_of, moment_of}
use Rattle.oyster_account.specs.History.{accepted, is_accepted}
use Rattle.oyster_account.specs.Scheme.{Scheme}
use Rattle.card_statement.specs.Statement.{statement_of}
use Rattle.command_line.specs.declared.statement.StatementFormat.{StatementFormat}
use Rattle.command_line.specs.declared.statement.StatementFormat.TheVariants.{Text, Csv, Json}
use Rattle.statement_command.specs.declared.days.Days.{Days}
use Rattle.statement_command.specs.declared.line.Line.{Line}
use Rattle.statement_command.specs.declared.line.RefusedTouch.{RefusedTouch}
use Rattle.statement_command.specs.Lines.{lines_back}
use Rattle.statement_command.specs.Csv.{csv_text}

-- a touch is one of the card, and was refused
abbrev pub is_refusal : ℕ → Judged → Bool
is_refusal card judged = is_of card judged.touch && not (is_accepted judged.reply)

-- the refusal of a touch of the card, if it was refused
abbrev pub refusal_of : Scheme → ℕ → Judged → Option RefusedTouch
refusal_of scheme card judged =
    if is_refusal card judged then Some (record {
      act = judged.touch.act;
      stamp = scheme.stamp (moment_of judged.touch.act);
      verdict = judged.reply.verdict;
    })
    else None

-- those of a history, newest first
abbrev pub refusals_of : Scheme → ℕ → List Judged → List RefusedTouch
refusals_of scheme card history = reverse (filter_map (refusal_of scheme card) history)

-- the lines of the statement of a card after this history, in their order
abbrev pub lines_of : Scheme → ℕ → Days → List Judged → List Line
lines_of scheme card days history =
    reverse (lines_back card days (statement_of scheme (accepted card history))
    (refusals_of scheme card history))

-- a text is what these lines print. Of comma-separated values it says which; what lines print as
-- text or as a JSON object is left open
abbrev pub IsPrinted : StatementFormat → List Line → List ℕ → Type 0
IsPrinted Text lines text = Unit {0}
IsPrinted Csv lines text = text ≡ csv_text lines
IsPrinted Json lines text = Unit {0}
