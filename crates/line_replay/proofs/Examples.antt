-- Worked examples, computed by the definitions: lines of PROTOCOL.md, "Replay", whose answers no table of fares
-- decides, and the printed line of a bad line, as FAULTS.md has it.
use Rattle.std.proofs.Common.{◌≡◌, refl, pos, List, [], ◌∷◌, ◌++◌, Some, None, codes, ℕ, replicate}
use Rattle.std.specs.Fmt.{digits}
use Rattle.hex.proofs.OnLiterals.{hex_on_literals}
use Rattle.oyster_account.specs.declared.touch.Act.TheVariants.{Revise}
use Rattle.gate_session.specs.declared.request.Request.TheVariants as requests
use Rattle.reply_book.specs.Tables.{Tables}
use Rattle.reply_book.specs.Lookup.{found, is_same_touch}
use Rattle.reply_book.specs.View.{view_after}
use Rattle.line_replay.specs.declared.hex_line.TheConstants.{LINE_FEED, LINE_LIMIT}
use Rattle.text_io.specs.declared.fault.RunFault.{RunFault}
use Rattle.text_io.specs.Texts.{printed_run_fault}
use Rattle.line_replay.specs.declared.fault.LineReplayFault.TheVariants as fault
use Rattle.console.specs.Told.{told_trial}
use Rattle.line_replay.specs.Line.{lines_of}
use Rattle.line_replay.specs.HexLine.{request_of, request_of_line, answer_line}
use Rattle.line_replay.specs.Station.{answer, after}
use Rattle.line_replay.specs.Replay.{Output, output_of_lines, output_of}
use Rattle.line_replay.specs.Fault.{replay_fault}

-- a line of digits
abbrev line : List ℕ → List ℕ
line digits = digits ++ 10 ∷ []

abbrev written : List ℕ → Output
written text = record { text = text; bad = None }

-- what the definitions open to, on literals
unfoldable on_literals : Unit {0}
unfolding lines_of request_of request_of_line answer_line found is_same_touch view_after answer after output_of_lines
    hex_on_literals
on_literals = tt

empty_input : (tables : Tables) → output_of tables 10 [] ≡ written []
unfolding on_literals
empty_input tables = refl

-- a line that is no request, and one behind it
bad_line : (tables : Tables) → output_of tables 10 (line (codes "zz") ++ line (codes "00050500000001"))
    ≡ record { text = line (codes "0008ff01000000000000"); bad = Some 1 }
unfolding on_literals
bad_line tables = refl

-- upper-case digits, and a last line without a line feed
upper_case : (tables : Tables) → output_of tables 10 (codes "000505" ++ codes "0000000B") ≡ written
    (line (codes "000e8500000000000000000000000000"))
unfolding on_literals
upper_case tables = refl

-- an empty line between lines is no request
empty_line : (tables : Tables)
    → output_of tables 10 (line (codes "00050500000001") ++ line [] ++ line (codes "00050500000001"))
    ≡ record {
      text = line (codes "000e8500000000000000000000000000") ++ line (codes "0008ff01000000000000");
      bad = Some 2;
    }
unfolding on_literals
empty_line tables = refl

-- a line has at most 128 bytes before its line feed
line_limit : LINE_LIMIT ≡ 128
line_limit = refl

-- a line feed is the byte 10
line_feed : LINE_FEED ≡ 10
line_feed = refl

-- a revision takes 106 digits: here its digest is 32 bytes of 7, and its day 20095
revision_line : request_of_line (codes "0033060007" ++ codes "00000006" ++ codes "00000000" ++ codes "0707070707070707"
    ++ codes "0707070707070707" ++ codes "0707070707070707" ++ codes "0707070707070707"
    ++ codes "00004e7f" ++ codes "677b8d80")
    ≡ Some (requests.Touch (record {
      gate = 7;
      number = 6;
      card = 0;
      act = Revise (pos 20_095) 1_736_150_400 (replicate 32 7);
    }))
unfolding on_literals
revision_line = refl

-- a revision of the length of a top-up is no request
short_revision : request_of_line (codes "0013060007000000020000" ++ codes "0001000007d0677b8c54") ≡ None
unfolding on_literals
short_revision = refl

-- the command `replay` tells the number of a bad line
told_bad_line : told_trial (replay_fault (fault.BadLine 7)) ≡ Some (codes "fault run 4 BadLine 7")
unfolding digits
told_bad_line = refl

told_line_of_three_digits : told_trial (replay_fault (fault.BadLine 129)) ≡ Some (codes "fault run 4 BadLine 129")
unfolding digits
told_line_of_three_digits = refl

-- and a fault of the run as the run's
told_of_the_run : (run : RunFault) → told_trial (replay_fault (fault.Run run)) ≡ Some (printed_run_fault run)
told_of_the_run run = refl
