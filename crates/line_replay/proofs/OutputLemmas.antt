-- What is written for lines, and how much of it stands where a replay stops.
use Rattle.std.proofs.Common.{◌≡◌, ℕ, ◌+◌, ◌<◌, List, [], ◌∷◌, ◌++◌, length, refl, sym, ap, subst, ◌∙◌, arith}
use Rattle.std.proofs.Common.{append_assoc, Option, Some, None, Result, Ok, Err}
use Rattle.std.proofs.lemmas.List.{append-nil, length-append}
use Rattle.reply_book.specs.declared.entry.Entry.{Entry}
use Rattle.reply_book.specs.Tables.{Tables}
use Rattle.gate_session.specs.declared.request.Request.{Request}
use Rattle.line_replay.specs.declared.fault.LineReplayFault.{LineReplayFault}
use Rattle.line_replay.specs.declared.fault.LineReplayFault.TheVariants.{Run, BadLine}
use Rattle.text_io.specs.declared.fault.RunFault.TheVariants.{Memory, Read, Write}
use Rattle.line_replay.specs.Line.{lines_of, IsUnended}
use Rattle.line_replay.specs.HexLine.{request_of_line, answer_line}
use Rattle.line_replay.specs.Station.{answer, after}
use Rattle.std.specs.Prelude.{IfErr, OnOk, IsErrAnd}
use Rattle.line_replay.specs.Replay.{Output, behind, ended, refused, line_output, output_of_lines}
use Rattle.line_replay.specs.Progress.{HasRefused}
use Rattle.text_io.specs.Writing.{IsBeginning}
use Rattle.line_replay.specs.Run.{HasStopped, HasWritten}
use Rattle.line_replay.proofs.HexLineLemmas.{request_of_line-long}
use Rattle.line_replay.proofs.LineLemmas.{lines_of-ended, lines_of-begun}

-- ---- what is written for lines

-- a text before what stands behind a text
pub behind-behind : (a b : List ℕ) (later : Output) → behind a (behind b later) ≡ behind (a ++ b) later
behind-behind a b later = ap (λ (l : List ℕ). Output-of l later.bad) (sym (append_assoc a b later.text))
  where
    Output-of : List ℕ → Option ℕ → Output
    Output-of text bad = record { text = text; bad = bad }

-- a line that is a request: its answer stands behind the text, and the others come after it
pub output-request : (tables : Tables) (cards : ℕ) (entries : List Entry) (number : ℕ) (line later text : List ℕ)
    (request : Request) → IsUnended line
    → Some request ≡ request_of_line line
    → behind text (output_of_lines tables cards entries number (lines_of (line ++ 10 ∷ later)))
    ≡ behind (text ++ answer_line (answer tables cards entries request))
    (output_of_lines tables cards (after tables cards entries request) (number + 1) (lines_of later))
unfolding output_of_lines
output-request tables cards entries number line later text request unended is =
    let next : Request → Output = λ r. behind (answer_line (answer tables cards entries r))
    (output_of_lines tables cards (after tables cards entries r) (number + 1) (lines_of later)) in
    ap (λ (lines : List (List ℕ)). behind text (output_of_lines tables cards entries number lines))
    (lines_of-ended line later unended)
    ∙ ap (λ (q : Option Request). behind text (line_output number q next)) (sym is)
    ∙ behind-behind text (answer_line (answer tables cards entries request))
    (output_of_lines tables cards (after tables cards entries request) (number + 1) (lines_of later))

-- a first line that is no request ends it
output-none : (tables : Tables) (cards : ℕ) (entries : List Entry) (number : ℕ) (bytes line : List ℕ)
    (others : List (List ℕ)) → lines_of bytes ≡ line ∷ others
    → None ≡ request_of_line line → output_of_lines tables cards entries number (lines_of bytes) ≡ refused number
unfolding output_of_lines
output-none tables cards entries number bytes line others first is =
    let next : Request → Output = λ r. behind (answer_line (answer tables cards entries r))
    (output_of_lines tables cards (after tables cards entries r) (number + 1) others) in
    ap (λ (lines : List (List ℕ)). output_of_lines tables cards entries number lines) first
    ∙ ap (λ (q : Option Request). line_output number q next) (sym is)

-- a line that is ended and is no request
pub output-bad : (tables : Tables) (cards : ℕ) (entries : List Entry) (number : ℕ) (line later : List ℕ)
    → IsUnended line
    → None ≡ request_of_line line → output_of_lines tables cards entries number (lines_of (line ++ 10 ∷ later))
    ≡ refused number
output-bad tables cards entries number line later unended is =
    output-none tables cards entries number (line ++ 10 ∷ later) line (lines_of later)
    (lines_of-ended line later unended) is

-- so does one that is too long
pub output-long : (tables : Tables) (cards : ℕ) (entries : List Entry) (number : ℕ) (line later : List ℕ)
    → IsUnended line
    → 128 < length line → output_of_lines tables cards entries number (lines_of (line ++ later)) ≡ refused number
output-long tables cards entries number [] later unended long = absurd (omega arith)
output-long tables cards entries number (b ∷ line) later unended long =
    let begun = lines_of-begun b line later unended in
    let size : 128 < length ((b ∷ line) ++ begun.rest) = omega (arith, long, length-append (b ∷ line) begun.rest) in
    output-none tables cards entries number (b ∷ (line ++ later)) ((b ∷ line) ++ begun.rest) begun.others begun.is
    (sym (request_of_line-long ((b ∷ line) ++ begun.rest) size))

-- no line is answered by nothing
pub output-nothing : (tables : Tables) (cards : ℕ) (entries : List Entry) (number : ℕ)
    → output_of_lines tables cards entries number [] ≡ ended
unfolding output_of_lines
output-nothing tables cards entries number = refl

-- ---- how a replay stops

-- the refusal of a line whose output is that refusal
pub HasRefused-stopped : (text new : List ℕ) (number : ℕ) (output : Output) (fault : LineReplayFault)
    → output ≡ refused number
    → HasRefused text number new fault → HasStopped (behind text output) new fault
HasRefused-stopped text new number output (BadLine bad) is said =
    ap (behind text) is ∙ ap (λ (t : List ℕ). stopped t number) (sym said.0) ∙ ap (stopped new) (sym said.1)
  where
    stopped : List ℕ → ℕ → Output
    stopped t n = record { text = t; bad = Some n }
HasRefused-stopped text new number output (Run Memory) is said =
    (output.text, ap (λ (t : List ℕ). t ++ output.text) (sym said))
HasRefused-stopped text new number output (Run Read) is said = absurd said
HasRefused-stopped text new number output (Run Write) is said = absurd said

-- what waits begins what is written
pub behind-begins : (text new : List ℕ) (output : Output) → new ≡ text → IsBeginning new (behind text output).text
behind-begins text new output is = (output.text, ap (λ (t : List ℕ). t ++ output.text) (sym is))

-- a beginning of what was written all
pub IsBeginning-of : (written text : List ℕ) (whole : List ℕ) → IsBeginning written text → IsBeginning text whole
    → IsBeginning written whole
IsBeginning-of written text whole first second =
    (first.0 ++ second.0, second.1 ∙ ap (λ (l : List ℕ). l ++ second.0) first.1 ∙ append_assoc written first.0 second.0)

-- what was written at a fault begins the output
pub HasStopped-begins : (output : Output) (text : List ℕ) (fault : LineReplayFault) → HasStopped output text fault
    → IsBeginning text output.text
HasStopped-begins output text (BadLine number) stops = ([], ap (λ (o : Output). o.text) stops ∙ sym (append-nil text))
HasStopped-begins output text (Run fault) stops = stops

-- so does what was written at any end
pub HasWritten-begins : (output : Output) (text : List ℕ) (result : Result Unit LineReplayFault)
    → HasWritten output text result → IsBeginning text output.text
HasWritten-begins output text (Ok done) is = ([], ap (λ (o : Output). o.text) is ∙ sym (append-nil text))
HasWritten-begins output text (Err fault) stops = HasStopped-begins output text fault stops

-- ---- exits by `?`

-- without memory a beginning was written
pub stopped-memory : (result : Result Unit LineReplayFault) (output : List ℕ → Output) (text : List ℕ)
    → IsErrAnd result (λ fault. fault ≡ Run Memory)
    → ((later : List ℕ) → IsBeginning text (output later).text)
    → IfErr result (λ fault. (later : List ℕ) → HasStopped (output later) text fault)
stopped-memory (Ok x) output text is begins = tt
stopped-memory (Err fault) output text is begins = λ later. subst (HasStopped (output later) text) (sym is)
    (begins later)

-- a fault that is passed on
pub stopped-passed : (result : Result Unit LineReplayFault) (output : List ℕ → Output) (text : List ℕ)
    (fault : LineReplayFault)
    → IsErrAnd result (λ given. given ≡ fault)
    → ((later : List ℕ) → HasStopped (output later) text fault)
    → IfErr result (λ given. (later : List ℕ) → HasStopped (output later) text given)
stopped-passed (Ok x) output text fault is stops = tt
stopped-passed (Err given) output text fault is stops = λ later. subst (HasStopped (output later) text) (sym is)
    (stops later)

-- what follows of a claim at Ok
pub on_ok : {X E : Type 0} {P Q : Type 0} (result : Result X E) → (P → Q) → OnOk result P → OnOk result Q
on_ok (Ok x) f p = f p
on_ok (Err e) f p = tt

-- what follows of a claim at each fault
pub if_err : {X E : Type 0} {P Q : E → Type 0} (result : Result X E) → ((e : E) → P e → Q e) → IfErr result P
    → IfErr result Q
if_err (Ok x) f p = tt
if_err (Err e) f p = f e p

-- what holds in any case holds at Ok
pub on_ok-any : {X E : Type 0} {P : Type 0} (result : Result X E) → P → OnOk result P
on_ok-any (Ok x) p = p
on_ok-any (Err e) p = tt

-- a refusal that is returned
pub if_refused : {P Q : LineReplayFault → Type 0} (result : Result Unit LineReplayFault)
    → ((fault : LineReplayFault) → P fault → Q fault) → IsErrAnd result P → IfErr result Q
if_refused (Ok x) f p = tt
if_refused (Err fault) f p = f fault p
