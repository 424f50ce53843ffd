-- The lines of a report, one more behind the others.
use Rattle.std.proofs.Common.{◌≡◌, ℕ, ◌+◌, ◌<◌, List, [], ◌∷◌, ◌++◌, length, take, get_or, sym, ap, ◌∙◌, append_assoc}
use Rattle.std.proofs.Common.{append-nil, arith}
use Rattle.std.proofs.lemmas.List.{take_more, length-take}
use Rattle.office_lines.specs.declared.tally.Tally.{Tally}
use Rattle.office_lines.specs.Report.{tally_line, tally_lines}

tally_lines-push : (line : ℕ) (tallies : List Tally) (tally : Tally)
    → tally_lines line (tallies ++ tally ∷ []) ≡ tally_lines line tallies ++ tally_line (line + length tallies) tally
tally_lines-push line [] tally =
    let here : line ≡ line + 0 = omega arith in
    append-nil (tally_line line tally) ∙ ap (λ (n : ℕ). tally_line n tally) here
tally_lines-push line (first ∷ tallies) tally =
    let there : line + 1 + length tallies ≡ line + length (first ∷ tallies) = omega arith in
    ap (λ (l : List ℕ). tally_line line first ++ l) (tally_lines-push (line + 1) tallies tally)
    ∙ sym (append_assoc (tally_line line first) (tally_lines (line + 1) tallies)
    (tally_line (line + 1 + length tallies) tally))
    ∙ ap (λ (n : ℕ). (tally_line line first ++ tally_lines (line + 1) tallies) ++ tally_line n tally) there

-- the next tally's line stands behind those before it
pub tally_lines-more : (tallies : List Tally) (place line : ℕ) (tally : Tally) → place < length tallies
    → line ≡ place + 1
    → tally_lines 1 (take (place + 1) tallies)
    ≡ tally_lines 1 (take place tallies) ++ tally_line line (get_or tallies place tally)
tally_lines-more tallies place line tally within is =
    let size : 1 + length (take place tallies) ≡ line = omega (arith, within, is, length-take place tallies) in
    ap (tally_lines 1) (take_more tallies place tally within)
    ∙ tally_lines-push 1 (take place tallies) (get_or tallies place tally)
    ∙ ap (λ (n : ℕ). tally_lines 1 (take place tallies) ++ tally_line n (get_or tallies place tally)) size
