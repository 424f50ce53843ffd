use Rattle.std.proofs.Common.{◌≡◌, take}
use Rattle.std.specs.Io.KnownBytes.{Appends}
use Rattle.office_lines.specs.Report.{tally_lines}
use Rattle.office_lines.proofs.report.write_tallies.Given as goal

-- the lines of the tallies so far were written
abbrev pub invariant-loop-tally : goal.invariant-loop-tally
invariant-loop-tally g l = record {
  line : l.line ≡ l.tally-index;
  written : Appends (g.W.Write.contents l.initial.writer) (g.W.Write.contents l.writer)
      (tally_lines 1 (take l.tally-index l.tallies));
}
