use Rattle.std.proofs.Common.{◌≡◌, ◌+◌, refl, sym, ap, subst, arith}
use Rattle.std.specs.Io.KnownBytes.{Appends}
use Rattle.std.proofs.KnownBytes.{Appends-nil, Appends-trans}
use Rattle.std.proofs.lemmas.List.{take_all}
use Rattle.office_lines.specs.Report.{tally_lines}
use Rattle.office_lines.proofs.ReportLemmas.{tally_lines-more}
use Rattle.office_lines.proofs.report.write_tallies.Goals as goal

pub loop-tally-init : goal.loop-tally-init
loop-tally-init g c = record { line = refl; written = Appends-nil (g.W.Write.contents c.args.writer.now) }

-- the next line stands behind the others
pub loop-tally-preserved : goal.loop-tally-preserved
loop-tally-preserved g c =
    let line : c.loop-tally.line + 1 ≡ c.loop-tally.tally-index + 1 = omega (arith, c.loop-tally.invariant.line) in
    record {
      line = line;
      written = subst (Appends _ _) (sym (tally_lines-more c.args.tallies.now c.loop-tally.tally-index
          (c.loop-tally.line + 1) _ c.loop-tally-test.true line))
          (Appends-trans _ _ _ _ _ c.loop-tally.invariant.written c.in_ok-write_tally.ensures);
    }

pub returns : goal.returns
returns g c =
    subst (Appends (g.W.Write.contents c.args.writer.now) (g.W.Write.contents c.loop-tally.writer))
    (ap (tally_lines 1) (take_all c.loop-tally.tally-index c.args.tallies.now c.loop-tally-test.false))
    c.loop-tally.invariant.written
