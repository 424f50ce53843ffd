use Rattle.std.proofs.Common.{◌++◌, subst}
use Rattle.std.specs.Io.KnownBytes.{Appends}
use Rattle.std.proofs.KnownBytes.{Appends-trans}
use Rattle.office_lines.specs.Report.{opened_line, report_text}
use Rattle.office_lines.proofs.serving.serve_office.Goals as goal

-- the report stands behind the first line
pub returns : goal.returns
returns g c = record {
  tallies = c.deref.result.now;
  entries = c.in_ok-ended.ended.entries;
  appends =
      subst (λ opened. Appends (g.W.Write.contents c.args.output.now) (g.W.Write.contents c.write_report.new.writer)
      (opened_line opened
      ++ report_text c.deref.result.now c.in_ok-ended.ended.halted c.in_ok-ended.ended.entries)) c.opened.ensures
      (Appends-trans _ _ _ _ _ c.in_ok-write_opened.ensures c.in_ok-write_report.ensures);
}
