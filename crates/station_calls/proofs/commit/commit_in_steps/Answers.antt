use Rattle.station_calls.proofs.CommitLemmas.{commits, on_disk}
use Rattle.tap_journal.specs.Left.{HasFailed}
use Rattle.station_calls.proofs.commit.commit_in_steps.Goals as goal

pub returns-clause-steps : goal.returns-clause-steps
returns-clause-steps g c alone whole shown line =
    let old = c.args.keeper.now in
    let new = c.commit_ahead-result.new.self in
    let by = c.commit_ahead-result.ensures in
    commits alone g.D.Disk.honest g.D.Disk.content g.D.Disk.outcome g.N.Named.opened old new whole c.args.touch shown
    line c.the_lock_keeps.ensures.legal c.the_lock_keeps-2.ensures.left c.args.seat.now c.commit_ahead-result.new.seat
    (HasFailed (g.D.Disk.failed_calls old.disk) (g.D.Disk.failed_calls new.disk)) c.commit_ahead-result.result (record {
      repeat = by.repeat;
      first = by.first;
      receipt = by.receipt;
      kept = by.kept;
      in_flight = by.in_flight;
      idle = by.idle;
      refuses = by.refuses;
      conflict = by.conflict;
      unknown_table = by.unknown_table;
      full = by.full;
      memory = by.memory;
      halts = by.halts;
      stays = by.stays;
    })

pub returns-clause-crash : goal.returns-clause-crash
returns-clause-crash g c whole shown line going honest content out =
    on_disk g.N.Named.opened.header whole c.args.keeper.now.history c.args.touch content shown.history line
    ((c.commit_ahead-result.ensures.any_moment going honest).each content out)
