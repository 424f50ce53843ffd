use Rattle.std.proofs.Common.{sym, subst}
use Rattle.reply_book.specs.Tables.{Tables}
use Rattle.tap_disk.specs.declared.memory.MemoryDisk.{MemoryDisk}
use Rattle.tap_disk.specs.Memory.{content_of, outcome_of}
use Rattle.station_calls.specs.Openings.{AreOfFiles}
use Rattle.station_calls.proofs.ReachedLemmas.{known-shown}
use Rattle.station_calls.proofs.crashes.reopen_in_steps.Goals as goal

-- what the crash leaves is a journal of what it may leave of the station
pub returns-in-Ok-read_in_steps-clause-steps : goal.returns-in-Ok-read_in_steps-clause-steps
returns-in-Ok-read_in_steps-clause-steps g c alone whole shown files =
    let opened = g.N.Named.opened in
    let content = content_of c.in-Ok.left in
    let out = subst (λ (disk : MemoryDisk). outcome_of disk content) c.disk_of-disk.ensures c.in-Ok.ensures.outcome in
    let by = c.in-Ok-read_in_steps.ensures in
    by.steps tt opened.header alone whole shown.capacity (shown.left tt content out)
    (known-shown _ _ opened c.args.keeper whole c.the_lock_keeps.ensures.legal shown)
    (subst (λ (t : Tables). AreOfFiles whole.station.tables t) (sym by.opening.tables_is) files)
