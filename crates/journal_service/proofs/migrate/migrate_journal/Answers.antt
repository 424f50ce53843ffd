use Rattle.journal_service.proofs.migrate.migrate_journal.Goals as goal

-- the table is that of the word, and its digest is the one that the journal was carried over by
pub returns-in-Ok-clause-ok : goal.returns-in-Ok-clause-ok
returns-in-Ok-clause-ok g c =
    let carried = rw c.digest-digest.ensures at c.in_ok-touches.ensures.ok in
    (c.in_ok-first_table.field-0, c.in_ok-touches.touches, c.in_ok-first_table.ensures.ok, carried, c.in-Ok.ensures)
