use Rattle.journal_service.proofs.migrate.carry_over.Goals as goal

-- the disks are those of the words, and the new journal stands for the touches of the old one
pub returns-in-Ok : goal.returns-in-Ok
returns-in-Ok g c =
    let stands = c.in-Ok.ensures.ok in
    record {
      ok = record {
        source = c.in_ok-source.source;
        target = c.in_ok-target.target;
        read = c.in_ok-source.ensures.ok;
        made = c.in_ok-target.ensures.ok;
        source_after = c.in-Ok.field-0-0;
        target_after = c.in-Ok.field-0-1.disk;
        capacity = c.in-Ok.field-0-1.capacity;
        touches = stands.touches;
        count = stands.count;
        empty = c.in-Ok.ensures.empty;
        old = stands.old;
        new = stands.stands.left;
      };
    }
