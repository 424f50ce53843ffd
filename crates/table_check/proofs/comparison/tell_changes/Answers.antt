use Rattle.std.proofs.Common.{string_bytes, ◌∙◌}
use Rattle.table_check.proofs.comparison.tell_changes.Goals as goal

-- both tables were read, and what is told of them was written
pub returns-clause-ok : goal.returns-clause-ok
returns-clause-ok g c = record {
  old_bytes = c.in_ok-before.before.items;
  old_given = c.in_ok-before.ensures.ok;
  first = c.in_ok-first.first;
  first_read = rw c.deref.ensures.value at c.in_ok-first.ensures.ok;
  new_bytes = c.in_ok-after.after.items;
  new_given = c.in_ok-after.ensures.ok;
  second = c.in_ok-second.second;
  second_read = rw c.deref-2.ensures.value at c.in_ok-second.ensures.ok;
  fault = c.in_ok-compared.compared.fault;
  judged = c.in_ok-compared.ensures.0;
  told = c.from.ensures ∙ c.revision_status.ensures;
  written = record {
    text = c.deref-5.result.now;
    appended = c.in_ok-write_lines.ensures.ok;
    says = (string_bytes c.in_ok-places.places, c.in_ok-places.ensures, c.deref-5.ensures ∙ c.in_ok-compared.ensures.1);
  };
}
