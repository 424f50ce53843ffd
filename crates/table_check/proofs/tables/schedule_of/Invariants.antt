use Rattle.std.proofs.Common.{◌≡◌, [], map, take}
use Rattle.fare_schedule.specs.Schedule.{revisions_of}
use Rattle.reply_book.specs.Tables.{tables_in}
use Rattle.table_check.specs.Tables.{AreTablesIn}
use Rattle.table_check.proofs.tables.schedule_of.Given as goal

-- the schedule has the tables of the words so far behind the first one, and no revision
abbrev pub invariant-loop-path : goal.invariant-loop-path
invariant-loop-path g l = record {
  place : l.place ≡ l.path-index;
  first : (tables_in l.schedule).first ≡ l.fn.first;
  supplied : AreTablesIn (g.F.WholeFiles.gave l.files)
      (map (λ word. word.now) (take l.path-index l.revisions)) (tables_in l.schedule).supplied;
  unrevised : revisions_of l.schedule ≡ [];
}
