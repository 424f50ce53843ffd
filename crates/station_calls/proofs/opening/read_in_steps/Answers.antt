use Rattle.reply_book.specs.Tables.{tables_in}
use Rattle.station_calls.proofs.OpeningLemmas.{reopened}
use Rattle.station_calls.proofs.opening.read_in_steps.Goals as goal

pub returns-clause-steps : goal.returns-clause-steps
returns-clause-steps g c =
    reopened g.D.Disk.honest (tables_in c.args.schedule) c.args.cards c.args.seats (g.D.Disk.content c.args.disk)
    c.read.result c.read.ensures.ok c.read.ensures.found
