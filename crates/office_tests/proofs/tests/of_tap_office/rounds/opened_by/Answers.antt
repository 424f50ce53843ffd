use Rattle.std.proofs.Common.{sym, subst}
use Rattle.reply_book.specs.Tables.{Tables}
use Rattle.tap_office.specs.Opening.{IsOpeningOf}
use Rattle.office_tests.specs.declared.tests.of_tap_office.TheConstants.{CARDS}
use Rattle.office_tests.proofs.tests.of_tap_office.rounds.opened_by.Goals as goal

-- a disk in memory is honest
pub returns-in-Ok-read-clause-found : goal.returns-in-Ok-read-clause-found
returns-in-Ok-read-clause-found c = c.in-Ok-read.ensures.found tt

-- the opening is by the tables that it shows
pub returns-in-Ok-read-clause-opening : goal.returns-in-Ok-read-clause-opening
returns-in-Ok-read-clause-opening c =
    let is = c.in-Ok-read.ensures.ok in
    subst (λ (t : Tables). IsOpeningOf t CARDS 2 c.in-Ok-read.opening) (sym is.tables_is) is
