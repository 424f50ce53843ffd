-- What a refusal of a touch means (OFFICE.md, "A commit"; this project's choice).
use Rattle.std.specs.Prelude.{◌≡◌, List, length, take, false}
use Rattle.oyster_account.specs.declared.touch.Touch.{Touch}
use Rattle.reply_book.specs.declared.entry.Entry.{Entry}
use Rattle.reply_book.specs.declared.entry.Found.TheVariants as finds
use Rattle.reply_book.specs.Legal.{history_of}
use Rattle.reply_book.specs.Lookup.{found}
use Rattle.tap_office.specs.declared.fault.SubmitFault.{SubmitFault}
use Rattle.tap_office.specs.declared.fault.SubmitFault.TheVariants.{Conflict, Halted, Memory, Full}
use Rattle.tap_office.specs.declared.fault.SubmitFault.TheVariants.{UnknownTable}
use Rattle.tap_office.specs.Name.{Opened}
use Rattle.tap_office.specs.Given.{IsLegalFor, is_known_to}

-- the fault has its cause after this history: a conflict is a touch whose gate and number another
-- one has there; any other fault but Halted is of a touch that is new there, an unknown table that
-- of a revision to a table that isn't there, and full that of a history as long as the capacity;
-- Halted says nothing of the history
abbrev pub IsCauseAfter : Opened → List Entry → Touch → SubmitFault → Type 0
IsCauseAfter opened history touch Conflict = found history touch ≡ finds.Conflict
IsCauseAfter opened history touch Halted = Unit {0}
IsCauseAfter opened history touch Memory = found history touch ≡ finds.New
IsCauseAfter opened history touch Full =
    (found history touch ≡ finds.New) × (length history ≡ opened.header.capacity)
IsCauseAfter opened history touch UnknownTable =
    (found history touch ≡ finds.New) × (is_known_to opened touch ≡ false)

-- the list that a touch was refused after: it is legal by the opening's tables and begins with the
-- recovered history, and the fault has its cause there
pub record IsRefusedAt (opened : Opened) (touch : Touch) (point : List Entry) (fault : SubmitFault)
    : Type 0 where
  pub legal : IsLegalFor opened (history_of point)
  pub begins : take (length opened.recovered) point ≡ opened.recovered
  pub cause : IsCauseAfter opened point touch fault
