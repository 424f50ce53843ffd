-- The cause of a refusal.
use Rattle.std.proofs.Common.{◌≡◌, List, length, false, refl}
use Rattle.oyster_account.specs.declared.touch.Touch.{Touch}
use Rattle.reply_book.specs.declared.entry.Entry.{Entry}
use Rattle.reply_book.specs.declared.entry.Found.TheVariants as finds
use Rattle.reply_book.specs.Lookup.{found}
use Rattle.tap_office.specs.declared.fault.SubmitFault.{SubmitFault}
use Rattle.tap_office.specs.declared.fault.SubmitFault.TheVariants.{Conflict, Halted, Memory, Full, UnknownTable}
use Rattle.tap_office.specs.Name.{Opened}
use Rattle.tap_office.specs.Given.{is_known_to}
use Rattle.tap_office.specs.Refusal.{IsCauseAfter}

-- where each fault comes only for its cause, a fault has its cause
pub caused : (opened : Opened) (history : List Entry) (touch : Touch) (fault : SubmitFault)
    → (fault ≡ Conflict → found history touch ≡ finds.Conflict)
    → (fault ≡ Memory → found history touch ≡ finds.New)
    → (fault ≡ Full → (found history touch ≡ finds.New) × (length history ≡ opened.header.capacity))
    → (fault ≡ UnknownTable → (found history touch ≡ finds.New) × (is_known_to opened touch ≡ false))
    → IsCauseAfter opened history touch fault
caused opened history touch Conflict conflict memory full unknown = conflict refl
caused opened history touch Halted conflict memory full unknown = tt
caused opened history touch Memory conflict memory full unknown = memory refl
caused opened history touch Full conflict memory full unknown = full refl
caused opened history touch UnknownTable conflict memory full unknown = unknown refl
