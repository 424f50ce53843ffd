-- What a reader gave before it failed, and why it did.
use Rattle.std.specs.Prelude.{ℕ, List, Option}
use Rattle.std.specs.Io.KnownBytes.{Consumes}
use Rattle.text_io.specs.declared.fault.RunFault.{RunFault}
use Rattle.text_io.specs.declared.fault.RunFault.TheVariants.{Memory, Read, Write}

-- a fault of reading: memory was refused, or a read failed
abbrev pub IsReadFault : RunFault → Type 0
IsReadFault Memory = Unit {0}
IsReadFault Read = Unit {0}
IsReadFault Write = ⊥

-- between two moments a reader gave some bytes, and then this fault of reading came
pub record HasLeftUnread (unread left : Option (List ℕ)) (fault : RunFault) : Type 0 where
  pub bytes : List ℕ
  pub consumed : Consumes unread left bytes
  pub cause : IsReadFault fault
