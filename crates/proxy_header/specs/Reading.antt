-- What reads give, and what is taken where they end early.
use Rattle.std.specs.Prelude.{◌≡◌, ℕ, List, ◌<◌, Option, Result, Ok, Err, length}
use Rattle.std.specs.Io.KnownBytes.{Consumes, IsAtEnd}
use Rattle.proxy_header.specs.declared.fault.HeaderFault.{HeaderFault}
use Rattle.proxy_header.specs.declared.fault.HeaderFault.TheVariants as faults

-- how many bytes a read gave: some, unless it failed or the reader ended
abbrev pub IsSizeRead : {E : Type 0} → Result ℕ E → Result ℕ HeaderFault → Type 0
IsSizeRead (Ok given) (Ok size) = (size ≡ given) × (0 < given)
IsSizeRead (Ok given) (Err fault) = (given ≡ 0) × (fault ≡ faults.Cut)
IsSizeRead (Err error) (Ok size) = ⊥
IsSizeRead (Err error) (Err fault) = fault ≡ faults.Read

-- a reader ends early by this fault: a read failed, or no byte is left
abbrev pub EndsBy : HeaderFault → Option (List ℕ) → Type 0
EndsBy faults.Read left = Unit {0}
EndsBy faults.Cut left = IsAtEnd left
EndsBy faults.Signature left = ⊥
EndsBy (faults.Version found) left = ⊥
EndsBy (faults.Command found) left = ⊥
EndsBy (faults.Family found) left = ⊥
EndsBy (faults.Length found needed) left = ⊥
EndsBy (faults.TooLong found) left = ⊥
EndsBy faults.Tlv left = ⊥
EndsBy faults.Name left = ⊥

-- fewer bytes than wanted were taken, and then the reader ended by this fault
pub record HasEndedEarly (unread left : Option (List ℕ)) (wanted : ℕ) (fault : HeaderFault)
    : Type 0 where
  pub bytes : List ℕ
  pub consumed : Consumes unread left bytes
  pub short : length bytes < wanted
  pub cause : EndsBy fault left
