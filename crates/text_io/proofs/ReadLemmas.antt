-- What a reader gave, piece by piece.
use Rattle.std.proofs.Common.{◌≡◌, ℕ, List, [], ◌++◌, take, sym, ap, subst, ◌∙◌, append-nil, Option, Result, Ok, Err}
use Rattle.std.specs.Prelude.{IfErr, IsErrAnd}
use Rattle.std.specs.Io.KnownBytes.{Consumes}
use Rattle.std.proofs.KnownBytes.{Consumes-nil, Consumes-trans}
use Rattle.text_io.specs.declared.fault.RunFault.{RunFault}
use Rattle.text_io.specs.Reading.{IsReadFault, HasLeftUnread}

-- a fault of reading that a `?` passes on
pub left-unread : {X : Type 0} (unread left : Option (List ℕ)) (bytes : List ℕ) (result : Result X RunFault)
    (fault : RunFault)
    → IsErrAnd result (λ given. given ≡ fault) → Consumes unread left bytes → IsReadFault fault
    → IfErr result (HasLeftUnread unread left)
left-unread unread left bytes (Ok done) fault is consumed cause = tt
left-unread unread left bytes (Err given) fault is consumed cause = record {
  bytes = bytes;
  consumed = consumed;
  cause = subst IsReadFault (sym is) cause;
}

-- nothing was read yet
pub Consumes-none : (unread : Option (List ℕ)) (bytes : List ℕ) → bytes ≡ [] → Consumes unread unread bytes
Consumes-none unread bytes none = subst (Consumes unread unread) (sym none) (Consumes-nil unread)

-- a read of no bytes adds none
pub Consumes-end : (unread left after : Option (List ℕ)) (bytes piece : List ℕ) (size : ℕ) → Consumes unread left bytes
    → Consumes left after (take size piece) → size ≡ 0 → Consumes unread after bytes
Consumes-end unread left after bytes piece size taken read none =
    subst (Consumes unread after) (ap (λ (n : ℕ). bytes ++ take n piece) none ∙ append-nil bytes)
    (Consumes-trans unread left after bytes (take size piece) taken read)
