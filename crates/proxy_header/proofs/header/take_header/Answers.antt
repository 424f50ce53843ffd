use Rattle.std.proofs.Common.{◌≡◌, ◌≤◌, ℕ, List, ◌++◌, Option, length, take, refl, arith, inr}
use Rattle.std.specs.Io.KnownBytes.{Consumes}
use Rattle.std.proofs.KnownBytes.{Consumes-trans}
use Rattle.std.proofs.lemmas.List.{length-take}
use Rattle.proxy_header.specs.declared.front.Front.{Front}
use Rattle.proxy_header.specs.declared.fault.HeaderFault.{HeaderFault}
use Rattle.proxy_header.specs.declared.fault.HeaderFault.TheVariants as faults
use Rattle.proxy_header.specs.Reading.{EndsBy, HasEndedEarly}
use Rattle.proxy_header.specs.Front.{SaysFront, size_of}
use Rattle.proxy_header.specs.Header.{IsNoHeader, IsBegun}
use Rattle.proxy_header.proofs.ListLemmas.{passes_on}
use Rattle.proxy_header.proofs.header.take_header.Goals as goal

-- a piece of a block
at_most : (size : ℕ) (block : List ℕ) (limit : ℕ) → size ≡ limit → length (take size block) ≤ limit
at_most size block limit is = omega (arith, is, length-take size block)

-- the reader ended after the first 16 bytes, before those that follow were whole
ended : (unread middle left : Option (List ℕ)) (first : List ℕ) (front : Front) (wanted : ℕ) (fault : HeaderFault)
    → Consumes unread middle first → SaysFront first front → wanted ≤ size_of front
    → HasEndedEarly middle left wanted fault
    → (bytes : List ℕ) × Consumes unread left bytes × IsNoHeader bytes fault
ended unread middle left first front wanted fault taken says size early = (
  first ++ early.bytes,
  Consumes-trans unread middle left first early.bytes taken early.consumed,
  why fault first early.bytes left (inr (
    first,
    early.bytes,
    front,
    refl,
    says,
    omega (arith, size, early.short),
  )) early.cause,
)
  where
    why : (f : HeaderFault) (first later : List ℕ) (left : Option (List ℕ)) → IsBegun (first ++ later) → EndsBy f left
        → IsNoHeader (first ++ later) f
    why faults.Read first later left begun ends = begun
    why faults.Cut first later left begun ends = begun
    why faults.Signature first later left begun ends = absurd ends
    why (faults.Version found) first later left begun ends = absurd ends
    why (faults.Command found) first later left begun ends = absurd ends
    why (faults.Family found) first later left begun ends = absurd ends
    why (faults.Length found needed) first later left begun ends = absurd ends
    why (faults.TooLong found) first later left begun ends = absurd ends
    why faults.Tlv first later left begun ends = absurd ends
    why faults.Name first later left begun ends = absurd ends

pub returns-in_err-fill-2-clause-err : goal.returns-in_err-fill-2-clause-err
returns-in_err-fill-2-clause-err g c =
    passes_on c.from_residual-in_err-fill-2.result c.in_err-fill-2.field-0.0 _ c.from_residual-in_err-fill-2.ensures.1
    (ended _ _ _ c.fill.new.piece c.in_ok-front.front _ c.in_err-fill-2.field-0.0 c.in_ok-fill.ensures.ok
    c.in_ok-front.ensures (at_most c.size.result _ _ c.size.ensures) c.in_err-fill-2.ensures.err)

pub returns-in_err-name-clause-err : goal.returns-in_err-name-clause-err
returns-in_err-name-clause-err g c =
    passes_on c.from_residual-in_err-name.result c.in_err-name.field-0.0 _ c.from_residual-in_err-name.ensures.1 (
      c.fill.new.piece ++ c.fill-2.new.piece,
      Consumes-trans _ _ _ c.fill.new.piece c.fill-2.new.piece c.in_ok-fill.ensures.ok c.in_ok-fill-2.ensures.ok,
      c.in_err-name.ensures.err c.fill.new.piece c.in_ok-front.ensures,
    )

pub returns-clause-ok : goal.returns-clause-ok
returns-clause-ok g c = (
  c.fill.new.piece ++ c.fill-2.new.piece,
  Consumes-trans _ _ _ c.fill.new.piece c.fill-2.new.piece c.in_ok-fill.ensures.ok c.in_ok-fill-2.ensures.ok,
  c.in_ok-name.ensures.ok c.fill.new.piece c.in_ok-front.ensures,
)
