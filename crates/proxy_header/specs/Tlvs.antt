-- Which bytes are which TLVs: a type, a length in two bytes, and a value (HAProxy's
-- doc/proxy-protocol.txt, 2.2).
use Rattle.std.specs.Prelude.{◌≡◌, ℕ, ◌<◌, ◌^◌, ◌==◌, List, [], ◌∷◌, ◌++◌, length}
use Rattle.std.specs.Prelude.{All, flat_map, if◌then◌else◌}
use Rattle.std.specs.Int.{w16, to_be_bytes}

-- a TLV
pub record TypeLengthValue : Type 0 where
  pub kind : ℕ
  pub value : List ℕ

-- the bytes of a TLV: its type, the length of its value, its value
abbrev pub tlv_bytes : TypeLengthValue → List ℕ
tlv_bytes tlv = tlv.kind ∷ (to_be_bytes w16 (length tlv.value) ++ tlv.value)

-- the length of its value fits two bytes
abbrev pub TlvFits : TypeLengthValue → Type 0
TlvFits tlv = length tlv.value < 2 ^ 16

-- the bytes are these TLVs, one after the other, and then the rest
pub record IsRow (bytes : List ℕ) (tlvs : List TypeLengthValue) (rest : List ℕ) : Type 0 where
  pub parts : bytes ≡ flat_map tlv_bytes tlvs ++ rest
  pub fits : All TlvFits tlvs

-- the values of the TLVs of this type, in their order
abbrev pub values_of : ℕ → List TypeLengthValue → List (List ℕ)
values_of kind [] = []
values_of kind (tlv ∷ tlvs) =
    if tlv.kind == kind then tlv.value ∷ values_of kind tlvs else values_of kind tlvs
