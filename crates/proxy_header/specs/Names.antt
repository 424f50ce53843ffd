-- The name that a header's TLVs show: the common name of the client's certificate (HAProxy's
-- doc/proxy-protocol.txt, 2.2.6; that HAProxy sends a verification of 0 without a certificate, too,
-- is its version 2.6's).
use Rattle.std.specs.Prelude.{◌≡◌, ◌≢◌, ℕ, ◌<◌, ◌≤◌, ◌⊎◌, List, [], ◌∷◌, ◌++◌, length}
use Rattle.std.specs.Prelude.{Option, Some, None, IsUtf8, bit_and}
use Rattle.std.specs.List.{HoldsAt}
use Rattle.std.specs.Str.{chars}
use Rattle.station_limits.specs.declared.limits.TheConstants.{CERTIFICATE_NAME_LIMIT}
use Rattle.proxy_header.specs.Tlvs.{TypeLengthValue, IsRow, values_of}

-- the client presented a certificate, on this connection or on an earlier one of its TLS session,
-- and its verification returned 0
abbrev pub IsVerified : ℕ → List ℕ → Type 0
IsVerified client verify = ((bit_and client 0x02 ≢ 0) ⊎ (bit_and client 0x04 ≢ 0))
    × (verify ≡ 0 ∷ 0 ∷ 0 ∷ 0 ∷ [])

-- what common names show: none where there is none, the one where the certificate is verified, and
-- of two nothing is said
abbrev pub ShowsOne : ℕ → List ℕ → List (List ℕ) → Option (List ℕ) → Type 0
ShowsOne client verify [] shown = shown ≡ None
ShowsOne client verify (name ∷ []) shown = (IsVerified client verify × (shown ≡ Some name))
    ⊎ ((IsVerified client verify → ⊥) × (shown ≡ None))
ShowsOne client verify (name ∷ other ∷ names) shown = ⊥

-- the value of an SSL TLV is the client's bits, four bytes of verification and TLVs, and shows this
pub record IsSsl (value : List ℕ) (shown : Option (List ℕ)) : Type 0 where
  pub client : ℕ
  pub verify : List ℕ
  pub rest : List ℕ
  pub parts : value ≡ client ∷ (verify ++ rest)
  pub four : length verify ≡ 4
  pub tlvs : List TypeLengthValue
  pub row : IsRow rest tlvs []
  pub shows : ShowsOne client verify (values_of 0x22 tlvs) shown

-- what SSL TLVs show: none where there is none, and of two nothing is said
abbrev pub ShowsSsl : List (List ℕ) → Option (List ℕ) → Type 0
ShowsSsl [] shown = shown ≡ None
ShowsSsl (value ∷ []) shown = IsSsl value shown
ShowsSsl (value ∷ other ∷ values) shown = ⊥

-- the bytes are TLVs, one after the other, and show this name or none
pub record Shows (bytes : List ℕ) (shown : Option (List ℕ)) : Type 0 where
  pub tlvs : List TypeLengthValue
  pub row : IsRow bytes tlvs []
  pub shows : ShowsSsl (values_of 0x20 tlvs) shown

-- a control character (Unicode's general category Cc)
abbrev pub IsControl : ℕ → Type 0
IsControl code = (code < 0x20) ⊎ ((0x7f ≤ code) × (code < 0xa0))

-- some character of a text is a control character
abbrev pub HasControl : List ℕ → Type 0
HasControl text = (place : ℕ) × (place < length (chars text)) × HoldsAt IsControl (chars text) place

-- a name that is taken: 1 to 64 bytes of UTF-8 without a control character
pub record IsName (name : List ℕ) : Type 0 where
  pub some : 0 < length name
  pub limit : length name ≤ CERTIFICATE_NAME_LIMIT
  pub text : IsUtf8 name
  pub printable : HasControl name → ⊥
