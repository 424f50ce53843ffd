-- What a header is (HAProxy's doc/proxy-protocol.txt, 2.2).
use Rattle.std.specs.Prelude.{◌≡◌, ℕ, ◌<◌, ◌≤◌, ◌⊎◌, List, ◌++◌, length}
use Rattle.std.specs.Prelude.{Option, Some, None, IfSome, option_map}
use Rattle.proxy_header.specs.declared.front.Front.{Front}
use Rattle.proxy_header.specs.declared.fault.HeaderFault.{HeaderFault}
use Rattle.proxy_header.specs.declared.fault.HeaderFault.TheVariants as faults
use Rattle.proxy_header.specs.declared.name.Name.{Name}
use Rattle.proxy_header.specs.declared.header.Header.{Header}
use Rattle.proxy_header.specs.Front.{front_bytes, HasAddresses, SaysFront, IsNoFront, size_of}
use Rattle.proxy_header.specs.Names.{Shows, IsName}

-- the text of a name
abbrev pub name_text : Name → List ℕ
name_text name = name.text.bytes

-- the name that a header gives, or none
abbrev pub name_of : Header → Option (List ℕ)
name_of header = option_map name_text header.name

-- a header with the command LOCAL: the first 16 bytes, and bytes that say nothing
pub record IsLocal (bytes : List ℕ) : Type 0 where
  pub family : ℕ
  pub rest : List ℕ
  pub parts : bytes ≡ front_bytes 0x20 family (length rest) ++ rest
  pub limit : length rest ≤ 520

-- the bytes are the first 16 with the command PROXY, addresses, and these bytes of TLVs
pub record IsPassed (bytes tlvs : List ℕ) : Type 0 where
  pub family : ℕ
  pub addresses : List ℕ
  pub parts : bytes ≡ front_bytes 0x21 family (length (addresses ++ tlvs)) ++ (addresses ++ tlvs)
  pub has : HasAddresses family (length addresses)
  pub limit : length (addresses ++ tlvs) ≤ 520

-- the bytes are a header, and it gives this name or none: LOCAL gives none, and PROXY the name that
-- its TLVs show
abbrev pub IsHeader : List ℕ → Option (List ℕ) → Type 0
IsHeader bytes name = (IsLocal bytes × (name ≡ None))
    ⊎ ((tlvs : List ℕ) × IsPassed bytes tlvs × Shows tlvs name × IfSome name IsName)

-- the bytes are fewer than a header's: not yet 16, or fewer than its first 16 say
abbrev pub IsBegun : List ℕ → Type 0
IsBegun bytes = (length bytes < 16)
    ⊎ ((first later : List ℕ) × (front : Front) × (bytes ≡ first ++ later) × SaysFront first front
    × (length later < size_of front))

-- why bytes are no header
abbrev pub IsNoHeader : List ℕ → HeaderFault → Type 0
IsNoHeader bytes faults.Read = IsBegun bytes
IsNoHeader bytes faults.Cut = IsBegun bytes
IsNoHeader bytes faults.Signature = (length bytes ≡ 16) × IsNoFront bytes faults.Signature
IsNoHeader bytes (faults.Version found) = IsNoFront bytes (faults.Version found)
IsNoHeader bytes (faults.Command found) = IsNoFront bytes (faults.Command found)
IsNoHeader bytes (faults.Family found) = IsNoFront bytes (faults.Family found)
IsNoHeader bytes (faults.Length found needed) = IsNoFront bytes (faults.Length found needed)
IsNoHeader bytes (faults.TooLong found) = IsNoFront bytes (faults.TooLong found)
-- what follows the addresses are no TLVs, or they show nothing
IsNoHeader bytes faults.Tlv = (tlvs : List ℕ) × IsPassed bytes tlvs
    × ((shown : Option (List ℕ)) → Shows tlvs shown → ⊥)
-- they show a name that isn't taken
IsNoHeader bytes faults.Name = (tlvs name : List ℕ) × IsPassed bytes tlvs × Shows tlvs (Some name)
    × (IsName name → ⊥)
