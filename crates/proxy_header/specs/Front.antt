-- What a header's first 16 bytes say (HAProxy's doc/proxy-protocol.txt, 2.2; the limit of 520 bytes
-- is this project's choice).
use Rattle.std.specs.Prelude.{◌≡◌, ◌≢◌, ℕ, ◌/◌, ◌%◌, ◌<◌, ◌≤◌, ◌⊎◌, List, [], ◌∷◌, ◌++◌, take}
use Rattle.std.specs.Prelude.{Result, Ok, Err}
use Rattle.std.specs.Int.{w16, to_be_bytes}
use Rattle.proxy_header.specs.declared.front.Front.{Front}
use Rattle.proxy_header.specs.declared.front.Front.TheVariants.{Local, Passed}
use Rattle.proxy_header.specs.declared.fault.HeaderFault.{HeaderFault}
use Rattle.proxy_header.specs.declared.fault.HeaderFault.TheVariants as faults

-- what a header of version 2 begins with
abbrev pub signature : List ℕ
signature = 0x0d ∷ 0x0a ∷ 0x0d ∷ 0x0a ∷ 0x00 ∷ 0x0d ∷ 0x0a ∷ 0x51 ∷ 0x55 ∷ 0x49 ∷ 0x54 ∷ 0x0a ∷ []

-- the first 16 bytes: the signature, version and command, family and transport, and a size
abbrev pub front_bytes : ℕ → ℕ → ℕ → List ℕ
front_bytes start family size = signature ++ (start ∷ family ∷ to_be_bytes w16 size)

-- the addresses of this family and transport have so many bytes: unspecified ones, TCP over IPv4,
-- TCP over IPv6, and streams of Unix sockets
abbrev pub HasAddresses : ℕ → ℕ → Type 0
HasAddresses family size = ((family ≡ 0x00) × (size ≡ 0)) ⊎ ((family ≡ 0x11) × (size ≡ 12))
    ⊎ ((family ≡ 0x21) × (size ≡ 36)) ⊎ ((family ≡ 0x31) × (size ≡ 216))

-- how many bytes follow
abbrev pub size_of : Front → ℕ
size_of (Local size) = size
size_of (Passed addresses size) = size

-- the addresses are among the bytes that follow
abbrev pub AddressesFit : Front → Type 0
AddressesFit (Local size) = Unit {0}
AddressesFit (Passed addresses size) = addresses ≤ size

-- the bytes are the first 16 of a header, and say this of those that follow: version 2 (0x20) with
-- the command LOCAL (0x00), or PROXY (0x01)
abbrev pub SaysFront : List ℕ → Front → Type 0
SaysFront bytes (Local size) = (family : ℕ) × (bytes ≡ front_bytes 0x20 family size) × (size ≤ 520)
SaysFront bytes (Passed addresses size) = (family : ℕ) × (bytes ≡ front_bytes 0x21 family size)
    × HasAddresses family addresses × (addresses ≤ size) × (size ≤ 520)

-- why 16 bytes are not the first of a header
abbrev pub IsNoFront : List ℕ → HeaderFault → Type 0
IsNoFront bytes faults.Read = ⊥
IsNoFront bytes faults.Cut = ⊥
-- they don't begin with the signature
IsNoFront bytes faults.Signature = take 12 bytes ≢ signature
-- the version, the upper half of its byte, is another one
IsNoFront bytes (faults.Version found) = (start family size : ℕ)
    × (bytes ≡ front_bytes start family size) × (found ≡ start / 16) × (found ≢ 2)
-- the command, the lower half of that byte, is neither LOCAL nor PROXY
IsNoFront bytes (faults.Command found) = (start family size : ℕ)
    × (bytes ≡ front_bytes start family size) × (start / 16 ≡ 2) × (found ≡ start % 16)
    × (1 < found)
-- PROXY with a family or transport that is none of the four
IsNoFront bytes (faults.Family found) = (size : ℕ) × (bytes ≡ front_bytes 0x21 found size)
    × ((addresses : ℕ) → HasAddresses found addresses → ⊥)
-- PROXY with fewer bytes than the addresses need
IsNoFront bytes (faults.Length found needed) = (family : ℕ)
    × (bytes ≡ front_bytes 0x21 family found) × HasAddresses family needed × (found < needed)
-- too many bytes follow
IsNoFront bytes (faults.TooLong found) = (start family : ℕ)
    × (bytes ≡ front_bytes start family found) × (found < 65536) × (520 < found)
IsNoFront bytes faults.Tlv = ⊥
IsNoFront bytes faults.Name = ⊥

-- what 16 bytes say of those that follow, or why they are not the first of a header
abbrev pub IsFront : List ℕ → Result Front HeaderFault → Type 0
IsFront bytes (Ok front) = SaysFront bytes front
IsFront bytes (Err fault) = IsNoFront bytes fault
