-- No header begins another, and each has one meaning; a header that is brought whole is read.
use Rattle.std.proofs.Common.{◌≡◌, ℕ, ◌+◌, ◌-◌, ◌/◌, ◌%◌, ◌≤◌, ◌<◌, ◌⊎◌, List, [], ◌++◌, length, take, drop, take_all}
use Rattle.std.proofs.Common.{refl, sym, ap, subst, ◌∙◌, arith, inl, inr, take-append-drop, length-take-le}
use Rattle.std.proofs.Common.{Option, Some, None, Result, Ok, Err}
use Rattle.std.specs.Prelude.{IfOk, IfErr, IfSome, IsOkAnd}
use Rattle.std.specs.Io.KnownBytes.{Consumes, IsAtEnd}
use Rattle.std.proofs.lemmas.List.{append-nil, length-append, length-drop, take-append-le}
use Rattle.proxy_header.specs.declared.front.Front.{Front}
use Rattle.proxy_header.specs.declared.front.Front.TheVariants.{Local, Passed}
use Rattle.proxy_header.specs.declared.fault.HeaderFault.{HeaderFault}
use Rattle.proxy_header.specs.declared.fault.HeaderFault.TheVariants as faults
use Rattle.proxy_header.specs.declared.header.Header.{Header}
use Rattle.proxy_header.specs.Front.{front_bytes, HasAddresses, SaysFront, IsNoFront, size_of}
use Rattle.proxy_header.specs.Names.{Shows, IsName}
use Rattle.proxy_header.specs.Header.{name_of, IsLocal, IsPassed, IsHeader, IsBegun, IsNoHeader}
use Rattle.proxy_header.proofs.ListLemmas.{same_parts}
use Rattle.proxy_header.proofs.NameLemmas.{one_shown}
use Rattle.proxy_header.proofs.FrontLemmas.{one_start, one_family, one_size, one_rest, one_count, few_addresses}

-- ---- what is read of a header that is passed on

-- what follows the addresses, as it is read
abbrev pub tail_of : ℕ → List ℕ → List ℕ
tail_of addresses rest = take (length rest - addresses) (drop addresses rest)

addresses_and_tail : (addresses : ℕ) (rest : List ℕ) → addresses ≤ length rest
    → take addresses rest ++ tail_of addresses rest ≡ rest
addresses_and_tail addresses rest within =
    let all : length (drop addresses rest) ≤ length rest - addresses = omega (arith, length-drop {A = ℕ}) in
    ap (λ (l : List ℕ). take addresses rest ++ l) (take_all (length rest - addresses) (drop addresses rest) all)
    ∙ take-append-drop addresses rest

pub passed : (first rest : List ℕ) (addresses size : ℕ) → length rest ≡ size → SaysFront first (Passed addresses size)
    → IsPassed (first ++ rest) (tail_of addresses rest)
passed first rest addresses size len says =
    let within : addresses ≤ length rest = omega (arith, len, says.3) in
    let joined = addresses_and_tail addresses rest within in
    let whole : first ++ rest ≡ front_bytes 0x21 says.0 (length rest) ++ rest =
    ap (λ (l : List ℕ). l ++ rest) (says.1 ∙ ap (front_bytes 0x21 says.0) (sym len)) in
    record {
      family = says.0;
      addresses = take addresses rest;
      parts = whole ∙ ap (λ (l : List ℕ). front_bytes 0x21 says.0 (length l) ++ l) (sym joined);
      has = subst (HasAddresses says.0) (sym (length-take-le addresses rest within)) says.2;
      limit = subst (λ (l : List ℕ). length l ≤ 520) (sym joined) (omega (arith, len, says.4));
    }

-- ---- the parts of a header

-- the first 16 bytes with this version and command, and as many bytes as they say
record IsFramed (bytes : List ℕ) (start family : ℕ) (rest : List ℕ) : Type 0 where
  parts : bytes ≡ front_bytes start family (length rest) ++ rest
  limit : length rest ≤ 520

of_local : (bytes : List ℕ) → (p : IsLocal bytes) → IsFramed bytes 0x20 p.family p.rest
of_local bytes p = record { parts = p.parts; limit = p.limit }

of_passed : (bytes tlvs : List ℕ) → (p : IsPassed bytes tlvs) → IsFramed bytes 0x21 p.family (p.addresses ++ tlvs)
of_passed bytes tlvs p = record { parts = p.parts; limit = p.limit }

-- a header's parts, whichever command it has
of_header : (bytes : List ℕ) (name : Option (List ℕ)) → IsHeader bytes name
    → (start family : ℕ) × (rest : List ℕ) × IsFramed bytes start family rest × ((start ≡ 0x20) ⊎ (start ≡ 0x21))
of_header bytes name h = elim h [
  | inl p ↦ (0x20, p.0.family, p.0.rest, of_local bytes p.0, inl refl)
  | inr p ↦ (0x21, p.1.family, p.1.addresses ++ p.0, of_passed bytes p.0 p.1, inr refl)
]

-- bytes that go on alike have the same parts
one_frame : (a b x y : List ℕ) (start family other by : ℕ) (r q : List ℕ) → IsFramed a start family r
    → IsFramed b other by q → a ++ x ≡ b ++ y → (start ≡ other) × (family ≡ by) × (r ≡ q) × (x ≡ y)
one_frame a b x y start family other by r q p o e =
    let whole : front_bytes start family (length r) ++ (r ++ x) ≡ front_bytes other by (length q) ++ (q ++ y) =
    ap (λ (l : List ℕ). l ++ x) (sym p.parts) ∙ e ∙ ap (λ (l : List ℕ). l ++ y) o.parts in
    let len : length r ≡ length q = one_size start family (length r) other by (length q) (r ++ x) (q ++ y)
    (omega (arith, p.limit)) (omega (arith, o.limit)) whole in
    let after = one_rest start family (length r) other by (length q) (r ++ x) (q ++ y) whole in
    let rests = same_parts r q x y len after in (
      one_start start family (length r) other by (length q) (r ++ x) (q ++ y) whole,
      one_family start family (length r) other by (length q) (r ++ x) (q ++ y) whole,
      rests.0,
      rests.1,
    )

-- and the same TLVs
one_passed : (a b x y s t : List ℕ) → IsPassed a s → IsPassed b t → a ++ x ≡ b ++ y → s ≡ t
one_passed a b x y s t p q e =
    let frame = one_frame a b x y 0x21 p.family 0x21 q.family (p.addresses ++ s) (q.addresses ++ t) (of_passed a s p)
    (of_passed b t q) e in
    let counts : length p.addresses ≡ length q.addresses = one_count q.family (length p.addresses) (length q.addresses)
    (subst (λ (n : ℕ). HasAddresses n (length p.addresses)) frame.1 p.has) q.has in
    (same_parts p.addresses q.addresses s t counts frame.2).1

local_not_passed : (a b x y t : List ℕ) → IsLocal a → IsPassed b t → a ++ x ≡ b ++ y → ⊥
local_not_passed a b x y t p q e =
    let frame = one_frame a b x y 0x20 p.family 0x21 q.family p.rest (q.addresses ++ t) (of_local a p)
    (of_passed b t q) e in
    omega (arith, frame.0)

-- headers that go on alike give the same name
one_name : (a b x y : List ℕ) (m n : Option (List ℕ)) → IsHeader a m → IsHeader b n → a ++ x ≡ b ++ y → m ≡ n
one_name a b x y m n p q e = elim p [
  | inl l ↦ elim q [
    | inl k ↦ l.1 ∙ sym k.1
    | inr k ↦ absurd (local_not_passed a b x y k.0 l.0 k.1 e)
  ]
  | inr l ↦ elim q [
    | inl k ↦ absurd (local_not_passed b a y x l.0 k.0 l.1 (sym e))
    | inr k ↦ one_shown k.0 m n
        (subst (λ (t : List ℕ). Shows t m) (one_passed a b x y l.0 k.0 l.1 k.1 e) l.2) k.2
  ]
]

-- no header begins another, and each gives one name
pub one_header : (a b x y : List ℕ) (m n : Option (List ℕ)) → IsHeader a m → IsHeader b n → a ++ x ≡ b ++ y
    → (a ≡ b) × (m ≡ n)
one_header a b x y m n p q e =
    let f = of_header a m p in
    let g = of_header b n q in
    let frame = one_frame a b x y f.0 f.1 g.0 g.1 f.2 g.2 f.3 g.3 e in
    let of : ℕ → ℕ → List ℕ → List ℕ = λ start family rest. front_bytes start family (length rest) ++ rest in (
      f.3.parts ∙ ap (λ (s : ℕ). of s f.1 f.2) frame.0 ∙ ap (λ (t : ℕ). of g.0 t f.2) frame.1
          ∙ ap (λ (r : List ℕ). of g.0 g.1 r) frame.2 ∙ sym g.3.parts,
      one_name a b x y m n p q e,
    )

-- ---- bytes that are no header begin none, unless more can come

-- the version and command of a header
starts : (start : ℕ) → (start ≡ 0x20) ⊎ (start ≡ 0x21) → (start / 16 ≡ 2) × (start % 16 ≤ 1)
starts start is = elim is [ inl e ↦ (omega arith, omega arith) | inr e ↦ (omega arith, omega arith) ]

-- bytes that say what follows them, and fewer than that, begin no header that ends where they do
begun : (a b y : List ℕ) (n : Option (List ℕ)) → IsBegun a → IsHeader b n → a ≡ b ++ y → ⊥
begun a b y n p q e =
    let f = of_header b n q in
    let size : length b ≡ length (front_bytes f.0 f.1 (length f.2) ++ f.2) = ap length f.3.parts in
    let whole : length a ≡ length b + length y = ap length e ∙ length-append b y in
    elim p [
      | inl short ↦ omega arith
      | inr part ↦ later_short a b y part.0 part.1 part.2 part.3 part.4 part.5 f.0 f.1 f.2 f.3 e
    ]
  where
    later_short : (a b y first later : List ℕ) (front : Front) → a ≡ first ++ later → SaysFront first front
        → length later < size_of front → (start family : ℕ) (rest : List ℕ) → IsFramed b start family rest
        → a ≡ b ++ y → ⊥
    later_short a b y first later (Local size) parts says short start family rest f e =
        let whole : front_bytes 0x20 says.0 size ++ later ≡ front_bytes start family (length rest) ++ (rest ++ y) =
        ap (λ (l : List ℕ). l ++ later) (sym says.1) ∙ sym parts ∙ e ∙ ap (λ (l : List ℕ). l ++ y) f.parts in
        let sizes = one_size 0x20 says.0 size start family (length rest) later (rest ++ y) (omega (arith, says.2))
        (omega (arith, f.limit)) whole in
        let rests = ap length (one_rest 0x20 says.0 size start family (length rest) later (rest ++ y) whole) in
        omega (arith, short, sizes, rests, length-append rest y)
    later_short a b y first later (Passed addresses size) parts says short start family rest f e =
        let whole : front_bytes 0x21 says.0 size ++ later ≡ front_bytes start family (length rest) ++ (rest ++ y) =
        ap (λ (l : List ℕ). l ++ later) (sym says.1) ∙ sym parts ∙ e ∙ ap (λ (l : List ℕ). l ++ y) f.parts in
        let sizes = one_size 0x21 says.0 size start family (length rest) later (rest ++ y) (omega (arith, says.4))
        (omega (arith, f.limit)) whole in
        let rests = ap length (one_rest 0x21 says.0 size start family (length rest) later (rest ++ y) whole) in
        omega (arith, short, sizes, rests, length-append rest y)

-- 16 bytes of which this is said, before those of a header
whole_front : (a b x y : List ℕ) (start family size : ℕ) (n : Option (List ℕ)) → a ≡ front_bytes start family size
    → (q : IsHeader b n) → a ++ x ≡ b ++ y
    → let f = of_header b n q in front_bytes start family size ++ x
    ≡ front_bytes f.0 f.1 (length f.2) ++ (f.2 ++ y)
whole_front a b x y start family size n is q e =
    let f = of_header b n q in
    ap (λ (l : List ℕ). l ++ x) (sym is) ∙ e ∙ ap (λ (l : List ℕ). l ++ y) f.3.parts

-- a reason against the first 16 bytes is none against a header's
no_front : (fault : HeaderFault) (a b x y : List ℕ) (n : Option (List ℕ)) → IsNoFront a fault
    → (fault ≡ faults.Signature → length a ≡ 16) → IsHeader b n → a ++ x ≡ b ++ y → ⊥
no_front faults.Read a b x y n p len q e = p
no_front faults.Cut a b x y n p len q e = p
no_front faults.Signature a b x y n p len q e =
    let f = of_header b n q in
    let long : 12 ≤ length a = omega (arith, len refl) in
    p (sym (take-append-le 12 a x long) ∙ ap (take 12) (e ∙ ap (λ (l : List ℕ). l ++ y) f.3.parts))
no_front (faults.Version found) a b x y n p len q e =
    let f = of_header b n q in
    let start = one_start p.0 p.1 p.2 f.0 f.1 (length f.2) x (f.2 ++ y) (whole_front a b x y p.0 p.1 p.2 n p.3 q e) in
    let is = starts f.0 f.4 in
    p.5 (p.4 ∙ ap (λ (m : ℕ). m / 16) start ∙ is.0)
no_front (faults.Command found) a b x y n p len q e =
    let f = of_header b n q in
    let start = one_start p.0 p.1 p.2 f.0 f.1 (length f.2) x (f.2 ++ y) (whole_front a b x y p.0 p.1 p.2 n p.3 q e) in
    let is = starts f.0 f.4 in
    let same = p.5 ∙ ap (λ (m : ℕ). m % 16) start in
    omega (arith, same, is.1, p.6)
no_front (faults.Family found) a b x y n p len q e = elim q [
  | inl k ↦ let start = one_start 0x21 found p.0 0x20 k.0.family (length k.0.rest) x (k.0.rest ++ y)
      (ap (λ (l : List ℕ). l ++ x) (sym p.1) ∙ e ∙ ap (λ (l : List ℕ). l ++ y) k.0.parts) in
      omega (arith, start)
  | inr k ↦ let family = one_family 0x21 found p.0 0x21 k.1.family (length (k.1.addresses ++ k.0)) x
      ((k.1.addresses ++ k.0) ++ y)
      (ap (λ (l : List ℕ). l ++ x) (sym p.1) ∙ e ∙ ap (λ (l : List ℕ). l ++ y) k.1.parts) in
      p.2 (length k.1.addresses) (subst (λ (m : ℕ). HasAddresses m (length k.1.addresses)) (sym family) k.1.has)
]
no_front (faults.Length found needed) a b x y n p len q e = elim q [
  | inl k ↦ let start = one_start 0x21 p.0 found 0x20 k.0.family (length k.0.rest) x (k.0.rest ++ y)
      (ap (λ (l : List ℕ). l ++ x) (sym p.1) ∙ e ∙ ap (λ (l : List ℕ). l ++ y) k.0.parts) in
      omega (arith, start)
  | inr k ↦
      let whole = ap (λ (l : List ℕ). l ++ x) (sym p.1) ∙ e ∙ ap (λ (l : List ℕ). l ++ y) k.1.parts in
      let rest = (k.1.addresses ++ k.0) ++ y in
      let family = one_family 0x21 p.0 found 0x21 k.1.family (length (k.1.addresses ++ k.0)) x rest whole in
      let few = few_addresses p.0 needed p.2 in
      let size = one_size 0x21 p.0 found 0x21 k.1.family (length (k.1.addresses ++ k.0)) x rest
      (omega (arith, few, p.3)) (omega (arith, k.1.limit)) whole in
      let counts = one_count k.1.family needed (length k.1.addresses)
      (subst (λ (m : ℕ). HasAddresses m needed) family p.2) k.1.has in
      omega (arith, p.3, size, counts, length-append k.1.addresses k.0)
]
no_front (faults.TooLong found) a b x y n p len q e =
    let f = of_header b n q in
    let size = one_size p.0 p.1 found f.0 f.1 (length f.2) x (f.2 ++ y) p.3 (omega (arith, f.3.limit))
    (whole_front a b x y p.0 p.1 found n p.2 q e) in
    omega (arith, size, p.4, f.3.limit)
no_front faults.Tlv a b x y n p len q e = p
no_front faults.Name a b x y n p len q e = p

-- TLVs that show nothing, or a name that isn't taken, are in no header
no_tlvs : (a b x y tlvs : List ℕ) (n : Option (List ℕ)) → IsPassed a tlvs
    → ((shown : Option (List ℕ)) → Shows tlvs shown → IfSome shown IsName → ⊥) → IsHeader b n → a ++ x ≡ b ++ y → ⊥
no_tlvs a b x y tlvs n p never q e = elim q [
  | inl k ↦ local_not_passed b a y x tlvs k.0 p (sym e)
  | inr k ↦ never n (subst (λ (t : List ℕ). Shows t n) (sym (one_passed a b x y tlvs k.0 p k.1 e)) k.2) k.3
]

bad_name : (tlvs name : List ℕ) (shown : Option (List ℕ)) → Shows tlvs (Some name) → (IsName name → ⊥)
    → Shows tlvs shown → IfSome shown IsName → ⊥
bad_name tlvs name shown is bad shows text =
    bad (subst (λ (o : Option (List ℕ)). IfSome o IsName) (sym (one_shown tlvs (Some name) shown is shows)) text)

-- what was taken where a header stood, and is no header, was cut off by a read that failed
only_read : (fault : HeaderFault) (a b x y : List ℕ) (n : Option (List ℕ)) → IsNoHeader a fault
    → (fault ≡ faults.Cut → x ≡ []) → IsHeader b n → a ++ x ≡ b ++ y → fault ≡ faults.Read
only_read faults.Read a b x y n p cut q e = refl
only_read faults.Cut a b x y n p cut q e =
    absurd (begun a b y n p q (sym (append-nil a) ∙ ap (λ (l : List ℕ). a ++ l) (sym (cut refl)) ∙ e))
only_read faults.Signature a b x y n p cut q e = absurd (no_front faults.Signature a b x y n p.1 (λ _. p.0) q e)
only_read (faults.Version found) a b x y n p cut q e =
    absurd (no_front (faults.Version found) a b x y n p (λ is. absurd cc) q e)
only_read (faults.Command found) a b x y n p cut q e =
    absurd (no_front (faults.Command found) a b x y n p (λ is. absurd cc) q e)
only_read (faults.Family found) a b x y n p cut q e =
    absurd (no_front (faults.Family found) a b x y n p (λ is. absurd cc) q e)
only_read (faults.Length found needed) a b x y n p cut q e =
    absurd (no_front (faults.Length found needed) a b x y n p (λ is. absurd cc) q e)
only_read (faults.TooLong found) a b x y n p cut q e =
    absurd (no_front (faults.TooLong found) a b x y n p (λ is. absurd cc) q e)
only_read faults.Tlv a b x y n p cut q e =
    absurd (no_tlvs a b x y p.0 n p.1 (λ shown shows text. p.2 shown shows) q e)
only_read faults.Name a b x y n p cut q e =
    absurd (no_tlvs a b x y p.0 n p.2 (λ shown shows text. bad_name p.0 p.1 shown p.3 p.4 shows text) q e)

-- ---- a header that the reader brings whole

pub complete : (unread left : Option (List ℕ)) (result : Result Header HeaderFault) (bytes more : List ℕ)
    (name : Option (List ℕ))
    → IfOk result (λ header. (taken : List ℕ) × Consumes unread left taken × IsHeader taken (name_of header))
    → IfErr result (λ fault. (taken : List ℕ) × Consumes unread left taken × IsNoHeader taken fault)
    → (result ≡ Err faults.Cut → IsAtEnd left) → unread ≡ Some (bytes ++ more) → IsHeader bytes name
    → (result ≡ Err faults.Read) ⊎ IsOkAnd result (λ header. name_of header ≡ name)
complete None left result bytes more name ok err cut e whole = absurd cc
complete (Some xs) None (Ok header) bytes more name ok err cut e whole = absurd ok.1
complete (Some xs) None (Err fault) bytes more name ok err cut e whole = absurd err.1
complete (Some xs) (Some ys) (Ok header) bytes more name ok err cut e whole =
    let same : xs ≡ bytes ++ more = cc in
    inr (one_name ok.0 bytes ys more (name_of header) name ok.2 whole (sym ok.1 ∙ same))
complete (Some xs) (Some ys) (Err fault) bytes more name ok err cut e whole =
    let same : xs ≡ bytes ++ more = cc in
    inl (ap Err (only_read fault err.0 bytes ys more name err.2 (λ is. cut (ap Err is)) whole (sym err.1 ∙ same)))
