-- The first 16 bytes of a header: their parts, and that they have no others.
use Rattle.std.proofs.Common.{◌≡◌, ℕ, ◌+◌, ◌*◌, ◌/◌, ◌%◌, ◌≤◌, ◌<◌, List, [], ◌∷◌, ◌++◌, length, get_or, take, drop}
use Rattle.std.proofs.Common.{refl, sym, ap, subst, ◌∙◌, arith, take-append-drop}
use Rattle.std.proofs.lemmas.List.{get_or-drop}
use Rattle.proxy_header.specs.Front.{signature, front_bytes, HasAddresses}

-- a list of four
four_parts : (l : List ℕ) → length l ≡ 4 → l ≡ get_or l 0 0 ∷ get_or l 1 0 ∷ get_or l 2 0 ∷ get_or l 3 0 ∷ []
four_parts [] len = absurd (omega (arith, len))
four_parts (a ∷ []) len = absurd (omega (arith, len))
four_parts (a ∷ b ∷ []) len = absurd (omega (arith, len))
four_parts (a ∷ b ∷ c ∷ []) len = absurd (omega (arith, len))
four_parts (a ∷ b ∷ c ∷ d ∷ []) len = refl
four_parts (a ∷ b ∷ c ∷ d ∷ e ∷ rest) len = absurd (omega (arith, len))

-- two bytes are their number's
two_bytes : (high low size : ℕ) → high < 256 → low < 256 → size ≡ high * 256 + low
    → high ∷ low ∷ [] ≡ size / 256 % 256 ∷ size % 256 ∷ []
two_bytes high low size h l e =
    let first : high ≡ size / 256 % 256 = omega arith in
    let second : low ≡ size % 256 = omega arith in
    ap (λ (n : ℕ). n ∷ low ∷ []) first ∙ ap (λ (n : ℕ). size / 256 % 256 ∷ n ∷ []) second

-- bytes that begin with the signature and have four more are these
pub read_parts : (bytes fields : List ℕ) (size : ℕ) → take 12 bytes ≡ signature → fields ≡ drop 12 bytes
    → length fields ≡ 4 → ((i : ℕ) → get_or bytes i 0 < 256) → size ≡ get_or fields 2 0 * 256 + get_or fields 3 0
    → bytes ≡ front_bytes (get_or fields 0 0) (get_or fields 1 0) size
read_parts bytes fields size begins is len fits e =
    let byte : (i : ℕ) → get_or fields i 0 < 256 = λ i. subst (λ (l : List ℕ). get_or l i 0 < 256) (sym is)
    (rw get_or-drop (fits (12 + i))) in
    let start = get_or fields 0 0 in
    let family = get_or fields 1 0 in
    sym (take-append-drop 12 bytes) ∙ ap (λ (l : List ℕ). l ++ drop 12 bytes) begins
    ∙ ap (λ (l : List ℕ). signature ++ l) (sym is ∙ four_parts fields len
    ∙ ap (λ (l : List ℕ). start ∷ family ∷ l)
    (two_bytes (get_or fields 2 0) (get_or fields 3 0) size (byte 2) (byte 3) e))

-- ---- no other parts

pub one_start : (start family size other by size' : ℕ) (x y : List ℕ)
    → front_bytes start family size ++ x ≡ front_bytes other by size' ++ y → start ≡ other
one_start start family size other by size' x y e = ap (λ (l : List ℕ). get_or l 12 0) e

pub one_family : (start family size other by size' : ℕ) (x y : List ℕ)
    → front_bytes start family size ++ x ≡ front_bytes other by size' ++ y → family ≡ by
one_family start family size other by size' x y e = ap (λ (l : List ℕ). get_or l 13 0) e

pub one_size : (start family size other by size' : ℕ) (x y : List ℕ) → size < 65536 → size' < 65536
    → front_bytes start family size ++ x ≡ front_bytes other by size' ++ y → size ≡ size'
one_size start family size other by size' x y fits fits' e =
    let high : size / 256 % 256 ≡ size' / 256 % 256 = ap (λ (l : List ℕ). get_or l 14 0) e in
    let low : size % 256 ≡ size' % 256 = ap (λ (l : List ℕ). get_or l 15 0) e in
    omega arith

pub one_rest : (start family size other by size' : ℕ) (x y : List ℕ)
    → front_bytes start family size ++ x ≡ front_bytes other by size' ++ y → x ≡ y
one_rest start family size other by size' x y e = ap (drop 16) e

-- ---- addresses

pub one_count : (family n m : ℕ) → HasAddresses family n → HasAddresses family m → n ≡ m
one_count family n m p q = grind arith

pub few_addresses : (family n : ℕ) → HasAddresses family n → n ≤ 216
few_addresses family n p = grind arith
