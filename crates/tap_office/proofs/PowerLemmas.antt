-- Powers of two that add up to all below a power are each of them once, where there are no more of them than that.
use Rattle.std.proofs.Common.{◌≡◌, ℕ, zero, suc, ◌+◌, ◌-◌, ◌*◌, ◌^◌, ◌≤◌, List, [], ◌∷◌, length, refl, ◌∙◌, arith}
use Rattle.std.proofs.Common.{pow-suc, pow_pos}
use Rattle.std.proofs.lemmas.Bool.Decides.{nat_tests}
use Rattle.tap_office.specs.Close.{times}

-- the powers of two at these numbers, added up
abbrev pub powers : List ℕ → ℕ
powers [] = 0
powers (k ∷ ks) = 2 ^ k + powers ks

-- each number that isn't 0, less one
abbrev pub lowered : List ℕ → List ℕ
lowered [] = []
lowered (zero ∷ ks) = lowered ks
lowered (suc k ∷ ks) = k ∷ lowered ks

-- 1 below n, and 0 from there on
abbrev pub below : ℕ → ℕ → ℕ
below k zero = 0
below zero (suc n) = 1
below (suc k) (suc n) = below k n

pub length_lowered : (ks : List ℕ) → length ks ≡ times 0 ks + length (lowered ks)
length_lowered [] = refl
length_lowered (zero ∷ ks) = grind (arith, nat_tests, length_lowered ks)
length_lowered (suc k ∷ ks) = grind (arith, nat_tests, length_lowered ks)

pub powers_lowered : (ks : List ℕ) → powers ks ≡ times 0 ks + 2 * powers (lowered ks)
powers_lowered [] = refl
powers_lowered (zero ∷ ks) = grind (arith, nat_tests, powers_lowered ks)
powers_lowered (suc k ∷ ks) = grind (arith, nat_tests, powers_lowered ks, pow-suc 2 k)

pub times_lowered : (k : ℕ) (ks : List ℕ) → times (suc k) ks ≡ times k (lowered ks)
times_lowered k [] = refl
times_lowered k (zero ∷ ks) = grind (arith, nat_tests, times_lowered k ks)
times_lowered k (suc j ∷ ks) = grind (arith, nat_tests, times_lowered k ks)

below_rest : (n : ℕ) (ks : List ℕ) → times 0 (lowered ks) ≡ below 0 n
    → ((k : ℕ) → times (suc k) (lowered ks) ≡ below (suc k) n) → (k : ℕ) → times (suc k) ks ≡ below (suc k) (suc n)
below_rest n ks zeros rest zero = times_lowered 0 ks ∙ zeros
below_rest n ks zeros rest (suc k) = times_lowered (suc k) ks ∙ rest k

-- with c ones beside them they are at least n, and where they are n, each number below n is there once
pub each_once : (n c : ℕ) (ks : List ℕ) → c + powers ks + 1 ≡ 2 ^ n
    → (n ≤ c + length ks) × (c + length ks ≡ n
    → (c + times 0 ks ≡ below 0 n) × ((k : ℕ) → times (suc k) ks ≡ below (suc k) n))
each_once zero c [] e = (omega arith, λ h. (omega arith, λ k. refl))
each_once zero c (k ∷ ks) e = absurd (omega (arith, pow_pos k))
each_once (suc n) c ks e =
    let rest = lowered ks in
    let p : powers ks ≡ times 0 ks + 2 * powers rest = powers_lowered ks in
    let l : length ks ≡ times 0 ks + length rest = length_lowered ks in
    let d = 2 ^ n - (powers rest + 1) in
    let w : 2 ^ suc n ≡ 2 ^ n * 2 = pow-suc 2 n in
    let s : d + powers rest + 1 ≡ 2 ^ n = omega arith in
    let h = each_once n d rest s in
    let m : n ≤ d + length rest = h.0 in (
      omega arith,
      λ all.
          let none : d ≡ 0 = omega arith in
          let same = h.1 (omega arith) in
          let first : d + times 0 rest ≡ below 0 n = same.0 in (
            omega arith,
            below_rest n ks (omega arith) same.1,
          ),
    )
