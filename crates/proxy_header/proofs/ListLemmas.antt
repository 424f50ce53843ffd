-- Lists that begin alike, and a fault that is passed on.
use Rattle.std.proofs.Common.{◌≡◌, ℕ, List, [], ◌∷◌, ◌++◌, length, get_or, drop, refl, sym, ap, subst, ◌∙◌, arith}
use Rattle.std.proofs.Common.{Result, Ok, Err}
use Rattle.std.specs.Prelude.{IsErrAnd, IfErr}
use Rattle.proxy_header.specs.declared.fault.HeaderFault.{HeaderFault}

-- of two equal lists, parts of one length at the front are the same, and so is what follows them
pub same_parts : (a b x y : List ℕ) → length a ≡ length b → a ++ x ≡ b ++ y → (a ≡ b) × (x ≡ y)
same_parts [] [] x y len e = (refl, e)
same_parts [] (d ∷ b) x y len e = absurd (omega (arith, len))
same_parts (c ∷ a) [] x y len e = absurd (omega (arith, len))
same_parts (c ∷ a) (d ∷ b) x y len e =
    let heads : c ≡ d = ap (λ (l : List ℕ). get_or l 0 0) e in
    let tails : a ++ x ≡ b ++ y = ap (drop 1) e in
    let len' : length a ≡ length b = omega (arith, len) in
    let rest = same_parts a b x y len' tails in
    (ap (λ (h : ℕ). h ∷ a) heads ∙ ap (λ (l : List ℕ). d ∷ l) rest.0, rest.1)

-- a fault that a `?` passes on, of which this is said
pub passes_on : {X : Type 0} (result : Result X HeaderFault) (fault : HeaderFault) (Says : HeaderFault → Type 0)
    → IsErrAnd result (λ given. given ≡ fault) → Says fault → IfErr result Says
passes_on (Ok done) fault Says is says = tt
passes_on (Err given) fault Says is says = subst Says (sym is) says
