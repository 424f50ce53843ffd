use Rattle.std.proofs.Common.{◌≡◌, ℕ, Bool, true, false, length, refl, sym, arith, rules, ◌↔◌, IsTrue, MatchBool, List}
use Rattle.std.specs.Char.{is_control}
use Rattle.std.specs.List.{AllWithin}
use Rattle.std.specs.Str.{chars}
use Rattle.std.proofs.lemmas.Bool.Decides.{nat_tests}
use Rattle.std.proofs.lemmas.Iterator.{cases_from_any, YieldsList-from_chars}
use Rattle.proxy_header.specs.Names.{IsControl, HasControl}
use Rattle.proxy_header.proofs.name.has_control.Goals as goal

-- std's test is the definition's
control : (code : ℕ) → is_control code ≡ true → IsControl code
control code is = grind (arith, nat_tests)

no_control : (code : ℕ) → is_control code ≡ false → IsControl code → ⊥
no_control code is has = grind (arith, nat_tests)

decides : (result : Bool) (text : List ℕ)
    → MatchBool result (HasControl text) (AllWithin (λ code. IsControl code → ⊥) (chars text) 0 (length (chars text)))
    → IsTrue result ↔ HasControl text
decides true text h = (λ _. h, λ _. refl)
decides false text h = (λ is. absurd cc, λ has. absurd (h has.0 0 (omega arith) has.1 (has.2 0)))

pub returns : goal.returns
returns c =
    let by_call = cases_from_any _ _ c.any.result IsControl (λ code. IsControl code → ⊥) c.any.ensures.ran
    (YieldsList-from_chars c.args.text.now c.utf8.text cc)
    (λ x q k. let is : true ≡ is_control x = search rules in control x (sym is))
    (λ x q k. let is : false ≡ is_control x = search rules in (search rules, no_control x (sym is))) in
    decides c.any.result c.args.text.now by_call
