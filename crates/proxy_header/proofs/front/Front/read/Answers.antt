use Rattle.std.proofs.Common.{◌≡◌, true, false, not, refl, sym, subst, ◌∙◌, arith, length}
use Rattle.std.proofs.lemmas.Slice.Eq.{bytes_eq-Decides}
use Rattle.std.specs.Str.{bytes_eq}
use Rattle.std.specs.Prelude.{Bool}
use Rattle.proxy_header.specs.Front.{IsFront}
use Rattle.proxy_header.proofs.FrontLemmas.{read_parts}
use Rattle.proxy_header.proofs.front.Front.read.Goals as goal

not_not : (b : Bool) → false ≡ not b → b ≡ true
not_not true e = refl
not_not false e = absurd cc

pub returns : goal.returns
returns c =
    let found = c.split_at.result.0.now in
    let fields = c.split_at.result.1.now in
    let same : found ≡ c.as_slice.result.now = (bytes_eq-Decides found c.as_slice.result.now).0
    (not_not (bytes_eq found c.as_slice.result.now) c.if-ne.ensures) in
    let len : length fields ≡ 4 = omega (arith, c.in-len4.len_at_least, c.in-len4.len_below) in
    subst (λ bytes. IsFront bytes c.front_of.result)
    (sym (read_parts c.args.bytes.now fields c.from_be_bytes-size.result
    (sym c.split_at.ensures.front ∙ same ∙ c.as_slice.ensures) c.split_at.ensures.back len c.fits-bytes
    c.from_be_bytes-size.ensures)) c.front_of.ensures
