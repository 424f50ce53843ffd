use Rattle.std.proofs.Common.{◌≡◌, refl, sym, subst, arith}
use Rattle.proxy_header.specs.Front.{front_bytes, IsFront}
use Rattle.proxy_header.proofs.front.front_of.Goals as goal

pub returns-then-start-ne-VERSION : goal.returns-then-start-ne-VERSION
returns-then-start-ne-VERSION c =
    (c.args.start, c.args.family, c.args.size, refl, refl, c.if-start-ne-VERSION.true)

pub returns-in-0 : goal.returns-in-0
returns-in-0 c =
    let is : c.args.start ≡ 0x20 = omega (arith, c.if-start-ne-VERSION.false, c.in-0.is) in
    subst (λ start. IsFront (front_bytes start c.args.family c.args.size) c.local.result) (sym is)
    (c.local.ensures c.args.family)

pub returns-in-1 : goal.returns-in-1
returns-in-1 c =
    let is : c.args.start ≡ 0x21 = omega (arith, c.if-start-ne-VERSION.false, c.in-1.is) in
    subst (λ start. IsFront (front_bytes start c.args.family c.args.size) c.passed.result) (sym is) c.passed.ensures

pub returns-in_default : goal.returns-in_default
returns-in_default c = (
  c.args.start,
  c.args.family,
  c.args.size,
  refl,
  c.if-start-ne-VERSION.false,
  refl,
  omega arith,
)
