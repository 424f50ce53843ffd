use Rattle.std.proofs.Common.{refl, arith}
use Rattle.proxy_header.proofs.front.passed.Goals as goal

pub returns-in_default : goal.returns-in_default
returns-in_default c = (c.args.size, refl, c.in_default.ensures.none)

pub returns-then-size-gt-REST_LIMIT : goal.returns-then-size-gt-REST_LIMIT
returns-then-size-gt-REST_LIMIT c = (0x21, c.args.family, refl, omega arith, omega arith)
