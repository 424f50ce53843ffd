use Rattle.std.proofs.Common.{refl, arith}
use Rattle.proxy_header.proofs.front.local.Goals as goal

pub returns-then-size-gt-REST_LIMIT : goal.returns-then-size-gt-REST_LIMIT
returns-then-size-gt-REST_LIMIT c family = (0x20, family, refl, omega arith, omega arith)

pub returns : goal.returns
returns c family = (family, refl, omega arith)
