use Rattle.proxy_header.proofs.HeaderLemmas.{one_header}
use Rattle.proxy_header.proofs.laws.one_header.Goals as goal

pub returns : goal.returns
returns c = one_header
