use Rattle.proxy_header.proofs.HeaderLemmas.{complete}
use Rattle.proxy_header.proofs.header.read_header.Goals as goal

pub returns-clause-again : goal.returns-clause-again
returns-clause-again g c bytes more name =
    complete (g.R.Read.remaining c.args.reader.now) (g.R.Read.remaining c.take_header.new.reader) c.take_header.result
    bytes more name c.take_header.ensures.ok c.take_header.ensures.err c.take_header.ensures.cut
