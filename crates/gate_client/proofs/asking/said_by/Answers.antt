use Rattle.gate_client.proofs.AskingLemmas.{said, parts_of}
use Rattle.gate_client.proofs.asking.said_by.Goals as goal

-- the word and what stands behind it are the text
pub returns-clause-some : goal.returns-clause-some
returns-clause-some c =
    said c.args.moment c.args.text.now c.in_ok-word.word.now c.in_ok-word.rest.now c.act_by.result
    (parts_of c.args.text.now c.in_ok-word.word c.in_ok-word.rest c.in_ok-word.ensures.cases) c.act_by.ensures.word
    c.act_by.ensures.some c.act_by.ensures.moment
