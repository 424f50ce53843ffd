use Rattle.std.proofs.Common.{◌≡◌, rules, codes}
use Rattle.gate_client.proofs.AskingLemmas.{parts_of, number_behind}
use Rattle.gate_client.proofs.enquiry.enquired_by.Goals as goal

-- behind the word the card's number stands
pub returns-then-eq-clause-some : goal.returns-then-eq-clause-some
returns-then-eq-clause-some c =
    let word : c.in_ok-word.word.now ≡ codes "enquire" = search rules in
    number_behind c.args.line.now c.in_ok-word.word.now c.in_ok-word.rest.now c.number_in.result
    (parts_of c.args.line.now c.in_ok-word.word c.in_ok-word.rest c.in_ok-word.ensures.cases) word
    c.number_in.ensures.some
