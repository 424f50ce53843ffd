use Rattle.gate_law.proofs.AtOnceLemmas.{book-replies}
use Rattle.gate_law.proofs.laws_of_calls.ready_books_reply.Goals as goal

pub returns : goal.returns
returns c = book-replies
