use Rattle.std.proofs.lemmas.Result.{err_from_is_err_and}
use Rattle.door_file.proofs.BytesLemmas.{in_text}
use Rattle.door_file.proofs.document.read.Goals as goal

pub returns-in_err-tree-clause-fault : goal.returns-in_err-tree-clause-fault
returns-in_err-tree-clause-fault c =
    let p = err_from_is_err_and c.from_residual.result c.from_residual.ensures.1 in
    rw (p.1, p.2) (in_text c.args.text.now _ c.in_err-tree.ensures.fault)
