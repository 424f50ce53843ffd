use Rattle.journal_audit.proofs.commands.balances.explained_balances.Goals as goal

-- the fault is the command's, with another second line
pub returns-in-Err-clause-fault : goal.returns-in-Err-clause-fault
returns-in-Err-clause-fault g c = (c.in-Err.fault, c.explained.ensures, c.in-Err.ensures.fault)
