use Rattle.std.specs.Prelude.{IfSome}
use Rattle.journal_audit.specs.Behind.{HasBehind}
use Rattle.journal_audit.proofs.commands.settled.settled_file.Given as goal

-- the file gave these bytes, and so many open slots stand behind their end where they were counted
abbrev pub invariant-loop : goal.invariant-loop
invariant-loop g l =
    g.F.WholeFiles.gave l.files l.path l.read.bytes.items × IfSome l.read.behind (HasBehind l.read.bytes.items)
