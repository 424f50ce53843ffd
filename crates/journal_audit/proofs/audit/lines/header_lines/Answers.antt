use Rattle.journal_audit.proofs.audit.lines.header_lines.Goals as goal

-- the text is that of the version and of the digest's digits
pub returns : goal.returns
returns c = rw (← c.version_of-version.ensures, ← c.in_ok-digest.ensures) c.format.ensures.ok
