-- Worked examples, computed by the definitions: lines of COMMANDS.md, "migrate".
use Rattle.std.proofs.Common.{◌≡◌, refl, codes}
use Rattle.std.specs.Fmt.{digits}
use Rattle.journal_service.specs.Migrated.{migrated_line}

-- the line of a journal that was carried over
a_migrated_journal_is_told_in_a_line : migrated_line 1000000 ≡ codes "migrated 1000000\n"
unfolding digits
a_migrated_journal_is_told_in_a_line = refl
