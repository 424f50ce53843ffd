-- What `migrate` writes on standard output (COMMANDS.md, "migrate"; this project's choice).
use Rattle.std.specs.Prelude.{ℕ, List, ◌++◌, codes}
use Rattle.std.specs.Fmt.{decimal}

-- a journal was carried over with so many touches
abbrev pub migrated_line : ℕ → List ℕ
migrated_line touches = codes "migrated " ++ (decimal touches ++ codes "\n")
