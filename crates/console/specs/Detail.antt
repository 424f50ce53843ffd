-- The line behind that of a fault (FAULTS.md, "Faults"; this project's choice).
use Rattle.std.specs.Prelude.{None}
use Rattle.console.specs.declared.detail.Detail.{Detail}

-- no line
abbrev pub no_detail : Detail
no_detail = record { line = None }
