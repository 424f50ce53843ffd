-- What is kept of the errors of the system (`errno`).
use Rattle.std.specs.Prelude.{ℤ, Option, Some, None, option_map}
use Rattle.tap_disk.specs.declared.error.SystemError.{SystemError}

-- an error of the system is known by its number
abbrev pub error_by : ℤ → SystemError
error_by number = record { number = number }

-- the first error with a number is kept, and no later one
abbrev pub first_error : Option SystemError → Option ℤ → Option SystemError
first_error (Some first) _ = Some first
first_error None number = option_map error_by number
