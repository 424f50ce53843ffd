-- Worked examples, computed by the definitions: the limits of COMMANDS.md, and what is said of a wrong number.
use Rattle.std.proofs.Common.{◌≡◌, ◌*◌, refl, ◌++◌, codes}
use Rattle.std.specs.Fmt.{decimal, digits}
use Rattle.station_limits.specs.declared.digest.TheConstants.{DIGEST_SIZE}
use Rattle.station_limits.specs.declared.limits.TheConstants.{HISTORY_LIMIT}
use Rattle.command_line.specs.declared.arguments.TheConstants.{CONNECTIONS_LIMIT, IDLE_LIMIT, REPORT_LIMIT}
use Rattle.command_line.specs.declared.arguments.TheConstants.{NOT_A_COUNT, NOT_A_SEAL}

-- the limits of what options say, where no other crate has them
the_limits_of_numbers :
    (CONNECTIONS_LIMIT ≡ 1_000_000) × (IDLE_LIMIT ≡ 1_000_000) × (REPORT_LIMIT ≡ 1_000_000)
the_limits_of_numbers = (refl, refl, refl)

-- where such a text names a limit, it has the digits of the constant
the_limits_in_refusals :
    (NOT_A_COUNT.now ≡ codes "a number of touches is from 0 to " ++ (decimal HISTORY_LIMIT
    ++ codes ", and is written in the digits 0 to 9 alone"))
    × (NOT_A_SEAL.now ≡ codes "a number is written in the digits 0 to 9 alone, a gate's is from 0 to 65535, "
    ++ (codes "and a seal is a number from 0 to " ++ (decimal HISTORY_LIMIT
    ++ (codes " and " ++ (decimal (2 * DIGEST_SIZE) ++ codes " hexadecimal digits")))))
unfolding digits
the_limits_in_refusals = (refl, refl)
