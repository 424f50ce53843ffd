-- What the number of an error says of a connection that wasn't had: Linux's numbers (errno.h), told
-- apart as accept(2) says.
use Rattle.std.specs.Prelude.{ℕ, ℤ, pos, negsuc, Option, None, Some, List, ◌∷◌, []}
use Rattle.std.specs.Prelude.{if◌then◌else◌}
use Rattle.std.specs.Prelude.{Bool, false, ◌||◌, ◌==◌}
use Rattle.tcp_line.specs.declared.shortage.Shortage.{Shortage}
use Rattle.tcp_line.specs.declared.shortage.Shortage.TheVariants.{Descriptors, Memory, Other}

-- n is one of the numbers
abbrev among : ℕ → List ℕ → Bool
among n [] = false
among n (m ∷ ms) = n == m || among n ms

-- the gate was gone, or a signal came: EINTR, EPIPE, ECONNABORTED, ECONNRESET, ENOTCONN, ETIMEDOUT
abbrev pub of_the_gate : List ℕ
of_the_gate = 4 ∷ 32 ∷ 103 ∷ 104 ∷ 107 ∷ 110 ∷ []

-- what the new connection's network failed by, which accept(2) has treated as a gate that was gone:
-- ENONET, EPROTO, ENOPROTOOPT, EOPNOTSUPP, ENETDOWN, ENETUNREACH, EHOSTDOWN, EHOSTUNREACH
abbrev pub of_its_network : List ℕ
of_its_network = 64 ∷ 71 ∷ 92 ∷ 95 ∷ 100 ∷ 101 ∷ 112 ∷ 113 ∷ []

-- too many open files: ENFILE of the system, EMFILE of the process
abbrev pub of_descriptors : List ℕ
of_descriptors = 23 ∷ 24 ∷ []

-- no memory: ENOMEM, ENOBUFS
abbrev pub of_memory : List ℕ
of_memory = 12 ∷ 105 ∷ []

-- what the system is short of by an error's number, or by none: nothing where it is the gate's
-- alone
abbrev pub shortage_of : Option ℤ → Option Shortage
shortage_of None = Some (Other (pos 0))
shortage_of (Some (negsuc n)) = Some (Other (negsuc n))
shortage_of (Some (pos n)) =
    if among n of_the_gate then None
    else (if among n of_its_network then None
    else (if among n of_descriptors then Some Descriptors
    else (if among n of_memory then Some Memory else Some (Other (pos n)))))
