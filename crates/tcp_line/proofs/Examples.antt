-- What the system is short of by errors of accepting, whose numbers are Linux's (errno.h, accept(2) "Error handling").
use Rattle.std.proofs.Common.{◌≡◌, ℕ, [], ◌∷◌, Option, Some, None, pos, refl}
use Rattle.std.specs.Prelude.{negsuc}
use Rattle.tcp_line.specs.declared.shortage.Shortage.{Shortage}
use Rattle.tcp_line.specs.declared.shortage.Shortage.TheVariants.{Descriptors, Memory, Other}
use Rattle.tcp_line.specs.Shortage.{shortage_of}

-- what it is short of by an error with this number
abbrev by_number : ℕ → Option Shortage
by_number n = shortage_of (Some (pos n))

-- EINTR: a signal came
signal : by_number 4 ≡ None
signal = refl

-- EPIPE, ECONNABORTED, ECONNRESET, ENOTCONN, ETIMEDOUT: the gate was gone
gone : by_number 32 ∷ by_number 103 ∷ by_number 104 ∷ by_number 107 ∷ by_number 110 ∷ [] ≡
    None ∷ None ∷ None ∷ None ∷ None ∷ []
gone = refl

-- ENETDOWN, EPROTO, ENOPROTOOPT, EHOSTDOWN: the first four of accept(2)'s network errors
network : by_number 100 ∷ by_number 71 ∷ by_number 92 ∷ by_number 112 ∷ [] ≡
    None ∷ None ∷ None ∷ None ∷ []
network = refl

-- ENONET, EHOSTUNREACH, EOPNOTSUPP, ENETUNREACH: the other four
network_more : by_number 64 ∷ by_number 113 ∷ by_number 95 ∷ by_number 101 ∷ [] ≡
    None ∷ None ∷ None ∷ None ∷ []
network_more = refl

-- ENFILE, EMFILE: as many open files as there may be
files : by_number 23 ∷ by_number 24 ∷ [] ≡ Some Descriptors ∷ Some Descriptors ∷ []
files = refl

-- ENOMEM, ENOBUFS: no memory
memory : by_number 12 ∷ by_number 105 ∷ [] ≡ Some Memory ∷ Some Memory ∷ []
memory = refl

-- EINVAL, told by its number
invalid : by_number 22 ≡ Some (Other (pos 22))
invalid = refl

-- numbers beside those of a gate's network: EBADMSG, EPFNOSUPPORT, ENETRESET, ECONNREFUSED, EALREADY
beside : by_number 74 ∷ by_number 96 ∷ by_number 102 ∷ by_number 111 ∷ by_number 114 ∷ [] ≡
    Some (Other (pos 74)) ∷ Some (Other (pos 96)) ∷ Some (Other (pos 102)) ∷ Some (Other (pos 111)) ∷
    Some (Other (pos 114)) ∷ []
beside = refl

-- a number below 0, and none
below : shortage_of (Some (negsuc 0)) ≡ Some (Other (negsuc 0))
below = refl

none : shortage_of None ≡ Some (Other (pos 0))
none = refl
