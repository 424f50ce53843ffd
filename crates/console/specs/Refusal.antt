-- What the number of an error says of a file, or of an address, that isn't had: Linux's numbers
-- (errno.h), told apart as open(2) and bind(2) say.
use Rattle.std.specs.Prelude.{ℕ, ℤ, pos, negsuc, Option, None, Some, if◌then◌else◌, ◌||◌, ◌==◌}
use Rattle.console.specs.declared.refusal.SystemRefusal.{SystemRefusal}
use Rattle.console.specs.declared.refusal.SystemRefusal.TheVariants.{NoFile, NoFolder, Folder}
use Rattle.console.specs.declared.refusal.SystemRefusal.TheVariants.{Permission, ReadOnly}
use Rattle.console.specs.declared.refusal.SystemRefusal.TheVariants.{Descriptors, Memory, Room}
use Rattle.console.specs.declared.refusal.SystemRefusal.TheVariants.{InUse, NotHere, Other}

-- what is said by a number: EPERM 1, ENOENT 2, ENOMEM 12, EACCES 13, ENOTDIR 20, EISDIR 21, ENFILE
-- 23, EMFILE 24, ENOSPC 28, EROFS 30, EADDRINUSE 98, EADDRNOTAVAIL 99
abbrev pub refusal_by : ℕ → SystemRefusal
refusal_by n =
    if n == 2 then NoFile
    else (if n == 20 then NoFolder
    else (if n == 21 then Folder
    else (if n == 1 || n == 13 then Permission
    else (if n == 30 then ReadOnly
    else (if n == 23 || n == 24 then Descriptors
    else (if n == 12 then Memory
    else (if n == 28 then Room
    else (if n == 98 then InUse
    else (if n == 99 then NotHere else Other (pos n))))))))))

-- what an error says, by its number or by none
abbrev pub refusal_of : Option ℤ → SystemRefusal
refusal_of None = Other (pos 0)
refusal_of (Some (negsuc n)) = Other (negsuc n)
refusal_of (Some (pos n)) = refusal_by n
