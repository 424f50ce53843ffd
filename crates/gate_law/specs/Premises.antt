-- What the law over a gate and its station rests on, beside what the two do: each premise by its
-- name. A step, or the first state, has it as a field (PROOFS.md, "A gate and its station").
use Rattle.std.specs.Prelude.{◌≡◌, ◌≢◌, ℕ, List, Contains}
use Rattle.oyster_account.specs.declared.touch.Touch.{Touch}
use Rattle.oyster_account.specs.declared.reply.Reply.{Reply}
use Rattle.reply_book.specs.declared.entry.Entry.{Entry}
use Rattle.reply_book.specs.Tables.{Tables}
use Rattle.reply_book.specs.Legal.{history_of, judge_after, book}

-- Line: what one side reads, whole, was written before; it may be lost, repeated or come late
abbrev pub Line : {X : Type 0} → List X → X → Type 0
Line written read = Contains written read

-- Alone: no touch of this gate comes from anywhere but from the gate's own file
abbrev pub Alone : ℕ → Touch → Type 0
Alone gate touch = touch.gate ≢ gate

-- One journal: an opening finds the touches that were kept, all of them, in their order
abbrev pub OneJournal : List Touch → List Touch → Type 0
OneJournal found kept = found ≡ kept

-- Same tables: the fare tables of a station's opening make the same book of its touches as those
-- before
abbrev pub SameTables : ℕ → List Touch → Tables → Tables → Type 0
SameTables cards touches tables others = book others cards touches ≡ book tables cards touches

-- The lock: a touch is judged after the whole of the history behind which it is put
abbrev pub TheLock : ℕ → Tables → List Entry → Touch → Reply → Type 0
TheLock cards tables history touch reply =
    reply ≡ judge_after tables cards (history_of history) touch
