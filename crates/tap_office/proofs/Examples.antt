-- Worked examples, computed by the definitions: the room for a touch; and the numbers that definitions and clauses take
-- from the code.
use Rattle.std.proofs.Common.{◌≡◌, ℕ, pos, true, List, [], ◌∷◌, None, Some, refl, arith}
use Rattle.std.proofs.lemmas.List.Elements.{All-nil}
use Rattle.oyster_account.specs.declared.touch.Act.{Act}
use Rattle.oyster_account.specs.declared.touch.Act.TheVariants.{Issue, TopUp}
use Rattle.oyster_account.specs.declared.touch.Touch.{Touch}
use Rattle.tap_journal.specs.Layout.{header_of}
use Rattle.reply_book.specs.declared.entry.Entry.{Entry}
use Rattle.reply_book.specs.declared.entry.Found.{Found}
use Rattle.reply_book.specs.declared.entry.Found.TheVariants.{New, First, Conflict}
use Rattle.reply_book.specs.Lookup.{found, is_same_touch}
use Rattle.reply_book.specs.Tables.{Tables, is_known}
use Rattle.reply_book.proofs.CallerLemmas.{legal-none}
use Rattle.tap_office.specs.Name.{Opened, nothing_opened}
use Rattle.tap_office.specs.Room.{room_after, unless_repeat, room_in, IsRoomFor}
use Rattle.tap_office.specs.declared.sync_times.TheConstants.{LONG_SYNC, ROW}

-- a sync is long from 50 microseconds on, and four long commits in a row make commits take turns
long_sync : LONG_SYNC ≡ 50_000
long_sync = refl

row_of_four : ROW ≡ 4
row_of_four = refl

-- ---- the room for a touch

-- gate 7 issues card 1, and tops it up by 20 pounds
abbrev issue : Touch
issue = record { gate = 7; number = 1; card = 1; act = Issue 1_736_149_800 }

abbrev top_up : Act → Touch
top_up act = record { gate = 7; number = 2; card = 1; act = act }

abbrev twenty : Touch
twenty = top_up (TopUp 2_000 1_736_150_100)

-- under the same number it tops it up by 30 pounds
abbrev thirty : Touch
thirty = top_up (TopUp 3_000 1_736_150_100)

-- gate 8 issues card 2
abbrev other : Touch
other = record { gate = 8; number = 1; card = 2; act = Issue 1_736_149_800 }

-- the issue and the top-up by 20 pounds were entered from seat 1
abbrev two : List Entry
two =
    record { touch = issue; reply = record { verdict = 8; change = pos 0; balance = pos 0 }; seat = 1 }
    ∷ record { touch = twenty; reply = record { verdict = 7; change = pos 2_000; balance = pos 2_000 }; seat = 1 }
    ∷ []

-- an office with a journal of two touches, and one with a journal of five
abbrev small : Opened
small = record nothing_opened { header = header_of 2 10 [] }

abbrev large : Opened
large = record nothing_opened { header = header_of 5 10 [] }

-- no touch was entered yet
nothing_yet : room_in large [] issue ≡ Some 5
unfolding found
nothing_yet = refl

-- repeats take no room
repeats_the_first : room_in large two issue ≡ None
unfolding found is_same_touch
repeats_the_first = refl

repeats_the_last : room_in large two twenty ≡ None
unfolding found is_same_touch
repeats_the_last = refl

-- gate 8 may use the number that gate 7 has used
is_new : room_in large two other ≡ Some 3
unfolding found is_same_touch
is_new = refl

-- another touch has this gate and number
is_named_alike : room_in large two thirty ≡ Some 3
unfolding found is_same_touch
is_named_alike = refl

-- a full journal takes no new touch, and repeats are told from new ones
full_for_a_new_one : room_in small two other ≡ Some 0
unfolding found is_same_touch
full_for_a_new_one = refl

full_for_one_named_alike : room_in small two thirty ≡ Some 0
unfolding found is_same_touch
full_for_one_named_alike = refl

repeats_where_it_is_full : room_in small two twenty ≡ None
unfolding found is_same_touch
repeats_where_it_is_full = refl

-- ---- what an office answers

-- a room that is answered is that of this number of entries
of_so_many : (found : Found) (room left : ℕ) → Some room ≡ unless_repeat left found → room ≡ left
of_so_many New room left is = cc
of_so_many Conflict room left is = cc
of_so_many (First place reply) room left is = absurd cc

module _ (tables : Tables) where
  abbrev opened : Opened
  opened = record large { table = Some (tables, 10) }

  -- before its first touch an office with a journal of five has room for five
  before_the_first : IsRoomFor opened issue (Some 5)
  unfolding found
  before_the_first = record {
    history = [];
    legal = record {
      tables = tables;
      given = refl;
      legal = legal-none tables 10;
      known = All-nil (λ (touch : Touch). is_known tables touch ≡ true);
    };
    begins = refl;
    within = omega arith;
    is = refl;
  }

  -- and never for six
  never_for_six : IsRoomFor opened issue (Some 6) → ⊥
  never_for_six answer =
      let left = of_so_many (found answer.history issue) 6 (room_after opened answer.history) answer.is in
      absurd (omega (arith, left))
