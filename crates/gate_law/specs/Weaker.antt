-- Steps that lack one condition of a step in specs/Steps.antt, or one premise of it, and what it
-- means that the law doesn't hold with such a step (PROOFS.md, "A gate and its station").
use Rattle.std.specs.Prelude.{◌≡◌, ◌⊎◌, ℕ, ◌+◌, Bool, true, false, List, [], ◌∷◌, ◌++◌, length}
use Rattle.std.specs.Prelude.{is_some}
use Rattle.oyster_account.specs.declared.touch.Act.{Act}
use Rattle.oyster_account.specs.declared.touch.Touch.{Touch}
use Rattle.oyster_account.specs.declared.reply.Reply.{Reply}
use Rattle.reply_book.specs.declared.entry.Entry.{Entry}
use Rattle.reply_book.specs.declared.entry.Found.TheVariants.{New}
use Rattle.reply_book.specs.Tables.{Tables}
use Rattle.reply_book.specs.Lookup.{found}
use Rattle.reply_book.specs.Legal.{IsLegal, history_of, touches_of}
use Rattle.gate_session.specs.declared.answer.Answer.TheVariants as answers
use Rattle.gate_client.specs.File.{waiting_of}
use Rattle.gate_law.specs.Joint.{Joint, IsWaiting, is_given_up}
use Rattle.gate_law.specs.Premises.{Line, OneJournal, SameTables, TheLock}
use Rattle.gate_law.specs.Steps.{Asks, OthersSend, Enters, Hears, GivesUp, Opens, Restarts, Step}
use Rattle.gate_law.specs.Agreement.{IsRunOf, IsRun, IsStart, Agrees}
use Rattle.gate_law.specs.GivenUp.{IsLeftAlone}

-- the gate keeps a touch more while one waits
pub record AsksOutOfTurn (gate : ℕ) (old new : Joint) : Type 0 where
  pub touch : Touch
  pub own : touch.gate ≡ gate
  pub number : touch.number ≡ length old.asked + 1
  pub is : new ≡ record old { asked = old.asked ++ touch ∷ []; waits = true }

-- the gate keeps a touch more by any number, as one that counts from its opening on does
pub record AsksByAnyNumber (gate : ℕ) (old new : Joint) : Type 0 where
  pub touch : Touch
  pub none : old.waits ≡ false
  pub own : touch.gate ≡ gate
  pub is : new ≡ record old { asked = old.asked ++ touch ∷ []; waits = true }

-- the gate keeps a touch of another gate
pub record AsksForAnother (old new : Joint) : Type 0 where
  pub touch : Touch
  pub none : old.waits ≡ false
  pub number : touch.number ≡ length old.asked + 1
  pub is : new ≡ record old { asked = old.asked ++ touch ∷ []; waits = true }

-- the gate gives up the last touch, which may not wait: as one that was given up before
pub record GivesUpAgain (old new : Joint) : Type 0 where
  pub touch : Touch
  pub earlier : List Touch
  pub last : old.asked ≡ earlier ++ touch ∷ []
  pub is : new ≡ record old { asked = old.asked ++ touch ∷ []; waits = false }

-- the gate gives up another touch than the one that waits
pub record GivesUpAnother (old new : Joint) : Type 0 where
  pub touch : Touch
  pub waits : old.waits ≡ true
  pub is : new ≡ record old { asked = old.asked ++ touch ∷ []; waits = false }

-- the gate is opened again, and lets nothing wait
abbrev pub OpensIdle : Joint → Joint → Type 0
OpensIdle old new = new ≡ record old { waits = false }

-- the gate is opened again: the last touch waits, and may wait also where it was given up
pub record OpensAgain (old new : Joint) : Type 0 where
  pub kept : List Touch
  pub waits : Bool
  pub one_journal : OneJournal kept old.asked
  pub last : is_some (waiting_of kept) ≡ true → waits ≡ true
  pub is : new ≡ record old { asked = kept; waits = waits }

-- the gate reads a reply under another number than that of the touch that waits
pub record HearsAnyNumber (old new : Joint) : Type 0 where
  pub touch : Touch
  pub gate : ℕ
  pub number : ℕ
  pub reply : Reply
  pub waiting : IsWaiting old touch
  pub line : Line old.answers (answers.Reply gate number reply)
  pub same_gate : gate ≡ touch.gate
  pub is : new ≡ record old {
    waits = false;
    told = old.told ++ record { touch = touch; reply = reply } ∷ [];
  }

-- the gate reads a reply under another gate than that of the touch that waits
pub record HearsAnyGate (old new : Joint) : Type 0 where
  pub touch : Touch
  pub gate : ℕ
  pub number : ℕ
  pub reply : Reply
  pub waiting : IsWaiting old touch
  pub line : Line old.answers (answers.Reply gate number reply)
  pub same_number : number ≡ touch.number
  pub is : new ≡ record old {
    waits = false;
    told = old.told ++ record { touch = touch; reply = reply } ∷ [];
  }

-- the gate reads a reply under the name of a touch that doesn't wait
pub record HearsUnasked (old new : Joint) : Type 0 where
  pub touch : Touch
  pub gate : ℕ
  pub number : ℕ
  pub reply : Reply
  pub line : Line old.answers (answers.Reply gate number reply)
  pub same_gate : gate ≡ touch.gate
  pub same_number : number ≡ touch.number
  pub is : new ≡ record old {
    waits = false;
    told = old.told ++ record { touch = touch; reply = reply } ∷ [];
  }

-- without Line: the station reads what nobody wrote, as the bytes behind a cut frame
pub record EntersUnsent (cards : ℕ) (old new : Joint) : Type 0 where
  pub touch : Touch
  pub reply : Reply
  pub seat : ℕ
  pub fresh : found old.history touch ≡ New
  pub lock : TheLock cards old.tables old.history touch reply
  pub is : new ≡ record old {
    history = old.history ++ record { touch = touch; reply = reply; seat = seat } ∷ [];
  }

-- without Line: the gate reads a reply that the station didn't write
pub record HearsUnwritten (old new : Joint) : Type 0 where
  pub touch : Touch
  pub reply : Reply
  pub waiting : IsWaiting old touch
  pub is : new ≡ record old {
    waits = false;
    told = old.told ++ record { touch = touch; reply = reply } ∷ [];
  }

-- without Alone: another writes a touch of whichever gate
pub record AnybodySends (old new : Joint) : Type 0 where
  pub touch : Touch
  pub is : new ≡ record old { sent = old.sent ++ touch ∷ [] }

-- without One journal: the gate is opened with another file
pub record OpensAnother (old new : Joint) : Type 0 where
  pub kept : List Touch
  pub is : new ≡ record old { asked = kept; waits = is_some (waiting_of kept) }

-- without One journal: the station is opened with another journal
pub record RestartsAnother (cards : ℕ) (old new : Joint) : Type 0 where
  pub tables : Tables
  pub kept : List Entry
  pub legal : IsLegal tables cards (history_of kept)
  pub is : new ≡ record old { tables = tables; history = kept }

-- without Same tables: the station is opened with other tables
pub record RestartsByOthers (cards : ℕ) (old new : Joint) : Type 0 where
  pub tables : Tables
  pub kept : List Entry
  pub one_journal : OneJournal (touches_of kept) (touches_of old.history)
  pub legal : IsLegal tables cards (history_of kept)
  pub is : new ≡ record old { tables = tables; history = kept }

-- without The lock: a touch is put behind touches after which it wasn't judged
pub record EntersUnjudged (old new : Joint) : Type 0 where
  pub touch : Touch
  pub reply : Reply
  pub seat : ℕ
  pub line : Line old.sent touch
  pub fresh : found old.history touch ≡ New
  pub is : new ≡ record old {
    history = old.history ++ record { touch = touch; reply = reply; seat = seat } ∷ [];
  }

-- each step is also one that lacks its condition or premise
pub record AreWeaker (gate cards : ℕ) (old new : Joint) : Type 0 where
  pub out_of_turn : Asks gate old new → AsksOutOfTurn gate old new
  pub any_number : Asks gate old new → AsksByAnyNumber gate old new
  pub for_another : Asks gate old new → AsksForAnother old new
  pub gives_up_again : GivesUp old new → GivesUpAgain old new
  pub gives_up_another : GivesUp old new → GivesUpAnother old new
  pub opens_again : Opens old new → OpensAgain old new
  pub another_number : Hears old new → HearsAnyNumber old new
  pub another_gate : Hears old new → HearsAnyGate old new
  pub unasked : Hears old new → HearsUnasked old new
  pub unsent : Enters cards old new → EntersUnsent cards old new
  pub unwritten : Hears old new → HearsUnwritten old new
  pub anybody : OthersSend gate old new → AnybodySends old new
  pub another_file : Opens old new → OpensAnother old new
  pub another_journal : Restarts cards old new → RestartsAnother cards old new
  pub other_tables : Restarts cards old new → RestartsByOthers cards old new
  pub unjudged : Enters cards old new → EntersUnjudged old new

-- with such a step beside the others, a run of a station of these tables ends where gate and
-- station don't agree
pub record DoesBreak (tables : Tables) (weaker : ℕ → ℕ → Joint → Joint → Type 0) : Type 0 where
  pub gate : ℕ
  pub cards : ℕ
  pub first : Joint
  pub last : Joint
  pub between : List Joint
  pub by : first.tables ≡ tables
  pub starts : IsStart gate cards first
  pub runs : IsRunOf (λ old new. Step gate cards old new ⊎ weaker gate cards old new)
      first between last
  pub differs : Agrees gate cards last → ⊥

-- with such a step beside the others, a run of a station of these tables goes on from where a touch
-- is given up to where that wasn't left alone
pub record DoesComeBack (tables : Tables) (weaker : ℕ → ℕ → Joint → Joint → Type 0) : Type 0 where
  pub gate : ℕ
  pub cards : ℕ
  pub number : ℕ
  pub first : Joint
  pub mid : Joint
  pub last : Joint
  pub before : List Joint
  pub after : List Joint
  pub by : first.tables ≡ tables
  pub starts : IsStart gate cards first
  pub until : IsRun gate cards first before mid
  pub given_up : is_given_up mid.asked number ≡ true
  pub runs : IsRunOf (λ old new. Step gate cards old new ⊎ weaker gate cards old new) mid after last
  pub differs : IsLeftAlone gate number mid last → ⊥

-- a first and a second touch of gate 7, of these cards and acts
abbrev pub two_touches : ℕ → Act → ℕ → Act → List Touch
two_touches card act next_card next_act =
    record { gate = 7; number = 1; card = card; act = act }
    ∷ record { gate = 7; number = 2; card = next_card; act = next_act } ∷ []

-- the tables make another book than the others of two touches of a gate: as where a top-up after
-- an issue is over the balance limit of the one, and not of the other
pub record AreUnlike (tables others : Tables) : Type 0 where
  pub cards : ℕ
  pub card : ℕ
  pub act : Act
  pub next_card : ℕ
  pub next_act : Act
  pub otherwise : SameTables cards (two_touches card act next_card next_act) tables others → ⊥
