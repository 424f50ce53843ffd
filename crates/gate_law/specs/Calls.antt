-- Which step of gate_law each call of gate_client is, by what its clauses say of the client
-- before and after (PROOFS.md, "A gate and its station").
use Rattle.std.specs.Prelude.{◌≡◌, ◌⊎◌, ℕ, List, [], ◌∷◌, ◌++◌, map, Some, None}
use Rattle.oyster_account.specs.declared.touch.Act.{Act}
use Rattle.oyster_account.specs.declared.touch.Touch.{Touch}
use Rattle.oyster_account.specs.declared.reply.Reply.{Reply}
use Rattle.oyster_account.specs.Touch.{Fits}
use Rattle.tap_disk.specs.declared.disk.Disk.{Ghosts}
use Rattle.tap_journal.specs.Image.{Image, WithOrWithout}
use Rattle.gate_session.specs.declared.request.Request.TheVariants as requests
use Rattle.gate_session.specs.declared.answer.Answer.TheVariants as answers
use Rattle.gate_session.specs.Frames.{RequestFits, request_frame}
use Rattle.text_io.specs.Writing.{IsCutShort}
use Rattle.gate_client.specs.declared.client.Client.{Client}
use Rattle.gate_client.specs.File.{header_by, next_touch}
use Rattle.gate_client.specs.Client.{HasAsked, IsOpened, answered, gate_of, waits_of, disk_of}
use Rattle.gate_client.specs.Client.{header_in}
use Rattle.gate_client.specs.Heard.{frame_of}
use Rattle.gate_law.specs.Joint.{Joint}
use Rattle.gate_law.specs.Premises.{Line}
use Rattle.gate_law.specs.Steps.{Asks, Sends, Hears, GivesUp, Opens}
use Rattle.gate_law.specs.Lines.{IsWritten}
use Rattle.gate_law.specs.Gate.{IsGateOf, LeadsTo, asked_in, sent_in, heard_in, given_up_in}
use Rattle.gate_law.specs.Gate.{opened_in}

-- the text is whole frames of these touches, and then nothing, or a part of one more
abbrev pub AreWritten : List ℕ → List Touch → Type 0
AreWritten text touches = IsWritten RequestFits request_frame text (map requests.Touch touches)

module _ {D : Type 0} {g : Ghosts D} where
  -- `Client::ask` has handed out this touch: none waited, it stands behind those kept before, and
  -- waits
  pub record HasKept (asked : List Touch) (touch : Touch) (old new : Client D g) : Type 0 where
    pub none : waits_of old ≡ None
    pub kept : HasAsked (asked ++ touch ∷ []) new
    pub waits : waits_of new ≡ Some touch
    pub gate : gate_of new ≡ gate_of old

  -- that is the step Asks
  abbrev pub IsAsking : Client D g → Client D g → Type 0
  IsAsking old new = (gate : ℕ) (s : Joint) (touch : Touch) → IsGateOf gate s old
      → HasKept s.asked touch old new → LeadsTo (Asks gate) gate s (asked_in s touch) new

  -- where `Client::send` has written the whole frame of the touch that waits, that is the step
  -- Sends, and on the line stands this touch
  abbrev pub IsSending : Client D g → Type 0
  IsSending client = (gate : ℕ) (s : Joint) (touch : Touch) (text : List ℕ) → IsGateOf gate s client
      → waits_of client ≡ Some touch → Fits touch → text ≡ frame_of touch
      → LeadsTo Sends gate s (sent_in s touch) client × AreWritten text (touch ∷ [])

  -- where some of the frame is missing, on the line stands no touch
  abbrev pub IsSendingInPart : Client D g → Type 0
  IsSendingInPart client = (touch : Touch) (text : List ℕ) → waits_of client ≡ Some touch
      → Fits touch → IsCutShort text (frame_of touch) → AreWritten text []

  -- `Client::hear` has handed out a reply to this touch, which waited, and nothing else has changed
  pub record HasHeard (asked : List Touch) (touch : Touch) (old new : Client D g) : Type 0 where
    pub waited : waits_of old ≡ Some touch
    pub answered : new ≡ answered old
    pub kept : HasAsked asked new

  -- that is the step Hears, where the reply that was read under the touch's gate and number was
  -- written before (the premise Line)
  abbrev pub IsHearing : Client D g → Client D g → Type 0
  IsHearing old new = (gate : ℕ) (s : Joint) (touch : Touch) (reply : Reply) → IsGateOf gate s old
      → HasHeard s.asked touch old new
      → Line s.answers (answers.Reply touch.gate touch.number reply)
      → LeadsTo Hears gate s (heard_in s touch reply) new

  -- `Client::give_up` has given up this touch, which waited: it stands once more behind those kept
  -- before, and none waits
  pub record HasGivenUp (asked : List Touch) (touch : Touch) (old new : Client D g) : Type 0 where
    pub waited : waits_of old ≡ Some touch
    pub kept : HasAsked (asked ++ touch ∷ []) new
    pub none : waits_of new ≡ None
    pub gate : gate_of new ≡ gate_of old

  -- that is the step GivesUp
  abbrev pub IsGivingUp : Client D g → Client D g → Type 0
  IsGivingUp old new = (gate : ℕ) (s : Joint) (touch : Touch) → IsGateOf gate s old
      → HasGivenUp s.asked touch old new → LeadsTo GivesUp gate s (given_up_in s touch) new

  -- `Client::open` has opened the file of the touches that are kept: that is the step Opens, and
  -- its premise One journal holds
  abbrev pub IsOpening : Client D g → Type 0
  IsOpening client = (gate capacity : ℕ) (s : Joint) (content : List ℕ)
      → Image (header_by gate capacity) s.asked content → g.honest (disk_of client)
      → IsOpened gate content client → LeadsTo Opens gate s (opened_in s) client

  -- what an opening behind a crash of `Client::ask` is: the step Opens alone, or Asks and then
  -- Opens
  abbrev pub OpensEither : ℕ → Joint → Touch → Client D g → Type 0
  OpensEither gate s touch client = LeadsTo Opens gate s (opened_in s) client
      ⊎ (Asks gate s (asked_in s touch)
      × LeadsTo Opens gate (asked_in s touch) (opened_in (asked_in s touch)) client)

  -- so it is where `Client::open` has opened what a crash at some moment of `Client::ask` left
  abbrev pub IsOpeningAfterAsking : Client D g → Client D g → Type 0
  IsOpeningAfterAsking old client = (gate card : ℕ) (act : Act) (s : Joint) (content : List ℕ)
      → IsGateOf gate s old → waits_of old ≡ None
      → WithOrWithout (header_in old) s.asked (next_touch gate s.asked card act) content
      → g.honest (disk_of client) → IsOpened gate content client
      → OpensEither gate s (next_touch gate s.asked card act) client

  -- what an opening behind a crash of `Client::give_up` is: the step Opens alone, or GivesUp and
  -- then Opens
  abbrev pub OpensGivenUp : ℕ → Joint → Touch → Client D g → Type 0
  OpensGivenUp gate s touch client = LeadsTo Opens gate s (opened_in s) client
      ⊎ (GivesUp s (given_up_in s touch)
      × LeadsTo Opens gate (given_up_in s touch) (opened_in (given_up_in s touch)) client)

  -- so it is where `Client::open` has opened what a crash at some moment of `Client::give_up` left
  abbrev pub IsOpeningAfterGivingUp : Client D g → Client D g → Type 0
  IsOpeningAfterGivingUp old client = (gate : ℕ) (s : Joint) (touch : Touch) (content : List ℕ)
      → IsGateOf gate s old → waits_of old ≡ Some touch
      → WithOrWithout (header_in old) s.asked touch content → g.honest (disk_of client)
      → IsOpened gate content client → OpensGivenUp gate s touch client
