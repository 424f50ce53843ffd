-- A worked example, computed by the definitions: gate 7 settles its touch by two tries. The station is halted at the
-- first, and enters the touch and replies at the second. The law is applied to it, for any client that shows the gate.
use Rattle.std.proofs.Common.{◌≡◌, true, List, [], ◌∷◌, Result, Ok, Err, refl}
use Rattle.oyster_account.specs.declared.reply.Reply.{Reply}
use Rattle.reply_book.specs.Tables.{Tables}
use Rattle.tap_disk.specs.declared.disk.Disk.{Ghosts}
use Rattle.gate_session.specs.declared.answer.Answer.TheVariants as answers
use Rattle.gate_session.specs.declared.answer.FaultCode.TheVariants.{Halted}
use Rattle.gate_client.specs.declared.client.Client.{Client}
use Rattle.gate_client.specs.declared.fault.HearFault.TheVariants.{Refused}
use Rattle.gate_client.specs.declared.attempt.TryFault.{TryFault}
use Rattle.gate_client.specs.declared.attempt.TryFault.TheVariants.{Unheard}
use Rattle.gate_law.specs.Whole.{Whole}
use Rattle.gate_law.specs.WholeSteps.{Step, enters, replies, refuses}
use Rattle.gate_law.specs.WholeAgreement.{AllAgree}
use Rattle.gate_law.specs.Shown.{IsShownBy}
use Rattle.gate_law.specs.Among.{sent_in, heard_in, IsTryAmong, AreTriesAmong, IsRunAmong, AreSteps}
use Rattle.gate_law.specs.Among.{told_by, refused_by}
use Rattle.gate_law.proofs.ListLemmas.{contains-none}
use Rattle.gate_law.proofs.RunExamples.{issued, first, entry, judged, answer, head, next, on_literals}
use Rattle.gate_law.proofs.WholeExamples.{each, start, asked, starts, asks_first}
use Rattle.gate_law.proofs.WholeLemmas.{all_agree}

-- the results of the two tries
abbrev halted : Result Reply TryFault
halted = Err (Unheard (Refused 3))

abbrev replied : Result Reply TryFault
replied = Ok issued

abbrev results : List (Result Reply TryFault)
results = halted ∷ replied ∷ []

-- the caller is told the one reply, and refused the one fault
told_once : told_by first results ≡ judged first issued ∷ []
told_once = refl

refused_once : refused_by first results ≡ record { touch = first; code = 3 } ∷ []
refused_once = refl

module _ (tables : Tables) where
  -- the first try: the frame is written, and the station refuses it
  abbrev sent : Whole
  sent = sent_in first halted (asked tables)

  abbrev refused : Whole
  refused = record sent { answers = answers.Fault 3 7 1 ∷ [] }

  refuses_first : Step each 10 sent refused
  refuses_first =
      refuses (record { touch = first; fault = Halted; line = head first []; cause = tt; is = refl })

  abbrev heard_refusal : Whole
  heard_refusal = heard_in 7 first halted refused

  first_try : IsTryAmong each 10 7 first halted (asked tables) heard_refusal
  first_try = record {
    ready = asked tables;
    before = record { between = []; run = refl; same = refl };
    answered = refused;
    meanwhile = record { between = refused ∷ []; run = (refuses_first, refl); same = refl };
    line = head (answers.Fault 3 7 1) [];
    is = refl;
  }

  -- the second: the station enters the touch, and replies
  abbrev sent_again : Whole
  sent_again = sent_in first replied heard_refusal

  abbrev entered : Whole
  entered = record sent_again {
    station = record {
      journal = first ∷ [];
      capacity = 10;
      going = true;
      tables = tables;
      history = entry first issued 1 ∷ [];
    };
  }

  abbrev answered : Whole
  answered = record entered { answers = answers.Fault 3 7 1 ∷ answer first issued ∷ [] }

  enters_first : Step each 10 sent_again entered
  unfolding on_literals
  enters_first = enters (record {
    touch = first;
    reply = issued;
    seat = 1;
    going = refl;
    line = head first (first ∷ []);
    fresh = refl;
    lock = refl;
    is = refl;
  })

  replies_first : Step each 10 entered answered
  unfolding on_literals
  replies_first = replies (record { touch = first; place = 0; reply = issued; going = refl; first = refl; is = refl })

  abbrev last : Whole
  last = heard_in 7 first replied answered

  second_try : IsTryAmong each 10 7 first replied heard_refusal last
  second_try = record {
    ready = heard_refusal;
    before = record { between = []; run = refl; same = refl };
    answered = answered;
    meanwhile = record { between = entered ∷ answered ∷ []; run = (enters_first, (replies_first, refl)); same = refl };
    line = next (answers.Fault 3 7 1) (answer first issued) [];
    is = refl;
  }

  tries : AreTriesAmong each 10 7 first results (asked tables) last
  tries = (
    heard_refusal,
    first_try,
    (last, second_try, record { between = []; run = refl; same = refl }),
  )

  -- so they are a run of the law, behind which all agree
  module _ {D : Type 0} {g : Ghosts D} (old new : Client D g) (shown : IsShownBy 7 ((asked tables).gates 7) old)
      (steps : AreSteps first results old new) where
    ran : IsRunAmong each 10 7 (asked tables) last new (judged first issued ∷ [])
        (record { touch = first; code = 3 } ∷ [])
    ran = steps each 10 7 (asked tables) last shown tries

    all_agree_then : AllAgree each 10 last
    all_agree_then =
        all_agree each 10 (start tables) last (asked tables ∷ ran.between) (starts tables)
        (asks_first tables, ran.run)

  -- a reply that nobody wrote is heard in no try
  no_unwritten_reply : (new : Whole) (by : IsTryAmong each 10 7 first replied (asked tables) new)
      → by.answered.answers ≡ [] → ⊥
  no_unwritten_reply new by none = contains-none by.answered.answers (answer first issued) none by.line
