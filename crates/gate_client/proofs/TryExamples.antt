-- Worked examples, computed by the definitions: the tries of a settling over two lines, and what isn't one.
use Rattle.std.proofs.Common.{◌≡◌, inl, inr, ℕ, List, [], ◌∷◌, length, Option, Some, None, Result, Ok, Err, refl, sym}
use Rattle.std.proofs.Common.{append-nil, lit≤, arith, pos, negsuc}
use Rattle.oyster_account.specs.declared.touch.Touch.{Touch}
use Rattle.oyster_account.specs.declared.touch.Act.TheVariants.{Enter}
use Rattle.oyster_account.specs.declared.reply.Reply.{Reply}
use Rattle.gate_session.specs.declared.answer.Answer.TheVariants as answers
use Rattle.gate_session.specs.Answers.{answer_frame}
use Rattle.gate_client.specs.Heard.{frame_of}
use Rattle.gate_client.specs.declared.fault.HearFault.TheVariants.{NoAnswer, Refused}
use Rattle.gate_client.specs.declared.attempt.TryFault.TheVariants.{Unheard}
use Rattle.gate_client.specs.declared.settling.Line.{Line}
use Rattle.gate_client.specs.declared.settling.SettleFault.{SettleFault}
use Rattle.gate_client.specs.declared.settling.SettleFault.TheVariants.{Conflict, Tries}
use Rattle.gate_client.specs.Tries.{Try, over, HasPassed, AreTries}

-- a reader that has these bytes left, and a writer that holds these
abbrev Bytes : Type 0
Bytes = List ℕ

abbrev known : Bytes → Option (List ℕ)
known bytes = Some bytes

abbrev line : Bytes → Bytes → Line Bytes Bytes
line unread written = record { reader = unread; writer = written }

-- a touch in of gate 7, and the reply to it
abbrev touch : Touch
touch = record { gate = 7; number = 3; card = 1; act = Enter 2 1_736_150_400 }

abbrev reply : Reply
reply = record { verdict = 1; change = negsuc 899; balance = pos 1100 }

-- the line at hand brings that the station is halted, and a new one brings the reply
abbrev at_hand : Line Bytes Bytes
at_hand = line (answer_frame (answers.Fault 3 7 3)) []

abbrev new : Line Bytes Bytes
new = line (answer_frame (answers.Reply 7 3 reply)) []

-- either after the touch's frame was written to it, and all that it brought was read
abbrev done : Line Bytes Bytes
done = line [] (frame_of touch)

-- every new line is that one
abbrev IsNew : Line Bytes Bytes → Type 0
IsNew made = made ≡ new

abbrev Result_of : Type 0
Result_of = Result (Reply × Line Bytes Bytes) SettleFault

abbrev Are : List (Try Bytes Bytes) → Result_of → Type 0
Are tried result = AreTries known known IsNew touch 5 (Some at_hand) tried result

-- what passes over the first line, and over the second
halted_passed : HasPassed known known touch at_hand done (Err (Unheard (Refused 3)))
halted_passed = record {
  sent = record { text = frame_of touch; appended = refl; says = refl };
  read = sym (append-nil (answer_frame (answers.Fault 3 7 3)));
  cut = λ is. absurd cc;
}

reply_passed : HasPassed known known touch new done (Ok reply)
reply_passed = record {
  sent = record { text = frame_of touch; appended = refl; says = refl };
  read = sym (append-nil (answer_frame (answers.Reply 7 3 reply)));
  cut = λ is. absurd cc;
}

-- fault 3 is followed by a try over a new line, which brings the reply
abbrev first : Try Bytes Bytes
first = over at_hand done (Err (Unheard (Refused 3)))

abbrev second : Try Bytes Bytes
second = over new done (Ok reply)

a_second_try_brings_the_reply : Are (first ∷ second ∷ []) (Ok (reply, done))
a_second_try_brings_the_reply = record {
  follow = (
    record { taken = refl; passed = halted_passed },
    inr (refl, (record { taken = refl; passed = reply_passed }, inl (refl, refl))),
  );
  within = lit≤ tt;
  used_up = λ n is. absurd cc;
}

-- fault 3 doesn't end it as a conflict
no_conflict_of_a_halted_station : Are (first ∷ []) (Err Conflict) → ⊥
no_conflict_of_a_halted_station are = elim are.follow.1 [
  | inl last ↦ let no : None ≡ Some (Err Conflict) = last.1 in absurd cc
  | inr more ↦ let no : Err Conflict ≡ Err (Tries 5) = more.1 in absurd cc
]

-- a line that brings nothing brings no conflict
no_conflict_that_nobody_sent : (left : Line Bytes Bytes)
    → HasPassed known known touch (line [] []) left (Err (Unheard (Refused 2))) → ⊥
no_conflict_that_nobody_sent left passed = let read = passed.read in absurd cc

-- nothing follows a conflict
no_try_behind_a_conflict : (left : Line Bytes Bytes) (next : Try Bytes Bytes) (later : List (Try Bytes Bytes))
    (result : Result_of) → Are (over at_hand left (Err (Unheard (Refused 2))) ∷ next ∷ later) result → ⊥
no_try_behind_a_conflict left next later result are = elim are.follow.1 [
  | inl last ↦ let no : next ∷ later ≡ [] = last.0 in absurd cc
  | inr more ↦ let no : Some (Err Conflict) ≡ None = more.0 in absurd cc
]

-- the second line isn't the first one once more
no_second_try_over_the_same_line : (result : Result_of)
    → Are (first ∷ over at_hand done (Err (Unheard NoAnswer)) ∷ []) result → ⊥
no_second_try_over_the_same_line result are = elim are.follow.1 [
  | inl last ↦ let no : over at_hand done (Err (Unheard NoAnswer)) ∷ [] ≡ [] = last.0 in absurd cc
  | inr more ↦ let same : at_hand ≡ new = more.1.0.taken in absurd cc
]

-- one try isn't five
no_five_tries_in_one : Are (first ∷ []) (Err (Tries 5)) → ⊥
no_five_tries_in_one are =
    let no : length (first ∷ []) ≡ 5 = (are.used_up 5 refl).1 in absurd (omega arith)
