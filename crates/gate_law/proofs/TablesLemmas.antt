-- A run with an opening by other tables, which judge two touches of a gate otherwise: it ends where gate and station
-- don't agree.
use Rattle.std.proofs.Common.{◌≡◌, ◌⊎◌, inl, inr, ℕ, zero, suc, Bool, true, false, cond, List, Some, [], ◌∷◌, ◌++◌}
use Rattle.std.proofs.Common.{refl, ap, sym, ◌∙◌, arith}
use Rattle.std.specs.Prelude.{slice_get}
use Rattle.oyster_account.specs.declared.touch.Act.{Act}
use Rattle.oyster_account.specs.declared.touch.Touch.{Touch}
use Rattle.oyster_account.specs.declared.reply.Reply.{Reply}
use Rattle.oyster_account.specs.declared.reply.Judged.{Judged}
use Rattle.reply_book.specs.declared.entry.Found.TheVariants.{First, Conflict}
use Rattle.reply_book.specs.Lookup.{found, is_same_touch}
use Rattle.reply_book.specs.Tables.{Tables}
use Rattle.reply_book.specs.Legal.{judge_after, book}
use Rattle.reply_book.proofs.LookupLemmas.{is_same_touch-refl}
use Rattle.reply_book.proofs.CallerLemmas.{legal-none, book-legal}
use Rattle.gate_session.specs.declared.answer.Answer.TheVariants as answers
use Rattle.gate_law.specs.Joint.{Joint}
use Rattle.gate_law.specs.Steps.{Step}
use Rattle.gate_law.specs.Agreement.{IsRun, IsStart, Agrees}
use Rattle.gate_law.specs.Weaker.{RestartsByOthers, DoesBreak, AreUnlike}
use Rattle.gate_law.proofs.ListLemmas.{contains-none}
use Rattle.gate_law.proofs.StepLemmas.{run-append}
use Rattle.gate_law.proofs.AgreementLemmas.{they_agree}
use Rattle.gate_law.proofs.WeakerLemmas.{allowed}
use Rattle.gate_law.proofs.RunExamples.{differ, entry, judged, answer, head, next}

-- an equal touch is found by its entry
repeated : (touch : Touch) (place : ℕ) (reply : Reply)
    → cond (is_same_touch touch touch) (First place reply) Conflict ≡ First place reply
repeated touch place reply = ap (λ (b : Bool). cond b (First place reply) Conflict) (is_same_touch-refl touch)

-- of two judged touches that were told, each stands with its reply
both_stand : (j k other : Judged) (place : ℕ) → slice_get (j ∷ k ∷ []) place ≡ Some other → (j ≡ other) ⊎ (k ≡ other)
both_stand j k other zero at = inl cc
both_stand j k other (suc zero) at = inr cc
both_stand j k other (suc (suc place)) at = absurd cc

module _ (tables others : Tables) (cards card : ℕ) (act : Act) (next_card : ℕ) (next_act : Act) where
  abbrev one : Touch
  one = record { gate = 7; number = 1; card = card; act = act }

  abbrev two : Touch
  two = record { gate = 7; number = 2; card = next_card; act = next_act }

  -- their replies by the tables, and by the others
  abbrev reply_one : Tables → Reply
  reply_one ts = judge_after ts cards [] one

  abbrev reply_two : Tables → Reply
  reply_two ts = judge_after ts cards (judged one (reply_one ts) ∷ []) two

  abbrev start : Joint
  start = record { asked = []; waits = false; sent = []; tables = tables; history = []; answers = []; told = [] }

  abbrev asked_one : Joint
  asked_one = record start { asked = one ∷ []; waits = true }

  abbrev sent_one : Joint
  sent_one = record asked_one { sent = one ∷ [] }

  abbrev entered_one : Joint
  entered_one = record sent_one { history = entry one (reply_one tables) 1 ∷ [] }

  abbrev answered_one : Joint
  answered_one = record entered_one { answers = answer one (reply_one tables) ∷ [] }

  abbrev told_one : Joint
  told_one = record answered_one { waits = false; told = judged one (reply_one tables) ∷ [] }

  abbrev asked_two : Joint
  asked_two = record told_one { asked = one ∷ two ∷ []; waits = true }

  abbrev sent_two : Joint
  sent_two = record asked_two { sent = one ∷ two ∷ [] }

  abbrev entered_two : Joint
  entered_two = record sent_two { history = entry one (reply_one tables) 1 ∷ entry two (reply_two tables) 1 ∷ [] }

  abbrev answered_two : Joint
  answered_two = record entered_two { answers = answer one (reply_one tables) ∷ answer two (reply_two tables) ∷ [] }

  abbrev told : Joint
  told = record answered_two {
    waits = false;
    told = judged one (reply_one tables) ∷ judged two (reply_two tables) ∷ [];
  }

  abbrev restarted : Joint
  restarted = record told {
    tables = others;
    history = entry one (reply_one others) 0 ∷ entry two (reply_two others) 0 ∷ [];
  }

  starts : IsStart 7 cards start
  starts = record {
    asked = refl;
    waits = refl;
    sent = λ touch there. absurd (contains-none [] touch refl there);
    legal = legal-none tables cards;
    alone = λ touch there. absurd (contains-none [] touch refl there);
    unanswered = λ number reply there. absurd (contains-none [] (answers.Reply 7 number reply) refl there);
    told = refl;
  }

  asks_one : Step 7 cards start asked_one
  asks_one = inl (record { touch = one; none = refl; own = refl; number = refl; is = refl })

  sends_one : Step 7 cards asked_one sent_one
  sends_one = inr (inl (record {
    touch = one;
    waiting = record { earlier = []; last = refl; waits = refl };
    is = refl;
  }))

  enters_one : Step 7 cards sent_one entered_one
  unfolding found
  enters_one = inr (inr (inr (inl (record {
    touch = one;
    reply = reply_one tables;
    seat = 1;
    line = head one [];
    fresh = refl;
    lock = refl;
    is = refl;
  }))))

  answers_one : Step 7 cards entered_one answered_one
  unfolding found
  answers_one = inr (inr (inr (inr (inl (record {
    touch = one;
    place = 0;
    reply = reply_one tables;
    first = repeated one 0 (reply_one tables);
    is = refl;
  })))))

  hears_one : Step 7 cards answered_one told_one
  hears_one = inr (inr (inr (inr (inr (inr (inl (record {
    touch = one;
    gate = 7;
    number = 1;
    reply = reply_one tables;
    waiting = record { earlier = []; last = refl; waits = refl };
    line = head (answer one (reply_one tables)) [];
    same_gate = refl;
    same_number = refl;
    is = refl;
  })))))))

  asks_two : Step 7 cards told_one asked_two
  asks_two = inl (record { touch = two; none = refl; own = refl; number = refl; is = refl })

  sends_two : Step 7 cards asked_two sent_two
  sends_two = inr (inl (record {
    touch = two;
    waiting = record { earlier = one ∷ []; last = refl; waits = refl };
    is = refl;
  }))

  enters_two : Step 7 cards sent_two entered_two
  unfolding found
  enters_two = inr (inr (inr (inl (record {
    touch = two;
    reply = reply_two tables;
    seat = 1;
    line = next one two [];
    fresh = refl;
    lock = refl;
    is = refl;
  }))))

  answers_two : Step 7 cards entered_two answered_two
  unfolding found
  answers_two = inr (inr (inr (inr (inl (record {
    touch = two;
    place = 1;
    reply = reply_two tables;
    first = repeated two 1 (reply_two tables);
    is = refl;
  })))))

  hears_two : Step 7 cards answered_two told
  hears_two = inr (inr (inr (inr (inr (inr (inl (record {
    touch = two;
    gate = 7;
    number = 2;
    reply = reply_two tables;
    waiting = record { earlier = one ∷ []; last = refl; waits = refl };
    line = next (answer one (reply_one tables)) (answer two (reply_two tables)) [];
    same_gate = refl;
    same_number = refl;
    is = refl;
  })))))))

  abbrev to_one : List Joint
  to_one = asked_one ∷ sent_one ∷ entered_one ∷ answered_one ∷ told_one ∷ []

  runs_to_one : IsRun 7 cards start to_one told_one
  runs_to_one = (asks_one, (sends_one, (enters_one, (answers_one, (hears_one, refl)))))

  abbrev to_two : List Joint
  to_two = asked_two ∷ sent_two ∷ entered_two ∷ answered_two ∷ told ∷ []

  runs_to_two : IsRun 7 cards told_one to_two told
  runs_to_two = (asks_two, (sends_two, (enters_two, (answers_two, (hears_two, refl)))))

  abbrev to_told : List Joint
  to_told = to_one ++ to_two

  runs_to_told : IsRun 7 cards start to_told told
  runs_to_told = run-append (Step 7 cards) start told_one told to_one to_two runs_to_one runs_to_two

  -- both were told with their replies, and both stand after the opening: so these are the same by the other tables
  same_after : Agrees 7 cards restarted → book others cards (one ∷ two ∷ []) ≡ book tables cards (one ∷ two ∷ [])
  same_after a =
      let done_one = a.told (judged one (reply_one tables)) (head (judged one (reply_one tables))
      (judged two (reply_two tables) ∷ [])) in
      let done_two = a.told (judged two (reply_two tables)) (next (judged one (reply_one tables))
      (judged two (reply_two tables)) []) in
      let is_one : judged one (reply_one others) ≡ judged one (reply_one tables) =
      elim (both_stand (judged one (reply_one others)) (judged two (reply_two others)) (judged one (reply_one tables))
      done_one.place done_one.stands) [
        | inl is ↦ is
        | inr other ↦ absurd (differ 1 2 (omega arith) (ap (λ (j : Judged). j.touch.number) other))
      ] in
      let is_two : judged two (reply_two others) ≡ judged two (reply_two tables) =
      elim (both_stand (judged one (reply_one others)) (judged two (reply_two others)) (judged two (reply_two tables))
      done_two.place done_two.stands) [
        | inl other ↦ absurd (differ 1 2 (omega arith) (sym (ap (λ (j : Judged). j.touch.number) other)))
        | inr is ↦ is
      ] in
      ap (λ (j : Judged). j ∷ judged two (reply_two others) ∷ []) is_one
      ∙ ap (λ (j : Judged). judged one (reply_one tables) ∷ j ∷ []) is_two

  breaks : (book others cards (one ∷ two ∷ []) ≡ book tables cards (one ∷ two ∷ []) → ⊥)
      → DoesBreak tables (λ gate cards. RestartsByOthers cards)
  breaks otherwise = record {
    gate = 7;
    cards = cards;
    first = start;
    last = restarted;
    between = to_told ++ restarted ∷ [];
    by = refl;
    starts = starts;
    runs =
        run-append (λ a b. Step 7 cards a b ⊎ RestartsByOthers cards a b) start told restarted to_told (restarted ∷ [])
        (allowed (Step 7 cards) (RestartsByOthers cards) start told to_told runs_to_told) (
          inr (record {
            tables = others;
            kept = restarted.history;
            one_journal = refl;
            legal =
                book-legal others cards (one ∷ two ∷ [])
                (they_agree 7 cards start told to_told starts runs_to_told).legal.once;
            is = refl;
          }),
          refl,
        );
    differs = λ a. otherwise (same_after a);
  }

pub same_tables : (tables others : Tables) → AreUnlike tables others
    → DoesBreak tables (λ gate cards. RestartsByOthers cards)
same_tables tables others unlike =
    breaks tables others unlike.cards unlike.card unlike.act unlike.next_card unlike.next_act unlike.otherwise
