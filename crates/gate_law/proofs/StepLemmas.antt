-- That each step keeps what holds of a gate and its station.
use Rattle.std.proofs.Common.{◌≡◌, inl, inr, ℕ, ◌+◌, ◌==◌, Bool, true, false, cond, List, [], ◌∷◌, ◌++◌, length}
use Rattle.std.proofs.Common.{is_some, refl, sym, ap, ◌∙◌, subst, append-nil, length-append}
use Rattle.std.specs.Prelude.{Contains, slice_get}
use Rattle.oyster_account.specs.declared.touch.Touch.{Touch}
use Rattle.oyster_account.specs.declared.reply.Reply.{Reply}
use Rattle.oyster_account.specs.declared.reply.Judged.{Judged}
use Rattle.reply_book.specs.declared.entry.Entry.{Entry}
use Rattle.reply_book.specs.Laws.{IsEntryAt}
use Rattle.reply_book.specs.Legal.{history_of, touches_of, book}
use Rattle.reply_book.proofs.PlaceLemmas.{slice_get-behind, slice_get-of}
use Rattle.reply_book.proofs.NameLemmas.{equal}
use Rattle.reply_book.proofs.LegalLemmas.{touches_in-history_of, legal-add, legal-is_book}
use Rattle.reply_book.proofs.LawLemmas.{first-exact}
use Rattle.reply_book.proofs.CallerLemmas.{judged_of, history_of-push, touches_of-push}
use Rattle.gate_session.specs.declared.answer.Answer.TheVariants as answers
use Rattle.gate_client.specs.File.{waiting_of}
use Rattle.gate_client.proofs.NumberLemmas.{numbered-push}
use Rattle.gate_law.specs.Joint.{Joint, of_gate, is_given_up, not_given_up}
use Rattle.gate_law.specs.Steps.{Asks, Sends, OthersSend, Enters, Answers, Tells, Hears, GivesUp, Opens, Restarts, Step}
use Rattle.gate_law.specs.Steps.{is_reply}
use Rattle.gate_law.specs.Agreement.{IsRunOf, IsRun, AreInOrder}
use Rattle.gate_law.proofs.ListLemmas.{contained, contains-left, contains-push_cases, of_gate-push}
use Rattle.gate_law.proofs.FileLemmas.{left-asked, left-asked_file, left-push, left-same, order-given_up, number-waits}
use Rattle.gate_law.proofs.HoldsLemmas.{IsAnswered, Holds, grown, order-as, judged-in, once, same-touch, waiting-asked}
use Rattle.gate_law.proofs.HoldsLemmas.{waiting-own, waiting-number, all-there, new-last}

module _ (gate cards : ℕ) (old new : Joint) (h : Holds gate cards old) where
  -- the gate's touches in the history before the step
  abbrev was : List Touch
  was = of_gate gate (touches_of old.history)

  asks : Asks gate old new → Holds gate cards new
  asks a = subst (Holds gate cards) (sym a.is) (record {
    numbered = numbered-push gate old.asked a.touch h.numbered
        (inl (record { of_gate = a.own; by_place = a.number }));
    waits = λ is.
        ap is_some (number-waits old.asked a.touch (a.number ∙ sym (length-append old.asked (a.touch ∷ []))));
    sent = λ t there own. contains-left old.asked (a.touch ∷ []) t (h.sent t there own);
    kept = λ t own there. contains-left old.asked (a.touch ∷ []) t (h.kept t own there);
    legal = h.legal;
    row = elim h.row [
      | inl all ↦
          inr (record {
            last = a.touch;
            parts = left-asked_file old.asked a.touch a.number
                ∙ ap (λ (l : List Touch). l ++ a.touch ∷ []) (sym (left-asked old.asked a.touch a.number was ∙ all));
            is = refl;
          })
      | inr r ↦ let no : true ≡ false = sym r.is ∙ a.none in absurd cc
    ];
    answered = h.answered;
    told = λ judged there.
        let was = h.told judged there in (contains-left old.asked (a.touch ∷ []) judged.touch was.0, was.1);
  })

  sends : Sends old new → Holds gate cards new
  sends a = subst (Holds gate cards) (sym a.is) (record {
    numbered = h.numbered;
    waits = h.waits;
    sent = λ t there own. elim (contains-push_cases old.sent a.touch t there) [
      | inl before ↦ h.sent t before own
      | inr last ↦
          subst (λ (x : Touch). Contains old.asked x) last (waiting-asked gate cards old h a.touch a.waiting)
    ];
    kept = h.kept;
    legal = h.legal;
    row = h.row;
    answered = h.answered;
    told = h.told;
  })

  others_send : OthersSend gate old new → Holds gate cards new
  others_send a = subst (Holds gate cards) (sym a.is) (record {
    numbered = h.numbered;
    waits = h.waits;
    sent = λ t there own. elim (contains-push_cases old.sent a.touch t there) [
      | inl before ↦ h.sent t before own
      | inr last ↦ absurd (a.alone (ap (λ (x : Touch). x.gate) last ∙ own))
    ];
    kept = h.kept;
    legal = h.legal;
    row = h.row;
    answered = h.answered;
    told = h.told;
  })

  enters : Enters cards old new → Holds gate cards new
  enters a = subst (Holds gate cards) (sym a.is) (record {
    numbered = h.numbered;
    waits = h.waits;
    sent = h.sent;
    kept = λ t own there. elim (contains-push_cases (touches_of old.history) a.touch t
        (subst (λ (l : List Touch). Contains l t) (touches_of-push old.history entry) there)) [
          | inl before ↦ h.kept t own before
          | inr last ↦
              subst (Contains old.asked) last
              (h.sent a.touch a.line (ap (λ (x : Touch). x.gate) last ∙ own))
        ];
    legal = legal-add old.tables cards old.history entry a.fresh a.lock h.legal;
    row = row (a.touch.gate == gate) (is_given_up old.asked a.touch.number) refl refl;
    answered = λ number reply there.
        subst (IsAnswered gate number reply) (sym (history_of-push old.history entry))
        (grown gate number reply (history_of old.history) (judged_of entry ∷ []) (h.answered number reply there));
    told = λ judged there.
        let before = h.told judged there in (
          before.0,
          subst (λ (l : List Judged). Contains l judged) (sym (history_of-push old.history entry))
              (contains-left (history_of old.history) (judged_of entry ∷ []) judged before.1),
        );
  })
    where
      entry : Entry
      entry = record { touch = a.touch; reply = a.reply; seat = a.seat }

      more : List Touch
      more = of_gate gate (touches_of (old.history ++ entry ∷ []))

      pushed : (b : Bool) → (a.touch.gate == gate) ≡ b → more ≡ was ++ cond b (a.touch ∷ []) []
      pushed b e = ap (of_gate gate) (touches_of-push old.history entry)
          ∙ of_gate-push gate (touches_of old.history) a.touch
          ∙ ap (λ (c : Bool). was ++ cond c (a.touch ∷ []) []) e

      row : (b c : Bool) → (a.touch.gate == gate) ≡ b → is_given_up old.asked a.touch.number ≡ c
          → AreInOrder more old.asked old.waits
      row true true e up =
          order-as was more old.asked old.waits
          (ap (not_given_up old.asked) (pushed true e) ∙ left-same old.asked was a.touch up) h.row
      row true false e stays =
          inl (ap (not_given_up old.asked) (pushed true e) ∙ left-push old.asked was a.touch stays
          ∙ new-last gate cards old h a.touch a.fresh (h.sent a.touch a.line (equal a.touch.gate gate e)) stays)
      row false c e is =
          order-as was more old.asked old.waits
          (ap (not_given_up old.asked) (pushed false e ∙ append-nil was)) h.row

  answers_ : Answers old new → Holds gate cards new
  answers_ a = subst (Holds gate cards) (sym a.is) (record {
    numbered = h.numbered;
    waits = h.waits;
    sent = h.sent;
    kept = h.kept;
    legal = h.legal;
    row = h.row;
    answered = λ number reply there. elim (contains-push_cases old.answers
        (answers.Reply a.touch.gate a.touch.number a.reply) (answers.Reply gate number reply) there) [
          | inl before ↦ h.answered number reply before
          | inr last ↦ record {
            judged = judged_of at.entry;
            there = contained (history_of old.history) a.place (judged_of at.entry)
                (slice_get-of judged_of old.history a.place at.entry at.at);
            own = ap (λ (t : Touch). t.gate) at.touched ∙ cc;
            named = ap (λ (t : Touch). t.number) at.touched ∙ cc;
            replied = at.replied ∙ cc;
          }
        ];
    told = h.told;
  })
    where
      at : IsEntryAt old.history a.place a.touch a.reply
      at = (first-exact old.history a.touch a.place a.reply (once gate cards old h)).0 a.first

  tells : Tells old new → Holds gate cards new
  tells a = subst (Holds gate cards) (sym a.is) (record {
    numbered = h.numbered;
    waits = h.waits;
    sent = h.sent;
    kept = h.kept;
    legal = h.legal;
    row = h.row;
    answered = λ number reply there. elim (contains-push_cases old.answers a.answer (answers.Reply gate number reply)
        there) [
          | inl before ↦ h.answered number reply before
          | inr last ↦ let no : true ≡ false = ap is_reply (sym last) ∙ a.none in absurd cc
        ];
    told = h.told;
  })

  hears : Hears old new → Holds gate cards new
  hears a = subst (Holds gate cards) (sym a.is) (record {
    numbered = h.numbered;
    waits = λ is. let no : false ≡ true = is in absurd cc;
    sent = h.sent;
    kept = h.kept;
    legal = h.legal;
    row = inl (all-there gate cards old h a.touch a.waiting
        (subst (Contains (touches_of old.history)) same in_history));
    answered = h.answered;
    told = λ judged there. elim (contains-push_cases old.told (record { touch = a.touch; reply = a.reply }) judged
        there) [
          | inl before ↦ h.told judged before
          | inr last ↦
              subst (λ (j : Judged). Contains old.asked j.touch × Contains (history_of old.history) j) (is_it ∙ last)
              (asked, from.there)
        ];
  })
    where
      from : IsAnswered gate a.number a.reply (history_of old.history)
      from = h.answered a.number a.reply (subst (λ (n : ℕ). Contains old.answers (answers.Reply n a.number a.reply))
          (a.same_gate ∙ waiting-own gate cards old h a.touch a.waiting) a.line)

      in_history : Contains (touches_of old.history) from.judged.touch
      in_history = judged-in old.history from.judged from.there

      asked : Contains old.asked from.judged.touch
      asked = h.kept from.judged.touch from.own in_history

      -- so the reply is that of the touch that waits
      same : from.judged.touch ≡ a.touch
      same =
          same-touch gate cards old h from.judged.touch a.touch asked
          (waiting-asked gate cards old h a.touch a.waiting) (from.named ∙ a.same_number)

      is_it : from.judged ≡ record { touch = a.touch; reply = a.reply }
      is_it =
          ap (λ (t : Touch). record { touch = t; reply = from.judged.reply }) same
          ∙ ap (λ (r : Reply). record { touch = a.touch; reply = r }) from.replied

  gives_up : GivesUp old new → Holds gate cards new
  gives_up a = subst (Holds gate cards) (sym a.is) (record {
    numbered = numbered-push gate old.asked a.touch h.numbered (inr (record {
      before = length a.waited.earlier;
      behind = size;
      same = ap (λ (l : List Touch). slice_get l (length a.waited.earlier)) a.waited.last
          ∙ slice_get-behind a.waited.earlier a.touch [];
      own = record { of_gate = waiting-own gate cards old h a.touch a.waited; by_place = number ∙ size };
    }));
    waits = λ is. let no : false ≡ true = is in absurd cc;
    sent = λ t there own. contains-left old.asked (a.touch ∷ []) t (h.sent t there own);
    kept = λ t own there. contains-left old.asked (a.touch ∷ []) t (h.kept t own there);
    legal = h.legal;
    row = inl (order-given_up old.asked a.waited.earlier a.touch a.waited.last number was old.waits h.row);
    answered = h.answered;
    told = λ judged there.
        let was = h.told judged there in (contains-left old.asked (a.touch ∷ []) judged.touch was.0, was.1);
  })
    where
      number : a.touch.number ≡ length old.asked
      number = waiting-number gate cards old h a.touch a.waited

      size : length old.asked ≡ length a.waited.earlier + 1
      size = ap length a.waited.last ∙ length-append a.waited.earlier (a.touch ∷ [])

  opens : Opens old new → Holds gate cards new
  opens a = subst (Holds gate cards) (sym (a.is ∙ ap (λ (l : List Touch). record old {
    asked = l;
    waits = is_some (waiting_of l);
  }) a.one_journal)) (record {
    numbered = h.numbered;
    waits = λ is. is;
    sent = h.sent;
    kept = h.kept;
    legal = h.legal;
    row = elim h.row [
      | inl all ↦ inl all
      | inr r ↦ inr (record { last = r.last; parts = r.parts; is = h.waits r.is })
    ];
    answered = h.answered;
    told = h.told;
  })

  restarts : Restarts cards old new → Holds gate cards new
  restarts a = subst (Holds gate cards) (sym a.is) (record {
    numbered = h.numbered;
    waits = h.waits;
    sent = h.sent;
    kept = λ t own there. h.kept t own (subst (λ (l : List Touch). Contains l t) a.one_journal there);
    legal = a.legal;
    row = subst (λ (l : List Touch). AreInOrder (of_gate gate l) old.asked old.waits) (sym a.one_journal) h.row;
    answered = λ number reply there.
        subst (IsAnswered gate number reply) (sym same) (h.answered number reply there);
    told = λ judged there.
        let before = h.told judged there in
        (before.0, subst (λ (l : List Judged). Contains l judged) (sym same) before.1);
  })
    where
      -- each touch has the reply that it had
      same : history_of a.kept ≡ history_of old.history
      same =
          legal-is_book a.tables cards (history_of a.kept) a.legal
          ∙ ap (book a.tables cards) (touches_in-history_of a.kept ∙ a.one_journal)
          ∙ a.same_tables
          ∙ ap (book old.tables cards) (sym (touches_in-history_of old.history))
          ∙ sym (legal-is_book old.tables cards (history_of old.history) h.legal)

  pub kept : Step gate cards old new → Holds gate cards new
  kept s = elim s [
    | inl a ↦ asks a
    | inr s1 ↦ elim s1 [
      | inl a ↦ sends a
      | inr s2 ↦ elim s2 [
        | inl a ↦ others_send a
        | inr s3 ↦ elim s3 [
          | inl a ↦ enters a
          | inr s4 ↦ elim s4 [
            | inl a ↦ answers_ a
            | inr s5 ↦ elim s5 [
              | inl a ↦ tells a
              | inr s6 ↦ elim s6 [
                | inl a ↦ hears a
                | inr s7 ↦ elim s7 [
                  | inl a ↦ opens a
                  | inr s8 ↦ elim s8 [ inl a ↦ restarts a | inr a ↦ gives_up a ]
                ]
              ]
            ]
          ]
        ]
      ]
    ]
  ]

-- a run, and then another one from where it ends
pub run-append : (step : Joint → Joint → Type 0) (old mid new : Joint) (xs ys : List Joint) → IsRunOf step old xs mid
    → IsRunOf step mid ys new → IsRunOf step old (xs ++ ys) new
run-append step old mid new [] ys is more = subst (λ (s : Joint). IsRunOf step s ys new) is more
run-append step old mid new (x ∷ xs) ys is more = (is.0, run-append step x mid new xs ys is.1 more)

pub runs : (gate cards : ℕ) (old new : Joint) (between : List Joint) → Holds gate cards old
    → IsRun gate cards old between new → Holds gate cards new
runs gate cards old new [] h is = subst (Holds gate cards) (sym is) h
runs gate cards old new (next ∷ later) h is = runs gate cards next new later (kept gate cards old next h is.0) is.1
