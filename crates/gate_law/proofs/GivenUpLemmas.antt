-- That a touch which a gate has given up is left alone from then on.
use Rattle.std.proofs.Common.{◌≡◌, inl, inr, ℕ, ◌<◌, ◌==◌, Bool, true, false, List, [], ◌∷◌, ◌++◌, length}
use Rattle.std.proofs.Common.{refl, sym, ap, ◌∙◌, subst, arith, append-nil, append_assoc}
use Rattle.std.specs.Prelude.{◌≢◌}
use Rattle.std.proofs.lemmas.List.Elements.{filter-append}
use Rattle.oyster_account.specs.declared.touch.Touch.{Touch}
use Rattle.oyster_account.specs.declared.reply.Judged.{Judged}
use Rattle.reply_book.specs.declared.entry.Entry.{Entry}
use Rattle.reply_book.specs.Tables.{Tables}
use Rattle.gate_session.specs.declared.answer.Answer.{Answer}
use Rattle.gate_law.specs.Joint.{Joint, is_given_up, IsWaiting}
use Rattle.gate_law.specs.Steps.{Hears, Opens, Step}
use Rattle.gate_law.specs.Agreement.{IsRun}
use Rattle.gate_law.specs.GivenUp.{told_of, IsLeftAlone, IsGivenUpForGood}
use Rattle.gate_law.proofs.ListLemmas.{contains-none, contains-push_cases, contains-append_cases}
use Rattle.gate_law.proofs.FilterLemmas.{filter-one}
use Rattle.gate_law.proofs.FileLemmas.{differ, given_up-more, given_up-below}
use Rattle.gate_law.proofs.HoldsLemmas.{Holds, starts, waiting-number}
use Rattle.gate_law.proofs.StepLemmas.{kept, runs}

-- nothing happened to it
same-alone : (gate number : ℕ) (s : Joint) → is_given_up s.asked number ≡ true → IsLeftAlone gate number s s
same-alone gate number s up = record {
  given_up = up;
  told = refl;
  since = [];
  sent = sym (append-nil s.sent);
  never = λ touch there. absurd (contains-none [] touch refl there);
}

-- it was left alone, and then again
further : (gate number : ℕ) (old mid new : Joint) → IsLeftAlone gate number old mid → IsLeftAlone gate number mid new
    → IsLeftAlone gate number old new
further gate number old mid new one two = record {
  given_up = two.given_up;
  told = two.told ∙ one.told;
  since = one.since ++ two.since;
  sent = two.sent ∙ ap (λ (l : List Touch). l ++ two.since) one.sent ∙ append_assoc old.sent one.since two.since;
  never = λ touch there own. elim (contains-append_cases one.since two.since touch there) [
    | inl before ↦ one.never touch before own
    | inr behind ↦ two.never touch behind own
  ];
}

module _ (gate cards number : ℕ) (old new : Joint) (h : Holds gate cards old)
    (up : is_given_up old.asked number ≡ true) where
  -- the touch that waits is another one
  another : (touch : Touch) → IsWaiting old touch → touch.number ≢ number
  another touch waiting is =
      let last : touch.number ≡ length old.asked = waiting-number gate cards old h touch waiting in
      let below : number < length old.asked = given_up-below old.asked number up in
      let same : touch.number ≡ number = is in
      omega (arith, last, below, same)

  -- the file has one touch more
  more-asked : (touch : Touch) (waits : Bool)
      → IsLeftAlone gate number old (record old { asked = old.asked ++ touch ∷ []; waits = waits })
  more-asked touch waits = record {
    given_up = given_up-more old.asked (touch ∷ []) number up;
    told = refl;
    since = [];
    sent = sym (append-nil old.sent);
    never = λ t there. absurd (contains-none [] t refl there);
  }

  -- one touch more was sent
  more-sent : (touch : Touch) → (touch.gate ≡ gate → touch.number ≢ number)
      → IsLeftAlone gate number old (record old { sent = old.sent ++ touch ∷ [] })
  more-sent touch other = record {
    given_up = up;
    told = refl;
    since = touch ∷ [];
    sent = refl;
    never = λ t there. elim (contains-push_cases [] touch t there) [
      | inl none ↦ absurd (contains-none [] t refl none)
      | inr same ↦ subst (λ (u : Touch). u.gate ≡ gate → u.number ≢ number) same other
    ];
  }

  -- one touch more was told
  hears : (a : Hears old new) → IsLeftAlone gate number old new
  hears a = subst (IsLeftAlone gate number old) (sym a.is) (record {
    given_up = up;
    told = filter-append (λ (j : Judged). j.touch.number == number) old.told
        (record { touch = a.touch; reply = a.reply } ∷ [])
        ∙ ap (λ (l : List Judged). told_of number old.told ++ l)
        (filter-one (λ (j : Judged). j.touch.number == number) (record { touch = a.touch; reply = a.reply }) false
        (differ a.touch.number number (another a.touch a.waiting)))
        ∙ append-nil (told_of number old.told);
    since = [];
    sent = sym (append-nil old.sent);
    never = λ t there. absurd (contains-none [] t refl there);
  })

  -- the file is found as it was
  opens : Opens old new → IsLeftAlone gate number old new
  opens a = subst (IsLeftAlone gate number old) (sym a.is) (record {
    given_up = ap (λ (l : List Touch). is_given_up l number) a.one_journal ∙ up;
    told = refl;
    since = [];
    sent = sym (append-nil old.sent);
    never = λ t there. absurd (contains-none [] t refl there);
  })

  -- only the station does something
  of_station : (tables : Tables) (history : List Entry) (answers : List Answer)
      → new ≡ record old { tables = tables; history = history; answers = answers } → IsLeftAlone gate number old new
  of_station tables history answers is = subst (IsLeftAlone gate number old) (sym is) (record {
    given_up = up;
    told = refl;
    since = [];
    sent = sym (append-nil old.sent);
    never = λ t there. absurd (contains-none [] t refl there);
  })

  next : Step gate cards old new → IsLeftAlone gate number old new
  next s = elim s [
    | inl a ↦ subst (IsLeftAlone gate number old) (sym a.is) (more-asked a.touch true)
    | inr s1 ↦ elim s1 [
      | inl a ↦
          subst (IsLeftAlone gate number old) (sym a.is) (more-sent a.touch (λ own. another a.touch a.waiting))
      | inr s2 ↦ elim s2 [
        | inl a ↦
            subst (IsLeftAlone gate number old) (sym a.is) (more-sent a.touch (λ own. absurd (a.alone own)))
        | inr s3 ↦ elim s3 [
          | inl a ↦ of_station old.tables _ old.answers a.is
          | inr s4 ↦ elim s4 [
            | inl a ↦ of_station old.tables old.history _ a.is
            | inr s5 ↦ elim s5 [
              | inl a ↦ of_station old.tables old.history _ a.is
              | inr s6 ↦ elim s6 [
                | inl a ↦ hears a
                | inr s7 ↦ elim s7 [
                  | inl a ↦ opens a
                  | inr s8 ↦ elim s8 [
                    | inl a ↦ of_station a.tables a.kept old.answers a.is
                    | inr a ↦ subst (IsLeftAlone gate number old) (sym a.is) (more-asked a.touch false)
                  ]
                ]
              ]
            ]
          ]
        ]
      ]
    ]
  ]

-- on a run
pub goes-on : (gate cards number : ℕ) (old new : Joint) (between : List Joint) → Holds gate cards old
    → is_given_up old.asked number ≡ true → IsRun gate cards old between new → IsLeftAlone gate number old new
goes-on gate cards number old new [] h up is =
    subst (IsLeftAlone gate number old) (sym is) (same-alone gate number old up)
goes-on gate cards number old new (mid ∷ later) h up is =
    let first = next gate cards number old mid h up is.0 in
    further gate number old mid new first
    (goes-on gate cards number mid new later (kept gate cards old mid h is.0) first.given_up is.1)

pub for_good : IsGivenUpForGood
for_good gate cards number old mid new before after start to_mid to_new up =
    goes-on gate cards number mid new after
    (runs gate cards old mid before (starts gate cards old start) to_mid) up to_new
