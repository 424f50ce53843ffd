use Rattle.std.proofs.Common.{◌≡◌, true, ◌||◌, List, ◌∷◌, ap, ◌∙◌, sym, subst, rules, arith}
use Rattle.std.specs.Int.RustNames.{FitsSigned}
use Rattle.std.specs.Int.{w64, cast_signed, cast_unsigned}
use Rattle.std.proofs.lemmas.Int.{to_z-of_z}
use Rattle.money_time.specs.declared.stamp.Stamp.{Stamp}
use Rattle.fare_table.specs.Fares.{content_of}
use Rattle.fare_table.specs.declared.fares.Fares.{Fares}
use Rattle.oyster_account.specs.declared.touch.Act.{Act}
use Rattle.oyster_account.specs.Scheme.{Terms, scheme_of, terms_of}
use Rattle.oyster_account.specs.Account.{IsAccountOf, IsSound, acts_after}
use Rattle.oyster_account.specs.Refusal.{refusal_by}
use Rattle.oyster_account.specs.Balance.{is_issue, is_issued}
use Rattle.oyster_account.specs.Judge.{refused}
use Rattle.oyster_account.proofs.HistoryLemmas.{unrefused_sound, unrefused_issued}
use Rattle.oyster_account.proofs.AccountLemmas.{schedule-priced, kept-near, judged-refused, judged-granted, view-issued}
use Rattle.oyster_account.proofs.AccountLemmas.{acts_after-refused, acts_after-granted}
use Rattle.oyster_account.proofs.account.Account.apply.Goals as goal

-- A refused act: the balance is the one that is seen.
pub returns-in-Some-clause-judged : goal.returns-in-Some-clause-judged
returns-in-Some-clause-judged c acts order is =
    let old : FitsSigned w64 c.balance-old.result = search rules in
    let seen : FitsSigned w64 c.view-view.result.balance = search rules in
    let scheme = scheme_of c.args.schedule.now in
    let table = ap (λ (t : Fares). terms_of (content_of t)) c.fares_for-fares.ensures.value
    ∙ ap (λ (s : Stamp). scheme.on s.day) c.requires.stamped in
    judged-refused scheme acts c.args.act.now c.args.self.now c.is_backwards-backwards.result _ is
    (c.is_backwards-backwards.ensures.value scheme acts c.requires.stamped is)
    (to_z-of_z w64 c.balance-old.result old ∙ c.balance-old.ensures.value scheme acts is)
    c.in-Some.refusal c.view-view.result c.refused.result
    (c.in-Some.ensures ∙ ap (λ (t : Terms). refusal_by t c.args.self.now.issued c.is_backwards-backwards.result
    (cast_signed w64 (cast_unsigned w64 c.balance-old.result)) c.args.act.now) table)
    (c.view-view.ensures scheme acts is)
    (c.refused.ensures ∙ ap (refused c.in-Some.refusal) (to_z-of_z w64 c.view-view.result.balance seen))

-- It leaves the acts.
pub returns-in-Some-clause-of : goal.returns-in-Some-clause-of
returns-in-Some-clause-of c acts order is =
    subst (λ (made : List Act). IsAccountOf (scheme_of c.args.schedule.now) made c.args.self.now)
    (sym (ap (acts_after acts c.args.act.now) c.refused.ensures
    ∙ acts_after-refused acts c.args.act.now c.in-Some.refusal (cast_signed w64
    (cast_unsigned w64 c.view-view.result.balance)))) is

pub returns-in-Some-clause-safe : goal.returns-in-Some-clause-safe
returns-in-Some-clause-safe c count safe = record {
  travels = record {
    newest = safe.travels.newest;
    last = safe.travels.last;
    spent = omega (arith, safe.travels.spent);
    charged = safe.travels.charged;
  };
  paid = omega (arith, safe.paid);
}

-- What isn't refused is of a known station and of a right amount.
pub add-acceptance-requires-clause-sound : goal.add-acceptance-requires-clause-sound
add-acceptance-requires-clause-sound c =
    subst (λ (t : Fares). IsSound (terms_of (content_of t)) c.args.act.now) c.fares_for-fares.ensures.value
    (unrefused_sound (terms_of (content_of c.fares_for-fares.result.now)) c.args.self.now.issued
    c.is_backwards-backwards.result _
    c.args.act.now (sym c.in-None.ensures))

-- An act moves the balance by less than an i32 holds.
pub granted-requires-clause-falls : goal.granted-requires-clause-falls
granted-requires-clause-falls c =
    let terms = terms_of (content_of c.fares_for-fares.result.now) in
    let scheme = scheme_of c.args.schedule.now in
    let acts = c.requires.stands.0 in
    (kept-near scheme (schedule-priced c.args.schedule.now) terms c.args.act.now acts _ _
    (unrefused_sound terms c.args.self.now.issued c.is_backwards-backwards.result _ c.args.act.now
    (sym c.in-None.ensures))
    (to_z-of_z w64 c.balance-old.result (search rules) ∙ c.balance-old.ensures.value scheme acts c.requires.stands.2)
    (to_z-of_z w64 c.balance-new.result (search rules) ∙ c.balance-new.ensures.value scheme (c.args.act.now ∷ acts)
    (c.add-acceptance.ensures.of acts c.requires.stands.1 c.requires.stands.2))).0

pub granted-requires-clause-rises : goal.granted-requires-clause-rises
granted-requires-clause-rises c =
    let terms = terms_of (content_of c.fares_for-fares.result.now) in
    let scheme = scheme_of c.args.schedule.now in
    let acts = c.requires.stands.0 in
    (kept-near scheme (schedule-priced c.args.schedule.now) terms c.args.act.now acts _ _
    (unrefused_sound terms c.args.self.now.issued c.is_backwards-backwards.result _ c.args.act.now
    (sym c.in-None.ensures))
    (to_z-of_z w64 c.balance-old.result (search rules) ∙ c.balance-old.ensures.value scheme acts c.requires.stands.2)
    (to_z-of_z w64 c.balance-new.result (search rules) ∙ c.balance-new.ensures.value scheme (c.args.act.now ∷ acts)
    (c.add-acceptance.ensures.of acts c.requires.stands.1 c.requires.stands.2))).1

-- An accepted act: the new balance is that of the acts with it.
pub returns-in-None-clause-judged : goal.returns-in-None-clause-judged
returns-in-None-clause-judged c acts order is =
    let scheme = scheme_of c.args.schedule.now in
    let table = ap (λ (t : Fares). terms_of (content_of t)) c.fares_for-fares.ensures.value
    ∙ ap (λ (s : Stamp). scheme.on s.day) c.requires.stamped in
    let old : FitsSigned w64 c.balance-old.result = search rules in
    let new : FitsSigned w64 c.balance-new.result = search rules in
    let with_it = c.add-acceptance.ensures.of acts order is in
    let new_is = to_z-of_z w64 c.balance-new.result new ∙ c.balance-new.ensures.value scheme
    (c.args.act.now ∷ acts) with_it in
    let issued : is_issued (c.args.act.now ∷ acts) ≡ true =
    ap (λ b. is_issue c.args.act.now || b) (sym is.issued)
    ∙ unrefused_issued (terms_of (content_of c.fares_for-fares.result.now)) c.args.self.now.issued
    c.is_backwards-backwards.result
    _ c.args.act.now (sym c.in-None.ensures) in
    judged-granted scheme acts c.args.act.now c.args.self.now c.is_backwards-backwards.result _ is
    (c.is_backwards-backwards.ensures.value scheme acts c.requires.stamped is)
    (to_z-of_z w64 c.balance-old.result old ∙ c.balance-old.ensures.value scheme acts is)
    c.add-acceptance.result _ _ c.granted.result
    (c.in-None.ensures ∙ ap (λ (t : Terms). refusal_by t c.args.self.now.issued c.is_backwards-backwards.result
    (cast_signed w64 (cast_unsigned w64 c.balance-old.result)) c.args.act.now) table)
    new_is (view-issued scheme (c.args.act.now ∷ acts) c.state-state.result _ issued
    (c.state-state.ensures scheme (c.args.act.now ∷ acts) with_it) new_is)
    (c.add-acceptance.ensures.acceptance acts is) c.granted.ensures

-- It is the newest of the acts.
pub returns-in-None-clause-of : goal.returns-in-None-clause-of
returns-in-None-clause-of c acts order is =
    subst (λ (made : List Act). IsAccountOf (scheme_of c.args.schedule.now) made c.add-acceptance.new.self)
    (sym (ap (acts_after acts c.args.act.now) c.granted.ensures
    ∙ acts_after-granted acts c.args.act.now c.add-acceptance.result
    (cast_signed w64 (cast_unsigned w64 c.balance-old.result)) (cast_signed w64
    (cast_unsigned w64 c.balance-new.result))))
    (c.add-acceptance.ensures.of acts order is)
