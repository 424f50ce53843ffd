-- What a judged history shows: its travel is in order, and its accepted acts grow by the newest touch.
use Rattle.std.proofs.Common.{◌≡◌, ℕ, ℤ, ◌≤◌, Bool, true, false, List, [], ◌∷◌, ◌++◌, Option, Some, None, IsTrue, refl}
use Rattle.std.proofs.Common.{sym, ap, ◌∙◌, reverse, arith, not, ◌&&◌, ◌||◌, ◌==◌, nat_lt, cond, map, filter}
use Rattle.std.specs.Prelude.{int_lt}
use Rattle.std.proofs.lemmas.Bool.{ltb-false}
use Rattle.std.proofs.lemmas.Bool.Decides.{nat_tests}
use Rattle.std.proofs.lemmas.Int.{ints}
use Rattle.std.proofs.lemmas.List.{reverse-append}
use Rattle.oyster_account.specs.declared.touch.Act.{Act}
use Rattle.oyster_account.specs.declared.touch.Act.TheVariants.{Enter, Leave, TopUp, Issue, Revise}
use Rattle.oyster_account.specs.declared.travel.Passage.{Passage}
use Rattle.oyster_account.specs.declared.reply.Judged.{Judged}
use Rattle.oyster_account.specs.declared.reply.Reply.{Reply}
use Rattle.oyster_account.specs.declared.refusal.TheConstants.{TOP_UP_LIMIT}
use Rattle.oyster_account.specs.declared.verdict.Refusal.{Refusal}
use Rattle.oyster_account.specs.declared.verdict.Refusal.TheVariants.{UnknownCard, AlreadyIssued, UnknownStation}
use Rattle.oyster_account.specs.declared.verdict.Refusal.TheVariants.{Backwards, LowBalance, BadAmount, OverLimit}
use Rattle.oyster_account.specs.declared.verdict.Refusal.TheVariants.{BadDay}
use Rattle.oyster_account.specs.declared.touch.Touch.{Touch}
use Rattle.oyster_account.specs.Touch.{is_revision, is_of}
use Rattle.oyster_account.specs.Scheme.{Scheme, Terms}
use Rattle.oyster_account.specs.Travel.{Tap, passage_of, travel, day_of}
use Rattle.oyster_account.specs.History.{is_accepted, counts_for, accepted, accepted_acts}
use Rattle.oyster_account.specs.Balance.{is_issue, is_issued, balance}
use Rattle.oyster_account.specs.Refusal.{is_station_unknown, is_balance_low, is_amount_bad, is_over_limit, is_before}
use Rattle.oyster_account.specs.Refusal.{is_passage_backwards, is_backwards, refuse, refusal_by, terms_for, refusal}
use Rattle.oyster_account.specs.Judge.{reply_by, judge}
use Rattle.oyster_account.specs.Order.{GoesOn, IsAfter, IsInOrder}
use Rattle.oyster_account.specs.Account.{IsSound, acts_after}
use Rattle.oyster_account.specs.Standing.{AreOf}

-- where nothing refuses, the first test fails and nothing after it refuses
refuse-None : (b : Bool) (r : Refusal) (others : Option Refusal) → refuse b r others ≡ None →
    (b ≡ false) × (others ≡ None)
refuse-None true r others is = absurd (cc)
refuse-None false r others is = (refl, is)

not-false : (b : Bool) → not b ≡ false → IsTrue b
not-false true is = refl
not-false false is = absurd (cc)

or_left : (a b : Bool) → (a || b) ≡ false → a ≡ false
or_left true b is = absurd (cc)
or_left false b is = refl

or_right : (a b : Bool) → (a || b) ≡ false → b ≡ false
or_right true b is = absurd (cc)
or_right false b is = is

top_up_sound : (pence : ℕ) → ((pence == 0) || nat_lt TOP_UP_LIMIT pence) ≡ false → pence ≤ TOP_UP_LIMIT
top_up_sound pence is = ltb-false TOP_UP_LIMIT pence (or_right (pence == 0) (nat_lt TOP_UP_LIMIT pence) is)

-- where nothing refuses, the station is known, the act doesn't go back and the amount is right
unrefused : (t : Terms) (issued back : Bool) (b : ℤ) (act : Act) → refusal_by t issued back b act ≡ None →
    (is_station_unknown t act ≡ false) × (back ≡ false) × (is_amount_bad act ≡ false)
unrefused t issued back b act is =
    let over : Option Refusal = refuse (is_over_limit t b act) OverLimit None in
    let amount : Option Refusal = refuse (is_amount_bad act) BadAmount over in
    let low : Option Refusal = refuse (is_balance_low t b act) LowBalance amount in
    let backwards : Option Refusal = refuse back Backwards low in
    let station : Option Refusal = refuse (is_station_unknown t act) UnknownStation backwards in
    let issue : Option Refusal = refuse (issued && is_issue act) AlreadyIssued station in
    let of_card = refuse-None (not issued && not (is_issue act)) UnknownCard issue is in
    let of_issue = refuse-None (issued && is_issue act) AlreadyIssued station of_card.1 in
    let of_station = refuse-None (is_station_unknown t act) UnknownStation backwards of_issue.1 in
    let of_order = refuse-None back Backwards low of_station.1 in
    let of_balance = refuse-None (is_balance_low t b act) LowBalance amount of_order.1 in
    let of_amount = refuse-None (is_amount_bad act) BadAmount over of_balance.1 in
    (of_station.0, of_order.0, of_amount.0)

-- an act that nothing refuses is sound
pub unrefused_sound : (t : Terms) (issued back : Bool) (b : ℤ) (act : Act) → refusal_by t issued back b act ≡ None →
    IsSound t act
unrefused_sound t issued back b (Enter s m) is = not-false (t.knows s) (unrefused t issued back b (Enter s m) is).0
unrefused_sound t issued back b (Leave s m) is = not-false (t.knows s) (unrefused t issued back b (Leave s m) is).0
unrefused_sound t issued back b (TopUp p m) is = top_up_sound p (unrefused t issued back b (TopUp p m) is).2
unrefused_sound t issued back b (Issue m) is = tt
unrefused_sound t issued back b (Revise d m s) is = tt

issued-or : (issued issue : Bool) → (not issued && not issue) ≡ false → (issue || issued) ≡ true
issued-or true true is = refl
issued-or true false is = refl
issued-or false true is = refl
issued-or false false is = absurd (cc)

-- a card is issued after an act that nothing refuses
pub unrefused_issued : (t : Terms) (issued back : Bool) (b : ℤ) (act : Act) → refusal_by t issued back b act ≡ None →
    (is_issue act || issued) ≡ true
unrefused_issued t issued back b act is =
    issued-or issued (is_issue act) (refuse-None (not issued && not (is_issue act)) UnknownCard _ is).0

-- a passage that isn't before the newest one goes on from it
not-before : (earlier later : Passage) → is_before earlier later ≡ false → GoesOn earlier later
not-before earlier later is =
    let of_moment : nat_lt later.stamp.moment earlier.stamp.moment ≡ false =
    or_left _ (int_lt (day_of later) (day_of earlier)) is in
    let of_day : int_lt (day_of later) (day_of earlier) ≡ false =
    or_right (nat_lt later.stamp.moment earlier.stamp.moment) _ is in
    record { moment = ltb-false later.stamp.moment earlier.stamp.moment of_moment; day = grind (arith, ints) }

not-backwards : (taps : List Tap) (passage : Passage) → is_passage_backwards taps passage ≡ false → IsAfter taps passage
not-backwards [] passage is = tt
not-backwards (last ∷ taps) passage is = not-before (passage_of last) passage is

-- an act that doesn't go back keeps travel in order
order-kept : (scheme : Scheme) (acts : List Act) (act : Act) → is_backwards scheme (travel scheme acts) act ≡ false →
    IsInOrder (travel scheme acts) → IsInOrder (travel scheme (act ∷ acts))
order-kept scheme acts (Enter s m) is order = (not-backwards (travel scheme acts) _ is, order)
order-kept scheme acts (Leave s m) is order = (not-backwards (travel scheme acts) _ is, order)
order-kept scheme acts (TopUp p m) is order = order
order-kept scheme acts (Issue m) is order = order
order-kept scheme acts (Revise d m s) is order = order

-- an accepted reply found no refusal
pub accepted_unrefused : (scheme : Scheme) (acts : List Act) (act : Act) (found : Option Refusal) →
    is_accepted (reply_by scheme acts act found) ≡ true → found ≡ None
accepted_unrefused scheme acts act None is = refl
accepted_unrefused scheme acts act (Some UnknownCard) is = absurd (cc)
accepted_unrefused scheme acts act (Some AlreadyIssued) is = absurd (cc)
accepted_unrefused scheme acts act (Some UnknownStation) is = absurd (cc)
accepted_unrefused scheme acts act (Some Backwards) is = absurd (cc)
accepted_unrefused scheme acts act (Some LowBalance) is = absurd (cc)
accepted_unrefused scheme acts act (Some BadAmount) is = absurd (cc)
accepted_unrefused scheme acts act (Some OverLimit) is = absurd (cc)
accepted_unrefused scheme acts act (Some BadDay) is = absurd (cc)

-- an accepted act keeps travel in order
pub judge-in_order : (scheme : Scheme) (acts : List Act) (act : Act) → IsInOrder (travel scheme acts) →
    is_accepted (judge scheme acts act) ≡ true → IsInOrder (travel scheme (act ∷ acts))
judge-in_order scheme acts act order accepted =
    let none : refusal scheme (is_issued acts) (travel scheme acts) (balance scheme acts) act ≡ None =
    accepted_unrefused scheme acts act _ accepted in
    order-kept scheme acts act
    (unrefused (terms_for scheme act) (is_issued acts) (is_backwards scheme (travel scheme acts) act)
    (balance scheme acts) act none).1 order

-- so does an act with the reply that it is given
after-order : (scheme : Scheme) (acts : List Act) (act : Act) (b : Bool) →
    (b ≡ true → IsInOrder (travel scheme (act ∷ acts))) → IsInOrder (travel scheme acts) →
    IsInOrder (travel scheme (cond b (act ∷ acts) acts))
after-order scheme acts act true newest order = newest refl
after-order scheme acts act false newest order = order

pub acts_after-in_order : (scheme : Scheme) (acts : List Act) (act : Act) (reply : Reply) →
    reply ≡ judge scheme acts act → IsInOrder (travel scheme acts) →
    IsInOrder (travel scheme (acts_after acts act reply))
acts_after-in_order scheme acts act reply is order =
    after-order scheme acts act (is_accepted reply)
    (λ accepted. judge-in_order scheme acts act order (ap is_accepted (sym is) ∙ accepted)) order

==-same : (n : ℕ) → (n == n) ≡ true
==-same n = grind (arith, nat_tests)

-- a touch that is no revision is of its card
of_own : (b : Bool) (n : ℕ) → b ≡ false → (not b && (n == n)) ≡ true
of_own true n is = absurd (cc)
of_own false n is = ==-same n

pub is_of-own : (t : Touch) → is_revision t.act ≡ false → IsTrue (is_of t.card t)
is_of-own t is = of_own (is_revision t.act) t.card is

-- a touch of the card counts where it was accepted
newest_act : (of_card is_new : Bool) (j : Judged) (js : List Judged) → of_card ≡ true →
    map (λ (j : Judged). j.touch.act) (cond (of_card && is_new) (j ∷ js) js)
    ≡ cond is_new (j.touch.act ∷ map (λ (j : Judged). j.touch.act) js) (map (λ (j : Judged). j.touch.act) js)
newest_act true true j js is = refl
newest_act true false j js is = refl
newest_act false is_new j js is = absurd (cc)

-- one touch of the card more: it is the newest accepted act, or nothing
pub accepted-append : (n : ℕ) (history : List Judged) (j : Judged) → IsTrue (is_of n j.touch) →
    accepted n (history ++ j ∷ []) ≡ acts_after (accepted n history) j.touch.act j.reply
accepted-append n history j is =
    ap (accepted_acts n) (reverse-append history (j ∷ []))
    ∙ newest_act (is_of n j.touch) (is_accepted j.reply) j (filter (counts_for n) (reverse history)) is

-- a refused touch, of whatever card, doesn't count
uncounted : (of_card new : Bool) (j : Judged) (js : List Judged) → new ≡ false →
    map (λ (j : Judged). j.touch.act) (cond (of_card && new) (j ∷ js) js) ≡ map (λ (j : Judged). j.touch.act) js
uncounted of_card true j js is = absurd (cc)
uncounted true false j js is = refl
uncounted false false j js is = refl

pub accepted-refused : (n : ℕ) (history : List Judged) (j : Judged) → is_accepted j.reply ≡ false →
    accepted n (history ++ j ∷ []) ≡ accepted n history
accepted-refused n history j is =
    ap (accepted_acts n) (reverse-append history (j ∷ []))
    ∙ uncounted (is_of n j.touch) (is_accepted j.reply) j (filter (counts_for n) (reverse history)) is

-- and the touches with it are the card's
pub own-append : (n : ℕ) (history : List Judged) (j : Judged) → IsTrue (is_of n j.touch) → AreOf n history →
    AreOf n (history ++ j ∷ [])
own-append n [] j is own = (is, tt)
own-append n (k ∷ history) j is own = (own.0, own-append n history j is own.1)
