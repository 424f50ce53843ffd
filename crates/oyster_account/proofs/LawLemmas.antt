-- The laws of the definitions.
use Rattle.std.proofs.Common.{◌≡◌, ℕ, ◌+◌, Bool, true, false, not, ◌&&◌, ◌||◌, cond, List, [], ◌∷◌, Option, Some, None}
use Rattle.std.proofs.Common.{refl, sym, ap, ◌∙◌, reverse, map, filter, arith}
use Rattle.std.specs.Prelude.{count_by}
use Rattle.std.proofs.lemmas.List.{reverse-append}
use Rattle.oyster_account.specs.declared.reply.Judged.{Judged}
use Rattle.oyster_account.specs.Travel.{Tap, In, Out, travel}
use Rattle.oyster_account.specs.Leg.{is_in_time}
use Rattle.oyster_account.specs.Classes.{IsInOneClass, missing_charges, IsIncompleteMissing}
use Rattle.oyster_account.specs.Charge.{entry_charge, exit_charge, incomplete_charge}
use Rattle.oyster_account.specs.Scheme.{Scheme}
use Rattle.oyster_account.specs.Touch.{is_of}
use Rattle.oyster_account.specs.History.{is_accepted, counts_for, accepted_acts}
use Rattle.oyster_account.specs.Laws.{NeverGoesBack, DoRevisionsKeep, IsViewKept, IsRevisionAhead, AreOthersNothing}
use Rattle.oyster_account.specs.Laws.{AreTablesPriced, DoLegsTakeNothing, judged_next, DoRefusalsChangeNothing}
use Rattle.oyster_account.proofs.AccountLemmas.{schedule-priced, judge-refund}
use Rattle.oyster_account.proofs.HistoryLemmas.{judge-in_order}
use Rattle.oyster_account.proofs.StandingLemmas.{stands-revised, refused-nothing}
use Rattle.oyster_account.proofs.ScheduleLemmas.{revision-ahead}
use Rattle.oyster_account.proofs.AgreementLemmas.{order-before, view-agrees}

begins : (in_time : Bool) → count_by (λ class. class) (in_time ∷ false ∷ not in_time ∷ false ∷ false ∷ []) ≡ 1
begins true = refl
begins false = refl

ends : (in_time : Bool) → count_by (λ class. class) (false ∷ in_time ∷ false ∷ not in_time ∷ false ∷ []) ≡ 1
ends true = refl
ends false = refl

pub one-class : IsInOneClass
one-class scheme None (In a) taps = refl
one-class scheme (Some (In c)) (In a) taps = refl
one-class scheme (Some (Out b)) (In a) taps = begins (is_in_time scheme a b)
one-class scheme None (Out b) [] = refl
one-class scheme None (Out b) (Out c ∷ taps) = refl
one-class scheme None (Out b) (In a ∷ taps) = ends (is_in_time scheme a b)
one-class scheme (Some (In d)) (Out b) [] = refl
one-class scheme (Some (In d)) (Out b) (Out c ∷ taps) = refl
one-class scheme (Some (In d)) (Out b) (In a ∷ taps) = ends (is_in_time scheme a b)
one-class scheme (Some (Out d)) (Out b) [] = refl
one-class scheme (Some (Out d)) (Out b) (Out c ∷ taps) = refl
one-class scheme (Some (Out d)) (Out b) (In a ∷ taps) = ends (is_in_time scheme a b)

pub never-back : NeverGoesBack
never-back scheme acts act order accepted = judge-in_order scheme acts act order accepted

pub revisions-keep : DoRevisionsKeep
revisions-keep day scheme revised number history card agree newest stands =
    stands-revised day scheme revised number history card agree newest stands

pub ahead : IsRevisionAhead
ahead scheme history day card good = revision-ahead scheme day card history good

pub view-kept : IsViewKept
view-kept day scheme revised acts agree order newest =
    view-agrees day scheme revised agree acts (order-before day (travel scheme acts) order newest)

-- a touch that isn't of the card doesn't count
not-own : (own new : Bool) (j : Judged) (js : List Judged) → own ≡ false →
    map (λ (k : Judged). k.touch.act) (cond (own && new) (j ∷ js) js) ≡ map (λ (k : Judged). k.touch.act) js
not-own true new j js is = absurd (cc)
not-own false new j js is = refl

pub others-nothing : AreOthersNothing
others-nothing card history j other =
    ap (accepted_acts card) (reverse-append history (j ∷ []))
    ∙ not-own (is_of card j.touch) (is_accepted j.reply) j (filter (counts_for card) (reverse history)) other

module _ (scheme : Scheme) where
  -- a touch out comes after no touch in that begins a leg
  abbrev IsNoOut : Option Tap → Type 0
  IsNoOut None = Unit {0}
  IsNoOut (Some (In a)) = Unit {0}
  IsNoOut (Some (Out b)) = ⊥

  -- a touch out over a touch in, by whether it ends a leg
  missing-leg : (in_time : Bool) (entry exit rest missing : ℕ) → missing ≡ rest →
      cond (not in_time || false) exit 0 + (cond (not in_time) entry 0 + missing)
      ≡ cond in_time rest (exit + (entry + rest))
  missing-leg true entry exit rest missing same = omega (arith, same)
  missing-leg false entry exit rest missing same = omega (arith, same)

  missing-are : (later : Option Tap) (taps : List Tap) → IsNoOut later →
      missing_charges scheme later taps ≡ incomplete_charge scheme taps
  missing-are later [] none = refl
  missing-are None (In a ∷ taps) none = ap (λ n. entry_charge scheme a taps + n) (missing-are (Some (In a)) taps tt)
  missing-are (Some (In c)) (In a ∷ taps) none =
      ap (λ n. entry_charge scheme a taps + n) (missing-are (Some (In a)) taps tt)
  missing-are (Some (Out c)) (In a ∷ taps) none = absurd none
  missing-are later (Out b ∷ []) none = omega arith
  missing-are later (Out b ∷ Out c ∷ taps) none =
      ap (λ n. exit_charge scheme b + n) (missing-are None (Out c ∷ taps) tt)
  missing-are later (Out b ∷ In a ∷ taps) none =
      missing-leg (is_in_time scheme a b) (entry_charge scheme a taps) (exit_charge scheme b)
      (incomplete_charge scheme taps)
      (missing_charges scheme (Some (In a)) taps) (missing-are (Some (In a)) taps tt)

pub incomplete-missing : IsIncompleteMissing
incomplete-missing scheme taps = sym (missing-are scheme None taps tt)

pub tables-priced : AreTablesPriced
tables-priced schedule = schedule-priced schedule

pub legs-take_nothing : DoLegsTakeNothing
legs-take_nothing scheme acts act priced is = judge-refund scheme priced acts act is

pub refusals-change_nothing : DoRefusalsChangeNothing
refusals-change_nothing scheme history touch refused =
    refused-nothing scheme touch.card history (judged_next scheme history touch) refl refused
