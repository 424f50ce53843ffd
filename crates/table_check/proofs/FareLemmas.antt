-- What the account charges for a journey by itself.
use Rattle.std.proofs.Common.{◌≡◌, ◌+◌, Bool, true, false, List, [], ◌∷◌, map, refl, ap, ◌∙◌, arith}
use Rattle.fare_table.specs.declared.rows.Cap.{Cap}
use Rattle.oyster_account.specs.declared.travel.Passage.{Passage}
use Rattle.oyster_account.specs.declared.journey.Journey.{Journey}
use Rattle.oyster_account.specs.Scheme.{Scheme}
use Rattle.oyster_account.specs.Travel.{In, Out, day_of}
use Rattle.oyster_account.specs.Leg.{is_in_time}
use Rattle.oyster_account.specs.Journey.{journey_of, pence_of}
use Rattle.oyster_account.specs.Charge.{is_covered, capped, least, day_charge, caps_on, travel_charge}
use Rattle.oyster_account.proofs.DayLemmas.{int_eq-same}
use Rattle.table_check.specs.Fare.{capped_by}

-- what a cap makes of one journey is its price, and the fare where it doesn't cover it
capped-alone : (j : Journey) (cap : Cap) (b : Bool) → is_covered cap j.fare ≡ b
    → capped (j ∷ []) cap ≡ capped_by j.fare cap
capped-alone j cap true is = rw is refl
capped-alone j cap false is = rw is (omega arith)

capped-all : (j : Journey) (caps : List Cap) → map (capped (j ∷ [])) caps ≡ map (capped_by j.fare) caps
capped-all j [] = refl
capped-all j (cap ∷ caps) =
    ap (λ n. n ∷ map (capped (j ∷ [])) caps) (capped-alone j cap (is_covered cap j.fare) refl)
    ∙ ap (λ ns. capped_by j.fare cap ∷ ns) (capped-all j caps)

-- the day of one journey is charged the least of its fare and of what the caps make of it
day_charge-alone : (j : Journey) (caps : List Cap)
    → day_charge caps (j ∷ []) ≡ least j.fare.pence (map (capped_by j.fare) caps)
day_charge-alone j caps =
    let sum : 0 + pence_of j ≡ j.fare.pence = omega arith in
    ap (λ n. least n (map (capped (j ∷ [])) caps)) sum ∙ ap (least j.fare.pence) (capped-all j caps)

-- and one leg by itself is that journey
pub travel_charge-alone : (scheme : Scheme) (start finish : Passage) → is_in_time scheme start finish ≡ true
    → travel_charge scheme (Out finish ∷ In start ∷ [])
    ≡ least (journey_of scheme start finish).fare.pence
    (map (capped_by (journey_of scheme start finish).fare) (caps_on scheme (day_of start)))
travel_charge-alone scheme start finish is =
    let sum : 0 + day_charge (caps_on scheme (day_of start)) (journey_of scheme start finish ∷ []) + 0
    ≡ day_charge (caps_on scheme (day_of start)) (journey_of scheme start finish ∷ []) = omega arith in
    rw (is, int_eq-same (day_of start))
    (sum ∙ day_charge-alone (journey_of scheme start finish) (caps_on scheme (day_of start)))
