-- Worked examples, computed by the definitions: lines of COMMANDS.md, "gate_send".
use Rattle.std.proofs.Common.{◌≡◌, refl, codes, pos, negsuc}
use Rattle.std.specs.Fmt.{digits}
use Rattle.oyster_account.specs.declared.touch.Act.TheVariants.{Enter, TopUp}
use Rattle.oyster_account.specs.Verdict.{verdict_name, refusal_name}
use Rattle.gate_client.specs.Told.{told_text, verdict_text}

-- a touch in at station 2, by which 900 pence are taken
a_touch_in_is_told : told_text (record { gate = 7; number = 3; card = 1; act = Enter 2 1_736_150_400 })
    (record { verdict = 1; change = negsuc 899; balance = pos 1100 }) ≡ codes "7,3,1,in,2,,Entered,-900,1100"
unfolding verdict_name digits
a_touch_in_is_told = refl

-- a top-up of 2000 pence
a_top_up_is_told : told_text (record { gate = 7; number = 2; card = 1; act = TopUp 2000 1_736_150_100 })
    (record { verdict = 7; change = pos 2000; balance = pos 2000 }) ≡ codes "7,2,1,top-up,,2000,ToppedUp,2000,2000"
unfolding verdict_name digits
a_top_up_is_told = refl

-- a verdict that has no name
a_new_verdict_is_told_by_its_number : verdict_text 12 ≡ codes "verdict 12"
unfolding verdict_name refusal_name digits
a_new_verdict_is_told_by_its_number = refl
