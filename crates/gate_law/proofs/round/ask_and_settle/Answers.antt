use Rattle.std.proofs.Common.{◌≡◌, ◌∷◌, ◌++◌, [], Ok, Err, ap, ◌∙◌, subst}
use Rattle.oyster_account.specs.declared.touch.Touch.{Touch}
use Rattle.gate_client.specs.File.{next_touch}
use Rattle.gate_law.specs.Settled.{IsSettled, IsRound}
use Rattle.gate_law.specs.declared.round.TouchFault.{TouchFault}
use Rattle.gate_law.specs.declared.round.TouchFault.TheVariants as faults
use Rattle.gate_law.proofs.GateLemmas.{asks}
use Rattle.gate_law.proofs.SettledLemmas.{none_waits, asked-shown, asked-heard, asked-unheard, round-unasked}
use Rattle.gate_law.proofs.round.ask_and_settle.Goals as goal

pub returns-in-Ok-settle_in_memory-clause-ok : goal.returns-in-Ok-settle_in_memory-clause-ok
returns-in-Ok-settle_in_memory-clause-ok g c station asked keeps has legal =
    let touch = c.in-Ok.field-0 in
    subst (λ (t : Touch). IsSettled (asked ++ t ∷ []) t c.in-Ok-settle_in_memory.reply c.settle_in_memory.new.client
    (station c.settle_in_memory.new.clerk).history) (c.in-Ok.ensures.touch asked has)
    (c.in-Ok-settle_in_memory.ensures.ok station (asked ++ touch ∷ []) touch keeps (c.in-Ok.ensures.ok asked has)
    c.in-Ok.ensures.waits legal)

pub returns-in-Ok-settle_in_memory-clause-steps : goal.returns-in-Ok-settle_in_memory-clause-steps
returns-in-Ok-settle_in_memory-clause-steps g c station gate cards s keeps shows =
    let touch = c.in-Ok.field-0 in
    let new = c.settle_in_memory.new in
    let reply = c.in-Ok-settle_in_memory.reply in
    let has = shows.gate_is.asked in
    let is : touch ≡ next_touch gate s.asked c.args.card c.args.act = c.in-Ok.ensures.touch s.asked has
    ∙ ap (λ n. next_touch n s.asked c.args.card c.args.act) shows.gate_is.number in
    let asked = asks c.args.client.now c.ask.new.self gate s touch shows.gate_is (record {
      none = none_waits touch _ _ c.in-Ok.ensures.waiting.1;
      kept = c.in-Ok.ensures.ok s.asked has;
      waits = c.in-Ok.ensures.waits;
      gate = c.ask.ensures.gate;
    }) in
    subst (λ (t : Touch). IsRound {E = TouchFault} gate cards s t (Ok reply) new.client (station new.clerk)) is
    (asked-heard gate cards s touch new.client (station new.clerk) asked.is reply
    (c.in-Ok-settle_in_memory.ensures.steps station gate cards _ touch keeps
    (asked-shown gate cards s touch c.ask.new.self (station c.args.clerk.now) shows.station_is asked.shown)
    c.in-Ok.ensures.waits))

pub returns-in-Err-settle_in_memory-clause-steps : goal.returns-in-Err-settle_in_memory-clause-steps
returns-in-Err-settle_in_memory-clause-steps g c station gate cards s keeps shows =
    let touch = c.in-Ok.field-0 in
    let new = c.settle_in_memory.new in
    let fault = c.in-Err-settle_in_memory.fault in
    let has = shows.gate_is.asked in
    let is : touch ≡ next_touch gate s.asked c.args.card c.args.act = c.in-Ok.ensures.touch s.asked has
    ∙ ap (λ n. next_touch n s.asked c.args.card c.args.act) shows.gate_is.number in
    let asked = asks c.args.client.now c.ask.new.self gate s touch shows.gate_is (record {
      none = none_waits touch _ _ c.in-Ok.ensures.waiting.1;
      kept = c.in-Ok.ensures.ok s.asked has;
      waits = c.in-Ok.ensures.waits;
      gate = c.ask.ensures.gate;
    }) in
    subst (λ (t : Touch). IsRound {E = TouchFault} gate cards s t (Err (faults.Unsettled fault)) new.client
    (station new.clerk)) is
    (asked-unheard gate cards s touch new.client (station new.clerk) asked.is fault (faults.Unsettled fault)
    (c.in-Err-settle_in_memory.ensures.steps station gate cards _ touch keeps
    (asked-shown gate cards s touch c.ask.new.self (station c.args.clerk.now) shows.station_is asked.shown)
    c.in-Ok.ensures.waits))

-- the touch isn't kept: whatever the fault, the client shows what it showed
pub returns-in-Err-clause-steps : goal.returns-in-Err-clause-steps
returns-in-Err-clause-steps g c station gate cards s keeps shows =
    round-unasked gate cards s _ _ c.args.client.now c.ask.new.self (station c.args.clerk.now) shows c.ask.ensures.gate
    (c.in-Err.ensures.kept s.asked shows.gate_is.asked) c.in-Err.ensures.waits_on
