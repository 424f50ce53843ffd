use Rattle.std.proofs.Common.{◌≡◌, ◌≢◌, Some, ap, ◌∙◌, is_some, [], ◌∷◌, ◌++◌}
use Rattle.oyster_account.specs.declared.touch.Touch.{Touch}
use Rattle.gate_client.specs.declared.fault.AskFault.{AskFault}
use Rattle.gate_client.specs.declared.fault.AskFault.TheVariants as faults
use Rattle.gate_client.specs.Client.{HasAsked, waits_of, header_in}
use Rattle.gate_law.proofs.ClientLemmas.{left-either, when_ok, when_err, when_fault}
use Rattle.gate_law.proofs.AskingRunLemmas.{asks-run}
use Rattle.gate_law.proofs.client_steps.ask_in_steps.Goals as goal

pub returns-clause-steps : goal.returns-clause-steps
returns-clause-steps g c alone cards number whole shown =
    let by = c.ask.ensures in
    let old = c.args.client.now in
    let new = c.ask.new.self in
    let file = (whole.gates number).file in
    let asked = shown.asked in
    asks-run alone cards number whole old new c.args.card c.args.act c.ask.result shown (record {
      ok = when_ok (λ (t : Touch). HasAsked (file ++ t ∷ []) new) c.ask.result (by.ok file asked);
      waits = when_ok (λ (t : Touch). waits_of new ≡ Some t) c.ask.result by.waits;
      kept = when_err (HasAsked file new) c.ask.result (by.kept file asked);
      waits_on = when_err (waits_of new ≡ waits_of old) c.ask.result by.waits_on;
      gate_is = by.gate;
      room_is = by.room;
      either = by.either file asked;
      waiting_is = by.waiting;
      stopped = by.stopped;
      stops = by.stops;
      no_call = when_fault (λ (fault : AskFault). fault ≢ faults.Device → new ≡ old) c.ask.result by.no_call;
    })

pub returns-clause-crash : goal.returns-clause-crash
returns-clause-crash g c number whole shown going none honest content out =
    let old = c.args.client.now in
    let gate = whole.gates number in
    left-either number gate old (header_in old) c.args.card c.args.act content shown.number_is
    ((shown.goes going).waits ∙ ap is_some none)
    ((c.ask.ensures.any_moment gate.file shown.asked going honest).each content out)
