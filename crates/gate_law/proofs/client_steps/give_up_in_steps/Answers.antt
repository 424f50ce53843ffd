use Rattle.std.proofs.Common.{◌≡◌, ◌≢◌, None, [], ◌∷◌, ◌++◌}
use Rattle.gate_client.specs.declared.fault.AskFault.{AskFault}
use Rattle.gate_client.specs.declared.fault.AskFault.TheVariants as faults
use Rattle.gate_client.specs.Client.{HasAsked, waits_of, header_in}
use Rattle.gate_law.proofs.ClientLemmas.{left-given_up, goes-on, some-of, when_ok, when_err, when_fault, when_on}
use Rattle.gate_law.proofs.ClientRunLemmas.{waiting-at}
use Rattle.gate_law.proofs.AskingRunLemmas.{ups-run}
use Rattle.gate_law.proofs.client_steps.give_up_in_steps.Goals as goal

pub returns-clause-steps : goal.returns-clause-steps
returns-clause-steps g c alone cards number whole shown =
    let by = c.give_up.ensures in
    let old = c.args.client.now in
    let new = c.give_up.new.self in
    let file = (whole.gates number).file in
    let asked = shown.asked in
    let waits = some-of (waits_of old) c.requires in
    ups-run alone cards number whole old new waits.0 c.give_up.result shown waits.1 (record {
      ok = when_ok (λ u. HasAsked (file ++ waits.0 ∷ []) new) c.give_up.result (by.ok file waits.0 asked waits.1);
      none = λ u. when_on (waits_of new ≡ None) c.give_up.result by.none_waits u;
      kept = when_err (HasAsked file new) c.give_up.result (by.kept file asked);
      gate_is = by.gate;
      room_is = by.room;
      either = by.either file waits.0 asked waits.1;
      stops = by.stops;
      none_after = by.none_after;
      no_call = when_fault (λ (fault : AskFault). fault ≢ faults.Device → new ≡ old) c.give_up.result by.no_call;
    })

pub returns-clause-crash : goal.returns-clause-crash
returns-clause-crash g c number whole touch shown waits honest content out =
    let old = c.args.client.now in
    let gate = whole.gates number in
    left-given_up number gate touch (header_in old) content (waiting-at number gate old touch shown waits)
    ((c.give_up.ensures.any_moment gate.file touch shown.asked waits (goes-on number gate old touch shown waits)
    honest).each content out)
