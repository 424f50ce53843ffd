use Rattle.std.proofs.Common.{ℕ, subst}
use Rattle.tap_disk.specs.declared.memory.MemoryDisk.{MemoryDisk}
use Rattle.tap_disk.specs.Memory.{content_of, outcome_of}
use Rattle.gate_client.specs.File.{header_by}
use Rattle.gate_client.specs.Client.{room_of}
use Rattle.gate_law.specs.Shown.{IsInFile}
use Rattle.gate_law.proofs.client_steps.crash_in_steps.Goals as goal

-- what the crash leaves is the gate's file, or that with the touch that it was being asked for
pub returns-in-Ok-open_in_steps : goal.returns-in-Ok-open_in_steps
returns-in-Ok-open_in_steps c alone cards whole shown =
    let old = c.args.client in
    let gate = c.args.gate in
    let content = content_of c.in-Ok.left in
    let out = subst (λ (disk : MemoryDisk). outcome_of disk content) c.close-disk.ensures c.in-Ok.ensures.outcome in
    let file : IsInFile (header_by gate (room_of old)) gate (whole.gates gate) content =
    subst (λ (number : ℕ). IsInFile (header_by number (room_of old)) gate (whole.gates gate) content) shown.number_is
    (shown.left tt content out) in
    c.in-Ok-open_in_steps.ensures alone cards (room_of old) whole file tt
