-- Worked examples, computed by the definitions: lines of FAULTS.md, "Faults".
use Rattle.std.proofs.Common.{◌≡◌, refl, Some, codes}
use Rattle.journal_audit.specs.Told.{told_fault}
use Rattle.office_lines.specs.declared.fault.ServeFault.TheVariants as serves
use Rattle.tap_office.specs.declared.fault.CloseCause.TheVariants as closes
use Rattle.journal_service.specs.Serve.{serve_fault}

-- the line of a server that ended before its report
a_failed_serving_is_told_by_its_cause :
    (told_fault (serve_fault (serves.Close closes.SeatMissing)) ≡ Some (codes "fault close 1 SeatMissing"))
    × (told_fault (serve_fault (serves.Close closes.Mismatch)) ≡ Some (codes "fault close 2 Mismatch"))
    × (told_fault (serve_fault (serves.Close closes.DeskMismatch)) ≡ Some (codes "fault close 3 DeskMismatch"))
    × (told_fault (serve_fault serves.Memory) ≡ Some (codes "fault run 1 Memory"))
    × (told_fault (serve_fault serves.Write) ≡ Some (codes "fault run 3 Write"))
a_failed_serving_is_told_by_its_cause = (refl, refl, refl, refl, refl)
