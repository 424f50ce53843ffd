use Rattle.std.proofs.Common.{arith, rules, ◌≡◌, ◌-◌, ◌∙◌, sym, ap, pos, FitsSigned, w32}
use Rattle.std.proofs.lemmas.Int.{to_z-of_z}
use Rattle.jiff_core.proofs.SignedLemmas.{signed_arith}
use Rattle.jiff_core.specs.Timestamp.{nanos_of_seconds}
use Rattle.jiff_tz.specs.PosixRule.{offset_at}
use Rattle.jiff_tz.specs.Year.{year_of_nanos}
use Rattle.money_time.proofs.SpanLemmas.{found, span-of}
use Rattle.money_time.proofs.span.Span.of.Goals as goal

pub returns : goal.returns
returns c = λ moment low high.
    let tz = c.in-Posix.posix in
    let from = c.args.from in
    let to = c.end_before-to.result in
    let change = c.in-Some.change in
    let fits : FitsSigned w32 c.to_offset.result.seconds = search rules in
    let next = found tz c.next_transition.result change _ (nanos_of_seconds
    (pos from)) c.next_transition.ensures c.in-Some.is c.instant_of.ensures in
    let same : c.year_at-first.result ≡ c.year_at-last.result = omega
    (arith, signed_arith, c.year_at-first.ensures.bound, c.year_at-last.ensures.bound) in
    let years : year_of_nanos (nanos_of_seconds (pos from)) ≡ year_of_nanos (nanos_of_seconds (pos (to - 1))) =
    sym c.year_at-first.ensures.value ∙ same ∙ c.year_at-last.ensures.value in
    simp to_z-of_z (span-of c.args.rule tz from to moment change.timestamp.nanosecond change.info c.to_offset.result
    c.in-Posix.is next c.end_before-to.ensures.instant
    (omega arith) years (c.to_offset.ensures ∙ ap (offset_at tz) c.instant_of-2.ensures) low high)
