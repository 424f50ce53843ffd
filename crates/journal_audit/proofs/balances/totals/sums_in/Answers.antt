use Rattle.std.proofs.Common.{pos, arith}
use Rattle.oyster_account.specs.declared.reply.CardState.TheVariants.{Vacant}
use Rattle.journal_audit.specs.declared.balances.row.Row.{Row}
use Rattle.journal_audit.proofs.RowLemmas.{moved-all, moved-room}
use Rattle.journal_audit.proofs.balances.totals.sums_in.Goals as goal

-- the sums so far and those of the row are within all
pub plus-sums-requires : goal.plus-sums-requires
plus-sums-requires c =
    let nobody : Row = record {
      card = 0;
      view = record { state = Vacant; balance = pos 0 };
      sums = record { paid_in = 0; taken = 0; returned = 0 };
    } in
    let room = moved-room c.args.rows.now c.loop-row.row-index nobody c.loop-row-test.true c.requires in
    rw c.loop-row.invariant (omega (arith, room))

pub returns-clause-measured : goal.returns-clause-measured
returns-clause-measured c =
    rw c.loop-row.invariant (moved-all c.args.rows.now c.loop-row.row-index c.loop-row-test.false c.requires)
