use Rattle.std.proofs.Common.{◌≡◌, true, take}
use Rattle.std.specs.List.{All}
use Rattle.oyster_account.specs.declared.reply.Judged.{Judged}
use Rattle.oyster_account.specs.Scheme.{scheme_of}
use Rattle.oyster_account.specs.History.{counts_for}
use Rattle.card_statement.specs.Known.{IsActKnown}
use Rattle.card_statement.specs.Ready.{IsLastOf}
use Rattle.card_statement.proofs.statement.Statement.is_ready.Given as goal

-- the touches so far are in order, and of known stations
abbrev pub invariant-loop-judged : goal.invariant-loop-judged
invariant-loop-judged l = record {
  order : IsLastOf (scheme_of l.schedule) l.card (take l.judged-index l.touches) l.last;
  known : All (λ (one : Judged). counts_for l.card one ≡ true → IsActKnown (scheme_of l.schedule) one.touch.act)
      (take l.judged-index l.touches);
}
