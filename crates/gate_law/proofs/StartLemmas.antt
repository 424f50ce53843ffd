-- Where the law over a gate and its station begins.
use Rattle.std.proofs.Common.{List, [], refl, sym, ap, is_some}
use Rattle.reply_book.specs.declared.entry.Entry.{Entry}
use Rattle.reply_book.specs.Legal.{touches_of}
use Rattle.tap_disk.specs.declared.disk.Disk.{Ghosts}
use Rattle.gate_session.specs.declared.answer.Answer.TheVariants as answers
use Rattle.gate_client.specs.declared.client.Client.{Client}
use Rattle.gate_law.proofs.ListLemmas.{contains-none}
use Rattle.gate_law.specs.Station.{StationState}
use Rattle.gate_law.specs.Settled.{HasLegal, DoesStart}

pub starts : {D : Type 0} {g : Ghosts D} (client : Client D g) (station : StationState) → HasLegal station
    → DoesStart client station
starts client station legal gate number asked none empty = (
  record {
    asked = refl;
    waits = refl;
    sent = λ touch there. absurd (contains-none [] touch refl there);
    legal = legal;
    alone = λ touch there.
        absurd (contains-none (touches_of station.history) touch (ap (λ (l : List Entry). touches_of l) empty) there);
    unanswered = λ answered reply there.
        absurd (contains-none [] (answers.Reply gate answered reply) refl there);
    told = refl;
  },
  record {
    gate_is = record { number = number; asked = asked; waits = sym (ap is_some none) };
    station_is = record { tables = refl; cards_are = refl; history = refl; legal = legal };
  },
)
