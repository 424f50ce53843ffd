use Rattle.gate_law.proofs.AgreementLemmas.{they_agree}
use Rattle.gate_law.proofs.laws.gate_and_station_agree.Goals as goal

pub returns : goal.returns
returns c = they_agree
