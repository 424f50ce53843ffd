use Rattle.std.proofs.Common.{◌≡◌, List, length}
use Rattle.std.specs.Prelude.{option_copied, option_to_list}
use Rattle.proxy_header.specs.Tlvs.{TypeLengthValue, IsRow, values_of}
use Rattle.proxy_header.proofs.tlv.only_value.Given as goal

-- the bytes begin with some TLVs, among which the value was sought, and the rest follows them
abbrev pub invariant-loop-rest : goal.invariant-loop-rest
invariant-loop-rest l = (passed : List TypeLengthValue) × IsRow l.bytes passed l.rest
    × (values_of l.kind passed ≡ option_to_list (option_copied l.found))

abbrev pub decreases-loop-rest : goal.decreases-loop-rest
decreases-loop-rest l = length l.rest
