-- The tag and the frames by computing: the values stand in JOURNAL.md and PROTOCOL.md, and the code can't
-- change them unseen.
use Rattle.std.proofs.Common.{◌≡◌, [], ◌∷◌, ◌++◌, refl}
use Rattle.std.specs.Prelude.{codes}
use Rattle.gate_client.specs.declared.file.TheConstants.{TAG, CARDS}
use Rattle.gate_client.specs.File.{tag_of}

tag : TAG ≡ codes "touches of one gate, by number"
tag = refl

cards : CARDS ≡ 1
cards = refl

-- gate 7 has the tag's 30 bytes, and 0007
of_seven : tag_of 7 ≡ TAG ++ 0x00 ∷ 0x07 ∷ []
of_seven = refl
