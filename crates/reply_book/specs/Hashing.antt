-- What a hashing of names computes: the kit's fold from one number, and a fold by another behind it
-- (this project's choice).
use Rattle.std.specs.Prelude.{ℕ, List, bit_or}
use Rattle.std.specs.List.{fold}
use Rattle.std.specs.Hash.{u64}
use Rattle.std.specs.Hash.FoldHasher as folding
use Rattle.reply_book.specs.declared.hashing.NameHashing.{NameHashing}
use Rattle.reply_book.specs.declared.hashing.NameHasher.{NameHasher}

-- the hashing by these two numbers, the second made odd
abbrev pub hashing_of : ℕ → ℕ → NameHashing
hashing_of start multiplier = record {
  start = fold folding.write folding.initial (u64 start);
  multiplier = bit_or multiplier 1;
}

-- the hasher that each name gets
abbrev pub hasher_of : NameHashing → NameHasher
hasher_of hashing = record { folded = hashing.start; multiplier = hashing.multiplier }

-- the hasher once these bytes are written
abbrev pub hasher_after : NameHasher → List ℕ → NameHasher
hasher_after hasher bytes = record {
  folded = folding.write hasher.folded bytes;
  multiplier = hasher.multiplier;
}

-- the hash of what was written
abbrev pub hash_of : NameHasher → ℕ
hash_of hasher = folding.folded_multiply (folding.finish hasher.folded) hasher.multiplier
