-- Each limit and size, by its digits.
use Rattle.std.proofs.Common.{◌≡◌, refl}
use Rattle.station_limits.specs.declared.digest.TheConstants.{DIGEST_SIZE}
use Rattle.station_limits.specs.declared.limits.TheConstants.{CARDS_LIMIT, HISTORY_LIMIT, LINES_LIMIT}
use Rattle.station_limits.specs.declared.limits.TheConstants.{CERTIFICATE_NAME_LIMIT}

most_cards : CARDS_LIMIT ≡ 100_000
most_cards = refl

most_touches : HISTORY_LIMIT ≡ 1_000_000
most_touches = refl

most_lines : LINES_LIMIT ≡ 64
most_lines = refl

longest_name : CERTIFICATE_NAME_LIMIT ≡ 64
longest_name = refl

digest_size : DIGEST_SIZE ≡ 32
digest_size = refl
