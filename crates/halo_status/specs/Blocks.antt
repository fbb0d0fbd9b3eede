-- Blocks of 64 sets of lives, as the bits of one number.
use Rattle.std.specs.Prelude.{◌≡◌, ℕ, zero, suc, ◌+◌, ◌*◌, ◌<◌, Bool, List, get_or}
use Rattle.halo_sums.specs.Masks.{has_bit}

-- the bits of a number tell what holds on the 64 sets of a block: those whose masks are 64 times
-- its number and the 63 above it
abbrev pub IsInBlock : ℕ → ((ℕ → Bool) → Bool) → ℕ → Type 0
IsInBlock block holds word = (j : ℕ) → j < 64 → has_bit word j ≡ holds (has_bit (64 * block + j))

-- what stands in a list at the place before this one, and 0 at the first place
abbrev pub fewer_at : List ℕ → ℕ → ℕ
fewer_at counts zero = 0
fewer_at counts (suc k) = get_or counts k 0
