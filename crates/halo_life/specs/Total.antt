-- The value on a set of lives: what its subsets add, less what they take off.
use Rattle.std.specs.Prelude.{◌≡◌, ℕ, ◌^◌, cond, true, pos, ◌-ℤ◌}
use Rattle.halo_sums.specs.Within.{is_within}
use Rattle.halo_sums.specs.Sums.{int_sum_over, numbers_from}
use Rattle.halo_num.specs.Ends.{Ends, IsWithin}
use Rattle.halo_life.specs.Lists.{Lists, entry, nothing}

-- what a set adds to the value on another: the entry of `plus` less that of `minus` where it is a
-- subset, else nothing
abbrev pub share : Lists → ℕ → ℕ → Ends
share w alive mask =
    cond (is_within mask alive)
    (record {
      lo = (entry w.plus mask).lo -ℤ (entry w.minus mask).hi;
      hi = (entry w.plus mask).hi -ℤ (entry w.minus mask).lo;
    })
    nothing

-- the sum of the shares of m sets
abbrev pub total_of : Lists → ℕ → ℕ → Ends
total_of w m alive = record {
  lo = int_sum_over (numbers_from 0 m) (λ mask. (share w alive mask).lo);
  hi = int_sum_over (numbers_from 0 m) (λ mask. (share w alive mask).hi);
}

-- the entries of `plus` and `minus` at a set are from 0 to 10^32 fine units
abbrev pub AreModestAt : ℕ → Lists → Type 0
AreModestAt mask w = IsWithin (entry w.plus mask) (pos 0) (pos (10 ^ 32))
    × IsWithin (entry w.minus mask) (pos 0) (pos (10 ^ 32))

-- so are those of the subsets of a set, so that their sums stay below 10^36
abbrev pub AreModest : ℕ → Lists → Type 0
AreModest alive w = (mask : ℕ) → is_within mask alive ≡ true → AreModestAt mask w
