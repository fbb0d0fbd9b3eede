-- What the sets within a set add to its total: one set after the other, and nothing else.
use Rattle.std.proofs.Common.{◌≡◌, ℕ, ◌+◌, ◌∙◌, ◌<◌, ◌≤◌, true, false, ℤ, pos, ◌+ℤ◌, arith, ap}
use Rattle.halo_sums.specs.Sums.{int_sum_over, numbers_from}
use Rattle.halo_sums.specs.Within.{is_within}
use Rattle.halo_num.specs.Ends.{Ends}
use Rattle.halo_life.specs.Lists.{Lists, nothing}
use Rattle.halo_life.specs.Total.{share}
use Rattle.halo_life.proofs.Sums.{int_sum_over-numbers_push, int_sum_over-skip}
use Rattle.halo_life.proofs.Within.{none-behind, none-between}

-- either end of the total
module _ (end : Ends → ℤ) (none : end nothing ≡ pos 0) (w : Lists) (alive : ℕ) where
  abbrev added : ℕ → ℤ
  added mask = end (share w alive mask)

  abbrev added_up_to : ℕ → ℤ
  added_up_to count = int_sum_over (numbers_from 0 count) added

  adds-nothing : (mask : ℕ) → is_within mask alive ≡ false → added mask ≡ pos 0
  adds-nothing mask outside = rw outside none

  pub next-added : (set next : ℕ) → set < next
      → ((mask : ℕ) → is_within mask alive ≡ true → set < mask → next ≤ mask)
      → added_up_to (next + 1) ≡ added_up_to (set + 1) +ℤ added next
  next-added set next later first = int_sum_over-numbers_push next added
      ∙ ap (λ z. z +ℤ added next) (int_sum_over-skip (set + 1) added next (omega (arith, later))
      (λ mask after before. adds-nothing mask (none-between alive set next later first mask after before)))

  pub all-added : (m : ℕ) → alive < m → added_up_to m ≡ added_up_to (alive + 1)
  all-added m below = int_sum_over-skip (alive + 1) added m (omega (arith, below))
      (λ mask after before. adds-nothing mask (none-behind mask alive after))
