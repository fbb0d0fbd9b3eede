-- Sums of enclosures over the masks of all sets.
use Rattle.std.proofs.Common.{ℕ, zero, suc, ◌+◌, ◌<◌, ◌≤◌, ℤ, arith, refl}
use Rattle.std.proofs.lemmas.Int.{ints}
use Rattle.halo_sums.specs.Sums.{int_sum_over, numbers_from, sum_over}
use Rattle.halo_num.specs.Ends.{Ends, HasWidth}
use Rattle.halo_num.specs.Enclosure.{Encloses}
use Rattle.halo_num.proofs.Enclosures.{encloses_add}

abbrev pub sum_of : (ℕ → Ends) → ℕ → ℕ → Ends
sum_of shares first count = record {
  lo = int_sum_over (numbers_from first count) (λ mask. (shares mask).lo);
  hi = int_sum_over (numbers_from first count) (λ mask. (shares mask).hi);
}

pub sum-encloses : (shares : ℕ → Ends) (parts : ℕ → ℤ) (d count first : ℕ)
    → ((mask : ℕ) → mask < first + count → Encloses (shares mask) (parts mask) d)
    → Encloses (sum_of shares first count) (int_sum_over (numbers_from first count) parts) d
sum-encloses shares parts d zero first each = record { low = omega (arith, ints); high = omega (arith, ints) }
sum-encloses shares parts d (suc count) first each =
    encloses_add (shares first) (sum_of shares (suc first) count) (sum_of shares first (suc count))
    (parts first) (int_sum_over (numbers_from (suc first) count) parts) d refl refl
    (each first (omega arith)) (sum-encloses shares parts d count (suc first) (λ mask below. each mask (omega arith)))

pub sum-narrow : (shares : ℕ → Ends) (widths : ℕ → ℕ) (count first : ℕ)
    → ((mask : ℕ) → mask < first + count → HasWidth (shares mask) (widths mask))
    → HasWidth (sum_of shares first count) (sum_over (numbers_from first count) widths)
sum-narrow shares widths zero first each = record { near = omega (arith, ints) }
sum-narrow shares widths (suc count) first each =
    let here = each first (omega arith) in
    let rest = sum-narrow shares widths count (suc first) (λ mask below. each mask (omega arith)) in
    record { near = omega (arith, ints, here.near, rest.near) }

-- a greater width will do
pub wider : (i : Ends) (v w : ℕ) → v ≤ w → HasWidth i v → HasWidth i w
wider i v w h p = record { near = omega (arith, ints, p.near, h) }
