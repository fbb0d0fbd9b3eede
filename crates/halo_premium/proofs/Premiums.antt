-- A quotient of fractions over one denominator.
use Rattle.std.proofs.Common.{◌≡◌, ℕ, zero, suc, ◌*◌, ℤ, pos, ◌*ℤ◌, arith, mul_comm}
use Rattle.std.proofs.lemmas.Int.{ints}
use Rattle.halo_num.specs.Ends.{Ends}
use Rattle.halo_num.specs.Enclosure.{Encloses}
use Rattle.halo_num.proofs.Enclosures.{encloses_reduced}

-- what is enclosed over the denominator 0 is 0
none-over-none : (i : Ends) (n : ℤ) → Encloses i n 0 → n ≡ pos 0
none-over-none i n enclosed = omega (arith, ints, enclosed.low, enclosed.high)

-- the denominator falls out; where it is 0, all that is enclosed over it is 0
pub over-one-denominator : (i benefits due : Ends) (n : ℤ) (m d : ℕ)
    → Encloses benefits n d → Encloses due (pos m) d → Encloses i (n *ℤ pos d) (d * m) → Encloses i n m
over-one-denominator i benefits due n m zero paid premiums quotient =
    let nothing_paid : n ≡ pos 0 = none-over-none benefits n paid in
    let no_premiums : pos m ≡ pos 0 = none-over-none due (pos m) premiums in
    let none : m ≡ 0 = omega (arith, ints) in
    rw (nothing_paid, none) (record { low = omega (arith, ints); high = omega (arith, ints) })
over-one-denominator i benefits due n m (suc d) paid premiums quotient =
    encloses_reduced i n m (suc d) (omega arith) (rw (mul_comm (suc d) m) at quotient)
