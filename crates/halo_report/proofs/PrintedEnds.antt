-- An interval that is printed has the floor of its lower end and the ceiling of its upper end.
use Rattle.std.proofs.Common.{◌≡◌, suc, ◌+◌, ◌/◌, ℤ, pos, negsuc, arith, ap, refl}
use Rattle.std.proofs.lemmas.Int.{ints}
use Rattle.halo_num.specs.Ends.{Ends, printed}
use Rattle.halo_num.specs.Rounding.{IsCeiling, IsFloor}
use Rattle.halo_num.specs.declared.nano.Nano.{Nano}
use Rattle.halo_report.specs.Printed.{ceiling_of, floor_of, printed_of}

floor-is : (r z : ℤ) → IsFloor r z (pos printed) → r ≡ floor_of z
floor-is (pos r) (pos n) f = let e : r ≡ n / printed = omega (arith, ints, f.reached, f.nearest) in ap pos e
floor-is (negsuc r) (pos n) f = absurd (omega (arith, ints, f.reached, f.nearest))
floor-is (pos r) (negsuc n) f = absurd (omega (arith, ints, f.reached, f.nearest))
floor-is (negsuc r) (negsuc n) f = let e : r ≡ n / printed = omega (arith, ints, f.reached, f.nearest) in ap negsuc e

ceiling-is : (r z : ℤ) → IsCeiling r z (pos printed) → r ≡ ceiling_of z
ceiling-is (pos r) (pos n) f =
    let e : r ≡ (n + 999_999_999) / printed = omega (arith, ints, f.reached, f.nearest) in ap pos e
ceiling-is (negsuc r) (pos n) f = absurd (omega (arith, ints, f.reached, f.nearest))
ceiling-is (pos r) (negsuc n) f =
    let none : r ≡ 0 = omega (arith, ints, f.reached, f.nearest) in
    let e : suc n / printed ≡ 0 = omega (arith, ints, f.reached, f.nearest) in
    rw (none, e) refl
ceiling-is (negsuc r) (negsuc n) f =
    let e : suc n / printed ≡ suc r = omega (arith, ints, f.reached, f.nearest) in rw e refl

pub nano-is : (i : Ends) (ends : Nano) → IsFloor ends.lo i.lo (pos printed) → IsCeiling ends.hi i.hi (pos printed)
    → ends ≡ printed_of i
nano-is i ends low high = rw (← floor-is ends.lo i.lo low, ← ceiling-is ends.hi i.hi high) refl
