use Rattle.std.proofs.Common.{◌≡◌, ◌+◌, ◌*◌, ◌^◌, ℤ, pos, ◌-ℤ◌, ◌*ℤ◌, arith, mul_comm}
use Rattle.std.proofs.lemmas.Int.{ints}
use Rattle.halo_num.proofs.Enclosures.{encloses_scaled}
use Rattle.halo_reserve.proofs.less_premiums.Goals as goal

-- what is taken off an end
taken-off : (r a b : ℤ) → r ≡ a -ℤ b → a -ℤ r ≡ b
taken-off r a b e = rw e (omega (arith, ints))

pub sub-requires-clause-o_in : goal.sub-requires-clause-o_in
sub-requires-clause-o_in g c =
    let premiums = c.mul-premiums.ensures in
    let bound = premiums.bound (10 ^ 15) (10 ^ 3) (omega (arith, ints)) (omega (arith, ints)) in
    record { low = omega (arith, ints, premiums.from); high = omega (arith, ints, bound) }

pub returns-clause-ends : goal.returns-clause-ends
returns-clause-ends g c =
    let premiums = c.mul-premiums.result in
    record {
      low = rw (taken-off c.sub.result.lo c.args.later.lo premiums.hi c.sub.ensures.lo) c.mul-premiums.ensures.high;
      high = rw (taken-off c.sub.result.hi c.args.later.hi premiums.lo c.sub.ensures.hi) c.mul-premiums.ensures.low;
    }

pub returns-clause-difference : goal.returns-clause-difference
returns-clause-difference g c = record {
  encloses = λ n m k d e later premium due.
      c.sub.ensures.encloses (n *ℤ pos e) (m *ℤ k) (d * e) (encloses_scaled c.args.later n d e later)
      (rw (mul_comm e d) at (c.mul-premiums.ensures.encloses m k e d premium due));
  narrow = λ v w u t ones premium_in due_in later premium due.
      let product = c.mul-premiums.ensures.width w u t ones premium_in due_in premium due in
      let together : v + (w * ones + u * t + 1) ≡ v + t * u + ones * w + 1 = omega arith in
      rw together at (c.sub.ensures.narrow v (w * ones + u * t + 1) later product);
}

pub returns-clause-within : goal.returns-clause-within
returns-clause-within g c =
    let premiums = c.mul-premiums.ensures in
    let bound = premiums.bound (10 ^ 15) (10 ^ 3) (omega (arith, ints)) (omega (arith, ints)) in
    record {
      low = omega (arith, ints, c.sub.ensures.lo, bound, c.requires.later_in.low);
      high = omega (arith, ints, c.sub.ensures.hi, premiums.from, c.requires.later_in.high);
    }
