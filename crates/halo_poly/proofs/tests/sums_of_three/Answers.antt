-- Three lives have eight sets, and each is a status.
use Rattle.std.proofs.Common.{arith, refl, rules, ap, length}
use Rattle.halo_poly.proofs.tests.sums_of_three.Goals as goal

pub symmetric-requires : goal.symmetric-requires
symmetric-requires c = (
  search rules,
  (
    record { lives = 3; some = omega arith; few = omega arith; is = refl },
    (
      omega (arith, ap length c.deref.ensures.value, c.in_ok-lives.ensures.count),
      (λ n e. rw c.deref.ensures.value (c.in_ok-lives.ensures.statuses n)),
    ),
  ),
)
