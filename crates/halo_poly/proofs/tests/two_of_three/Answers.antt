-- Three lives have eight sets, and each is a status.
use Rattle.std.proofs.Common.{arith, refl, ap, rules, length}
use Rattle.halo_poly.proofs.tests.two_of_three.Goals as goal

pub exactly-requires : goal.exactly-requires
exactly-requires c = (
  search rules,
  (
    record { lives = 3; some = omega arith; few = omega arith; is = refl },
    (
      omega (arith, ap length c.deref.ensures.value, c.in_ok-lives.ensures.count),
      (λ n e. rw c.deref.ensures.value (c.in_ok-lives.ensures.statuses n)),
    ),
  ),
)

pub at_least-requires : goal.at_least-requires
at_least-requires c = (
  search rules,
  (
    record { lives = 3; some = omega arith; few = omega arith; is = refl },
    (
      omega arith,
      (
        omega (arith, ap length c.deref-else-is_exact.ensures.value, c.in_ok-lives.ensures.count),
        (λ n e. rw c.deref-else-is_exact.ensures.value (c.in_ok-lives.ensures.statuses n)),
      ),
    ),
  ),
)
