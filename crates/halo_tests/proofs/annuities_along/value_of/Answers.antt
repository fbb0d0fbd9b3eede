use Rattle.std.proofs.Common.{arith, rules, lit<}
use Rattle.halo_tests.proofs.annuities_along.value_of.Goals as goal

pub annuity_along-requires : goal.annuity_along-requires
annuity_along-requires g c =
    let pay = c.in_ok-pay.ensures in (
      lit< tt,
      (
        record {
          valid = pay.0;
          once = search rules;
          lives = pay.1;
          horizon_is = rw c.new-group.ensures c.horizon-horizon.ensures.years;
          horizon_in = c.horizon-horizon.ensures.few;
        },
        (pay.3, (omega arith, c.living-alive.ensures)),
      ),
    )
