-- Three lives have eight sets, and the parts of the task belong together.
use Rattle.std.proofs.Common.{length, ap, arith, lit<, refl}
use Rattle.halo_tests.proofs.annuities.answer.Goals as goal

pub compile-requires : goal.compile-requires
compile-requires g c = (
  lit< tt,
  (
    record { lives = 3; some = omega arith; few = omega arith; is = refl },
    (c.horizon-horizon.ensures.some, c.horizon-horizon.ensures.few),
  ),
)

pub annuity-requires : goal.annuity-requires
annuity-requires g c = (
  lit< tt,
  (
    lit< tt,
    (
      record {
        valid = c.requires.valid;
        lives = c.requires.lives;
        sets = refl;
        horizon_is = rw c.new-group.ensures c.horizon-horizon.ensures.years;
        horizon_in = c.horizon-horizon.ensures.few;
        form = c.in_ok-form.ensures.form 3 refl;
      },
      c.requires.annuity,
    ),
  ),
)

pub term_value-requires : goal.term_value-requires
term_value-requires g c = (
  lit< tt,
  (
    record {
      valid = c.requires.valid;
      lives = c.requires.lives;
      sets = refl;
      horizon_is = rw c.new-group.ensures c.horizon-horizon.ensures.years;
      horizon_in = c.horizon-horizon.ensures.few;
      form = c.in_ok-form.ensures.form 3 refl;
    },
    (c.requires.annuity, (omega (arith, ap length c.segments.ensures), omega arith)),
  ),
)
