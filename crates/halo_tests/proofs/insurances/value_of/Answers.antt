-- Three lives have eight sets, and the parts of the task belong together.
use Rattle.std.proofs.Common.{arith, lit<, refl, sym}
use Rattle.halo_tests.proofs.insurances.value_of.Goals as goal

pub compile-requires : goal.compile-requires
compile-requires g c = (
  lit< tt,
  (
    record { lives = 3; some = omega arith; few = omega arith; is = refl },
    (c.horizon-horizon.ensures.some, c.horizon-horizon.ensures.few),
  ),
)

pub answer-requires-clause-task : goal.answer-requires-clause-task
answer-requires-clause-task g c = record {
  valid = c.requires.valid;
  lives = c.requires.lives;
  sets = refl;
  horizon_is = rw (sym c.tables.ensures.value, sym c.lives.ensures.value) c.horizon-horizon.ensures.years;
  horizon_in = c.horizon-horizon.ensures.few;
  form = c.in_ok-form.ensures.form 3 refl;
}
