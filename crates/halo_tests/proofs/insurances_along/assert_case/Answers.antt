use Rattle.std.proofs.Common.{rules}
use Rattle.halo_tests.proofs.insurances_along.assert_case.Goals as goal

pub answer-value-requires-clause-along : goal.answer-value-requires-clause-along
answer-value-requires-clause-along g c = record {
  valid = c.requires.valid;
  once = search rules;
  lives = c.requires.lives;
  horizon_is = rw c.new-group.ensures c.horizon-horizon.ensures.years;
  horizon_in = c.horizon-horizon.ensures.few;
}
