-- Three lives have eight sets, and the parts of the task belong together.
use Rattle.std.proofs.Common.{ℕ, ◌<◌, arith, lit<, refl}
use Rattle.std.specs.Prelude.{bit_and}
use Rattle.halo_sums.proofs.Within.{within-below}
use Rattle.halo_status.specs.Pay.{pay_of}
use Rattle.halo_life.proofs.Within.{within-has}
use Rattle.halo_compile.proofs.NamedSets.{named-is-below, named-part, part-is-named}
use Rattle.halo_tests.proofs.annuities.assert_all_sets.Goals as goal

pub compile-requires : goal.compile-requires
compile-requires g c = (
  lit< tt,
  (
    record { lives = 3; some = omega arith; few = omega arith; is = refl },
    (c.horizon-horizon.ensures.some, c.horizon-horizon.ensures.few),
  ),
)

pub annuity_all-requires : goal.annuity_all-requires
annuity_all-requires g c = (
  lit< tt,
  (
    lit< tt,
    (
      record {
        valid = c.requires.valid;
        lives = c.requires.lives;
        sets = refl;
        horizon_is = rw c.new-group.ensures c.horizon-horizon.ensures.years;
        horizon_in = c.horizon-horizon.ensures.few;
        form = c.in_ok-form.ensures.form 3 refl;
      },
      c.requires.annuity,
    ),
  ),
)

pub total-total-requires : goal.total-total-requires
total-total-requires g c =
    let body = (pay_of c.args.pay.now).body in
    let set : ℕ = bit_and c.loop-alive.alive-counter c.lives.result in
    let named = part-is-named body c.loop-alive.alive-counter set
    (named-part c.lives.result body c.lives.ensures c.loop-alive.alive-counter) in
    let below : set < 8 = named-is-below 3 body c.requires.lives set named in (
      lit< tt,
      (
        omega arith,
        (
          below,
          λ mask within. c.annuity_all.ensures.modest mask (omega (arith, below, within-below mask set within))
              (λ i there. named i (within-has mask set within i there)),
        ),
      ),
    )
