use Rattle.std.proofs.Common.{subst, arith, ℕ, ◌+◌, ◌*◌}
use Rattle.halo_num.specs.Chance.{EnclosesChance}
use Rattle.halo_interest.specs.Powers.{IsPower}
use Rattle.halo_interest.specs.Rates.{IsInterest, discount_numerator, discount_denominator}
use Rattle.halo_interest.proofs.Growth.{power_zero, first_powers, more_powers, power_more}
use Rattle.halo_interest.proofs.InForce.{in_force_is}
use Rattle.halo_interest.proofs.interest.Interest.powers_from.Goals as goal

pub loop-t-init : goal.loop-t-init
loop-t-init g c =
    let n : ℕ → ℕ = discount_numerator c.args.self.now
    in let d : ℕ → ℕ = discount_denominator c.args.self.now
    in let one = c.exact-power.ensures
    in record {
      powers = first_powers n d c.args.start c.exact-power.result one.lo one.hi;
      power = power_zero n d c.args.start c.exact-power.result one.lo one.hi;
      cost = omega arith;
    }

pub loop-t-preserved : goal.loop-t-preserved
loop-t-preserved g c =
    let n : ℕ → ℕ = discount_numerator c.args.self.now
    in let d : ℕ → ℕ = discount_denominator c.args.self.now
    in let s = c.args.start
    in let t = c.loop-t.t
    in let p = c.loop-t.invariant.power
    in let y = c.year.ensures
    in let year : EnclosesChance (n (s + t)) (d (s + t)) 1 c.year.result =
    record { encloses = y.encloses; narrow = y.narrow; within = y.within }
    in let next : IsPower n d s (t + 1) c.mul-power.result =
    power_more n d s t c.mul-power.result (c.mul-power.ensures.chance _ _ _ _ (3 * t) 1 p year)
    in record {
      powers = more_powers n d s t c.loop-t.values c.mul-power.result c.loop-t.invariant.powers (omega arith) next;
      power = next;
      cost = omega arith;
    }

pub returns-clause-rates : goal.returns-clause-rates
returns-clause-rates g c = in_force_is c.args.self.now (subst IsInterest c.self.view_is c.self.invariant.interest)
