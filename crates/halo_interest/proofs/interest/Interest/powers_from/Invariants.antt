use Rattle.std.proofs.Common.{◌+◌, ◌≤◌}
use Rattle.halo_interest.specs.Powers.{IsPower}
use Rattle.halo_interest.specs.Rates.{discount_numerator, discount_denominator}
use Rattle.halo_interest.proofs.Growth.{ArePowersTo}
use Rattle.halo_interest.proofs.interest.Interest.powers_from.Given as goal

abbrev pub invariant-loop-t : goal.invariant-loop-t
invariant-loop-t g l =
    record {
      powers : ArePowersTo (discount_numerator l.self) (discount_denominator l.self) l.start l.t l.values;
      power : IsPower (discount_numerator l.self) (discount_denominator l.self) l.start l.t l.power;
      cost : l.steps ≤ l.initial.steps + l.t;
    }
