use Rattle.std.proofs.Common.{◌≡◌, drop}
use Rattle.halo_interest.specs.Rates.{IsFraction, latest_of, rate_of}
use Rattle.halo_interest.proofs.interest.Interest.rate_in_force.Given as goal

abbrev pub invariant-loop-place : goal.invariant-loop-place
invariant-loop-place l =
    record {
      value : latest_of l.rate (drop l.place l.self) l.k ≡ rate_of l.self l.k;
      fraction : IsFraction l.rate.p l.rate.q;
    }
