use Rattle.halo_premium.proofs.Premiums.{over-one-denominator}
use Rattle.halo_premium.proofs.premium.Goals as goal

pub returns-clause-quotient : goal.returns-clause-quotient
returns-clause-quotient c =
    let quotient = c.quotient.ensures in
    record {
      encloses = λ n m d paid premiums.
          over-one-denominator c.quotient.result c.args.benefits c.args.due n m d paid premiums
          (quotient.encloses n m d d paid premiums);
      narrow = quotient.narrow;
      from = quotient.from;
      bound = quotient.bound;
    }
