use Rattle.std.proofs.lemmas.Result.{IfOk-weaker}
use Rattle.halo_interest.specs.Rates.{rate_of}
use Rattle.halo_columns.proofs.set.columns.Goals as goal

pub returns-clause-columns : goal.returns-clause-columns
returns-clause-columns g c =
    IfOk-weaker c.discounted_columns.result _ _
    (λ set enclosed. enclosed (λ k. (rate_of c.args.interest.now k).p) (λ k. (rate_of c.args.interest.now k).q)
    c.powers-powers.ensures.powers)
    c.discounted_columns.ensures
