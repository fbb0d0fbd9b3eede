use Rattle.std.proofs.Common.{◌^◌}
use Rattle.halo_model.proofs.Benefits.{premium-of-benefits}
use Rattle.halo_model.proofs.Printing.{premium-has-line}
use Rattle.halo_lines.proofs.premium.premium_line.Goals as goal

pub returns-clause-premium : goal.returns-clause-premium
returns-clause-premium c b pays status benefits due =
    premium-of-benefits b pays status c.args.benefits c.args.due c.premium-premium.result benefits due
    c.premium-premium.ensures.quotient

pub returns-clause-line : goal.returns-clause-line
returns-clause-line c b pays status benefits due =
    let printed = c.to_nano-line.ensures in
    premium-has-line b pays status c.premium-premium.result c.to_nano-line.result
    (returns-clause-premium c b pays status benefits due)
    (record { encloses = printed.encloses; narrow = printed.narrow })

pub returns-clause-within : goal.returns-clause-within
returns-clause-within c =
    let quotient = c.premium-premium.ensures.quotient in
    record { low = quotient.from; high = quotient.bound (10 ^ 15) c.requires.benefits_in }
