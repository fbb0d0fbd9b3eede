use Rattle.halo_model.proofs.Losses.{end-loss-is-not-negative, loss-is-not-negative, pay-loss-is-not-negative}
use Rattle.halo_model.proofs.laws.losses_are_not_negative.Goals as goal

pub returns-clause-lasting : goal.returns-clause-lasting
returns-clause-lasting c = loss-is-not-negative

pub returns-clause-pays : goal.returns-clause-pays
returns-clause-pays c = pay-loss-is-not-negative

pub returns-clause-ends : goal.returns-clause-ends
returns-clause-ends c = end-loss-is-not-negative
