use Rattle.halo_model.proofs.LastTime.{last-time-does-not-matter, last-time-of-premium, last-time-of-reserve}
use Rattle.halo_model.proofs.PaidInTime.{contracts-are-paid-in-time}
use Rattle.halo_model.proofs.laws.last_time_does_not_matter.Goals as goal

pub returns-clause-value : goal.returns-clause-value
returns-clause-value c = last-time-does-not-matter

pub returns-clause-premium : goal.returns-clause-premium
returns-clause-premium c = last-time-of-premium

pub returns-clause-reserve : goal.returns-clause-reserve
returns-clause-reserve c = last-time-of-reserve

pub returns-clause-contracts : goal.returns-clause-contracts
returns-clause-contracts c = contracts-are-paid-in-time
