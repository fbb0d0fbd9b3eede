use Rattle.halo_model.proofs.LeavingsOfASet.{leavings-of-a-set}
use Rattle.halo_model.proofs.OrderLaws.{first-leaving-evenly}
use Rattle.halo_model.proofs.SomeLeaves.{some-leaves-in-each-order}
use Rattle.halo_model.proofs.laws.first_to_leave.Goals as goal

pub returns-clause-leavings : goal.returns-clause-leavings
returns-clause-leavings c = leavings-of-a-set

pub returns-clause-evenly : goal.returns-clause-evenly
returns-clause-evenly c = first-leaving-evenly

pub returns-clause-any_cause : goal.returns-clause-any_cause
returns-clause-any_cause c = some-leaves-in-each-order
