use Rattle.halo_check.proofs.Tests.{not_iff}
use Rattle.halo_check.proofs.names.is_once.Goals as goal

pub returns-in-Life : goal.returns-in-Life
returns-in-Life c = rw c.in-Life.is (not_iff _ (rw c.deref.ensures.value at c.is_declared.ensures))

pub returns-in-Some : goal.returns-in-Some
returns-in-Some c = rw (c.in-Pay.is, c.in-Some.is) c.are_different_in_set.ensures

pub returns-in-Reserve : goal.returns-in-Reserve
returns-in-Reserve c = rw c.in-Reserve.is (rw c.deref-in-Reserve.ensures.value at c.are_different.ensures)
