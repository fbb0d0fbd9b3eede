use Rattle.halo_check.proofs.names.has_lives.Goals as goal

pub returns-in-Pay : goal.returns-in-Pay
returns-in-Pay c = rw c.in-Pay.is (rw c.deref.ensures.value at c.names_declared.ensures)

pub returns-in-Premium : goal.returns-in-Premium
returns-in-Premium c = rw c.in-Premium.is (rw c.deref-in-Premium.ensures.value at c.names_declared-in-Premium.ensures)

pub returns-in-Reserve : goal.returns-in-Reserve
returns-in-Reserve c =
    rw c.in-Reserve.is (rw (c.deref-in-Reserve.ensures.value, c.deref-in-Reserve-2.ensures.value) at
    c.are_lives.ensures)

pub names_declared-requires : goal.names_declared-requires
names_declared-requires c = let proper = rw c.in-Pay.is at c.requires in proper.1.body

pub names_declared-requires-in-Premium : goal.names_declared-requires-in-Premium
names_declared-requires-in-Premium c = rw c.in-Premium.is at c.requires
