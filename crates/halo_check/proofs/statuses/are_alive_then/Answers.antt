use Rattle.halo_check.proofs.statuses.are_alive_then.Goals as goal

pub returns-in-Reserve : goal.returns-in-Reserve
returns-in-Reserve c =
    let lives = rw c.deref.ensures.value at c.are_lives_alive.ensures in
    rw c.in-Reserve.is (rw (c.deref-in-Reserve.ensures.value, c.years_within.ensures) at lives)
