use Rattle.std.proofs.Common.{pos, ◌*◌}
use Rattle.halo_insure.proofs.one_year.due_in_year.Goals as goal

pub returns-clause-encloses : goal.returns-clause-encloses
returns-clause-encloses c = λ left alive start p q.
    c.add.ensures.encloses (pos (c.args.due.on_leaving * left)) (pos (c.args.due.at_end * alive)) start
    (c.payments-on_leaving.ensures.encloses left start p) (c.payments-at_end.ensures.encloses alive start q)
