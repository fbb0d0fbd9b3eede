use Rattle.halo_annuity.proofs.sets.pay_set.Goals as goal

pub grown-minus-requires-clause-modest : goal.grown-minus-requires-clause-modest
grown-minus-requires-clause-modest g c = rw c.minus.ensures c.requires.modest.1
