use Rattle.halo_status.specs.StatusTree.{tree_of}
use Rattle.halo_model.specs.PartsByTree.{waiting}
use Rattle.halo_chance.proofs.EndLosses.{end-loss-enclosed}
use Rattle.halo_chance.proofs.pay.end_loss.Goals as goal

pub returns-clause-loss : goal.returns-clause-loss
returns-clause-loss g c =
    end-loss-enclosed c.args.lives.now c.args.n (waiting c.args.pay.now.mark (tree_of c.args.pay.now.body))
    c.chance_of_pay-before.result c.chance_of_pay-after.result c.fall.result c.chance_of_pay-before.ensures.along
    c.chance_of_pay-after.ensures.along c.fall.ensures.chance
