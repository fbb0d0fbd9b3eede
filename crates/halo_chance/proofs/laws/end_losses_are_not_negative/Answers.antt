use Rattle.halo_chance.proofs.EndLosses.{pay-end-loss-is-not-negative}
use Rattle.halo_chance.proofs.laws.end_losses_are_not_negative.Goals as goal

pub returns : goal.returns
returns c = pay-end-loss-is-not-negative
