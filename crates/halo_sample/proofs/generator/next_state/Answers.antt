use Rattle.halo_sample.proofs.Draws.{stepped}
use Rattle.halo_sample.proofs.generator.next_state.Goals as goal

pub returns : goal.returns
returns c = stepped c.args.state
