use Rattle.halo_model.proofs.OneEvent.{one-event-a-year}
use Rattle.halo_model.proofs.laws.one_event_a_year.Goals as goal

pub returns : goal.returns
returns c = one-event-a-year
