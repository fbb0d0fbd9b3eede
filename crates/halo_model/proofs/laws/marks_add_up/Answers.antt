use Rattle.halo_model.proofs.FirstMarks.{first-marks-add-up}
use Rattle.halo_model.proofs.Ranks.{ranks-add-up}
use Rattle.halo_model.proofs.laws.marks_add_up.Goals as goal

pub returns-clause-first : goal.returns-clause-first
returns-clause-first c = first-marks-add-up

pub returns-clause-ranks : goal.returns-clause-ranks
returns-clause-ranks c = ranks-add-up
