use Rattle.halo_insure.proofs.value.value_at.Goals as goal

pub returns : goal.returns
returns g c = record {
  encloses = c.worth_at.ensures.encloses;
  narrow = c.worth_at.ensures.narrow;
  within = c.worth_at.ensures.within;
}
