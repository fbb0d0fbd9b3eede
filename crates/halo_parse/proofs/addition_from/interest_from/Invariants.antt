use Rattle.halo_text.specs.Number.{number}
use Rattle.halo_parse.proofs.LaterRates.{HasRates}
use Rattle.halo_parse.proofs.addition_from.interest_from.Given as goal

abbrev pub invariant-loop-rate : goal.invariant-loop-rate
invariant-loop-rate l = HasRates (record { year = 0; p = number l.p; q = number l.q }) l.later l.rate-index l.interest
