-- What was written and the lines that are left make all lines.
use Rattle.std.proofs.Common.{◌≡◌, ◌++◌, ◌+◌, ◌-◌}
use Rattle.halo_sample.specs.declared.contract.TheConstants.{LIVES}
use Rattle.halo_sample.specs.Generator.{state_behind_pairs}
use Rattle.halo_sample.specs.Contract.{life_line, lines_from}
use Rattle.halo_sample.proofs.contract.write_lives.Given as goal

abbrev pub invariant-loop-place : goal.invariant-loop-place
invariant-loop-place l = record {
  text : l.into.items ++ lines_from life_line (LIVES - l.place) (l.place + 1) l.draws
      ≡ l.fn.into.items ++ lines_from life_line LIVES 1 l.fn.draws;
  state : l.draws ≡ state_behind_pairs l.place l.fn.draws;
}
