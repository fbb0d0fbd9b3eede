use Rattle.std.proofs.Common.{◌≡◌, ◌+◌, ◌*◌, ◌≤◌, ◌≤ℤ◌, length, pos}
use Rattle.std.specs.List.{filter}
use Rattle.halo_sums.specs.Sums.{numbers_from}
use Rattle.halo_sums.specs.Sets.{in_set}
use Rattle.halo_sums.specs.Masks.{bits}
use Rattle.halo_num.specs.Ends.{IsWithin, fine}
use Rattle.halo_life.specs.YearOfLives.{numbers_of}
use Rattle.halo_life.proofs.Firsts.{IsSumTo}
use Rattle.halo_life.proofs.group.Group.leaving_evenly.Given as goal

abbrev pub invariant-loop-life : goal.invariant-loop-life
invariant-loop-life g l = record {
  count : l.count ≡ length (filter (in_set (bits g.row.N l.set)) (numbers_from 0 l.life));
  few : l.count ≤ l.life;
  within : IsWithin l.sum (pos 0) (pos (2 * l.count * fine));
  low : l.sum.lo ≤ℤ pos (l.count * fine);
  part : IsSumTo g.row.N (numbers_of l.self l.year) l.set l.life l.sum;
  cost : l.steps ≡ l.initial.steps + l.count;
}
