-- The places that were looked at have grown, and the others are as before.
use Rattle.std.proofs.Common.{◌≡◌, ◌+◌, ◌*◌}
use Rattle.halo_chance.specs.Enclosed.{EachIsChance, entry_at}
use Rattle.halo_chance.specs.Table.{Grows}
use Rattle.halo_chance.proofs.table.with_member.Given as goal

abbrev pub invariant-loop-rank : goal.invariant-loop-rank
invariant-loop-rank g l =
    (entry_at l.table 0 ≡ entry_at l.others 0)
    × Grows l.chance l.rank l.others l.table
    × EachIsChance 18 l.table
    × (l.steps ≡ l.fn.steps + 2 * l.rank)
