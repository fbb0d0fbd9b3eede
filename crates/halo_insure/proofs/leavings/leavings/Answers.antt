use Rattle.std.proofs.Common.{◌≡◌, arith, None}
use Rattle.halo_compile.proofs.Tasks.{group-lives}
use Rattle.halo_life.proofs.YearChances.{length-lives}
use Rattle.halo_model.specs.FromTables.{lives_of}
use Rattle.halo_insure.proofs.SomeLeave.{leavings-enclosed}
use Rattle.halo_insure.proofs.leavings.leavings.Goals as goal

pub returns-then-is_none-clause-chances : goal.returns-then-is_none-clause-chances
returns-then-is_none-clause-chances g c =
    let group = c.start-start.ensures.group in
    let of_group = c.args.group.now in
    let all : c.args.counted ≡ c.args.named = c.if-counted-named.true in
    let any : c.args.causes ≡ None = grind (arith, c.is_none.ensures, c.if-is_none.true) in
    rw (all, any) (leavings-enclosed (lives_of of_group.file of_group.lives) (group-lives g.row.N of_group group)
    g.row.N (length-lives g.row.N of_group group) c.args.k of_group.ties c.args.named c.args.into.now.survivals
    c.leave_or_survive.new.self.leavings c.requires.survivals c.leave_or_survive.ensures.chances)
