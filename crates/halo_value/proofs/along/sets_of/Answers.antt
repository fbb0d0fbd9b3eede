use Rattle.std.proofs.Common.{◌^◌, ◌≤◌, arith}
use Rattle.std.proofs.Math.Pow.{pow_mono}
use Rattle.std.proofs.lemmas.Nat.{one_shl}
use Rattle.halo_value.proofs.along.sets_of.Goals as goal

pub returns-clause-few : goal.returns-clause-few
returns-clause-few c =
    let most : 2 ^ c.args.lives ≤ 2 ^ 12 = pow_mono c.requires in
    omega (arith, one_shl c.args.lives 64 (omega (arith, c.requires)), most)
