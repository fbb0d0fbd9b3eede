-- The set of the named lives has as many of them as bits are set in it.
use Rattle.std.proofs.Common.{ℕ, ◌∙◌, arith}
use Rattle.std.proofs.lemmas.Nat.{ones-le}
use Rattle.halo_status.specs.StatusTree.{tree_of}
use Rattle.halo_compile.proofs.NamedSets.{all-named, named-is-below, named-size}
use Rattle.halo_value.proofs.SetSizes.{ones-in-set}
use Rattle.halo_value.proofs.along.lives_named.Goals as goal

pub returns-clause-count : goal.returns-clause-count
returns-clause-count g c =
    let body = tree_of c.args.body.now in
    let set : ℕ = c.lives.result in
    let below = named-is-below g.row.N body c.requires.lives set (all-named set body c.lives.ensures) in
    ones-in-set g.row.N set below ∙ named-size set body c.lives.ensures g.row.N

pub returns-clause-few : goal.returns-clause-few
returns-clause-few g c =
    let body = tree_of c.args.body.now in
    let set : ℕ = c.lives.result in
    let below = named-is-below g.row.N body c.requires.lives set (all-named set body c.lives.ensures) in
    omega (arith, ones-le g.row.N set below, c.requires.few)
