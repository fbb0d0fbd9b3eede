use Rattle.std.proofs.Common.{rules, ◌∙◌, set, ap}
use Rattle.std.proofs.lemmas.List.{set-get_or, set-set}
use Rattle.halo_status.specs.StatusTree.{tree_of}
use Rattle.halo_status.specs.View.{is_on}
use Rattle.halo_chance.proofs.Losses.{loss-enclosed}
use Rattle.halo_chance.proofs.leaving.loss.Goals as goal

pub returns-clause-loss : goal.returns-clause-loss
returns-clause-loss g c =
    loss-enclosed c.args.lives.now (is_on c.args.view c.args.t) c.args.a (tree_of c.args.body.now) c.exact.result
    c.exact-2.result c.chance-with.result c.chance-without.result c.fall.result c.requires.life (search rules)
    (search rules) (search rules) (search rules)
    (rw c.from-place.ensures at c.chance-with.ensures.along)
    (rw (
      c.from-place.ensures,
      set-set c.args.lives.now c.args.a c.exact.result c.exact-2.result,
    ) at c.chance-without.ensures.along)
    c.fall.ensures.chance

pub returns-clause-lives : goal.returns-clause-lives
returns-clause-lives g c =
    let lives = c.args.lives.now in
    let place = c.from-place.result in
    let own = c.index-lives-place.result in
    set-set (set lives place c.exact.result) place c.exact-2.result own
    ∙ set-set lives place c.exact.result own
    ∙ ap (set lives place) c.index-lives-place.is
    ∙ set-get_or lives place own
