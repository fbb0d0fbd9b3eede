use Rattle.std.proofs.Common.{◌+◌, ◌*◌}
use Rattle.halo_sums.specs.Masks.{bits}
use Rattle.halo_sums.specs.Sets.{size_of}
use Rattle.halo_life.specs.PlainGroup.{started, surviving}
use Rattle.halo_annuity.specs.SetProduct.{product_in}
use Rattle.halo_compile.specs.OfTask.{basis_of_task}
use Rattle.halo_annuity.proofs.OneSet.{one-year}
use Rattle.halo_sums.proofs.SetMasks.{length-bits}
use Rattle.halo_annuity.proofs.Survivors.{year-chance}
use Rattle.halo_annuity.proofs.one_set.year.Goals as goal

pub returns-clause-year : goal.returns-clause-year
returns-clause-year g c = λ ties.
    let task = c.args.task.now in
    let b = basis_of_task task ties in
    let num = product_in (surviving c.at.result (c.args.t + 1)) (bits g.row.N c.args.set) in
    let den = product_in (started c.at.result) (bits g.row.N c.args.set) in
    one-year b g.row.N c.args.t (bits g.row.N c.args.set) num den c.mul.result (length-bits g.row.N c.args.set)
    (c.mul.ensures.chance (b.q c.args.t) num (b.p c.args.t + b.q c.args.t) den 1 (2 * size_of (bits g.row.N c.args.set))
    (record { encloses = c.year.ensures.encloses; narrow = c.year.ensures.narrow; within = c.year.ensures.within })
    c.all_survive-survival.ensures.chance)
    (λ some. year-chance task.group.now c.at.result g.row.N c.args.t c.args.set c.start-start.ensures.group.count
    c.at.ensures.file c.at.ensures.lives c.at.ensures.start c.at.ensures.alive some)
