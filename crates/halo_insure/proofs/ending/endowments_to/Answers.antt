use Rattle.std.proofs.Common.{◌≡◌, ◌∙◌, arith, lit<, refl}
use Rattle.halo_status.specs.Pay.{pay_of}
use Rattle.halo_model.specs.FromTables.{lives_of}
use Rattle.halo_compile.proofs.NamedSets.{all-named, named-size, named-within, set-below}
use Rattle.halo_insure.specs.OfTask.{insured_basis}
use Rattle.halo_insure.proofs.ending.endowments_to.Goals as goal

pub endowments-requires : goal.endowments-requires
endowments-requires g c =
    let task = c.args.task.now in
    let body = (pay_of task.pay.now).body in
    let named = all-named c.lives.result body c.lives.ensures in
    let at = c.at-group.ensures in (
      lit< tt,
      (
        lit< tt,
        (
          c.requires.task.sets,
          (
            set-below task c.requires.task c.lives.result named,
            (
              omega (arith, at.start, c.start.ensures.value, c.requires.from),
              (
                c.requires.time,
                (
                  λ i low. rw (at.file, at.lives, at.start) (at.alive i low),
                  c.discount_to-discount.ensures.discount.within,
                ),
              ),
            ),
          ),
        ),
      ),
    )

pub returns-clause-endowments : goal.returns-clause-endowments
returns-clause-endowments g c = λ mask below each.
    let task = c.args.task.now in
    let body = (pay_of task.pay.now).body in
    let at = c.at-group.ensures in
    let b = insured_basis task in
    let same : c.at-group.result.start ≡ task.group.now.start = at.start ∙ c.start.ensures.value in
    let of_group : b.lives ≡ lives_of c.at-group.result.file c.at-group.result.lives = rw (at.file, at.lives) refl in
    rw same at (c.endowments.ensures.endowments b of_group (rw same c.discount_to-discount.ensures.discount) mask
    (named-within c.lives.result body c.lives.ensures mask each))

pub returns-clause-cost : goal.returns-clause-cost
returns-clause-cost g c =
    let body = (pay_of c.args.task.now.pay.now).body in
    let size = named-size c.lives.result body c.lives.ensures g.row.N in
    let cost = rw size at c.endowments.ensures.cost in
    omega (arith, cost, c.discount_to-discount.ensures.cost)
