use Rattle.std.proofs.Common.{◌^◌, ◌<◌, lit<, arith, sym, ◌∙◌}
use Rattle.halo_contract.specs.declared.ties.Ties.TheVariants.{Declared}
use Rattle.halo_life.specs.YearOfLives.{EnclosesFirst, numbers_of}
use Rattle.halo_life.proofs.Firsts.{IsCut, in-order-enclosed, is-declared, is-even, size-some}
use Rattle.halo_life.proofs.Within.{bit-below}
use Rattle.halo_life.proofs.group.Group.leaving_of_set.Goals as goal

pub leaving_evenly-requires : goal.leaving_evenly-requires
leaving_evenly-requires g c =
    let rule = is-even c.args.self.now.ties (sym c.is_even.ensures.value ∙ c.if-is_even.true) in (
      lit< tt,
      (
        lit< tt,
        (
          rule,
          (c.requires.sets, (c.requires.some, (c.requires.below, (c.requires.years, rw rule at c.requires.smaller)))),
        ),
      ),
    )

pub returns-then-is_even-clause-leaving : goal.returns-then-is_even-clause-leaving
returns-then-is_even-clause-leaving g c =
    let rule = is-even c.args.self.now.ties (sym c.is_even.ensures.value ∙ c.if-is_even.true) in
    rw rule c.leaving_evenly.ensures.leaving

pub as_first-first-requires : goal.as_first-first-requires
as_first-first-requires g c =
    let n = g.row.N in
    let below : c.args.set < 2 ^ n = omega (arith, c.requires.below, c.requires.sets) in
    let low = bit-below n c.args.set c.first_of.result below c.first_of.ensures.within in (
      lit< tt,
      (
        lit< tt,
        (
          c.requires.sets,
          (c.requires.below, (c.first_of.ensures.within, (low, (c.requires.years, c.requires.smaller)))),
        ),
      ),
    )

pub returns-else-is_even-clause-leaving : goal.returns-else-is_even-clause-leaving
returns-else-is_even-clause-leaving g c =
    let n = g.row.N in
    let numbers = numbers_of c.args.self.now c.args.year.now in
    let rule = is-declared c.args.self.now.ties (sym c.is_even.ensures.value ∙ c.if-is_even.false) in
    let below : c.args.set < 2 ^ n = omega (arith, c.requires.below, c.requires.sets) in
    let there = c.first_of.ensures.within in
    let first : EnclosesFirst Declared n numbers c.args.set c.first_of.result c.as_first-first.result =
    rw rule at c.as_first-first.ensures.first in
    let cut : IsCut c.as_first-first.result c.clamp.result =
    record { lo = c.clamp.ensures.lo; hi = c.clamp.ensures.hi; encloses = c.clamp.ensures.encloses } in
    rw rule (in-order-enclosed n numbers c.args.set c.requires.years.parts c.first_of.result
    (bit-below n c.args.set c.first_of.result below there) there
    c.first_of.ensures.first
    (size-some n c.args.set c.requires.some below) c.as_first-first.result c.clamp.result first cut)
