use Rattle.std.proofs.Common.{arith, ◌∙◌}
use Rattle.halo_status.specs.Naming.{names_life}
use Rattle.halo_status.specs.Nodes.{nodes}
use Rattle.halo_status.specs.Pay.{pay_of}
use Rattle.halo_compile.proofs.Clamped.{meets-above, meets-below}
use Rattle.halo_along.proofs.Contingents.{one-life-products}
use Rattle.halo_along.proofs.PartsAlong.{bounded-part, life-part}
use Rattle.halo_along.proofs.Whole.{some-denominator}
use Rattle.halo_along.proofs.parts.on_life_along.Goals as goal

pub between-requires-clause-meets_most : goal.between-requires-clause-meets_most
between-requires-clause-meets_most g c =
    let along = c.args.along.now in
    let group = c.start-start.ensures.group in
    let part = life-part along c.requires.along group c.requires.insurance c.from.result
    (c.from.ensures ∙ c.greatest_factor-most.ensures.value) c.args.life c.value_of_life-part.result
    c.value_of_life-part.ensures.life in
    meets-above c.value_of_life-part.result part.number _ c.from.result
    (some-denominator along group c.fractions-fractions.ensures.interest) part.encloses part.bound

pub between-requires-clause-meets_least : goal.between-requires-clause-meets_least
between-requires-clause-meets_least g c =
    let along = c.args.along.now in
    let group = c.start-start.ensures.group in
    let part = life-part along c.requires.along group c.requires.insurance c.from.result
    (c.from.ensures ∙ c.greatest_factor-most.ensures.value) c.args.life c.value_of_life-part.result
    c.value_of_life-part.ensures.life in
    meets-below c.value_of_life-part.result part.number _ 0
    (some-denominator along group c.fractions-fractions.ensures.interest) part.encloses (omega arith)

pub returns-clause-encloses : goal.returns-clause-encloses
returns-clause-encloses g c =
    let along = c.args.along.now in
    let group = c.start-start.ensures.group in
    let most = c.from.ensures ∙ c.greatest_factor-most.ensures.value in
    bounded-part along c.requires.along group c.requires.insurance c.from.result most _ c.value_of_life-part.result
    c.between.result
    (life-part along c.requires.along group c.requires.insurance c.from.result most c.args.life
    c.value_of_life-part.result c.value_of_life-part.ensures.life)
    c.between.ensures.encloses c.between.ensures.narrow c.between.ensures.within

pub returns-clause-cost : goal.returns-clause-cost
returns-clause-cost g c =
    let along = c.args.along.now in
    let body = (pay_of along.pay.now).body in
    omega (
      arith,
      c.value_of_life-part.ensures.cost,
      one-life-products (names_life c.args.life body) along.horizon (nodes body),
    )
