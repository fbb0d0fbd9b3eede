use Rattle.std.proofs.Common.{◌≡◌, ℕ, ◌*◌, ◌-◌, arith, ap}
use Rattle.std.proofs.lemmas.Int.{ints}
use Rattle.halo_num.specs.Ends.{fine}
use Rattle.halo_status.specs.Nodes.{nodes}
use Rattle.halo_status.specs.Pay.{pay_of}
use Rattle.halo_contract.specs.declared.ties.Ties.TheVariants.{Declared}
use Rattle.halo_compile.proofs.Clamped.{meets-above, meets-below}
use Rattle.halo_along.specs.Along.{EnclosesAlong}
use Rattle.halo_along.proofs.Counting.{products-few, year-few}
use Rattle.halo_along.proofs.Whole.{most-of-annuity, some-denominator, total-encloses, total-narrow, value-above, value-below}
use Rattle.halo_along.proofs.annuity.annuity_at_start.Goals as goal

pub between-requires-clause-meets_most : goal.between-requires-clause-meets_most
between-requires-clause-meets_most g c =
    let r = c.requires in
    let along = c.args.along.now in
    let group = c.start-start.ensures.group in
    let total = c.value_of_years-total in
    meets-above total.result _ _ c.most_of_annuity.result
    (some-denominator along group c.fractions-fractions.ensures.interest)
    (total-encloses along r.along r.annuity group Declared total.result total.ensures.years)
    (value-above along r.along r.annuity group Declared c.most_of_annuity.result c.most_of_annuity.ensures.value)

pub between-requires-clause-meets_least : goal.between-requires-clause-meets_least
between-requires-clause-meets_least g c =
    let r = c.requires in
    let along = c.args.along.now in
    let group = c.start-start.ensures.group in
    let total = c.value_of_years-total in
    meets-below total.result _ _ c.least_of_annuity-least.result
    (some-denominator along group c.fractions-fractions.ensures.interest)
    (total-encloses along r.along r.annuity group Declared total.result total.ensures.years)
    (value-below along r.along r.annuity group Declared c.least_of_annuity-least.result
    (rw (c.start-start.ensures.value, c.alive.ensures.value) at c.least_of_annuity-least.ensures.one))

pub returns-clause-encloses : goal.returns-clause-encloses
unfolding EnclosesAlong
returns-clause-encloses g c = λ ties.
    let r = c.requires in
    let along = c.args.along.now in
    let group = c.start-start.ensures.group in
    let total = c.value_of_years-total in
    let most = most-of-annuity along r.along r.annuity group ties c.most_of_annuity.result
    c.most_of_annuity.ensures.value in
    let high = ap (λ (n : ℕ). n * fine) most in
    record {
      encloses = c.between.ensures.encloses _ _
          (value-above along r.along r.annuity group ties c.most_of_annuity.result c.most_of_annuity.ensures.value)
          (value-below along r.along r.annuity group ties c.least_of_annuity-least.result
          (rw (c.start-start.ensures.value, c.alive.ensures.value) at c.least_of_annuity-least.ensures.one))
          (total-encloses along r.along r.annuity group ties total.result total.ensures.years);
      narrow = c.between.ensures.narrow _
          (total-narrow along r.along r.annuity group ties total.result total.ensures.years);
      within = record {
        low = omega (arith, ints, c.between.ensures.within.low);
        high = omega (arith, ints, c.between.ensures.within.high, high);
      };
    }

pub returns-clause-one : goal.returns-clause-one
returns-clause-one g c = λ at_once.
    let one : c.least_of_annuity-least.result ≡ 1 =
    (rw (c.start-start.ensures.value, c.alive.ensures.value) at c.least_of_annuity-least.ensures.at_once) at_once in
    omega (arith, ints, one, c.between.ensures.within.low)

pub returns-clause-cost : goal.returns-clause-cost
returns-clause-cost g c =
    let along = c.args.along.now in
    let body = (pay_of along.pay.now).body in
    omega (
      arith,
      c.value_of_years-total.ensures.cost,
      products-few (along.horizon - along.group.now.start) _ along.horizon (nodes body) (omega arith)
          (year-few (nodes body)),
    )
