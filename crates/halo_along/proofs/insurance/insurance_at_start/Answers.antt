use Rattle.std.proofs.Common.{◌+◌, ◌*◌, ◌-◌, ap, arith, sym, ◌∙◌}
use Rattle.std.proofs.lemmas.Int.{ints}
use Rattle.halo_num.specs.Ends.{fine}
use Rattle.halo_status.specs.Nodes.{nodes}
use Rattle.halo_status.specs.Pay.{pay_of}
use Rattle.halo_contract.specs.declared.ties.Ties.TheVariants.{Declared}
use Rattle.halo_compile.proofs.Clamped.{meets-above, meets-below}
use Rattle.halo_along.specs.Along.{EnclosesAlong}
use Rattle.halo_along.proofs.Counting.{insured-year-few, products-few}
use Rattle.halo_along.proofs.InsuredWhole.{insured-above, insured-encloses, insured-narrow, most-of-insurance}
use Rattle.halo_along.proofs.Whole.{some-denominator}
use Rattle.halo_along.proofs.insurance.insurance_at_start.Goals as goal

pub between-requires-clause-meets_most : goal.between-requires-clause-meets_most
between-requires-clause-meets_most g c =
    let along = c.args.along.now in
    let is = c.requires in
    let group = c.start-start.ensures.group in
    let most = c.from.ensures ∙ c.greatest_factor-most.ensures.value in
    meets-above c.value_of_years-total.result _ _ c.from.result
    (some-denominator along group c.fractions-fractions.ensures.interest)
    (insured-encloses along is.along group is.insurance Declared is.unmarked is.any_cause _
    c.value_of_years-total.ensures.years)
    (insured-above along is.along group is.insurance Declared c.from.result most)

pub between-requires-clause-meets_least : goal.between-requires-clause-meets_least
between-requires-clause-meets_least g c =
    let along = c.args.along.now in
    let is = c.requires in
    let group = c.start-start.ensures.group in
    meets-below c.value_of_years-total.result _ _ 0
    (some-denominator along group c.fractions-fractions.ensures.interest)
    (insured-encloses along is.along group is.insurance Declared is.unmarked is.any_cause _
    c.value_of_years-total.ensures.years)
    (omega arith)

pub returns-clause-value : goal.returns-clause-value
unfolding EnclosesAlong
returns-clause-value g c = λ ties.
    let along = c.args.along.now in
    let is = c.requires in
    let group = c.start-start.ensures.group in
    let most = c.from.ensures ∙ c.greatest_factor-most.ensures.value in
    let high = ap (λ n. n * fine)
    (most ∙ sym (most-of-insurance along is.along group is.insurance ties)) in
    record {
      encloses = c.between.ensures.encloses _ _
          (insured-above along is.along group is.insurance ties c.from.result most)
          (omega arith)
          (insured-encloses along is.along group is.insurance ties is.unmarked is.any_cause _
          c.value_of_years-total.ensures.years);
      narrow = c.between.ensures.narrow _
          (insured-narrow along is.along group is.insurance ties _
          c.value_of_years-total.ensures.years);
      within = record {
        low = c.between.ensures.within.low;
        high = omega (arith, ints, c.between.ensures.within.high, high);
      };
    }

pub returns-clause-cost : goal.returns-clause-cost
returns-clause-cost g c =
    let along = c.args.along.now in
    let body = (pay_of along.pay.now).body in
    omega (
      arith,
      c.value_of_years-total.ensures.cost,
      products-few (along.horizon - along.group.now.start + 1) _ along.horizon (nodes body) (omega arith)
          (insured-year-few (nodes body)),
    )
