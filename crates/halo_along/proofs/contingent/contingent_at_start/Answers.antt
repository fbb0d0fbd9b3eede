use Rattle.std.proofs.Common.{◌*◌, ◌-◌, ap, arith, sym, ◌∙◌}
use Rattle.std.proofs.lemmas.Int.{ints}
use Rattle.halo_num.specs.Ends.{fine}
use Rattle.halo_status.specs.Nodes.{nodes}
use Rattle.halo_status.specs.Pay.{pay_of}
use Rattle.halo_contract.specs.declared.ties.Ties.TheVariants.{Declared}
use Rattle.halo_model.specs.Counts.{lives_named}
use Rattle.halo_compile.proofs.Clamped.{meets-above, meets-below}
use Rattle.halo_along.proofs.Contingents.{contingent-encloses, contingent-narrow, contingent-products-few, lives-small}
use Rattle.halo_along.proofs.EndYears.{ends-small}
use Rattle.halo_along.proofs.InsuredWhole.{insured-above, most-of-insurance}
use Rattle.halo_along.proofs.Whole.{some-denominator}
use Rattle.halo_along.proofs.contingent.contingent_at_start.Goals as goal

pub add-requires-clause-self_in : goal.add-requires-clause-self_in
add-requires-clause-self_in g c =
    lives-small c.args.along.now g.row.N c.value_of_lives-leavings.result c.start-start.ensures.group.few
    c.requires.along.horizon_in c.value_of_lives-leavings.ensures.lives

pub add-requires-clause-o_in : goal.add-requires-clause-o_in
add-requires-clause-o_in g c =
    ends-small c.args.along.now _ c.value_of_ends-ends.result (omega (arith, c.requires.along.horizon_in))
    c.value_of_ends-ends.ensures.ends

pub between-requires-clause-meets_most : goal.between-requires-clause-meets_most
between-requires-clause-meets_most g c =
    let along = c.args.along.now in
    let is = c.requires in
    let group = c.start-start.ensures.group in
    let most = c.from.ensures ∙ c.greatest_factor-most.ensures.value in
    meets-above c.add.result _ _ c.from.result (some-denominator along group c.fractions-fractions.ensures.interest)
    (contingent-encloses along is.along group is.insurance c.value_of_lives-leavings.result c.value_of_ends-ends.result
    c.add.result c.value_of_lives-leavings.ensures.lives c.value_of_ends-ends.ensures.ends c.add.ensures.lo
    c.add.ensures.hi)
    (insured-above along is.along group is.insurance Declared c.from.result most)

pub between-requires-clause-meets_least : goal.between-requires-clause-meets_least
between-requires-clause-meets_least g c =
    let along = c.args.along.now in
    let is = c.requires in
    let group = c.start-start.ensures.group in
    meets-below c.add.result _ _ 0 (some-denominator along group c.fractions-fractions.ensures.interest)
    (contingent-encloses along is.along group is.insurance c.value_of_lives-leavings.result c.value_of_ends-ends.result
    c.add.result c.value_of_lives-leavings.ensures.lives c.value_of_ends-ends.ensures.ends c.add.ensures.lo
    c.add.ensures.hi)
    (omega arith)

pub returns-clause-value : goal.returns-clause-value
returns-clause-value g c =
    let along = c.args.along.now in
    let is = c.requires in
    let group = c.start-start.ensures.group in
    let most = c.from.ensures ∙ c.greatest_factor-most.ensures.value in
    let high = ap (λ n. n * fine) (most ∙ sym (most-of-insurance along is.along group is.insurance Declared)) in
    record {
      encloses = c.between.ensures.encloses _ _
          (insured-above along is.along group is.insurance Declared c.from.result most)
          (omega arith)
          (contingent-encloses along is.along group is.insurance c.value_of_lives-leavings.result
          c.value_of_ends-ends.result c.add.result c.value_of_lives-leavings.ensures.lives
          c.value_of_ends-ends.ensures.ends c.add.ensures.lo c.add.ensures.hi);
      narrow = c.between.ensures.narrow _
          (contingent-narrow along is.along group is.insurance c.value_of_lives-leavings.result
          c.value_of_ends-ends.result c.add.result c.value_of_lives-leavings.ensures.lives
          c.value_of_ends-ends.ensures.ends c.add.ensures.lo c.add.ensures.hi);
      within = record {
        low = c.between.ensures.within.low;
        high = omega (arith, ints, c.between.ensures.within.high, high);
      };
    }

pub returns-clause-cost : goal.returns-clause-cost
returns-clause-cost g c =
    let along = c.args.along.now in
    omega (
      arith,
      c.value_of_lives-leavings.ensures.cost,
      c.value_of_ends-ends.ensures.cost,
      contingent-products-few (along.horizon - along.group.now.start) along.horizon
          (lives_named g.row.N (pay_of along.pay.now).body) (nodes (pay_of along.pay.now).body) (omega arith),
    )
