use Rattle.std.proofs.Common.{◌≡◌, ℕ, ◌+◌, ◌*◌, ◌≤◌, pos, rules, arith, lit<, to_z, of_z, ap, subst, ◌∙◌}
use Rattle.std.specs.Int.{w64}
use Rattle.std.proofs.lemmas.Int.{ints, to_z-of_z}
use Rattle.halo_model.specs.Backward.{above_zero, below_zero}
use Rattle.halo_poly.specs.Poly.{coefficient_at}
use Rattle.halo_contract.specs.declared.ties.Ties.TheVariants.{Declared}
use Rattle.halo_annuity.proofs.Terms.{coefficient, coefficient-small, held-in-form, held-run, held-times, part-encloses, term-most, term-narrow, term-small, term-within, to-horizon, turned, both-ways, zero-encloses}
use Rattle.halo_annuity.proofs.term.term_value.Goals as goal

pub below_zero-below-requires : goal.below_zero-below-requires
below_zero-below-requires g c =
    let e = c.coefficient-coefficient.ensures.value
    ∙ ap (λ s. coefficient_at s.poly c.args.set) c.segment-run.ensures in
    let back : to_z w64 (of_z w64 c.coefficient-coefficient.result) ≡ c.coefficient-coefficient.result =
    search (rules, to_z-of_z) in
    rw (back, e) (coefficient-small c.args.task.now
    c.requires.task c.start-start.ensures.group c.args.segment c.args.set c.requires.segment c.requires.set)

pub above_zero-requires : goal.above_zero-requires
above_zero-requires g c =
    let e = c.coefficient-coefficient.ensures.value
    ∙ ap (λ s. coefficient_at s.poly c.args.set) c.segment-run.ensures in
    let back : to_z w64 (of_z w64 c.coefficient-coefficient.result) ≡ c.coefficient-coefficient.result =
    search (rules, to_z-of_z) in
    rw (back, e) (coefficient-small c.args.task.now
    c.requires.task c.start-start.ensures.group c.args.segment c.args.set c.requires.segment c.requires.set)

pub paid_in_run-worth-requires : goal.paid_in_run-worth-requires
paid_in_run-worth-requires g c =
    let e = c.coefficient-coefficient.ensures.value
    ∙ ap (λ s. coefficient_at s.poly c.args.set) c.segment-run.ensures in
    let back : to_z w64 (of_z w64 c.coefficient-coefficient.result) ≡ c.coefficient-coefficient.result =
    search (rules, to_z-of_z) in (
      lit< tt,
      (
        c.requires.task,
        (
          held-in-form c.args.task.now c.requires.task c.start-start.ensures.group c.args.segment
              c.args.set c.requires.segment c.requires.set c.segment-run.result.now c.segment-run.ensures,
          held-times c.args.task.now c.requires.task c.start-start.ensures.group
              c.args.segment c.args.set c.requires.segment c.requires.set c.above_zero.result c.below_zero-below.result
              (c.above_zero.ensures.value ∙ ap above_zero (back ∙ e))
              (c.below_zero-below.ensures.value ∙ ap below_zero (back ∙ e)),
        ),
      ),
    )

pub sub-requires-clause-o_in : goal.sub-requires-clause-o_in
sub-requires-clause-o_in g c =
    let e = c.coefficient-coefficient.ensures.value
    ∙ ap (λ s. coefficient_at s.poly c.args.set) c.segment-run.ensures in
    let back : to_z w64 (of_z w64 c.coefficient-coefficient.result) ≡ c.coefficient-coefficient.result =
    search (rules, to_z-of_z) in
    let held = held-run c.args.task.now c.requires.task c.start-start.ensures.group
    c.args.segment c.args.set c.requires.segment c.requires.set c.segment-run.result.now
    c.above_zero.result c.below_zero-below.result c.paid_in_run-worth.result c.segment-run.ensures
    (c.above_zero.ensures.value ∙ ap above_zero (back ∙ e))
    (c.below_zero-below.ensures.value ∙ ap below_zero (back ∙ e)) c.paid_in_run-worth.ensures.worth in
    let small = term-small c.args.task.now c.requires.task c.start-start.ensures.group c.args.segment
    c.args.set c.requires.segment c.requires.set Declared c.paid_in_run-worth.result (held Declared) in
    record { low = omega (arith, ints, small.low); high = omega (arith, ints, small.high) }

pub returns-then-below-gt0-clause-encloses : goal.returns-then-below-gt0-clause-encloses
returns-then-below-gt0-clause-encloses g c = λ ties.
    let e = c.coefficient-coefficient.ensures.value
    ∙ ap (λ s. coefficient_at s.poly c.args.set) c.segment-run.ensures in
    let back : to_z w64 (of_z w64 c.coefficient-coefficient.result) ≡ c.coefficient-coefficient.result =
    search (rules, to_z-of_z) in
    let held = held-run c.args.task.now c.requires.task c.start-start.ensures.group
    c.args.segment c.args.set c.requires.segment c.requires.set c.segment-run.result.now
    c.above_zero.result c.below_zero-below.result c.paid_in_run-worth.result c.segment-run.ensures
    (c.above_zero.ensures.value ∙ ap above_zero (back ∙ e))
    (c.below_zero-below.ensures.value ∙ ap below_zero (back ∙ e)) c.paid_in_run-worth.ensures.worth in
    let below : c.below_zero-below.result ≡ below_zero (coefficient c.args.task.now
    c.requires.task c.start-start.ensures.group c.args.segment c.args.set c.requires.segment c.requires.set) =
    c.below_zero-below.ensures.value ∙ ap below_zero (back ∙ e) in
    part-encloses
    c.args.task.now c.requires.task c.start-start.ensures.group c.args.segment c.args.set c.requires.segment
    c.requires.set ties c.fractions-fractions.ensures.interest c.paid_in_run-worth.result c.sub.result (held ties)
    (λ none. absurd (omega (arith, none, below, c.if-below-gt0.true)))
    (λ some num den h. c.sub.ensures.encloses
    (pos 0) num den (zero-encloses c.exact.result den c.exact.ensures.lo c.exact.ensures.hi) h)

pub returns-then-below-gt0-clause-narrow : goal.returns-then-below-gt0-clause-narrow
returns-then-below-gt0-clause-narrow g c = λ ties.
    let e = c.coefficient-coefficient.ensures.value
    ∙ ap (λ s. coefficient_at s.poly c.args.set) c.segment-run.ensures in
    let back : to_z w64 (of_z w64 c.coefficient-coefficient.result) ≡ c.coefficient-coefficient.result =
    search (rules, to_z-of_z) in
    let held = held-run c.args.task.now c.requires.task c.start-start.ensures.group
    c.args.segment c.args.set c.requires.segment c.requires.set c.segment-run.result.now
    c.above_zero.result c.below_zero-below.result c.paid_in_run-worth.result c.segment-run.ensures
    (c.above_zero.ensures.value ∙ ap above_zero (back ∙ e))
    (c.below_zero-below.ensures.value ∙ ap below_zero (back ∙ e)) c.paid_in_run-worth.ensures.worth in
    let narrow = term-narrow c.args.task.now c.requires.task c.start-start.ensures.group c.args.segment
    c.args.set c.requires.segment c.requires.set ties c.requires.annuity c.paid_in_run-worth.result (held ties) in
    record {
      near = omega
          (arith, ints, narrow.near, c.sub.ensures.lo, c.sub.ensures.hi, c.exact.ensures.lo, c.exact.ensures.hi);
    }

pub returns-then-below-gt0-clause-sized : goal.returns-then-below-gt0-clause-sized
returns-then-below-gt0-clause-sized g c = λ ties.
    let e = c.coefficient-coefficient.ensures.value
    ∙ ap (λ s. coefficient_at s.poly c.args.set) c.segment-run.ensures in
    let back : to_z w64 (of_z w64 c.coefficient-coefficient.result) ≡ c.coefficient-coefficient.result =
    search (rules, to_z-of_z) in
    let held = held-run c.args.task.now c.requires.task c.start-start.ensures.group
    c.args.segment c.args.set c.requires.segment c.requires.set c.segment-run.result.now
    c.above_zero.result c.below_zero-below.result c.paid_in_run-worth.result c.segment-run.ensures
    (c.above_zero.ensures.value ∙ ap above_zero (back ∙ e))
    (c.below_zero-below.ensures.value ∙ ap below_zero (back ∙ e)) c.paid_in_run-worth.ensures.worth in
    let within = term-within c.args.task.now c.requires.task c.start-start.ensures.group c.args.segment
    c.args.set c.requires.segment c.requires.set ties c.requires.annuity c.paid_in_run-worth.result (held ties) in
    turned c.paid_in_run-worth.result
    c.sub.result _ within c.sub.ensures.lo c.sub.ensures.hi c.exact.ensures.lo c.exact.ensures.hi

pub returns-then-below-gt0-clause-small : goal.returns-then-below-gt0-clause-small
returns-then-below-gt0-clause-small g c =
    let e = c.coefficient-coefficient.ensures.value
    ∙ ap (λ s. coefficient_at s.poly c.args.set) c.segment-run.ensures in
    let back : to_z w64 (of_z w64 c.coefficient-coefficient.result) ≡ c.coefficient-coefficient.result =
    search (rules, to_z-of_z) in
    let held = held-run c.args.task.now c.requires.task c.start-start.ensures.group
    c.args.segment c.args.set c.requires.segment c.requires.set c.segment-run.result.now
    c.above_zero.result c.below_zero-below.result c.paid_in_run-worth.result c.segment-run.ensures
    (c.above_zero.ensures.value ∙ ap above_zero (back ∙ e))
    (c.below_zero-below.ensures.value ∙ ap below_zero (back ∙ e)) c.paid_in_run-worth.ensures.worth in
    let within = term-most c.args.task.now c.requires.task c.start-start.ensures.group c.args.segment
    c.args.set c.requires.segment c.requires.set Declared c.paid_in_run-worth.result (held Declared) in
    turned c.paid_in_run-worth.result
    c.sub.result _ within c.sub.ensures.lo c.sub.ensures.hi c.exact.ensures.lo c.exact.ensures.hi

pub returns-then-below-gt0-clause-cost : goal.returns-then-below-gt0-clause-cost
returns-then-below-gt0-clause-cost g c =
    let to = ap (λ s. s.to) c.segment-run.ensures in
    let cost = subst (λ (t : ℕ). c.paid_in_run-worth.new.steps ≤ c.args.steps.now + (g.row.N + 2) * t)
    to c.paid_in_run-worth.ensures.cost in
    omega (
      arith,
      cost,
      to-horizon c.args.task.now
          c.requires.task c.start-start.ensures.group c.args.segment c.args.set c.requires.segment c.requires.set,
    )

pub returns-else-below-gt0-clause-encloses : goal.returns-else-below-gt0-clause-encloses
returns-else-below-gt0-clause-encloses g c = λ ties.
    let e = c.coefficient-coefficient.ensures.value
    ∙ ap (λ s. coefficient_at s.poly c.args.set) c.segment-run.ensures in
    let back : to_z w64 (of_z w64 c.coefficient-coefficient.result) ≡ c.coefficient-coefficient.result =
    search (rules, to_z-of_z) in
    let held = held-run c.args.task.now c.requires.task c.start-start.ensures.group
    c.args.segment c.args.set c.requires.segment c.requires.set c.segment-run.result.now
    c.above_zero.result c.below_zero-below.result c.paid_in_run-worth.result c.segment-run.ensures
    (c.above_zero.ensures.value ∙ ap above_zero (back ∙ e))
    (c.below_zero-below.ensures.value ∙ ap below_zero (back ∙ e)) c.paid_in_run-worth.ensures.worth in
    let below : c.below_zero-below.result ≡ below_zero (coefficient c.args.task.now
    c.requires.task c.start-start.ensures.group c.args.segment c.args.set c.requires.segment c.requires.set) =
    c.below_zero-below.ensures.value ∙ ap below_zero (back ∙ e) in
    part-encloses c.args.task.now
    c.requires.task c.start-start.ensures.group c.args.segment c.args.set c.requires.segment c.requires.set
    ties c.fractions-fractions.ensures.interest c.paid_in_run-worth.result c.paid_in_run-worth.result (held ties)
    (λ none num den h. h)
    (λ some. absurd (omega (arith, some, below, c.if-below-gt0.false)))

pub returns-else-below-gt0-clause-narrow : goal.returns-else-below-gt0-clause-narrow
returns-else-below-gt0-clause-narrow g c = λ ties.
    let e = c.coefficient-coefficient.ensures.value
    ∙ ap (λ s. coefficient_at s.poly c.args.set) c.segment-run.ensures in
    let back : to_z w64 (of_z w64 c.coefficient-coefficient.result) ≡ c.coefficient-coefficient.result =
    search (rules, to_z-of_z) in
    let held = held-run c.args.task.now c.requires.task c.start-start.ensures.group
    c.args.segment c.args.set c.requires.segment c.requires.set c.segment-run.result.now
    c.above_zero.result c.below_zero-below.result c.paid_in_run-worth.result c.segment-run.ensures
    (c.above_zero.ensures.value ∙ ap above_zero (back ∙ e))
    (c.below_zero-below.ensures.value ∙ ap below_zero (back ∙ e)) c.paid_in_run-worth.ensures.worth in
    term-narrow c.args.task.now c.requires.task c.start-start.ensures.group c.args.segment
    c.args.set c.requires.segment c.requires.set ties c.requires.annuity c.paid_in_run-worth.result (held ties)

pub returns-else-below-gt0-clause-sized : goal.returns-else-below-gt0-clause-sized
returns-else-below-gt0-clause-sized g c = λ ties.
    let e = c.coefficient-coefficient.ensures.value
    ∙ ap (λ s. coefficient_at s.poly c.args.set) c.segment-run.ensures in
    let back : to_z w64 (of_z w64 c.coefficient-coefficient.result) ≡ c.coefficient-coefficient.result =
    search (rules, to_z-of_z) in
    let held = held-run c.args.task.now c.requires.task c.start-start.ensures.group
    c.args.segment c.args.set c.requires.segment c.requires.set c.segment-run.result.now
    c.above_zero.result c.below_zero-below.result c.paid_in_run-worth.result c.segment-run.ensures
    (c.above_zero.ensures.value ∙ ap above_zero (back ∙ e))
    (c.below_zero-below.ensures.value ∙ ap below_zero (back ∙ e)) c.paid_in_run-worth.ensures.worth in
    let within = term-within c.args.task.now c.requires.task c.start-start.ensures.group c.args.segment
    c.args.set c.requires.segment c.requires.set ties c.requires.annuity c.paid_in_run-worth.result (held ties) in
    both-ways c.paid_in_run-worth.result _ within

pub returns-else-below-gt0-clause-small : goal.returns-else-below-gt0-clause-small
returns-else-below-gt0-clause-small g c =
    let e = c.coefficient-coefficient.ensures.value
    ∙ ap (λ s. coefficient_at s.poly c.args.set) c.segment-run.ensures in
    let back : to_z w64 (of_z w64 c.coefficient-coefficient.result) ≡ c.coefficient-coefficient.result =
    search (rules, to_z-of_z) in
    let held = held-run c.args.task.now c.requires.task c.start-start.ensures.group
    c.args.segment c.args.set c.requires.segment c.requires.set c.segment-run.result.now
    c.above_zero.result c.below_zero-below.result c.paid_in_run-worth.result c.segment-run.ensures
    (c.above_zero.ensures.value ∙ ap above_zero (back ∙ e))
    (c.below_zero-below.ensures.value ∙ ap below_zero (back ∙ e)) c.paid_in_run-worth.ensures.worth in
    let within = term-most c.args.task.now c.requires.task c.start-start.ensures.group c.args.segment
    c.args.set c.requires.segment c.requires.set Declared c.paid_in_run-worth.result (held Declared) in
    both-ways c.paid_in_run-worth.result _ within

pub returns-else-below-gt0-clause-cost : goal.returns-else-below-gt0-clause-cost
returns-else-below-gt0-clause-cost g c =
    let to = ap (λ s. s.to) c.segment-run.ensures in
    let cost = subst (λ (t : ℕ). c.paid_in_run-worth.new.steps ≤ c.args.steps.now + (g.row.N + 2) * t)
    to c.paid_in_run-worth.ensures.cost in
    omega (
      arith,
      cost,
      to-horizon c.args.task.now
          c.requires.task c.start-start.ensures.group c.args.segment c.args.set c.requires.segment c.requires.set,
    )
