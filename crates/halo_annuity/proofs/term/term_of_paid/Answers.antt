use Rattle.std.proofs.Common.{◌≡◌, ◌*◌, ◌^◌, pos, rules, arith, to_z, of_z, ap, sym, ◌∙◌}
use Rattle.std.specs.Int.{w64}
use Rattle.std.proofs.lemmas.Int.{ints, to_z-of_z}
use Rattle.halo_num.specs.Ends.{fine}
use Rattle.halo_poly.specs.Poly.{coefficient_at}
use Rattle.halo_contract.specs.declared.ties.Ties.TheVariants.{Declared}
use Rattle.halo_compile.proofs.Sums.{wider}
use Rattle.halo_annuity.proofs.Scaled.{as-sized, high-sized, low-sized, scaled-within}
use Rattle.halo_annuity.proofs.Terms.{coefficient-small, named-if-some, nothing-encloses, payments-count, payments-enclose, payments-most, payments-small, payments-within}
use Rattle.halo_annuity.proofs.term.term_of_paid.Goals as goal

pub returns-then-coefficient-eq0-clause-encloses : goal.returns-then-coefficient-eq0-clause-encloses
returns-then-coefficient-eq0-clause-encloses g c = λ ties.
    let is = c.coefficient-coefficient.ensures.value ∙ ap (λ s. coefficient_at s.poly c.args.set) c.segment.ensures in
    let none : c.coefficient-coefficient.result ≡ pos 0 = omega (arith, ints) in
    nothing-encloses c.args.task.now c.requires.task c.start-start.ensures.group c.args.segment c.args.set
    c.requires.segment c.requires.set ties (sym is ∙ none)
    c.exact.result c.exact.ensures.lo c.exact.ensures.hi

pub scale-requires-clause-lo_in : goal.scale-requires-clause-lo_in
scale-requires-clause-lo_in g c =
    let is = c.coefficient-coefficient.ensures.value ∙ ap (λ s. coefficient_at s.poly c.args.set) c.segment.ensures in
    let back : to_z w64 (of_z w64 c.coefficient-coefficient.result) ≡ c.coefficient-coefficient.result =
    search (rules, to_z-of_z) in
    let named = named-if-some c.args.task.now c.requires.task c.start-start.ensures.group c.args.segment c.args.set
    c.requires.segment c.requires.set c.requires.annuity c.coefficient-coefficient.result is
    (λ none. absurd (omega (arith, ints))) in
    let small = payments-small c.args.task.now c.requires.task c.start-start.ensures.group c.args.segment c.args.set
    c.requires.segment c.requires.set Declared _ (c.requires.paid Declared c.args.set named) in
    let sized = coefficient-small c.args.task.now c.requires.task c.start-start.ensures.group c.args.segment
    c.args.set c.requires.segment c.requires.set in
    let low = low-sized c.minus-paid.result c.coefficient-coefficient.result (201 * 201 * fine) (2 ^ 11)
    (rw c.minus-paid.ensures small) c.lo-lowest.ensures.order (rw is sized) in
    rw back (record { low = omega (arith, ints, low.low); high = omega (arith, ints, low.high) })

pub scale-requires-clause-hi_in : goal.scale-requires-clause-hi_in
scale-requires-clause-hi_in g c =
    let is = c.coefficient-coefficient.ensures.value ∙ ap (λ s. coefficient_at s.poly c.args.set) c.segment.ensures in
    let back : to_z w64 (of_z w64 c.coefficient-coefficient.result) ≡ c.coefficient-coefficient.result =
    search (rules, to_z-of_z) in
    let named = named-if-some c.args.task.now c.requires.task c.start-start.ensures.group c.args.segment c.args.set
    c.requires.segment c.requires.set c.requires.annuity c.coefficient-coefficient.result is
    (λ none. absurd (omega (arith, ints))) in
    let small = payments-small c.args.task.now c.requires.task c.start-start.ensures.group c.args.segment c.args.set
    c.requires.segment c.requires.set Declared _ (c.requires.paid Declared c.args.set named) in
    let sized = coefficient-small c.args.task.now c.requires.task c.start-start.ensures.group c.args.segment
    c.args.set c.requires.segment c.requires.set in
    let high = high-sized c.minus-paid.result c.coefficient-coefficient.result (201 * 201 * fine) (2 ^ 11)
    (rw c.minus-paid.ensures small) c.lo-lowest.ensures.order (rw is sized) in
    rw back (record { low = omega (arith, ints, high.low); high = omega (arith, ints, high.high) })

pub returns-clause-encloses : goal.returns-clause-encloses
returns-clause-encloses g c = λ ties.
    let is = c.coefficient-coefficient.ensures.value ∙ ap (λ s. coefficient_at s.poly c.args.set) c.segment.ensures in
    let back : to_z w64 (of_z w64 c.coefficient-coefficient.result) ≡ c.coefficient-coefficient.result =
    search (rules, to_z-of_z) in
    let named = named-if-some c.args.task.now c.requires.task c.start-start.ensures.group c.args.segment c.args.set
    c.requires.segment c.requires.set c.requires.annuity c.coefficient-coefficient.result is
    (λ none. absurd (omega (arith, ints))) in
    payments-enclose c.args.task.now c.requires.task c.start-start.ensures.group c.args.segment c.args.set
    c.requires.segment c.requires.set ties c.fractions-fractions.ensures.interest c.minus-paid.result c.scale.result
    (rw c.minus-paid.ensures (c.requires.paid ties c.args.set named))
    (λ num den h. rw (back ∙ is) at (c.scale.ensures.encloses num den h))

pub returns-clause-narrow : goal.returns-clause-narrow
returns-clause-narrow g c = λ ties.
    let is = c.coefficient-coefficient.ensures.value ∙ ap (λ s. coefficient_at s.poly c.args.set) c.segment.ensures in
    let back : to_z w64 (of_z w64 c.coefficient-coefficient.result) ≡ c.coefficient-coefficient.result =
    search (rules, to_z-of_z) in
    let named = named-if-some c.args.task.now c.requires.task c.start-start.ensures.group c.args.segment c.args.set
    c.requires.segment c.requires.set c.requires.annuity c.coefficient-coefficient.result is
    (λ none. absurd (omega (arith, ints))) in
    let paid = c.requires.paid ties c.args.set named in
    let count = payments-count c.args.task.now c.requires.task c.start-start.ensures.group c.args.segment c.args.set
    c.requires.segment c.requires.set ties c.requires.annuity in
    wider c.scale.result _ _ count
    (c.scale.ensures.narrow _ _ (rw c.minus-paid.ensures paid.narrow) (rw (back ∙ is) (as-sized _)))

pub returns-clause-sized : goal.returns-clause-sized
returns-clause-sized g c = λ ties.
    let is = c.coefficient-coefficient.ensures.value ∙ ap (λ s. coefficient_at s.poly c.args.set) c.segment.ensures in
    let back : to_z w64 (of_z w64 c.coefficient-coefficient.result) ≡ c.coefficient-coefficient.result =
    search (rules, to_z-of_z) in
    let named = named-if-some c.args.task.now c.requires.task c.start-start.ensures.group c.args.segment c.args.set
    c.requires.segment c.requires.set c.requires.annuity c.coefficient-coefficient.result is
    (λ none. absurd (omega (arith, ints))) in
    let paid = c.requires.paid ties c.args.set named in
    let most = payments-most c.args.task.now c.requires.task c.start-start.ensures.group c.args.segment c.args.set
    c.requires.segment c.requires.set ties c.requires.annuity in
    scaled-within c.minus-paid.result _ _ _ (rw c.minus-paid.ensures paid.within) c.lo-lowest.ensures.order
    (as-sized _) _ most c.scale.result (rw (back ∙ is) at c.scale.ensures.lo) (rw (back ∙ is) at c.scale.ensures.hi)

pub returns-clause-small : goal.returns-clause-small
returns-clause-small g c =
    let is = c.coefficient-coefficient.ensures.value ∙ ap (λ s. coefficient_at s.poly c.args.set) c.segment.ensures in
    let back : to_z w64 (of_z w64 c.coefficient-coefficient.result) ≡ c.coefficient-coefficient.result =
    search (rules, to_z-of_z) in
    let named = named-if-some c.args.task.now c.requires.task c.start-start.ensures.group c.args.segment c.args.set
    c.requires.segment c.requires.set c.requires.annuity c.coefficient-coefficient.result is
    (λ none. absurd (omega (arith, ints))) in
    let paid = c.requires.paid Declared c.args.set named in
    let most = payments-within c.args.task.now c.requires.task c.start-start.ensures.group c.args.segment c.args.set
    c.requires.segment c.requires.set Declared in
    scaled-within c.minus-paid.result _ _ _ (rw c.minus-paid.ensures paid.within) c.lo-lowest.ensures.order
    (as-sized _) _ most c.scale.result (rw (back ∙ is) at c.scale.ensures.lo) (rw (back ∙ is) at c.scale.ensures.hi)
