use Rattle.std.proofs.Common.{◌≡◌, ◌∙◌, pos, refl, rules, sym, to_z, of_z, to_z-of_z, w64}
use Rattle.halo_model.specs.Backward.{above_zero, below_zero}
use Rattle.halo_poly.specs.Poly.{coefficient_at}
use Rattle.halo_insure.specs.YearSets.{next_coefficient}
use Rattle.halo_insure.proofs.DueOfSet.{due-is}
use Rattle.halo_insure.proofs.Idle.{nothing-stays, zero-of-bits}
use Rattle.halo_insure.proofs.sets.set_back.Goals as goal

pub returns-then-is_worthless-clause-plus : goal.returns-then-is_worthless-clause-plus
returns-then-is_worthless-clause-plus g c =
    let here : coefficient_at c.args.year.now.here.now c.args.set ≡ pos 0 =
    sym c.coefficient-here.ensures.value
    ∙ zero-of-bits c.coefficient-here.result (search (rules, to_z-of_z)) c.if-here-eq0.true in
    let next : next_coefficient c.args.year.now c.args.set ≡ pos 0 =
    sym c.next_coefficient-next.ensures.value
    ∙ zero-of-bits c.next_coefficient-next.result (search (rules, to_z-of_z)) c.if-next-eq0.true in
    rw (here, next, (c.is_worthless.ensures.0 c.if-is_worthless.true).0)
    (nothing-stays above_zero c.args.year.now.pays.payment c.args.year.now.pays.ends _ _ c.args.year.now.discount refl)

pub returns-then-is_worthless-clause-minus : goal.returns-then-is_worthless-clause-minus
returns-then-is_worthless-clause-minus g c =
    let here : coefficient_at c.args.year.now.here.now c.args.set ≡ pos 0 =
    sym c.coefficient-here.ensures.value
    ∙ zero-of-bits c.coefficient-here.result (search (rules, to_z-of_z)) c.if-here-eq0.true in
    let next : next_coefficient c.args.year.now c.args.set ≡ pos 0 =
    sym c.next_coefficient-next.ensures.value
    ∙ zero-of-bits c.next_coefficient-next.result (search (rules, to_z-of_z)) c.if-next-eq0.true in
    rw (here, next, (c.is_worthless.ensures.0 c.if-is_worthless.true).1)
    (nothing-stays below_zero c.args.year.now.pays.payment c.args.year.now.pays.ends _ _ c.args.year.now.discount refl)

pub returns-clause-plus : goal.returns-clause-plus
returns-clause-plus g c =
    let here : to_z w64 (of_z w64 c.coefficient-here.result) ≡ c.coefficient-here.result = search (rules, to_z-of_z) in
    let next : to_z w64 (of_z w64 c.next_coefficient-next.result) ≡ c.next_coefficient-next.result =
    search (rules, to_z-of_z) in
    let due = due-is above_zero
    c.due_above-above.result c.args.year.now.pays.payment c.args.year.now.pays.ends c.coefficient-here.result
    c.next_coefficient-next.result _ _ c.coefficient-here.ensures.value c.next_coefficient-next.ensures.value
    (rw here at c.due_above-above.ensures.on_leaving) (rw (here, next) at c.due_above-above.ensures.at_end) in
    rw (c.put.ensures.plus, ← due, ← c.plus.ensures, ← c.leaving.ensures, ← c.at.ensures) c.value_back-plus.ensures.back

pub returns-clause-minus : goal.returns-clause-minus
returns-clause-minus g c =
    let here : to_z w64 (of_z w64 c.coefficient-here.result) ≡ c.coefficient-here.result = search (rules, to_z-of_z) in
    let next : to_z w64 (of_z w64 c.next_coefficient-next.result) ≡ c.next_coefficient-next.result =
    search (rules, to_z-of_z) in
    let due = due-is below_zero
    c.due_below-below.result c.args.year.now.pays.payment c.args.year.now.pays.ends c.coefficient-here.result
    c.next_coefficient-next.result _ _ c.coefficient-here.ensures.value c.next_coefficient-next.ensures.value
    (rw here at c.due_below-below.ensures.on_leaving) (rw (here, next) at c.due_below-below.ensures.at_end) in
    rw (c.put.ensures.minus, ← due, ← c.minus.ensures, ← c.leaving.ensures, ← c.at.ensures)
    c.value_back-minus.ensures.back
