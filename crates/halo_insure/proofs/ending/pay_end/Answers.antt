use Rattle.std.proofs.Common.{◌≡◌, ap, rules, to_z, of_z, to_z-of_z, w64}
use Rattle.halo_model.specs.Backward.{above_zero, below_zero}
use Rattle.halo_insure.proofs.DueOfSet.{due-is}
use Rattle.halo_insure.proofs.ending.pay_end.Goals as goal

pub returns-clause-plus : goal.returns-clause-plus
returns-clause-plus g c =
    let here : to_z w64 (of_z w64 c.coefficient-here.result) ≡ c.coefficient-here.result = search (rules, to_z-of_z) in
    let next : to_z w64 (of_z w64 c.next_coefficient-next.result) ≡ c.next_coefficient-next.result =
    search (rules, to_z-of_z) in
    let due = due-is above_zero
    c.due_above-above.result c.args.year.now.pays.payment c.args.year.now.pays.ends c.coefficient-here.result
    c.next_coefficient-next.result _ _ c.coefficient-here.ensures.value c.next_coefficient-next.ensures.value
    (rw here at c.due_above-above.ensures.on_leaving) (rw (here, next) at c.due_above-above.ensures.at_end) in
    let count = ap (λ d. d.at_end) due in
    let paid = c.payments.ensures in
    rw (c.put.ensures.plus, ← count, ← c.plus-endowment.ensures)
    (record { from = paid.from; bound = paid.bound; narrow = paid.narrow; encloses = paid.encloses })

pub returns-clause-minus : goal.returns-clause-minus
returns-clause-minus g c =
    let here : to_z w64 (of_z w64 c.coefficient-here.result) ≡ c.coefficient-here.result = search (rules, to_z-of_z) in
    let next : to_z w64 (of_z w64 c.next_coefficient-next.result) ≡ c.next_coefficient-next.result =
    search (rules, to_z-of_z) in
    let due = due-is below_zero
    c.due_below-below.result c.args.year.now.pays.payment c.args.year.now.pays.ends c.coefficient-here.result
    c.next_coefficient-next.result _ _ c.coefficient-here.ensures.value c.next_coefficient-next.ensures.value
    (rw here at c.due_below-below.ensures.on_leaving) (rw (here, next) at c.due_below-below.ensures.at_end) in
    let count = ap (λ d. d.at_end) due in
    let paid = c.payments-2.ensures in
    rw (c.put.ensures.minus, ← count, ← c.plus-endowment.ensures)
    (record { from = paid.from; bound = paid.bound; narrow = paid.narrow; encloses = paid.encloses })
