use Rattle.std.proofs.Common.{◌≡◌, rules, arith, to_z, of_z, ap, ◌∙◌}
use Rattle.std.specs.Int.{int_max, int_min, w128}
use Rattle.std.proofs.lemmas.Int.{ints, clamps, to_z-of_z}
use Rattle.halo_compile.proofs.Clamped.{ones-above, ones-below}
use Rattle.halo_compile.proofs.bounds.between.Goals as goal

pub returns-clause-lo : goal.returns-clause-lo
returns-clause-lo c =
    let low : to_z w128 (of_z w128 c.fine_units.result) ≡ c.fine_units.result = search (rules, to_z-of_z) in
    c.clamp.ensures.lo ∙ ap (int_max c.args.total.lo) (low ∙ c.fine_units.ensures)

pub returns-clause-hi : goal.returns-clause-hi
returns-clause-hi c =
    let high : to_z w128 (of_z w128 c.fine_units-2.result) ≡ c.fine_units-2.result = search (rules, to_z-of_z) in
    c.clamp.ensures.hi ∙ ap (int_min c.args.total.hi) (high ∙ c.fine_units-2.ensures)

pub returns-clause-encloses : goal.returns-clause-encloses
returns-clause-encloses c = λ num den above below e.
    let low : to_z w128 (of_z w128 c.fine_units.result) ≡ c.fine_units.result = search (rules, to_z-of_z) in
    let high : to_z w128 (of_z w128 c.fine_units-2.result) ≡ c.fine_units-2.result = search (rules, to_z-of_z) in
    c.clamp.ensures.encloses _ den e (rw (low, c.fine_units.ensures) (ones-below num den c.args.least below))
    (rw (high, c.fine_units-2.ensures) (ones-above num den c.args.most above))

pub returns-clause-narrow : goal.returns-clause-narrow
returns-clause-narrow c =
    λ w h. record { near = omega (arith, ints, clamps, c.clamp.ensures.lo, c.clamp.ensures.hi, h.near) }

pub returns-clause-within : goal.returns-clause-within
returns-clause-within c =
    let low : to_z w128 (of_z w128 c.fine_units.result) ≡ c.fine_units.result = search (rules, to_z-of_z) in
    let high : to_z w128 (of_z w128 c.fine_units-2.result) ≡ c.fine_units-2.result = search (rules, to_z-of_z) in
    record {
      low = omega (arith, ints, clamps, low, c.clamp.ensures.lo, c.fine_units.ensures);
      high = omega (arith, ints, clamps, high, c.clamp.ensures.hi, c.fine_units-2.ensures);
    }
