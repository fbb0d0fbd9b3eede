use Rattle.std.proofs.Common.{◌≡◌, ℕ, ◌+◌, ◌*◌, ◌∙◌, arith, sym, true, pos, ◌≤ℤ◌, rules, to_z, of_z, to_z-of_z, w64}
use Rattle.std.proofs.lemmas.Int.{ints}
use Rattle.halo_num.specs.Ends.{Ends}
use Rattle.halo_sums.specs.Masks.{has_bit}
use Rattle.halo_poly.specs.Poly.{coefficient_at}
use Rattle.halo_endowment.specs.Payments.{AddsPayments}
use Rattle.halo_insure.proofs.one_leaving.pay_leaving.Goals as goal

-- no payment adds nothing
nothing-added : (count : ℕ) (chance before : Ends) → count ≡ 0 → pos 0 ≤ℤ before.lo
    → AddsPayments count chance before before
nothing-added count chance before none from =
    let same : (m : ℕ) → m + 0 ≡ m = λ m. omega arith in
    let no : (n : ℕ) → 0 * n ≡ 0 = λ n. omega arith in
    rw none (record {
      from = from;
      bound = λ m high. rw (same m) high;
      narrow = λ v w wide chances. rw (no w, same v) wide;
      encloses = λ m n d enclosed chances. rw (no n, same m) enclosed;
    })

pub returns-then-here-eq0-clause-paid : goal.returns-then-here-eq0-clause-paid
returns-then-here-eq0-clause-paid g c = λ on.
    let year = c.args.year.now in
    let none : coefficient_at year.here.now c.args.set ≡ pos 0 =
    sym c.coefficient-here.ensures.value ∙ omega (arith, ints, c.if-here-eq0.true) in
    let modest = c.requires.modest on in
    let nothing : (n : ℕ) → n * 0 ≡ 0 = λ n. omega arith in
    record {
      plus = nothing-added _ _ _ (rw none (nothing year.pays.payment)) modest.0.low;
      minus = nothing-added _ _ _ (rw none (nothing year.pays.payment)) modest.1.low;
    }

pub with_payments-plus-requires-clause-before : goal.with_payments-plus-requires-clause-before
with_payments-plus-requires-clause-before g c =
    let on : has_bit c.args.set c.args.life ≡ true = sym c.has_bit.ensures ∙ c.if-not-has_bit.false in
    rw c.plus.ensures (c.requires.modest on).0

pub with_payments-plus-requires-clause-chance : goal.with_payments-plus-requires-clause-chance
with_payments-plus-requires-clause-chance g c =
    let on : has_bit c.args.set c.args.life ≡ true = sym c.has_bit.ensures ∙ c.if-not-has_bit.false in
    rw (c.plus-falling.ensures, c.without.ensures.value) (c.requires.chance on)

pub with_payments-minus-requires-clause-before : goal.with_payments-minus-requires-clause-before
with_payments-minus-requires-clause-before g c =
    let on : has_bit c.args.set c.args.life ≡ true = sym c.has_bit.ensures ∙ c.if-not-has_bit.false in
    rw c.minus.ensures (c.requires.modest on).1

pub with_payments-minus-requires-clause-chance : goal.with_payments-minus-requires-clause-chance
with_payments-minus-requires-clause-chance g c =
    let on : has_bit c.args.set c.args.life ≡ true = sym c.has_bit.ensures ∙ c.if-not-has_bit.false in
    rw (c.plus-falling.ensures, c.without.ensures.value) (c.requires.chance on)

pub returns-clause-paid : goal.returns-clause-paid
returns-clause-paid g c = λ on.
    let here : to_z w64 (of_z w64 c.coefficient-here.result) ≡ c.coefficient-here.result = search (rules, to_z-of_z) in
    let above = rw here at c.due_above-above.ensures.on_leaving in
    let below = rw here at c.due_below-below.ensures.on_leaving in
    let paid = c.with_payments-plus.ensures in
    let taken = c.with_payments-minus.ensures in
    let is = c.coefficient-here.ensures.value in
    record {
      plus =
          rw (c.put.ensures.plus, ← is, ← above, ← c.without.ensures.value, ← c.plus-falling.ensures, ← c.plus.ensures)
          paid;
      minus =
          rw (
            c.put.ensures.minus,
            ← is,
            ← below,
            ← c.without.ensures.value,
            ← c.plus-falling.ensures,
            ←
                c.minus.ensures,
          ) taken;
    }
