use Rattle.std.proofs.Common.{ℕ, ◌+◌, ◌*◌, ◌^◌, ◌≤ℤ◌, arith, pos}
use Rattle.std.proofs.lemmas.Int.{ints}
use Rattle.halo_num.specs.Ends.{fine}
use Rattle.halo_insure.proofs.Payments.{back, carried, year-narrow}
use Rattle.halo_insure.proofs.one_year.due_and_later.Goals as goal

pub add-requires-clause-o_in : goal.add-requires-clause-o_in
add-requires-clause-o_in g c =
    let most : c.args.later.hi ≤ℤ pos (10 ^ 14 * fine) = omega (arith, ints, c.requires.later.high) in
    let carry = c.if_all_survive-carried.ensures.bound (10 ^ 14) most in
    record { low = omega (arith, ints, c.if_all_survive-carried.ensures.from); high = omega (arith, ints, carry) }

pub mul-requires-clause-self_in : goal.mul-requires-clause-self_in
mul-requires-clause-self_in g c =
    let most : c.args.later.hi ≤ℤ pos (10 ^ 14 * fine) = omega (arith, ints, c.requires.later.high) in
    let carry = c.if_all_survive-carried.ensures.bound (10 ^ 14) most in
    omega (arith, ints, c.add.ensures.hi, c.due_in_year-due.ensures.small, carry)

pub returns-clause-back : goal.returns-clause-back
returns-clause-back g c =
    let due : ℕ = c.args.due.on_leaving + c.args.due.at_end in
    let sum : (b : ℕ) → c.args.later.hi ≤ℤ pos (b * fine) → c.add.result.hi ≤ℤ pos ((due + b) * fine) = λ b h.
    let carry = c.if_all_survive-carried.ensures.bound b h in
    omega (arith, ints, c.add.ensures.hi, c.due_in_year-due.ensures.bound, carry) in
    let bound : (b : ℕ) → c.args.later.hi ≤ℤ pos (b * fine) → c.mul.result.hi ≤ℤ pos ((due + b) * fine) = λ b h.
    let all = c.mul.ensures.bound (due + b) 1 (sum b h) c.requires.discount.high in omega (arith, ints, all) in
    record {
      from = c.mul.ensures.from;
      bound = bound;
      narrow = λ b w d h later leaving survival discount.
          let width = c.if_all_survive-carried.ensures.narrow b w d h later survival in
          year-narrow c.mul.result due b w d c.mul.ensures.from (bound b h)
          (c.mul.ensures.width
          (due * d + (w + d * b + 1)) 1 (due + b) 1 (sum b h) c.requires.discount.high (c.add.ensures.narrow
          (due * d) (w + d * b + 1) (c.due_in_year-due.ensures.narrow d leaving survival) width) discount);
      encloses = λ left alive start x rest q i leaves survives discounts value none.
          back c.due_in_year-due.result c.add.result c.mul.result c.args.discount c.if_all_survive-carried.result
          (c.args.due.on_leaving * left + c.args.due.at_end * alive) start x rest q i
          c.add.ensures.encloses c.mul.ensures.encloses
          (c.due_in_year-due.ensures.encloses left alive start leaves survives)
          (carried c.if_all_survive-carried.result c.args.later c.args.chances.now.survival
          alive start x rest c.if_all_survive-carried.ensures.order
          c.if_all_survive-carried.ensures.encloses survives value none)
          discounts;
    }
