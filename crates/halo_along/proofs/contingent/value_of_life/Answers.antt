use Rattle.std.proofs.Common.{◌≡◌, ℕ, ◌-◌, ◌+◌, ◌*◌, ◌^◌, Bool, ap, arith, false, true, sym, ◌∙◌}
use Rattle.halo_sums.specs.Masks.{has_bit}
use Rattle.halo_status.specs.Nodes.{nodes}
use Rattle.halo_status.specs.Pay.{pay_of}
use Rattle.halo_model.specs.SetValue.{can_fall_on_life}
use Rattle.halo_along.proofs.Contingents.{falling-life, gone-life, life-products, silent-life}
use Rattle.halo_along.proofs.contingent.value_of_life.Given.{Over}
use Rattle.halo_along.proofs.contingent.value_of_life.Goals.{After-value_of_leavings}
use Rattle.halo_along.proofs.contingent.value_of_life.Goals as goal

pub returns-then-not-has_bit-clause-life : goal.returns-then-not-has_bit-clause-life
returns-then-not-has_bit-clause-life g c =
    let silent : can_fall_on_life (pay_of c.args.along.now.pay.now) c.args.life ≡ false =
    sym (c.failing_lives.ensures c.args.life) ∙ sym c.has_bit.ensures ∙ grind (arith, c.if-not-has_bit.true) in
    silent-life c.args.along.now c.args.life c.exact.result silent c.exact.ensures.lo c.exact.ensures.hi

pub returns-then-not-has_bit-2-clause-life : goal.returns-then-not-has_bit-2-clause-life
returns-then-not-has_bit-2-clause-life g c =
    let gone : has_bit c.args.along.now.group.now.alive c.args.life ≡ false =
    ap (λ (alive : ℕ). has_bit alive c.args.life) (sym c.alive.ensures.value) ∙ sym c.has_bit-2.ensures
    ∙ grind (arith, c.if-not-has_bit-2.true) in
    gone-life c.args.along.now c.args.life c.exact-then-not-has_bit-2.result gone
    c.exact-then-not-has_bit-2.ensures.lo c.exact-then-not-has_bit-2.ensures.hi

not-both : {A : Type 0} (b : Bool) → b ≡ true → b ≡ false → A
not-both b is isnt = absurd (cc)

falls : (g : Over) (c : After-value_of_leavings g)
    → can_fall_on_life (pay_of c.args.along.now.pay.now) c.args.life ≡ true
falls g c = sym (c.failing_lives.ensures c.args.life) ∙ sym c.has_bit.ensures ∙ grind (arith, c.if-not-has_bit.false)

pub returns-clause-life : goal.returns-clause-life
returns-clause-life g c =
    falling-life c.args.along.now c.requires.along c.start-start.ensures.group c.args.life c.value_of_leavings.result
    (falls g c) c.value_of_leavings.ensures.leavings

pub returns-clause-cost : goal.returns-clause-cost
returns-clause-cost g c =
    let along = c.args.along.now in
    life-products (pay_of along.pay.now) c.args.life (falls g c) _ _ (along.horizon - along.group.now.start)
    along.horizon (4 * (nodes (pay_of along.pay.now).body + 1) ^ 2 + 3) (omega arith)
    c.value_of_leavings.ensures.cost

-- here a payment can fall on the leaving
pub returns-then-not-has_bit-2-clause-none : goal.returns-then-not-has_bit-2-clause-none
returns-then-not-has_bit-2-clause-none g c = λ silent.
    let can : c.has_bit.result ≡ true = grind (arith, c.if-not-has_bit.false) in
    not-both (can_fall_on_life (pay_of c.args.along.now.pay.now) c.args.life)
    (sym (c.failing_lives.ensures c.args.life) ∙ sym c.has_bit.ensures ∙ can) silent

pub returns-clause-none : goal.returns-clause-none
returns-clause-none g c =
    λ silent. not-both (can_fall_on_life (pay_of c.args.along.now.pay.now) c.args.life) (falls g c) silent
