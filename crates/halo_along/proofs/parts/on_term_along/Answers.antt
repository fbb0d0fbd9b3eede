use Rattle.std.proofs.Common.{◌≡◌, ℕ, ◌+◌, ◌-◌, arith, lit<, subst, sym, ◌∙◌}
use Rattle.halo_status.specs.Nodes.{nodes}
use Rattle.halo_status.specs.Pay.{pay_of}
use Rattle.halo_contract.specs.declared.ties.Ties.TheVariants.{Declared}
use Rattle.halo_compile.proofs.Clamped.{meets-above, meets-below}
use Rattle.halo_model.specs.Enclosed.{of_one}
use Rattle.halo_sums.specs.Masks.{has_bit}
use Rattle.halo_along.specs.Along.{basis_of_tree_task}
use Rattle.halo_along.specs.Parts.{worth_on_end}
use Rattle.halo_along.specs.Years.{IsDiscount}
use Rattle.halo_along.proofs.Contingents.{one-term-products}
use Rattle.halo_along.proofs.PartsAlong.{IsPart, bounded-part, falling-term-in, past-term, silent-term, term-is-part}
use Rattle.halo_along.proofs.Whole.{some-denominator}
use Rattle.halo_along.proofs.parts.on_term_along.Given.{Over}
use Rattle.halo_along.proofs.parts.on_term_along.Goals.{After-from}
use Rattle.halo_along.proofs.parts.on_term_along.Goals as goal

pub returns-then-not-can_fall_on_term-clause-encloses :
    goal.returns-then-not-can_fall_on_term-clause-encloses
returns-then-not-can_fall_on_term-clause-encloses g c =
    silent-term c.args.along.now c.args.n c.exact.result
    (sym c.can_fall_on_term.ensures ∙ c.if-not-can_fall_on_term.true) c.exact.ensures.lo c.exact.ensures.hi

pub returns-then-n-start-clause-encloses : goal.returns-then-n-start-clause-encloses
returns-then-n-start-clause-encloses g c =
    past-term c.args.along.now c.args.n c.exact-then-n-start.result c.requires.some
    (omega (arith, c.if-n-start.true, c.start.ensures.value)) c.exact-then-n-start.ensures.lo
    c.exact-then-n-start.ensures.hi

pub value_of_end-part-requires : goal.value_of_end-part-requires
value_of_end-part-requires g c =
    let along = c.args.along.now in
    let last : c.args.n ≡ c.args.n - 1 + 1 = omega (arith, c.requires.some) in
    let short = falling-term-in along c.args.n c.requires.along
    (sym c.can_fall_on_term.ensures ∙ c.if-not-can_fall_on_term.false) in (
      lit< tt,
      (
        c.requires.along,
        (
          c.requires.insurance,
          (
            omega (arith, c.if-n-start.false, c.start.ensures.value),
            (
              omega (arith, short, c.requires.some),
              subst (λ (t : ℕ). IsDiscount along t c.discount_to-discount.result) last
                  c.discount_to-discount.ensures.discount,
            ),
          ),
        ),
      ),
    )

-- the part as the calls give it
part : (g : Over) (c : After-from g) →
    let along = c.args.along.now in
    let pay = of_one (pay_of along.pay.now) in
    let start = along.group.now.start in
    let living = has_bit along.group.now.alive in
    let b = basis_of_tree_task along Declared in
    IsPart b pay start living c.from.result (worth_on_end b pay start living c.args.n) c.value_of_end-part.result
part g c =
    let along = c.args.along.now in
    term-is-part along c.requires.along c.start-start.ensures.group c.requires.insurance c.from.result
    (c.from.ensures ∙ c.greatest_factor-most.ensures.value) c.args.n c.value_of_end-part.result c.requires.some
    (falling-term-in along c.args.n c.requires.along
    (sym c.can_fall_on_term.ensures ∙ c.if-not-can_fall_on_term.false)) c.value_of_end-part.ensures.end

pub between-requires-clause-meets_most : goal.between-requires-clause-meets_most
between-requires-clause-meets_most g c =
    let is = part g c in
    meets-above c.value_of_end-part.result is.number _ c.from.result
    (some-denominator c.args.along.now c.start-start.ensures.group c.fractions-fractions.ensures.interest)
    is.encloses is.bound

pub between-requires-clause-meets_least : goal.between-requires-clause-meets_least
between-requires-clause-meets_least g c =
    let is = part g c in
    meets-below c.value_of_end-part.result is.number _ 0
    (some-denominator c.args.along.now c.start-start.ensures.group c.fractions-fractions.ensures.interest)
    is.encloses (omega arith)

pub returns-clause-encloses : goal.returns-clause-encloses
returns-clause-encloses g c =
    let along = c.args.along.now in
    let group = c.start-start.ensures.group in
    let most = c.from.ensures ∙ c.greatest_factor-most.ensures.value in
    bounded-part along c.requires.along group c.requires.insurance c.from.result most _ c.value_of_end-part.result
    c.between.result
    (term-is-part along c.requires.along group c.requires.insurance c.from.result most c.args.n
    c.value_of_end-part.result c.requires.some
    (falling-term-in along c.args.n c.requires.along
    (sym c.can_fall_on_term.ensures ∙ c.if-not-can_fall_on_term.false)) c.value_of_end-part.ensures.end)
    c.between.ensures.encloses c.between.ensures.narrow c.between.ensures.within

pub returns-clause-cost : goal.returns-clause-cost
returns-clause-cost g c =
    let along = c.args.along.now in
    let body = (pay_of along.pay.now).body in
    let short = falling-term-in along c.args.n c.requires.along
    (sym c.can_fall_on_term.ensures ∙ c.if-not-can_fall_on_term.false) in
    omega (
      arith,
      c.discount_to-discount.ensures.cost,
      c.value_of_end-part.ensures.cost,
      one-term-products (c.args.n - along.group.now.start) along.horizon (nodes body) (omega (arith, short)),
    )
