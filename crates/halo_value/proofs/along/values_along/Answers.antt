use Rattle.std.proofs.Common.{◌≡◌, ℕ, ◌+◌, ◌*◌, ◌≤◌, List, length, take, take_all, arith, lit<, lit≤}
use Rattle.std.proofs.Math.Nat.{mul-le-mul_right}
use Rattle.std.proofs.lemmas.List.{take_more}
use Rattle.std.proofs.lemmas.Slice.Zip.{all_zipped_more}
use Rattle.halo_sums.specs.Masks.{has_bit}
use Rattle.halo_status.specs.Pay.{pay_of}
use Rattle.halo_contract.specs.declared.contract.ReserveLine.{ReserveLine}
use Rattle.halo_model.specs.Enclosed.{EnclosesOne}
use Rattle.halo_along.specs.Along.{basis_of_tree_task, products_in_order}
use Rattle.halo_compile.proofs.Tasks.{count-lives}
use Rattle.halo_value.specs.Reading.{reserve_at}
use Rattle.halo_value.proofs.AllLives.{all-alive}
use Rattle.halo_value.proofs.ReadBack.{start-survives}
use Rattle.halo_value.proofs.along.values_along.Goals as goal

-- the products of one value more
one-value-more : (i each old before new : ℕ) → before ≤ old + (i + 1) * each → new ≤ before + each
    → new ≤ old + (i + 1 + 1) * each
one-value-more i each old before new so_far more =
    let next : (i + 1 + 1) * each ≡ (i + 1) * each + each = omega arith in
    omega (arith, so_far, more, next)

pub value_along-start-requires : goal.value_along-start-requires
value_along-start-requires g c =
    let group = c.start-start.ensures.group in (
      lit< tt,
      (
        c.requires.along,
        (
          c.requires.tree,
          (lit≤ tt, λ i below alive. start-survives g.row.N c.args.along.now.group.now group i below),
        ),
      ),
    )

pub loop-reserve-init : goal.loop-reserve-init
loop-reserve-init g c = record { later = rw c.new-later.ensures.items tt; cost = omega arith }

pub loop-reserve-preserved : goal.loop-reserve-preserved
loop-reserve-preserved g c =
    let along = c.args.along.now in
    let reserves : List ReserveLine = c.args.reserves.now in
    let ties = along.group.now.ties in
    let i : ℕ = c.loop-reserve.reserve-index in
    let next = take_more reserves i (record { time = 0; alive = 0 }) c.loop-reserve-test.true in
    record {
      later = rw (next, c.in_ok-push.ensures.items) (all_zipped_more
          (λ reserve value. EnclosesOne (basis_of_tree_task along ties) (pay_of along.pay.now) reserve.time
          (has_bit reserve.alive) value)
          (take i reserves) c.loop-reserve.later.items (reserve_at reserves i) c.value_along.result
          c.loop-reserve.invariant.later c.value_along.ensures.encloses);
      cost = one-value-more i (products_in_order along) c.args.steps.now c.loop-reserve.steps c.value_along.new.steps
          c.loop-reserve.invariant.cost c.value_along.ensures.cost;
    }

pub returns-in_err-push-clause-cost : goal.returns-in_err-push-clause-cost
returns-in_err-push-clause-cost g c =
    let each : ℕ = products_in_order c.args.along.now in
    let i : ℕ = c.loop-reserve.reserve-index in
    let so_far = one-value-more i each c.args.steps.now c.loop-reserve.steps c.value_along.new.steps
    c.loop-reserve.invariant.cost c.value_along.ensures.cost in
    let most : (i + 1 + 1) * each ≤ (length c.args.reserves.now + 1) * each
    = mul-le-mul_right each (omega (arith, c.loop-reserve-test.true)) in
    omega (arith, so_far, most)

pub returns-clause-encloses : goal.returns-clause-encloses
returns-clause-encloses g c =
    let along = c.args.along.now in
    let group = c.start-start.ensures.group in
    let is = c.requires.along in
    let ties = along.group.now.ties in
    let all : take c.loop-reserve.reserve-index c.args.reserves.now ≡ c.args.reserves.now
    = take_all c.loop-reserve.reserve-index c.args.reserves.now (omega (arith, c.loop-reserve-test.false)) in
    record {
      short = record { years = rw is.horizon_is at is.horizon_in; vary = is.valid.vary };
      start = all-alive (basis_of_tree_task along ties) (pay_of along.pay.now) c.value_along-start.result
          (omega (arith, count-lives along.group.now, group.count, group.few))
          c.value_along-start.ensures.encloses;
      later = rw all at c.loop-reserve.invariant.later;
    }
