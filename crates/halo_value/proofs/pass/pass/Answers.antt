-- The times go back from the horizon to 0, at which all lives are alive.
use Rattle.std.proofs.Common.{◌≡◌, ℕ, suc, ◌+◌, ◌-◌, ◌<◌, List, length, lit<, lit≤, arith, ap, subst, sym}
use Rattle.halo_sums.specs.Masks.{has_bit}
use Rattle.halo_num.specs.Ends.{Ends}
use Rattle.halo_status.specs.Pay.{pay_of}
use Rattle.halo_model.specs.Enclosed.{EnclosesOne}
use Rattle.halo_life.specs.Lists.{nothing}
use Rattle.halo_compile.specs.OfTask.{basis_of_task}
use Rattle.halo_compile.proofs.Tasks.{count-lives}
use Rattle.halo_value.specs.ByKind.{HoldOf}
use Rattle.halo_value.proofs.AllLives.{all-alive}
use Rattle.halo_value.proofs.ReadBack.{none-later, read-as, start-survives, written-back}
use Rattle.halo_value.proofs.Zips.{zip-places}
use Rattle.halo_value.proofs.pass.pass.Goals as goal

pub loop-back-init : goal.loop-back-init
loop-back-init g c =
    let task = c.args.task.now in
    let reserves = c.args.reserves.now in
    let values : List Ends = c.read.new.values in
    let kept : length values ≡ c.in_ok-later.later.len = omega (arith, c.read.auto.values, c.deref_mut.ensures.len) in
    let back = written-back c.in_ok-later.later.len values c.in_ok-later.later.items kept in
    record {
      values = c.at_horizon.ensures (task.horizon - 0) (omega arith);
      room = rw back (omega (
        arith,
        c.read.auto.values,
        ap length c.deref_mut.ensures.value,
        c.in_ok-later.ensures.len,
      ));
      read = read-as task reserves task.horizon (task.horizon - 0) values _ (omega arith) (sym back)
          (c.read.ensures (none-later task reserves c.deref_mut.result.now c.requires.reserves));
    }

pub loop-back-preserved : goal.loop-back-preserved
loop-back-preserved g c =
    let task = c.args.task.now in
    let reserves = c.args.reserves.now in
    let values : List Ends = c.read-in-loop-back.new.values in
    let kept : length values ≡ c.loop-back.later.len =
    omega (arith, c.read-in-loop-back.auto.values, c.deref_mut-in-loop-back.ensures.len) in
    let back = written-back c.loop-back.later.len values c.loop-back.later.items kept in
    let before : c.loop-back.back < task.horizon = omega (arith, c.loop-back-test.true) in
    let t : ℕ = task.horizon - 1 - c.loop-back.back in
    let next : t ≡ task.horizon - (c.loop-back.back + 1) = omega arith in
    let last : task.horizon - c.loop-back.back ≡ suc t = omega arith in
    record {
      values = subst (λ (k : ℕ). HoldOf task k c.year_back.new.work) next c.year_back.ensures;
      room = rw back (omega (
        arith,
        c.read-in-loop-back.auto.values,
        ap length
            c.deref_mut-in-loop-back.ensures.value,
        c.loop-back.invariant.room,
      ));
      read = read-as task reserves t _ values _ next (sym back)
          (c.read-in-loop-back.ensures
          (read-as task reserves _ _ c.loop-back.later.items c.deref_mut-in-loop-back.result.now last
          (sym c.deref_mut-in-loop-back.ensures.value) c.loop-back.invariant.read));
    }

pub value_at-start-requires : goal.value_at-start-requires
value_at-start-requires g c =
    let task = c.args.task.now in
    let group = c.start-start.ensures.group in
    let start : task.horizon - c.loop-back.back ≡ 0 = omega (arith, c.loop-back-test.false) in
    let values = subst (λ (t : ℕ). HoldOf task t c.loop-back.work) start c.loop-back.invariant.values in (
      lit< tt,
      (
        lit< tt,
        (
          c.requires.task,
          (lit≤ tt, (values, λ i below alive. start-survives g.row.N task.group.now group i below)),
        ),
      ),
    )

pub returns-clause-encloses : goal.returns-clause-encloses
returns-clause-encloses g c =
    let task = c.args.task.now in
    let group = c.start-start.ensures.group in
    let is = c.requires.task in
    let b = basis_of_task task task.group.now.ties in
    let pay = pay_of task.pay.now in
    record {
      short = record { years = rw is.horizon_is at is.horizon_in; vary = is.valid.vary };
      start = all-alive b pay c.value_at-start.result
          (omega (arith, count-lives task.group.now, group.count, group.few)) c.value_at-start.ensures.encloses;
      later = zip-places (λ reserve value. EnclosesOne b pay reserve.time (has_bit reserve.alive) value)
          c.args.reserves.now c.loop-back.later.items (record { time = 0; alive = 0 }) nothing
          c.loop-back.invariant.room
          (λ k within. c.loop-back.invariant.read k within (omega (arith, c.loop-back-test.false)));
    }
