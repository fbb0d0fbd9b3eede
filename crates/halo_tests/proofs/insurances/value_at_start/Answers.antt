-- The times go back from the horizon to 0, at which all lives with a row are alive.
use Rattle.std.proofs.Common.{◌≡◌, ◌<◌, ◌∙◌, ℕ, suc, ◌+◌, ◌-◌, arith, lit<, nat_lt, subst, sym, true}
use Rattle.std.proofs.lemmas.Bool.{ltb-true}
use Rattle.halo_sums.specs.Masks.{has_bit}
use Rattle.halo_insure.specs.OfTask.{HoldDuesAt}
use Rattle.halo_tests.proofs.insurances.value_at_start.Goals as goal

-- a life of a set that is alive where there are survivors
has_survivors : (alive set i survivors : ℕ)
    → has_bit alive i ≡ nat_lt 0 survivors → set ≡ alive → has_bit set i ≡ true → 0 < survivors
has_survivors alive set i survivors row same is_in = ltb-true 0 survivors (sym row ∙ rw same at is_in)

pub loop-passed-init : goal.loop-passed-init
loop-passed-init g c = c.at_horizon.ensures.values (c.args.task.now.horizon - 0) (omega arith)

pub year_back-requires : goal.year_back-requires
year_back-requires g c =
    let task = c.args.task.now in
    let now = task.horizon - 1 - c.loop-passed.passed in
    let before : now < task.horizon = omega (arith, c.loop-passed-test.true) in
    let later : task.horizon - c.loop-passed.passed ≡ suc now = omega (arith, c.loop-passed-test.true) in
    let values = subst (λ (t : ℕ). HoldDuesAt task t c.loop-passed.work) later c.loop-passed.invariant in
    (lit< tt, (lit< tt, (c.requires.task, (c.requires.insurance, (before, values)))))

pub loop-passed-preserved : goal.loop-passed-preserved
loop-passed-preserved g c =
    let task = c.args.task.now in
    let now : task.horizon - 1 - c.loop-passed.passed ≡ task.horizon - (c.loop-passed.passed + 1) = omega arith in
    subst (λ (t : ℕ). HoldDuesAt task t c.year_back.new.work) now c.year_back.ensures.values

pub value_at-requires : goal.value_at-requires
value_at-requires g c =
    let task = c.args.task.now in
    let start : task.horizon - c.loop-passed.passed ≡ 0 = omega (arith, c.loop-passed-test.false) in
    let values = subst (λ (t : ℕ). HoldDuesAt task t c.loop-passed.work) start c.loop-passed.invariant in
    let row = c.at.ensures.alive in
    let same = c.alive-alive.ensures.value in (
      lit< tt,
      (
        lit< tt,
        (
          c.requires.task,
          (c.requires.insurance, (values, λ i below alive. has_survivors _ _ i _ (row i below) same alive)),
        ),
      ),
    )
