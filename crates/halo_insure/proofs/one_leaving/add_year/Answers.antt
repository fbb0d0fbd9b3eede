use Rattle.std.proofs.Common.{◌≡◌, ℕ, ◌^◌, ◌<◌, true, arith, lit<}
use Rattle.halo_sums.specs.Within.{is_within}
use Rattle.halo_sums.proofs.Within.{within-below}
use Rattle.halo_status.specs.Pay.{pay_of}
use Rattle.halo_life.proofs.Within.{within-has}
use Rattle.halo_compile.specs.NamedSets.{AreNamed}
use Rattle.halo_compile.proofs.NamedSets.{all-named, named-within, set-below}
use Rattle.halo_insure.proofs.HeldLeavings.{held-later, held-modest, held-same}
use Rattle.halo_insure.proofs.one_leaving.add_year.Goals as goal

pub returns-then-year-eq0-clause-held : goal.returns-then-year-eq0-clause-held
returns-then-year-eq0-clause-held g c =
    held-same c.args.task.now c.requires.task c.start-start.ensures.group c.args.life c.requires.in_order c.args.k
    c.requires.from c.requires.before c.year_of-year.result c.year_of-year.ensures c.if-year-eq0.true c.args.work.now
    c.requires.held

pub pay_leavings-requires : goal.pay_leavings-requires
pay_leavings-requires g c =
    let task = c.args.task.now in
    let body = (pay_of task.pay.now).body in
    let year = c.year_of-year.ensures in
    let named = all-named c.lives.result body c.lives.ensures in
    let below = set-below task c.requires.task c.lives.result named in
    let inside : (mask : ℕ) → is_within mask c.lives.result ≡ true → mask < 2 ^ g.row.N =
    λ mask within. omega (arith, c.requires.task.sets, below, within-below mask c.lives.result within) in
    let are : (mask : ℕ) → is_within mask c.lives.result ≡ true → AreNamed body mask =
    λ mask within i there. named i (within-has mask c.lives.result within i there) in (
      lit< tt,
      (
        lit< tt,
        (
          below,
          (
            omega (arith, c.requires.life, c.start-start.ensures.group.few),
            (
              year.small,
              (
                λ mask h. year.here_sized mask (inside mask h),
                (
                  λ mask h on. (c.fallings.ensures.fallings mask (inside mask h) (are mask h) on).within,
                  λ mask h on. let same = c.fallings.ensures.others mask on in
                      rw (same.0, same.1) (held-modest task c.requires.task c.start-start.ensures.group c.args.life
                      c.requires.in_order c.args.k c.requires.from c.requires.before c.args.work.now c.requires.held
                      mask (inside mask h) (are mask h) on),
                ),
              ),
            ),
          ),
        ),
      ),
    )

pub returns-clause-held : goal.returns-clause-held
returns-clause-held g c =
    let task = c.args.task.now in
    let body = (pay_of task.pay.now).body in
    held-later task c.requires.task c.start-start.ensures.group c.args.life c.requires.in_order c.args.k
    c.requires.from c.requires.before c.year_of-year.result c.year_of-year.ensures c.requires.falls c.lives.result
    (named-within c.lives.result body c.lives.ensures) c.args.work.now c.fallings.new.work c.pay_leavings.new.work
    c.requires.held c.fallings.ensures.fallings c.fallings.ensures.others c.pay_leavings.ensures.paid
