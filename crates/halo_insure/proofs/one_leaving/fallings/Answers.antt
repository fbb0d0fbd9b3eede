use Rattle.std.proofs.Common.{◌≡◌, ◌≢◌, ℕ, suc, ◌+◌, ◌-◌, ◌^◌, ◌<◌, ◌≤◌, ◌∙◌, Bool, true, false, ap, arith, lit<, refl, sym, subst}
use Rattle.std.proofs.Math.Nat.{pow-le-pow_right}
use Rattle.halo_sums.specs.Masks.{bits, has_bit}
use Rattle.halo_sums.specs.Sets.{size_of}
use Rattle.halo_sums.proofs.Within.{within-below}
use Rattle.halo_status.specs.Pay.{pay_of}
use Rattle.halo_model.specs.Chance.{asked}
use Rattle.halo_model.specs.FromTables.{lives_of}
use Rattle.halo_along.proofs.ByParts.{falling-named}
use Rattle.halo_life.specs.Lists.{entry}
use Rattle.halo_life.proofs.Filled.{filled-before, filled-next}
use Rattle.halo_life.proofs.OneSet.{size-with}
use Rattle.halo_life.proofs.Subsets.{bit-most}
use Rattle.halo_along.specs.OfTask.{tree_task_of}
use Rattle.halo_along.specs.Years.{IsDiscount}
use Rattle.halo_life.proofs.Within.{one-set-more, sets-up-to}
use Rattle.halo_compile.specs.OfTask.{pay_of_task}
use Rattle.halo_compile.proofs.NamedSets.{all-named, named-size, named-within, set-below}
use Rattle.halo_compile.proofs.Tasks.{few-sets}
use Rattle.halo_insure.specs.OneLeaving.{EnclosesFalling}
use Rattle.halo_insure.specs.OfTask.{insured_basis}
use Rattle.halo_insure.proofs.Fallings.{falling-by-first, falling-alone, life-leaves, there-looked-at}
use Rattle.halo_insure.proofs.Tasks.{lives-of-task}
use Rattle.halo_insure.proofs.WithoutLife.{others-without, within-others}
use Rattle.halo_insure.proofs.one_leaving.fallings.Goals as goal

-- no set without the life is one with it
apart : (k set a : ℕ) → has_bit set a ≡ false → has_bit k a ≡ true → k ≢ set
apart k set a off on same = let e : has_bit set a ≡ true = rw same at on in absurd (cc (sym e ∙ off))

nobody-off : (a : ℕ) → has_bit 0 a ≡ false
nobody-off a = by-case (has_bit 0 a) refl
  where
    by-case : (c : Bool) → has_bit 0 a ≡ c → has_bit 0 a ≡ false
    by-case true e =
        let some : 2 ^ 0 ≤ 2 ^ a = pow-le-pow_right (omega arith) {i = 0} (omega arith) in
        absurd (omega (arith, bit-most 0 a e, some))
    by-case false e = e

pub without-others-requires : goal.without-others-requires
without-others-requires g c =
    let task = c.args.task.now in
    let on : has_bit c.lives.result c.args.life ≡ true =
    c.lives.ensures c.args.life ∙ falling-named (pay_of_task task) c.args.life c.requires.falls in
    record { few = omega (arith, c.requires.life, c.start.ensures.group.few); within = on }

pub put_plus-requires : goal.put_plus-requires
put_plus-requires g c =
    let body = (pay_of c.args.task.now.pay.now).body in
    let named = all-named c.lives.result body c.lives.ensures in
    let below = set-below c.args.task.now c.requires.task c.lives.result named in
    (lit< tt, omega (arith, below))

pub loop-set-init : goal.loop-set-init
loop-set-init g c =
    let task = c.args.task.now in
    let b = insured_basis task in
    let put = c.put_plus.ensures in
    let at = c.at-group.ensures in
    let n = g.row.N in
    let T = task.group.now.start in
    let k = c.args.k in
    let life = c.args.life in
    let causes = asked (pay_of_task task).causes in
    let same : c.at-group.result.start ≡ T = at.start ∙ c.start.ensures.value in
    let next : k + 1 ≡ suc k = omega arith in
    let discount = subst (λ (t : ℕ). IsDiscount (tree_task_of task) t c.args.discount) next c.requires.discount in
    let leaves = life-leaves n c.at-group.result c.start-start.ensures.group causes k life
    (omega (arith, same, c.requires.from)) c.requires.life
    (rw (at.file, at.lives, at.start) (at.alive life c.requires.life))
    c.leave-leave.result c.leave-leave.ensures.chance in
    let one = rw (at.file, at.lives, same) at leaves in
    let alone = falling-alone b causes n T life k (lives-of-task task c.start.ensures.group) c.mul.result
    (c.mul.ensures.chance _ _ _ _ _ _ discount one) in
    record {
      within = refl;
      sets = λ mask below within.
          let here : mask ≡ 0 = omega arith in
          rw (here, put.written) alone;
      rest = λ mask on.
          (put.others mask (apart mask 0 life (nobody-off life) on), ap (λ list. entry list mask) put.minus);
      cost = omega (arith, c.mul.ensures.cost);
    }

pub with_first-falling-requires : goal.with_first-falling-requires
with_first-falling-requires g c =
    let task = c.args.task.now in
    let body = (pay_of c.args.task.now.pay.now).body in
    let named = all-named c.lives.result body c.lives.ensures in
    let below = set-below task c.requires.task c.lives.result named in
    let next = c.next_within-set.ensures in
    let others = c.without-others.ensures in
    let few = few-sets g.row.N g.row.M c.requires.task.sets (omega (arith, c.start.ensures.group.few)) in
    let IsChance = EnclosesFalling (insured_basis task) (asked (pay_of_task task).causes) g.row.N
    task.group.now.start c.args.life c.args.k in
    let smaller = filled-before IsChance c.without-others.result c.loop-set.set c.next_within-set.result next.later
    next.next c.loop-set.work.plus next.within c.loop-set.invariant.sets in (
      lit< tt,
      (
        omega (arith, few),
        (
          omega (arith, next.later),
          (
            omega (
              arith,
              below,
              others.smaller,
              within-below c.next_within-set.result c.without-others.result next.within,
            ),
            (c.looked_at-lives.ensures.chances, λ part less inside. (smaller part less inside).within),
          ),
        ),
      ),
    )

pub loop-set-smaller : goal.loop-set-smaller
loop-set-smaller g c =
    let next = c.next_within-set.ensures in
    omega (arith, next.later, within-below c.next_within-set.result c.without-others.result next.within)

pub put_plus-requires-in-loop-set : goal.put_plus-requires-in-loop-set
put_plus-requires-in-loop-set g c =
    let body = (pay_of c.args.task.now.pay.now).body in
    let named = all-named c.lives.result body c.lives.ensures in
    let below = set-below c.args.task.now c.requires.task c.lives.result named in
    let next = c.next_within-set.ensures in (
      lit< tt,
      omega (
        arith,
        below,
        c.without-others.ensures.smaller,
        within-below c.next_within-set.result c.without-others.result next.within,
      ),
    )

pub loop-set-preserved : goal.loop-set-preserved
loop-set-preserved g c =
    let task = c.args.task.now in
    let b = insured_basis task in
    let i = c.loop-set.invariant in
    let set = c.loop-set.set in
    let life = c.args.life in
    let causes = asked (pay_of_task task).causes in
    let others = c.without-others.ensures in
    let next = c.next_within-set.ensures in
    let put = c.put_plus-in-loop-set.ensures in
    let at = c.at-group.ensures in
    let on : has_bit c.lives.result life ≡ true =
    c.lives.ensures life ∙ falling-named (pay_of_task task) life c.requires.falls in
    let off = others-without c.lives.result life on c.next_within-set.result (rw others.value at next.within) in
    let same : c.at-group.result.start ≡ task.group.now.start = at.start ∙ c.start.ensures.value in
    let of_group : b.lives ≡ lives_of c.at-group.result.file c.at-group.result.lives = rw (at.file, at.lives) refl in
    let IsChance = EnclosesFalling b causes g.row.N task.group.now.start life c.args.k in
    let smaller = filled-before IsChance c.without-others.result set c.next_within-set.result next.later next.next
    c.loop-set.work.plus next.within i.sets in
    let there = rw same at (there-looked-at g.row.N c.at-group.result c.start-start.ensures.group life c.args.k
    c.requires.life (omega (arith, same, c.requires.from))
    (λ i low. rw (at.file, at.lives, at.start) (at.alive i low)) b of_group c.looked_at-lives.result
    c.looked_at-lives.ensures.lives) in
    let named = all-named c.lives.result (pay_of task.pay.now).body c.lives.ensures in
    let below : c.next_within-set.result < 2 ^ g.row.N = omega (
      arith,
      c.requires.task.sets,
      set-below task c.requires.task c.lives.result named,
      others.smaller,
      within-below c.next_within-set.result c.without-others.result next.within,
    ) in
    let falling = falling-by-first b causes g.row.N task.group.now.start life c.args.k
    (lives-of-task task c.start.ensures.group) c.next_within-set.result below c.looked_at-lives.result
    c.loop-set.work.plus c.with_first-falling.result c.with_first-falling.ensures.product there smaller in
    record {
      within = next.within;
      sets = filled-next IsChance c.without-others.result set c.next_within-set.result next.later next.next
          c.loop-set.work.plus c.put_plus-in-loop-set.new.self.plus c.with_first-falling.result
          i.sets falling put.written put.others;
      rest = λ mask with.
          let now = put.others mask (apart mask c.next_within-set.result life off with) in
          let rest = i.rest mask with in (now ∙ rest.0, ap (λ list. entry list mask) put.minus ∙ rest.1);
      cost = omega (
        arith,
        c.with_first-falling.ensures.cost,
        i.cost,
        one-set-more c.without-others.result set c.next_within-set.result next.later next.next next.within,
      );
    }

pub returns-clause-fallings : goal.returns-clause-fallings
returns-clause-fallings g c = λ mask below each with.
    let task = c.args.task.now in
    let body = (pay_of task.pay.now).body in
    let life = c.args.life in
    let named : ℕ = c.lives.result in
    let on : has_bit named life ≡ true =
    c.lives.ensures life ∙ falling-named (pay_of_task task) life c.requires.falls in
    let within = within-others named life on mask with (named-within named body c.lives.ensures mask each) in
    let inside = rw (← c.without-others.ensures.value) at within in
    let low : mask - 2 ^ life < c.loop-set.set + 1 =
    omega (arith, within-below (mask - 2 ^ life) c.without-others.result inside, c.loop-set-test.false) in
    c.loop-set.invariant.sets (mask - 2 ^ life) low inside

pub returns-clause-others : goal.returns-clause-others
returns-clause-others g c = c.loop-set.invariant.rest

pub returns-clause-cost : goal.returns-clause-cost
returns-clause-cost g c =
    let task = c.args.task.now in
    let body = (pay_of task.pay.now).body in
    let n = g.row.N in
    let named = all-named c.lives.result body c.lives.ensures in
    let below = set-below task c.requires.task c.lives.result named in
    let life = c.args.life in
    let on : has_bit c.lives.result life ≡ true =
    c.lives.ensures life ∙ falling-named (pay_of_task task) life c.requires.falls in
    let others = c.without-others.ensures in
    let size = named-size c.lives.result body c.lives.ensures n in
    let cost = rw c.loop-set-test.false at c.loop-set.invariant.cost in
    let under : c.lives.result < 2 ^ n = omega (arith, below, c.requires.task.sets) in
    let fewer = rw (← others.value) at (size-with n c.lives.result life under on) in
    let sets = sets-up-to n c.without-others.result (omega (arith, under, others.smaller)) in
    let most : 2 ^ size_of (bits n c.without-others.result) ≤ 2 ^ size_of (bits n c.lives.result) =
    pow-le-pow_right (omega arith) (omega (arith, fewer)) in
    let all = rw size at most in
    omega (arith, cost, sets, all)
