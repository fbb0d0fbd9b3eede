use Rattle.std.proofs.Common.{arith, refl}
use Rattle.halo_check.specs.DraftView.{draft_of}
use Rattle.halo_check.proofs.Order.{last_in_order, most_place, order_from_next}
use Rattle.halo_check.proofs.forms.is_in_order.Goals as goal

pub loop-later-init : goal.loop-later-init
loop-later-init c = record { so_far = λ order. order; from = omega arith }

pub returns-then-came_before : goal.returns-then-came_before
returns-then-came_before c = (
  λ h. absurd cc,
  λ order. let early =
      order c.in-Some.later (c.if-came_before.ensures.0 refl) in
      absurd (omega (arith, early, c.in-Some.ensures, c.loop-later.invariant.from)),
)

pub loop-later-smaller : goal.loop-later-smaller
loop-later-smaller c = omega (arith, c.in-Some.ensures, most_place c.in-Some.later)

pub loop-later-preserved : goal.loop-later-preserved
loop-later-preserved c = record {
  so_far =
      λ order. c.loop-later.invariant.so_far (order_from_next (draft_of c.args.draft.now) c.loop-later.behind
      c.in-Some.later c.in-Some.ensures (λ came. cc (c.if-came_before.ensures.1 came)) order);
  from = omega (arith, c.in-Some.ensures, c.loop-later.invariant.from);
}

pub returns : goal.returns
returns c = (
  λ h. c.loop-later.invariant.so_far (last_in_order (draft_of c.args.draft.now) c.loop-later.behind
      c.in_default.ensures),
  λ order. refl,
)
