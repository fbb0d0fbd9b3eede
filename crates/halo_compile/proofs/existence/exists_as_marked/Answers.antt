-- Each mark is compared at its set, from one set within the named lives to the next.
use Rattle.std.proofs.Common.{◌≡◌, ◌∙◌, arith, refl, Bool, true, false, not}
use mathlib.Core.Bool.{beq}
use Rattle.halo_status.specs.Pay.{pay_of}
use Rattle.halo_poly.proofs.Parts.{none_within}
use Rattle.halo_compile.proofs.Marking.{marked_first, marked_last, marked_next}
use Rattle.halo_compile.proofs.existence.exists_as_marked.Goals as goal

-- what `!=` answers
not_differing : (a b : Bool) → not (beq a b) ≡ false → a ≡ b
not_differing true true e = refl
not_differing false false e = refl
not_differing true false e = absurd (cc)
not_differing false true e = absurd (cc)

pub loop-set-init : goal.loop-set-init
loop-set-init c = marked_first (pay_of c.args.pay.now) c.args.t c.args.named _ _ (none_within c.args.named)
    c.exists_by_mark-marks.ensures (not_differing _ _ c.if-marked-is_marked.false ∙ c.is_marked.ensures)

pub next_within-next-requires-clause-within : goal.next_within-next-requires-clause-within
next_within-next-requires-clause-within c = c.loop-set.invariant.within

pub marks_at-marks-requires : goal.marks_at-marks-requires
marks_at-marks-requires c = c.loop-set.invariant.block

pub loop-set-preserved : goal.loop-set-preserved
loop-set-preserved c =
    marked_next (pay_of c.args.pay.now) c.args.t c.args.named c.loop-set.set c.next_within-next.result c.loop-set.marks
    c.marks_at-marks.result c.args.marked.now c.args.marked.now c.loop-set.invariant c.next_within-next.ensures.within
    c.next_within-next.ensures.next c.marks_at-marks.ensures (λ k h. refl) c.next_within-next.ensures.later
    (not_differing _ _ c.if-marked-next.false ∙ c.is_marked-in-loop-set.ensures)

pub returns : goal.returns
returns c =
    let last : c.loop-set.set ≡ c.args.named = omega arith in (
      λ _. marked_last (pay_of c.args.pay.now) c.args.t c.args.named c.loop-set.marks c.args.marked.now
          (rw last at c.loop-set.invariant),
      λ _. refl,
    )
