-- Each mark is written at its set, from one set within the named lives to the next.
use Rattle.std.proofs.Common.{◌≡◌, ◌≢◌, ℕ, ◌<◌, ◌∙◌, arith, length, length-set, Bool, false}
use Rattle.std.proofs.lemmas.List.{get_or-set_other, get_or-set_same}
use Rattle.halo_sums.proofs.Within.{within-below}
use Rattle.halo_status.specs.Pay.{pay_of}
use Rattle.halo_poly.proofs.Parts.{none_within}
use Rattle.halo_compile.proofs.Marking.{marked_first, marked_last, marked_next}
use Rattle.halo_compile.proofs.existence.mark_existence.Goals as goal

pub loop-set-init : goal.loop-set-init
loop-set-init c = marked_first (pay_of c.args.pay.now) c.args.t c.args.named _ _ (none_within c.args.named)
    c.exists_by_mark-marks.ensures (get_or-set_same c.args.marked.now 0 _ false (omega arith) ∙ c.is_marked.ensures)

pub next_within-next-requires-clause-within : goal.next_within-next-requires-clause-within
next_within-next-requires-clause-within c = c.loop-set.invariant.within

pub marks_at-marks-requires : goal.marks_at-marks-requires
marks_at-marks-requires c = c.loop-set.invariant.block

pub loop-set-preserved : goal.loop-set-preserved
loop-set-preserved c =
    let below = within-below c.next_within-next.result c.args.named c.next_within-next.ensures.within in
    let there : c.next_within-next.result < length c.loop-set.marked =
    omega (arith, below, length-set {A = Bool}) in
    let other = λ (k : ℕ) (ne : k ≢ c.next_within-next.result).
    get_or-set_other c.loop-set.marked c.next_within-next.result k c.is_marked-in-loop-set.result false ne in
    marked_next (pay_of c.args.pay.now) c.args.t c.args.named c.loop-set.set c.next_within-next.result c.loop-set.marks
    c.marks_at-marks.result c.loop-set.marked _ c.loop-set.invariant c.next_within-next.ensures.within
    c.next_within-next.ensures.next c.marks_at-marks.ensures
    (λ k early. other k (omega arith)) c.next_within-next.ensures.later
    (get_or-set_same c.loop-set.marked c.next_within-next.result _ false there ∙ c.is_marked-in-loop-set.ensures)

pub returns-clause-marks : goal.returns-clause-marks
returns-clause-marks c =
    let last : c.loop-set.set ≡ c.args.named = omega arith in
    marked_last (pay_of c.args.pay.now) c.args.t c.args.named c.loop-set.marks c.loop-set.marked
    (rw last at c.loop-set.invariant)
