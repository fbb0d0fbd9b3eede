-- No term ends, and nothing changes; or the marks tell whether something does.
use Rattle.std.proofs.Common.{◌≡◌, ℕ, ◌-◌, ◌+◌, ◌<◌, ◌≤◌, arith, ap, sym, ◌∙◌, ⊎_elim}
use Rattle.std.proofs.lemmas.Bool.{cases_lt, false≢true}
use Rattle.halo_status.specs.Pay.{PlainPay, pay_of}
use Rattle.halo_model.specs.Segment.{coefficients_at}
use Rattle.halo_compile.proofs.Changes.{same_existence, same_marks, still_marked}
use Rattle.halo_compile.proofs.Unchanged.{unchanged}
use Rattle.halo_compile.proofs.segments.next_change.Goals as goal
use Rattle.halo_compile.proofs.segments.next_change.Goals.{else-term_ends-via-then-term_ends+else-not-exists_as_marked, else-term_ends-via-else-term_ends}

pub loop-t-init : goal.loop-t-init
loop-t-init c = λ n all t low high.
    let e : t ≡ c.args.from = omega arith in ap (coefficients_at (pay_of c.args.pay.now) n) e

pub returns-then-not-exists_as_marked-clause-same : goal.returns-then-not-exists_as_marked-clause-same
returns-then-not-exists_as_marked-clause-same c = c.loop-t.invariant

pub returns-then-not-exists_as_marked-clause-changes : goal.returns-then-not-exists_as_marked-clause-changes
returns-then-not-exists_as_marked-clause-changes c = λ n full before same.
    absurd (false≢true (sym c.if-not-exists_as_marked.true ∙ c.exists_as_marked.ensures.1
    (still_marked (pay_of c.args.pay.now) n c.loop-t.t c.args.from c.args.named c.args.marked.now
    (omega (arith, full, c.requires.few)) c.requires.marks same)))

extended : (pay : PlainPay) (n from t : ℕ)
    → ((k : ℕ) → from ≤ k → k < t → coefficients_at pay n k ≡ coefficients_at pay n from)
    → coefficients_at pay n t ≡ coefficients_at pay n from
    → (k : ℕ) → from ≤ k → k < t + 1 → coefficients_at pay n k ≡ coefficients_at pay n from
extended pay n from t before now k low high =
    ⊎_elim (λ (h : k < t). before k low h)
    (λ (h : t ≤ k). let e : k ≡ t = omega arith in ap (coefficients_at pay n) e ∙ now) (cases_lt k t)

pub loop-t-preserved : goal.loop-t-preserved
loop-t-preserved c =
    let pay : PlainPay = pay_of c.args.pay.now in
    elim c.else-term_ends.branch [
      | else-term_ends-via-then-term_ends+else-not-exists_as_marked w ↦ λ n all.
          extended pay n c.args.from c.loop-t.t (c.loop-t.invariant n all)
          (same_marks pay n c.loop-t.t c.args.from c.args.named c.args.marked.now all
          (w.exists_as_marked.ensures.0 w.if-not-exists_as_marked.false) c.requires.marks)
      | else-term_ends-via-else-term_ends w ↦ λ n all.
          extended pay n c.args.from c.loop-t.t (c.loop-t.invariant n all)
          (same_existence pay n c.loop-t.t (c.loop-t.t - 1)
          (λ u l.
          unchanged pay c.loop-t.t (omega (arith, c.loop-t.auto.t))
          (sym c.term_ends.ensures ∙ w.if-term_ends.false) u)
          ∙ c.loop-t.invariant n all (c.loop-t.t - 1) (omega (arith, c.loop-t.auto.t))
          (omega (arith, c.loop-t.auto.t)))
    ]

pub returns-clause-same : goal.returns-clause-same
returns-clause-same c = λ n all t low high. c.loop-t.invariant n all t low (omega arith)
