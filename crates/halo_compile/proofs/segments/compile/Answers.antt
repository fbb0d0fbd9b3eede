-- Each turn adds a segment, from the first time that is left up to the next change.
use Rattle.std.proofs.Common.{◌≡◌, ℕ, suc, ◌+◌, ◌-◌, ◌^◌, arith, refl, ap, ◌∙◌, List, ◌++◌, length, map, take, drop, Bool, ℤ}
use Rattle.std.proofs.Math.Seq.{take-append_seam}
use Rattle.halo_sums.specs.Sums.{indicator, numbers_from, sum_over}
use Rattle.halo_sums.specs.Coefficients.{coefficient}
use Rattle.halo_status.specs.Pay.{PlainPay, pay_of}
use Rattle.halo_model.specs.Counts.{greatest, size}
use Rattle.halo_model.specs.Segment.{coefficients_at, first_time}
use Rattle.halo_poly.specs.Poly.{EachSetOf, coefficient_of, is_marked_within, value_on}
use Rattle.halo_compile.specs.Form.{IsPolyOf}
use Rattle.halo_compile.specs.Marks.{AreNamed, MarksExistence}
use Rattle.halo_compile.proofs.Built.{one_built, poly_of_run}
use Rattle.halo_compile.proofs.Changes.{marked_exists, marked_form}
use Rattle.halo_compile.proofs.Weights.{weights}
use Rattle.halo_compile.proofs.segments.compile.Goals as goal

-- marks that were written back whole
written : (k : ℕ) (xs ys : List Bool) → length xs ≡ k → take k (xs ++ drop (length xs) ys) ≡ xs
written k xs ys e = rw (← e) (take-append_seam xs (drop (length xs) ys))

-- the polynomial of the marked sets is that of the pay
poly_of_marks : (pay : PlainPay) (n named from : ℕ) (marks seen : List Bool) (p : List ℤ)
    → AreNamed n pay.body named → MarksExistence pay from named marks → seen ≡ marks → length p ≡ 2 ^ n
    → EachSetOf n (λ s. coefficient_of p s ≡ coefficient (λ u. indicator (is_marked_within seen named u)) s)
    → EachSetOf n (λ s. value_on p s ≡ indicator (is_marked_within seen named s))
    → IsPolyOf pay n from p
poly_of_marks pay n named from marks seen p all is e whole coefficients values = record {
  full = whole;
  coefficients = λ s l. (rw e at (coefficients s l)) ∙ marked_form pay n named all from marks is s l;
  values = λ s l. (rw e at (values s l)) ∙ marked_exists pay n named all from marks is s l;
}

pub mark_existence-requires : goal.mark_existence-requires
mark_existence-requires g c =
    omega (arith, c.named_among-named.ensures.few, c.loop-from.invariant.room, ap length c.deref_mut.ensures.value)

pub next_change-until-requires-clause-few : goal.next_change-until-requires-clause-few
next_change-until-requires-clause-few g c =
    let kept : length c.mark_existence.new.marked ≡ c.loop-from.marked.len =
    omega (arith, c.mark_existence.ensures.length, c.deref_mut.ensures.len) in
    let seen =
    c.deref.ensures.value
    ∙ written c.loop-from.marked.len c.mark_existence.new.marked c.loop-from.marked.items kept in
    omega (
      arith,
      c.named_among-named.ensures.few,
      c.loop-from.invariant.room,
      ap length seen,
      c.mark_existence.ensures.length,
      ap length c.deref_mut.ensures.value,
    )

pub loop-from-preserved : goal.loop-from-preserved
loop-from-preserved g c =
    let pay : PlainPay = pay_of c.args.pay.now in
    let marks : List Bool = c.mark_existence.new.marked in
    let full : length marks ≡ g.row.M =
    c.mark_existence.ensures.length ∙ ap length c.deref_mut.ensures.value ∙ c.loop-from.invariant.room in
    let kept : length marks ≡ c.loop-from.marked.len =
    omega (arith, c.mark_existence.ensures.length, c.deref_mut.ensures.len) in
    let back = written c.loop-from.marked.len marks c.loop-from.marked.items kept in
    let seen = c.deref.ensures.value ∙ back in
    let seen_again = c.deref-in-loop-from.ensures.value ∙ back in
    record {
      room = rw back full;
      within = c.next_change-until.ensures.within;
      built = λ n e.
          let all : AreNamed n pay.body c.named_among-named.result = c.named_among-named.ensures.named n e in
          let same = c.next_change-until.ensures.same n all in
          let first : IsPolyOf pay n c.loop-from.from c.in_ok-poly.poly =
          poly_of_marks pay n c.named_among-named.result c.loop-from.from marks c.deref-in-loop-from.result.now
          c.in_ok-poly.poly all c.mark_existence.ensures.marks seen_again (c.in_ok-poly.ensures.full ∙ e)
          (c.in_ok-poly.ensures.coefficients n e) (c.in_ok-poly.ensures.values n e) in
          rw c.in_ok-push.ensures.items
          (one_built pay n (first_time c.args.pay.now.kind) c.loop-from.from c.next_change-until.result
          (c.first_time-from.result + c.args.horizon) c.loop-from.segments.items _
          (c.loop-from.invariant.built n e) refl refl c.next_change-until.ensures.later
          c.next_change-until.ensures.within same
          (c.next_change-until.ensures.changes n (ap length seen ∙ full ∙ e))
          (λ t low high. poly_of_run pay n t c.loop-from.from c.in_ok-poly.poly first (same t low high)));
    }

pub returns-clause-weight : goal.returns-clause-weight
returns-clause-weight g c = λ n e.
    let pay : PlainPay = pay_of c.args.pay.now in
    let built = c.loop-from.invariant.built n e in
    let at_end : c.loop-from.from ≡ c.first_time-from.result + c.args.horizon =
    omega (arith, c.loop-from.invariant.within) in
    let times : suc (c.first_time-from.result + c.args.horizon - 1) - first_time c.args.pay.now.kind ≡ c.args.horizon =
    omega (arith, c.first_time-from.ensures, c.requires.some) in
    weights pay n c.loop-from.segments.items (first_time c.args.pay.now.kind)
    (c.first_time-from.result + c.args.horizon - 1) (built.ended at_end) built.have
    ∙ ap
    (λ count.
    greatest 1
    (map (λ t. sum_over (coefficients_at pay n t) size) (numbers_from (first_time c.args.pay.now.kind) count)))
    times
