-- The parts of an annuity add up to its value.
use Rattle.std.proofs.Common.{◌≡◌, ℕ, suc, ◌+◌, ◌*◌, ◌-◌, ◌<◌, ◌≤◌, arith, refl, ap, sym, subst, ◌∙◌, List, [], ◌∷◌, length, map, Bool, true, false, cond, None, ℤ, pos, ◌+ℤ◌, ◌*ℤ◌}
use Rattle.std.proofs.lemmas.Bool.Decides.{nat_tests}
use Rattle.std.proofs.lemmas.Int.{ints}
use Rattle.halo_sums.specs.Sums.{int_sum_over, numbers_from, sum_over}
use Rattle.halo_sums.specs.Sets.{in_set, sets}
use Rattle.halo_sums.proofs.Integers.{mul_left_comm, pos_mul}
use Rattle.halo_sums.proofs.IntSums.{int_sum_over-append, int_sum_over-ext, int_sum_over-none, int_sum_over-pos, int_sum_over-scale, int_sum_over-swap}
use Rattle.halo_sums.proofs.Numbers.{int_sum_over-numbers_ext, numbers_from-add, numbers_from-split}
use Rattle.halo_status.specs.Nodes.{HasPositiveRanks, HasShortLists}
use Rattle.halo_status.specs.Pay.{PlainPay}
use Rattle.halo_status.specs.declared.pay.Kind.{Kind}
use Rattle.halo_status.specs.declared.pay.Kind.TheVariants.{Insurance, Due, Immediate}
use Rattle.halo_model.specs.Life.{AreLives, after_first}
use Rattle.halo_model.specs.Outcome.{joint_survivors}
use Rattle.halo_model.specs.Basis.{Basis, discounted, taken}
use Rattle.halo_model.specs.Payment.{payment}
use Rattle.halo_model.specs.Coefficient.{form}
use Rattle.halo_model.specs.Expectation.{all_there}
use Rattle.halo_model.specs.Horizon.{horizon}
use Rattle.halo_contract.specs.Premium.{all_lives}
use Rattle.halo_model.specs.Segment.{AreSegmentsFrom, IsUniform, Run, first_time, last_time_of_form}
use Rattle.halo_model.specs.Backward.{lies_in, may_pay, outside, paid_at, years_passed}
use Rattle.halo_model.specs.RunPart.{RunPartsAddUp, paid_to_set, run_part, times_of}
use Rattle.halo_model.proofs.AfterHorizon.{nothing-after-horizon}
use Rattle.halo_model.proofs.Backward.{all-there, annuity-by-times, sets-ext, time_part}

-- every set lies in the set of all lives
pub lies-in-all : (s : List Bool) (U : ℕ → Bool) → ((i : ℕ) → U i ≡ true) → lies_in s U ≡ true
lies-in-all [] U h = refl
lies-in-all (false ∷ s) U h = lies-in-all s (after_first U) (λ i. h (suc i))
lies-in-all (true ∷ s) U h = rw (h 0) (lies-in-all s (after_first U) (λ i. h (suc i)))

-- sums over two lists of values that are equal
maps-same : (xs : List (List Bool)) (f g : List Bool → ℤ) (w : List Bool → ℕ)
    → map f xs ≡ map g xs → int_sum_over xs (λ s. f s *ℤ pos (w s)) ≡ int_sum_over xs (λ s. g s *ℤ pos (w s))
maps-same [] f g w e = refl
maps-same (s ∷ xs) f g w e =
    let h : f s ≡ g s = cc e in
    let rest : map f xs ≡ map g xs = cc e in
    rw (h, maps-same xs f g w rest) refl

cond-out : (may : Bool) (p d : ℕ) (x : ℤ) → cond may (pos (p * d) *ℤ x) (pos 0) ≡ pos (cond may p 0 * d) *ℤ x
cond-out true p d x = refl
cond-out false p d x = let e : 0 * d ≡ 0 = omega arith in rw e (omega (arith, ints))

-- a run ends no earlier than it begins
in-order : (pay : PlainPay) (n first last : ℕ) (runs : List Run) → AreSegmentsFrom pay n first last runs → first ≤ last
in-order pay n first last [] h = absurd h
in-order pay n first last (run ∷ []) h = h.1
in-order pay n first last (run ∷ next ∷ runs) h = let rest = in-order pay n (suc run.last) last (next ∷ runs) h.4 in
    omega (arith, h.1, rest)

-- a sum over the times of some segments is the sum over the segments
module _ (pay : PlainPay) (n : ℕ) (at_time : ℕ → ℤ) (of_run : Run → ℤ)
    (each : (run : Run) → IsUniform pay n run → int_sum_over (times_of run) at_time ≡ of_run run) where
  by-segments : (runs : List Run) (first last : ℕ) → AreSegmentsFrom pay n first last runs
      → int_sum_over (numbers_from first (suc last - first)) at_time ≡ int_sum_over runs of_run
  by-segments [] first last h = absurd h
  by-segments (run ∷ []) first last h =
      subst (λ (r : Run). int_sum_over (times_of r) at_time ≡ of_run run) h.0 (each run h.2) ∙ omega (arith, ints)
  by-segments (run ∷ next ∷ runs) first last h =
      let rest = in-order pay n (suc run.last) last (next ∷ runs) h.4 in
      let count : suc last - first ≡ (suc run.last - first) + (suc last - suc run.last) = omega (arith, h.1, rest) in
      let then : first + (suc run.last - first) ≡ suc run.last = omega (arith, h.1) in
      ap (λ c. int_sum_over (numbers_from first c) at_time) count
      ∙ ap (λ ts. int_sum_over ts at_time) (numbers_from-add (suc run.last - first) (suc last - suc run.last) first)
      ∙ int_sum_over-append (numbers_from first (suc run.last - first))
      (numbers_from (first + (suc run.last - first)) (suc last - suc run.last)) at_time
      ∙ ap (λ f. int_sum_over (numbers_from first (suc run.last - first)) at_time
      +ℤ int_sum_over (numbers_from f (suc last - suc run.last)) at_time) then
      ∙ ap (λ z. z +ℤ int_sum_over (numbers_from (suc run.last) (suc last - suc run.last)) at_time)
      (ap (λ f. int_sum_over (numbers_from f (suc run.last - f)) at_time) (sym h.0) ∙ each run h.2)
      ∙ ap (λ z. of_run run +ℤ z) (by-segments (next ∷ runs) (suc run.last) last h.4)

-- before the first time of its form nothing is paid
not-yet : (kind : Kind) (defer t : ℕ) → t < first_time kind → may_pay kind defer 0 t ≡ false
not-yet Insurance defer t h = refl
not-yet Due defer t h = absurd (omega arith)
not-yet Immediate defer t h = let e : t ≡ 0 = omega arith in rw e (grind (arith, nat_tests))

module _ (b : Basis) (pay : PlainPay) where
  -- what an annuity pays at one time, over the sets
  abbrev at_time : ℕ → ℤ
  at_time t = int_sum_over (sets (length b.lives)) (λ s. form pay t s *ℤ pos (paid_to_set b pay s t))

  time-is : (t : ℕ) → time_part b pay 0 all_lives t ≡ at_time t
  time-is t =
      cond-out (may_pay pay.kind pay.defer 0 t) (payment pay (years_passed pay.kind pay.defer t)) (discounted b 0 t) _
      ∙ sym (int_sum_over-scale (sets (length b.lives))
      (pos (paid_at pay 0 t * discounted b 0 t)) (λ s. form pay t s *ℤ all_there (λ i. t) 0 all_lives b.lives s))
      ∙ sets-ext (length b.lives) _ _ (λ s long.
      ap (λ z. pos (paid_at pay 0 t * discounted b 0 t) *ℤ (form pay t s *ℤ z)) (
      all-there t 0 all_lives b.lives s long
      ∙ ap (λ is. cond is (pos (joint_survivors t (in_set s) b.lives * joint_survivors 0 (outside all_lives s) b.lives))
      (pos 0)) (lies-in-all s all_lives (λ i. refl)))
      ∙ weigh (paid_at pay 0 t) (discounted b 0 t)
      (joint_survivors t (in_set s) b.lives * joint_survivors 0 (outside all_lives s) b.lives) (form pay t s))
    where
      weigh : (p d j : ℕ) (c : ℤ) → pos (p * d) *ℤ (c *ℤ pos j) ≡ c *ℤ pos (p * (d * j))
      weigh p d j c =
          let e : p * d * j ≡ p * (d * j) = omega arith in
          mul_left_comm (pos (p * d)) c (pos j)
          ∙ ap (λ z. c *ℤ z) (sym (pos_mul (p * d) j)) ∙ ap (λ (k : ℕ). c *ℤ pos k) e

  -- a run of times with equal coefficients
  run-is : (run : Run) → IsUniform pay (length b.lives) run → int_sum_over (times_of run) at_time ≡ int_sum_over
      (sets (length b.lives)) (λ s. form pay run.first s *ℤ pos (sum_over (times_of run) (paid_to_set b pay s)))
  run-is run uniform =
      int_sum_over-numbers_ext (suc run.last - run.first) run.first at_time
      (λ t. int_sum_over (sets (length b.lives)) (λ s. form pay run.first s *ℤ pos (paid_to_set b pay s t)))
      (λ t from below. maps-same (sets (length b.lives))
      (form pay t) (form pay run.first) (λ s. paid_to_set b pay s t) (uniform t from (omega arith)))
      ∙ int_sum_over-swap
      (times_of run) (sets (length b.lives)) (λ t s. form pay run.first s *ℤ pos (paid_to_set b pay s t))
      ∙ int_sum_over-ext (sets (length b.lives)) _ _ (λ s.
      int_sum_over-scale (times_of run) (form pay run.first s) (λ t. pos (paid_to_set b pay s t))
      ∙ ap (λ z. form pay run.first s *ℤ z) (int_sum_over-pos (times_of run) (paid_to_set b pay s)))

  -- at other times than those of its form nothing is paid
  not-before : (t : ℕ) → t < first_time pay.kind → at_time t ≡ pos 0
  not-before t before =
      int_sum_over-ext (sets (length b.lives)) _
      (λ s. pos 0) (λ s. none (may_pay pay.kind pay.defer 0 t) (payment pay (years_passed pay.kind pay.defer t))
      (discounted b 0 t * (joint_survivors t (in_set s) b.lives * joint_survivors 0 (outside all_lives s) b.lives))
      (form pay t s) (not-yet pay.kind pay.defer t before))
      ∙ int_sum_over-none (sets (length b.lives))
    where
      none : (may : Bool) (p k : ℕ) (c : ℤ) → may ≡ false → c *ℤ pos (cond may p 0 * k) ≡ pos 0
      none may p k c e = let z : 0 * k ≡ 0 = omega arith in rw (e, z) (omega (arith, ints))

  not-after : AreLives b.lives → pay.mark ≡ None → HasShortLists pay.body → HasPositiveRanks pay.body
      → (t : ℕ) → last_time_of_form pay.kind (horizon b.lives pay.body) < t → at_time t ≡ pos 0
  not-after rule plain lists ranks t after =
      sets-ext (length b.lives) _ (λ s. pos 0) (λ s long. none (paid_at pay 0 t)
      (discounted b 0 t) (joint_survivors t (in_set s) b.lives) (joint_survivors 0 (outside all_lives s) b.lives)
      (form pay t s) (nothing-after-horizon b rule pay plain lists ranks t after s long))
      ∙ int_sum_over-none (sets (length b.lives))
    where
      none : (p d j o : ℕ) (c : ℤ) → c *ℤ pos j ≡ pos 0 → c *ℤ pos (p * (d * (j * o))) ≡ pos 0
      none p d j o c e =
          let k : p * (d * (j * o)) ≡ p * d * o * j = omega arith in
          ap (λ (n : ℕ). c *ℤ pos n) k ∙ ap (λ z. c *ℤ z) (pos_mul (p * d * o) j)
          ∙ mul_left_comm c (pos (p * d * o)) (pos j) ∙ ap (λ z. pos (p * d * o) *ℤ z) e ∙ omega (arith, ints)

-- of three stretches only the middle one counts
middle : (f : ℕ → ℤ) (before during after : ℕ)
    → ((t : ℕ) → t < before → f t ≡ pos 0) → ((t : ℕ) → before + during ≤ t → f t ≡ pos 0)
    → int_sum_over (numbers_from 0 (before + (during + after))) f ≡ int_sum_over (numbers_from before during) f
middle f before during after early late =
    ap (λ ts. int_sum_over ts f) (numbers_from-split before (during + after))
    ∙ int_sum_over-append (numbers_from 0 before) (numbers_from before (during + after)) f
    ∙ ap (λ z. z +ℤ int_sum_over (numbers_from before (during + after)) f) (int_sum_over-numbers_ext before 0 f
    (λ t. pos 0) (λ t from below. early t (omega arith)) ∙ int_sum_over-none (numbers_from 0 before))
    ∙ ap (λ ts. pos 0 +ℤ int_sum_over ts f) (numbers_from-add during after before)
    ∙ ap (λ z. pos 0 +ℤ z) (int_sum_over-append (numbers_from before during) (numbers_from (before + during) after) f)
    ∙ ap (λ z. pos 0 +ℤ (int_sum_over (numbers_from before during) f +ℤ z))
    (int_sum_over-numbers_ext after (before + during) f (λ t. pos 0) (λ t from below. late t from)
    ∙ int_sum_over-none (numbers_from (before + during) after))
    ∙ omega (arith, ints)

some-times : (kind : Kind) (years : ℕ)
    → first_time kind + (suc (last_time_of_form kind years) - first_time kind) ≡ suc (last_time_of_form kind years)
some-times Insurance years = omega arith
some-times Due years = omega arith
some-times Immediate years = omega arith

pub run-parts-add-up : RunPartsAddUp
unfolding run_part
run-parts-add-up b rule pay annual plain lists ranks in_time runs segments =
    let n : ℕ = length b.lives in
    let first : ℕ = first_time pay.kind in
    let last : ℕ = last_time_of_form pay.kind (horizon b.lives pay.body) in
    let orders : ℕ = length (taken b) in
    let span = some-times pay.kind (horizon b.lives pay.body) in
    let all : suc b.last_time ≡ first + ((suc last - first) + (b.last_time - last)) = omega (arith, in_time, span) in
    sym (
    annuity-by-times b rule pay annual plain 0 all_lives
    ∙ ap (λ z. pos orders *ℤ z) (
    int_sum_over-ext (numbers_from 0 (suc b.last_time)) _ _ (time-is b pay)
    ∙ ap (λ c. int_sum_over (numbers_from 0 c) (at_time b pay)) all
    ∙ middle (at_time b pay) first (suc last - first) (b.last_time - last)
    (not-before b pay) (λ t from. not-after b pay rule plain lists ranks t (omega (arith, from, span)))
    ∙ by-segments pay n (at_time b pay) (λ run. int_sum_over
    (sets n) (λ s. form pay run.first s *ℤ pos (sum_over (times_of run) (paid_to_set b pay s))))
    (run-is b pay) runs first last segments)
    ∙ sym (int_sum_over-scale runs (pos orders) (λ run. int_sum_over
    (sets n) (λ s. form pay run.first s *ℤ pos (sum_over (times_of run) (paid_to_set b pay s)))))
    ∙ int_sum_over-ext runs _ _ (λ run. sym (int_sum_over-scale
    (sets n) (pos orders) (λ s. form pay run.first s *ℤ pos (sum_over (times_of run) (paid_to_set b pay s))))))
