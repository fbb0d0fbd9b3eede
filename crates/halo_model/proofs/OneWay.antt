-- The sum over what can become of one life, where only its being there at a time counts.
use Rattle.std.proofs.Common.{◌≡◌, ℕ, zero, suc, ◌-◌, ◌<◌, ◌≤◌, arith, refl, ap, ◌∙◌, Bool, true, false, cond, nat_le, ℤ, pos, ◌+ℤ◌, ◌*ℤ◌, ◌-ℤ◌, ⊎_elim}
use Rattle.std.proofs.lemmas.Bool.{cases_lt}
use Rattle.std.proofs.lemmas.Bool.Decides.{nat_tests}
use Rattle.std.proofs.lemmas.Int.{ints}
use Rattle.halo_sums.specs.Sums.{int_sum_over, numbers_from}
use Rattle.halo_sums.proofs.Integers.{add_mul, pos_add, sub_mul}
use Rattle.halo_sums.proofs.IntSums.{int_sum_over-ext, int_sum_over-pos, int_sum_over-scale_right}
use Rattle.halo_model.specs.Life.{IsLife, PlainLife, leavers_in}
use Rattle.halo_model.specs.Outcome.{exit_weight, ways}
use Rattle.halo_model.specs.There.{there}
use Rattle.halo_model.proofs.Expected.{int_sum_over-ways}

none-left : (a y n : ℤ) → a *ℤ y ≡ a *ℤ y +ℤ (a -ℤ a) *ℤ n
none-left a y n = omega (arith, ints, sub_mul a a n)

module _ (x : PlainLife) (rule : IsLife x) (t : ℕ) (g : Bool → ℤ) where
  abbrev sum_from : ℕ → ℕ → ℤ
  sum_from years k = int_sum_over (numbers_from k years) (λ i. pos (leavers_in x i) *ℤ g (nat_le t i))

  reached : (k : ℕ) → t ≤ k → nat_le t k ≡ true
  reached k h = grind (arith, nat_tests)

  not-reached : (k : ℕ) → k < t → nat_le t k ≡ false
  not-reached k h = grind (arith, nat_tests)

  from-t : (years k : ℕ) → years ≡ x.years_left - k → t ≤ k → sum_from years k ≡ pos (x.survivors k) *ℤ g true
  from-t zero k e h = rw (rule.ends k (omega arith)) (omega (arith, ints))
  from-t (suc years) k e h =
      rw (
        reached k h,
        from-t years (suc k) (omega arith) (omega arith),
        rule.falls k,
        pos_add (leavers_in x k)
            (x.survivors (suc k)),
      )
      (omega (arith, ints, add_mul (pos (leavers_in x k)) (pos (x.survivors (suc k))) (g true)))

  up-to-t : (years k : ℕ) → years ≡ x.years_left - k → k ≤ t
      → sum_from years k ≡ pos (x.survivors t) *ℤ g true +ℤ (pos (x.survivors k) -ℤ pos (x.survivors t)) *ℤ g false
  up-to-t zero k e h = rw (rule.ends k (omega arith), rule.ends t (omega arith)) (omega (arith, ints))
  up-to-t (suc years) k e h = ⊎_elim
      (λ before. rw (
        not-reached k before,
        up-to-t years (suc k) (omega arith) before,
        rule.falls k,
        pos_add
            (leavers_in x k) (x.survivors (suc k)),
      )
      (omega (
        arith,
        ints,
        sub_mul (pos (leavers_in x k) +ℤ pos (x.survivors (suc k))) (pos (x.survivors t)) (g false),
        add_mul (pos (leavers_in x k)) (pos (x.survivors (suc k))) (g false),
        sub_mul (pos (x.survivors (suc k)))
            (pos (x.survivors t)) (g false),
      )))
      (λ from. let here : k ≡ t = omega arith in from-t (suc years) k e from
      ∙ rw here (none-left (pos (x.survivors t)) (g true) (g false)))
      (cases_lt k t)

-- where g depends on whether a life is there at t: the survivors at t with the one value, and those who leave before
-- with the other
pub one-life : (x : PlainLife) → IsLife x → (T t : ℕ) → T ≤ t → (alive : Bool) (g : Bool → ℤ)
    → int_sum_over (ways T alive x) (λ way. pos (exit_weight x way) *ℤ g (there t way))
    ≡ cond alive (pos (x.survivors t)) (pos 0) *ℤ g true +ℤ cond alive (pos (x.survivors T) -ℤ pos (x.survivors t))
    (pos 1) *ℤ g false
one-life x rule T t h false g = omega (arith, ints)
one-life x rule T t h true g = int_sum_over-ways T x (λ way. pos (exit_weight x way) *ℤ g (there t way))
    ∙ int_sum_over-ext (numbers_from T (x.years_left - T)) _ _
    (λ k. int_sum_over-scale_right (numbers_from 0 x.causes) (g (nat_le t k)) (λ j. pos (x.leavers k j))
    ∙ ap (λ z. z *ℤ g (nat_le t k)) (int_sum_over-pos (numbers_from 0 x.causes) (x.leavers k)))
    ∙ up-to-t x rule t g (x.years_left - T) T refl h
