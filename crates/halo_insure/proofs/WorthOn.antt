-- What falls on some events of an insurance: by sets of lives, and between which bounds.
use Rattle.std.proofs.Common.{◌≡◌, ℕ, ◌*◌, ◌-◌, ◌≤◌, arith, refl, ap, ◌∙◌, subst, List, length, Bool, false, ℤ, pos, negsuc, ◌*ℤ◌}
use Rattle.std.proofs.lemmas.Int.{ints}
use Rattle.halo_sums.specs.Sums.{int_sum_over, numbers_from}
use Rattle.halo_sums.specs.Masks.{bits, has_bit}
use Rattle.halo_sums.specs.Sets.{in_set, subsets}
use Rattle.halo_sums.proofs.IntSums.{int_sum_over-ext, int_sum_over-none}
use Rattle.halo_sums.proofs.Masks.{has_bit-bits}
use Rattle.halo_sums.proofs.SetMasks.{length-bits}
use Rattle.halo_interest.specs.declared.powers.TheConstants.{LAST_TIME}
use Rattle.halo_status.specs.Pay.{PlainPay}
use Rattle.halo_model.specs.Backward.{outside}
use Rattle.halo_model.specs.Basis.{Basis, taken}
use Rattle.halo_model.specs.Chance.{IsValidInsurance}
use Rattle.halo_model.specs.Counts.{greatest_factor}
use Rattle.halo_model.specs.Horizon.{horizon}
use Rattle.halo_model.specs.Life.{AreLives}
use Rattle.halo_model.specs.OnePayment.{IsBetween, most_paid}
use Rattle.halo_model.specs.Order.{rank_in}
use Rattle.halo_model.specs.Outcome.{joint_survivors}
use Rattle.halo_model.specs.Part.{end_part, leaving_part, paid_for_year}
use Rattle.halo_model.specs.PartLaws.{EndBy}
use Rattle.halo_model.specs.SetValue.{can_fall_on_life, can_fall_on_term, set_value}
use Rattle.halo_model.specs.Value.{denominator}
use Rattle.halo_model.proofs.Bounded.{ends-are-bounded, insurance-is-bounded, leavings-are-bounded}
use Rattle.halo_model.proofs.InsuranceBySets.{end-by-sets, insurance-by-sets, leaving-by-sets}
use Rattle.halo_model.proofs.NoFall.{no-chance-on-end, no-chance-on-leaving}
use Rattle.halo_insure.specs.declared.events.Events.{Events}
use Rattle.halo_insure.specs.declared.events.Events.TheVariants.{Every, Leaving, End}
use Rattle.halo_insure.specs.Events.{AreEventsOf, events_of, worth_on}
use Rattle.halo_along.specs.Parts.{worth_on_end, worth_on_leaving}
use Rattle.halo_insure.proofs.Total.{numerator-agree, outcomes-agree}

module _ (b : Basis) (rule : AreLives b.lives) (end : EndBy b.last_time b.lives) (in_time : LAST_TIME ≤ b.last_time)
    (pay : PlainPay) (is : IsValidInsurance pay) (T : ℕ) where
  -- it is the sum over the subsets of the lives alive, in each order taken
  pub worth-by-sets : (events : Events) → AreEventsOf (length b.lives) events → (alive : ℕ) →
      let all : List Bool = bits (length b.lives) alive in
      worth_on events b pay T (has_bit alive) ≡ int_sum_over (taken b) (λ order. int_sum_over (subsets all)
      (λ s. set_value b pay (events_of events) (rank_in order) T s
      *ℤ pos (joint_survivors T (outside (in_set all) s) b.lives)))
  worth-by-sets Every there alive =
      let n : ℕ = length b.lives in
      ap pos (numerator-agree b pay T (has_bit alive) (in_set (bits n alive)) (has_bit-bits n alive))
      ∙ insurance-by-sets b rule end pay is T (bits n alive) (length-bits n alive)
  worth-by-sets (Leaving life) there alive = int_sum_over-ext (taken b) _ _ in-order
    where
      in-order : (order : List ℕ) → leaving_part b pay (rank_in order) T (has_bit alive) life
          ≡ int_sum_over (subsets (bits (length b.lives) alive)) (λ s.
          set_value b pay (events_of (Leaving life)) (rank_in order) T s
          *ℤ pos (joint_survivors T (outside (in_set (bits (length b.lives) alive)) s) b.lives))
      in-order order =
          let n : ℕ = length b.lives in
          rw (outcomes-agree T b.lives (has_bit alive) (in_set (bits n alive)) (has_bit-bits n alive))
          (leaving-by-sets b rule pay is (rank_in order) T (bits n alive) (length-bits n alive) life there)
  worth-by-sets (End years) there alive = int_sum_over-ext (taken b) _ _ in-order
    where
      in-order : (order : List ℕ) → end_part b pay (rank_in order) T (has_bit alive) years
          ≡ int_sum_over (subsets (bits (length b.lives) alive)) (λ s.
          set_value b pay (events_of (End years)) (rank_in order) T s
          *ℤ pos (joint_survivors T (outside (in_set (bits (length b.lives) alive)) s) b.lives))
      in-order order =
          let n : ℕ = length b.lives in
          rw (outcomes-agree T b.lives (has_bit alive) (in_set (bits n alive)) (has_bit-bits n alive))
          (end-by-sets b rule pay is (rank_in order) T (bits n alive) (length-bits n alive)
          years there.0 (omega (arith, there.1, in_time)))

  bounded : (events : Events) → AreEventsOf (length b.lives) events → (S : ℕ → Bool)
      → IsBetween 0 (most_paid b pay * denominator b T S) (worth_on events b pay T S)
  bounded Every there S = let most = insurance-is-bounded b rule end pay is T S in
      record { at_least = omega (arith, ints); at_most = omega (arith, ints, most) }
  bounded (Leaving life) there S = leavings-are-bounded b rule end pay is T S life
  bounded (End years) there S = ends-are-bounded b rule pay is T S years there.0 (omega (arith, there.1, in_time))

  -- for an amount of 1 it is from nothing to the greatest factor
  pub worth-bounded : pay.amount ≡ 1 → (events : Events) → AreEventsOf (length b.lives) events → (S : ℕ → Bool)
      → IsBetween 0
      (greatest_factor pay.vary (horizon b.lives pay.body) * denominator b T S) (worth_on events b pay T S)
  worth-bounded one events there S =
      let most : most_paid b pay ≡ greatest_factor pay.vary (horizon b.lives pay.body) =
      ap (λ (n : ℕ). n * greatest_factor pay.vary (horizon b.lives pay.body)) one ∙ omega arith in
      subst (λ (m : ℕ). IsBetween 0 (m * denominator b T S) (worth_on events b pay T S)) most (bounded events there S)

-- where no payment can fall on an event nothing does
nothing-paid : (paid : ℕ) (z : ℤ) → z ≡ pos 0 → pos paid *ℤ z ≡ pos 0
nothing-paid paid z e = rw e (omega (arith, ints))

pub none-on-leaving : (b : Basis) (pay : PlainPay) (T : ℕ) (S : ℕ → Bool) (life : ℕ)
    → can_fall_on_life pay life ≡ false → worth_on_leaving b pay T S life ≡ pos 0
none-on-leaving b pay T S life silent = int_sum_over-ext (taken b) _ _
    (λ order. int_sum_over-ext (numbers_from 0 b.last_time) _ _
    (λ k. nothing-paid (paid_for_year b pay T k) _ (no-chance-on-leaving pay (rank_in order) T S b.lives life k silent))
    ∙ int_sum_over-none (numbers_from 0 b.last_time))
    ∙ int_sum_over-none (taken b)

pub none-on-end : (b : Basis) (pay : PlainPay) (T : ℕ) (S : ℕ → Bool) (years : ℕ)
    → can_fall_on_term pay years ≡ false → worth_on_end b pay T S years ≡ pos 0
none-on-end b pay T S years silent = int_sum_over-ext (taken b) _ _
    (λ order. nothing-paid (paid_for_year b pay T (years - 1)) _
    (no-chance-on-end pay (rank_in order) T S b.lives years silent))
    ∙ int_sum_over-none (taken b)

-- what is at least 0 and at most so much is such a natural number
pub record IsUpTo (most : ℕ) (z : ℤ) : Type 0 where
  pub number : ℕ
  pub is : z ≡ pos number
  pub bound : number ≤ most

pub up-to : (most : ℕ) (z : ℤ) → IsBetween 0 most z → IsUpTo most z
up-to most (pos n) h = record { number = n; is = refl; bound = omega (arith, ints, h.at_most) }
up-to most (negsuc n) h = absurd (omega (arith, ints, h.at_least))
