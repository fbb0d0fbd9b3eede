-- The part that a coefficient of one segment of a task's form adds.
use Rattle.std.proofs.Common.{◌≡◌, ◌≢◌, ℕ, suc, ◌+◌, ◌*◌, ◌-◌, ◌^◌, ◌<◌, ◌≤◌, List, length, Bool, true, false, ℤ, pos, neg_ℤ, ◌-ℤ◌, ◌*ℤ◌, arith, refl, sym, subst, ◌∙◌}
use Rattle.std.proofs.Math.Nat.{mul-le-mul_right}
use Rattle.std.proofs.lemmas.Int.{ints}
use Rattle.std.proofs.lemmas.Nat.{mul-le}
use Rattle.halo_sums.specs.Sums.{sum_over}
use Rattle.halo_sums.specs.Sets.{in_set}
use Rattle.halo_sums.specs.Masks.{bits}
use Rattle.halo_sums.proofs.Masks.{has_bit-bits}
use Rattle.halo_sums.proofs.Sums.{sum_over-ext, sum_over-scale_right}
use Rattle.halo_sums.proofs.SetMasks.{length-bits}
use Rattle.halo_num.specs.Ends.{Ends, HasWidth, IsSized, IsWithin, fine}
use Rattle.halo_num.specs.Enclosure.{Encloses}
use Rattle.halo_num.proofs.Enclosures.{encloses_at}
use Rattle.halo_interest.specs.Rates.{IsInterest, rate_of}
use Rattle.halo_interest.proofs.InForce.{in_force_is}
use Rattle.halo_status.specs.Naming.{names_life}
use Rattle.halo_status.specs.Pay.{pay_of}
use Rattle.halo_status.specs.declared.pay.Kind.TheVariants.{Insurance}
use Rattle.halo_table.specs.DecrementTable.{survivors_at}
use Rattle.halo_model.specs.Basis.{accumulated, taken}
use Rattle.halo_model.specs.Outcome.{joint_survivors}
use Rattle.halo_contract.specs.declared.ties.Ties.{Ties}
use Rattle.halo_model.specs.Coefficient.{form}
use Rattle.halo_model.specs.Counts.{measures_of, most_worth, width_count}
use Rattle.halo_model.specs.FromTables.{lives_of}
use Rattle.halo_model.specs.Horizon.{horizon, life_at}
use Rattle.halo_contract.specs.Premium.{all_lives}
use Rattle.halo_model.specs.Segment.{Run, last_time_of_form}
use Rattle.halo_model.specs.Value.{denominator}
use Rattle.halo_model.specs.Backward.{above_zero, backward, below_zero, outside, paid_at}
use Rattle.halo_model.specs.RunPart.{paid_to_set, run_part, times_of}
use Rattle.halo_model.proofs.Backward.{survivors-split}
use Rattle.halo_model.proofs.RunParts.{lies-in-all}
use Rattle.halo_model.proofs.Positive.{some-interest}
use Rattle.halo_model.proofs.Unnamed.{unnamed-do-not-count}
use Rattle.halo_life.proofs.Within.{bit-below}
use Rattle.halo_life.specs.PlainGroup.{IsGroup}
use Rattle.halo_poly.specs.Poly.{coefficient_at}
use Rattle.halo_compile.specs.Form.{IsInForm, run_of, segment_at}
use Rattle.halo_compile.proofs.Times.{coefficients-by-mask, segment-in-form, segment-is-right}
use Rattle.halo_compile.specs.NamedSets.{AreNamed}
use Rattle.halo_compile.specs.ValidTask.{IsTask}
use Rattle.halo_compile.specs.declared.form.Segment.{Segment}
use Rattle.halo_compile.specs.declared.task.Task.{Task}
use Rattle.halo_compile.specs.OfTask.{basis_of_task, pay_of_task}
use Rattle.halo_along.proofs.Counting.{no-mark, some-nodes}
use Rattle.halo_annuity.specs.Payments.{EnclosesPayments, paid_to_lives}
use Rattle.halo_annuity.specs.RunWorth.{EnclosesRun, paid_in}
use Rattle.halo_annuity.specs.declared.term.TheConstants.{MOST_PART}
use Rattle.halo_annuity.specs.Worth.{EnclosesSet}
use Rattle.halo_compile.proofs.Sums.{wider}
use Rattle.halo_annuity.proofs.Carried.{positive-both, positive-left}
use Rattle.halo_compile.proofs.Living.{row-survives}
use Rattle.halo_compile.proofs.Coefficients.{coefficient-sized, form-of-one}
use Rattle.halo_annuity.proofs.Payments.{all-few}
use Rattle.halo_annuity.proofs.RunWorths.{part-narrow, part-sized, payments-narrow, payments-sized, run-most, run-sums, run-within, signed-part, times-sized}
use Rattle.halo_annuity.proofs.Scaled.{times-of-part}
use Rattle.halo_compile.proofs.Tasks.{count-lives, some-survive}
use Rattle.halo_annuity.proofs.TaskFacts.{last-in, some-years}

whole-is : (orders all this others interest : ℕ)
    → all ≡ this * others → orders * (all * interest) ≡ this * interest * (orders * others)
whole-is orders all this others interest e = rw e (omega arith)

pub zero-encloses : (i : Ends) (d : ℕ) → i.lo ≡ pos 0 → i.hi ≡ pos 0 → Encloses i (pos 0) d
zero-encloses i d lo hi = record { low = rw lo (omega (arith, ints)); high = rw hi (omega (arith, ints)) }

module _ {n m : ℕ} (task : Task n m) (is : IsTask task)
    (group : IsGroup n task.group.now) (place mask : ℕ) (there : place < length task.form.now) (inside : mask < m) where
  abbrev pub run : Run
  run = run_of (segment_at task.form.now place)

  abbrev pub coefficient : ℤ
  coefficient = coefficient_at (segment_at task.form.now place).poly mask

  abbrev pub times : ℕ
  times = above_zero coefficient + below_zero coefficient

  pub in-form : IsInForm (pay_of task.pay.now) task.horizon run
  in-form = segment-in-form (pay_of task.pay.now) n task.horizon place task.form.now is.form there

  below-all : mask < 2 ^ n
  below-all = subst (λ (k : ℕ). mask < k) is.sets inside

  -- the coefficient is that of the form at the first time of the segment
  pub coefficient-of : coefficient ≡ form (pay_of task.pay.now) run.first (bits n mask)
  coefficient-of = coefficients-by-mask (pay_of task.pay.now) n run.first (segment_at task.form.now place).poly
      (segment-is-right (pay_of task.pay.now) n task.horizon run.first place task.form.now is.form
      (record { within = there; from = omega arith; to = in-form.some })) mask below-all

  coefficient-is : coefficient ≡ form (pay_of_task task) run.first (bits n mask)
  coefficient-is = coefficient-of ∙ form-of-one (pay_of task.pay.now) run.first (bits n mask)

  pub coefficient-small : IsSized coefficient (2 ^ 11)
  coefficient-small = rw coefficient-of
      (coefficient-sized (pay_of task.pay.now) run.first (bits n mask) (omega (arith, group.few, length-bits n mask)))

  pub times-small : times ≤ 2 ^ 11
  times-small = times-sized coefficient (2 ^ 11) coefficient-small

  to-small : run.last ≤ task.horizon
  to-small = omega (arith, in-form.to, last-in task.pay.now.kind task.horizon)

  pub held-in-form : (segment : Segment m) → segment ≡ segment_at task.form.now place
      → IsInForm (pay_of task.pay.now) task.horizon (record { first = segment.from; last = segment.to })
  held-in-form segment e = subst (λ (s : Segment m). IsInForm
      (pay_of task.pay.now) task.horizon (record { first = s.from; last = s.to })) (sym e) in-form

  pub held-times : (above below : ℕ)
      → above ≡ above_zero coefficient → below ≡ below_zero coefficient → above + below ≤ 2 ^ 11
  held-times above below f g = omega (arith, f, g, times-small)

  pub held-run : (segment : Segment m) (above below : ℕ) (worth : Ends)
      → segment ≡ segment_at task.form.now place → above ≡ above_zero coefficient → below ≡ below_zero coefficient
      → EnclosesRun task (record { first = segment.from; last = segment.to })
      (above + below) mask 0 (suc segment.to) worth → EnclosesRun task run times mask 0 (suc run.last) worth
  held-run segment above below worth e f g holds =
      let sum : above + below ≡ times = omega (arith, f, g) in
      subst (λ (k : ℕ). EnclosesRun task run k mask 0 (suc run.last) worth) sum
      (subst (λ (s : Segment m). EnclosesRun task
      (record { first = s.from; last = s.to }) (above + below) mask 0 (suc s.to) worth) e holds)

  -- a set with a coefficient, as it was read, is one of lives that the body names
  pub named-if-some : task.pay.now.kind ≢ Insurance → (z : ℤ) → z ≡ coefficient
      → (z ≡ pos 0 → ⊥) → AreNamed (pay_of task.pay.now).body mask
  named-if-some annual z told some i there = by-name (names_life i (pay_of task.pay.now).body) refl
    where
      in_it : in_set (bits n mask) i ≡ true
      in_it = sym (has_bit-bits n mask i (bit-below n mask i below-all there)) ∙ there

      by-name : (named : Bool) → names_life i (pay_of task.pay.now).body ≡ named
          → names_life i (pay_of task.pay.now).body ≡ true
      by-name true e = e
      by-name false e = absurd (some (told ∙ coefficient-of ∙ unnamed-do-not-count (pay_of task.pay.now)
          (no-mark (pay_of task.pay.now) is.valid annual) i e run.first (bits n mask) in_it))

  pub to-horizon : (n + 2) * run.last ≤ (n + 2) * task.horizon
  to-horizon = let h = mul-le-mul_right (n + 2) to-small in omega (arith, h)

  module _ (ties : Ties) where
    -- with all lives alive at the start
    all-survive : 0 < joint_survivors 0 all_lives (basis_of_task task ties).lives
    all-survive = some-survive task.group.now.file 0 all_lives task.group.now.lives (λ i below alive.
        let row = row-survives task.group.now.file group.sound (life_at task.group.now.lives i).table
        (life_at task.group.now.lives i).age (group.rows i (omega (arith, below, group.count))) in
        let e : (life_at task.group.now.lives i).age + 0 ≡ (life_at task.group.now.lives i).age = omega arith in
        subst
        (λ (age : ℕ). 0 < survivors_at task.group.now.file (life_at task.group.now.lives i).table age) (sym e) row)

    split : joint_survivors 0 all_lives (basis_of_task task ties).lives
        ≡ joint_survivors 0 (in_set (bits n mask)) (basis_of_task task ties).lives
        * joint_survivors 0 (outside all_lives (bits n mask)) (basis_of_task task ties).lives
    split = survivors-split 0 all_lives (basis_of_task task ties).lives (bits n mask) (length-bits n mask
        ∙ sym (count-lives task.group.now ∙ group.count)) (lies-in-all (bits n mask) all_lives (λ i. refl))

    -- so there are parts to tell what the set is paid
    some-parts : IsInterest task.interest.now
        → 0 < joint_survivors 0 (in_set (bits n mask)) (basis_of_task task ties).lives
        * accumulated (basis_of_task task ties) 0
    some-parts interest = positive-both _ _ (positive-left _ _ (subst (λ (k : ℕ). 0 < k) split all-survive))
        (some-interest (λ k. (rate_of task.interest.now k).p) (λ k. (rate_of task.interest.now k).q) 200 0
        (λ k from below. omega (arith, (in_force_is task.interest.now interest k).q_from)))

    pub part-encloses : IsInterest task.interest.now → (worth result : Ends) → EnclosesSet
        (basis_of_task task ties) n (paid_in (pay_of_task task) run times) (bits n mask) 0 (suc run.last) worth
        → (below_zero coefficient ≡ 0 → (num : ℤ) (den : ℕ) → Encloses worth num den → Encloses result num den)
        → (0 < below_zero coefficient
        → (num : ℤ) (den : ℕ) → Encloses worth num den → Encloses result (pos 0 -ℤ num) den)
        → Encloses result (run_part (basis_of_task task ties) (pay_of_task task) run (bits n mask))
        (denominator (basis_of_task task ties) 0 all_lives)
    unfolding run_part denominator
    part-encloses interest worth result holds positive negative =
        let b = basis_of_task task ties in
        let s : List Bool = bits n mask in
        let num : ℕ = backward b s (paid_in (pay_of_task task) run times) 0 (suc run.last) in
        let parts : ℕ = sum_over (times_of run) (paid_to_set b (pay_of_task task) s) in
        let others : ℕ = joint_survivors 0 (outside all_lives s) b.lives in
        let this : ℕ = joint_survivors 0 (in_set s) b.lives in
        let orders : ℕ = length (taken b) in
        let one = holds.encloses (some-parts interest) in
        let whole : orders * (joint_survivors 0 all_lives b.lives * accumulated b 0)
        ≡ this * accumulated b 0 * (orders * others) =
        whole-is orders (joint_survivors 0 all_lives b.lives) this others (accumulated b 0) split in
        subst (λ z. Encloses result (pos orders *ℤ (z *ℤ pos parts))
        (orders * (joint_survivors 0 all_lives b.lives * accumulated b 0))) coefficient-is
        (signed-part coefficient num parts others orders
        (this * accumulated b 0) (orders * (joint_survivors 0 all_lives b.lives * accumulated b 0)) result
        (run-sums b (pay_of_task task) run times s in-form.some) whole
        (λ e. positive e (pos num) (this * accumulated b 0) one)
        (λ e. negative e (pos num) (this * accumulated b 0) one))

    in-years : IsInForm (pay_of_task task) (horizon (basis_of_task task ties).lives (pay_of_task task).body) run
    in-years = let h = in-form in record {
      from = h.from;
      some = h.some;
      to = subst (λ (years : ℕ). run.last ≤ last_time_of_form task.pay.now.kind years) is.horizon_is h.to;
    }

    -- the coefficient times what the set is paid at the times of the segment
    pub payments-enclose : IsInterest task.interest.now → (worth result : Ends) → EnclosesPayments
        (basis_of_task task ties) n (pay_of_task task) (times_of run) run.last (bits n mask) worth
        → ((num : ℤ) (den : ℕ) → Encloses worth num den → Encloses result (num *ℤ coefficient) den)
        → Encloses result (run_part (basis_of_task task ties) (pay_of_task task) run (bits n mask))
        (denominator (basis_of_task task ties) 0 all_lives)
    unfolding run_part denominator
    payments-enclose interest worth result holds scaled =
        let b = basis_of_task task ties in
        let s : List Bool = bits n mask in
        let paid : ℕ = paid_to_lives b (pay_of_task task) s (times_of run) in
        let parts : ℕ = sum_over (times_of run) (paid_to_set b (pay_of_task task) s) in
        let others : ℕ = joint_survivors 0 (outside all_lives s) b.lives in
        let this : ℕ = joint_survivors 0 (in_set s) b.lives in
        let orders : ℕ = length (taken b) in
        let each : paid * others ≡ parts = sym (sum_over-scale_right (times_of run) others _)
        ∙ sum_over-ext (times_of run) _ _ (λ t. omega arith) in
        let whole : orders * (joint_survivors 0 all_lives b.lives * accumulated b 0)
        ≡ this * accumulated b 0 * (orders * others) =
        whole-is orders (joint_survivors 0 all_lives b.lives) this others (accumulated b 0) split in
        subst (λ z. Encloses result (pos orders *ℤ (z *ℤ pos parts))
        (orders * (joint_survivors 0 all_lives b.lives * accumulated b 0))) coefficient-is
        (encloses_at result (pos paid *ℤ coefficient) _ (this * accumulated b 0) _ (orders * others)
        (scaled (pos paid) (this * accumulated b 0) (holds.encloses (some-parts interest)))
        (times-of-part orders paid others parts coefficient each) whole)

    -- a coefficient of 0 adds nothing
    pub nothing-encloses : coefficient ≡ pos 0 → (i : Ends) → i.lo ≡ pos 0 → i.hi ≡ pos 0
        → Encloses i (run_part (basis_of_task task ties) (pay_of_task task) run (bits n mask))
        (denominator (basis_of_task task ties) 0 all_lives)
    unfolding run_part
    nothing-encloses none i lo hi =
        let zero : form (pay_of_task task) run.first (bits n mask) ≡ pos 0 = sym coefficient-is ∙ none in
        let all : (orders parts : ℕ) → pos orders *ℤ (pos 0 *ℤ pos parts) ≡ pos 0 =
        λ orders parts. omega (arith, ints) in
        rw (zero, all) (zero-encloses i _ lo hi)

    payments-few : sum_over (times_of run) (paid_at (pay_of_task task) 0) ≤ 201 * 201
    payments-few = all-few (pay_of_task task) refl is.valid.vary run.first (suc run.last - run.first)
        (omega (arith, to-small, is.horizon_in, in-form.some))

    pub payments-small : (worth : Ends) → EnclosesPayments
        (basis_of_task task ties) n (pay_of_task task) (times_of run) run.last (bits n mask) worth
        → IsWithin worth (pos 0) (pos (201 * 201 * fine))
    payments-small worth holds =
        let few = mul-le-mul_right fine payments-few in
        record { low = holds.within.low; high = omega (arith, ints, holds.within.high, few) }

    pub payments-count : task.pay.now.kind ≢ Insurance
        → sum_over (times_of run) (paid_at (pay_of_task task) 0) * (3 * run.last + 2 * n) * times
        ≤ width_count (measures_of (basis_of_task task ties) (pay_of_task task))
    payments-count annual =
        payments-narrow (basis_of_task task ties) (pay_of_task task) annual refl (some-nodes (pay_of task.pay.now).body)
        (some-years (lives_of task.group.now.file task.group.now.lives) (pay_of task.pay.now).body)
        n mask (count-lives task.group.now ∙ group.count) below-all run in-years coefficient coefficient-is group.few

    pub payments-most : task.pay.now.kind ≢ Insurance
        → sum_over (times_of run) (paid_at (pay_of_task task) 0) * fine * times
        ≤ (measures_of (basis_of_task task ties) (pay_of_task task)).weight
        * most_worth task.pay.now.kind (measures_of (basis_of_task task ties) (pay_of_task task)) * fine
    payments-most annual =
        let most =
        payments-sized (basis_of_task task ties) (pay_of_task task) annual refl (some-nodes (pay_of task.pay.now).body)
        (some-years (lives_of task.group.now.file task.group.now.lives) (pay_of task.pay.now).body)
        n mask (count-lives task.group.now ∙ group.count) below-all run in-years coefficient coefficient-is in
        let ones = mul-le-mul_right fine most in
        omega (arith, ones)

    pub payments-within : sum_over (times_of run) (paid_at (pay_of_task task) 0) * fine * times ≤ MOST_PART * fine
    payments-within =
        let all = mul-le _ _ _ _ payments-few times-small in
        let ones = mul-le-mul_right fine all in
        omega (arith, ones)

    pub term-narrow : task.pay.now.kind ≢ Insurance → (worth : Ends) → EnclosesSet
        (basis_of_task task ties) n (paid_in (pay_of_task task) run times) (bits n mask) 0 (suc run.last) worth
        → HasWidth worth (width_count (measures_of (basis_of_task task ties) (pay_of_task task)))
    term-narrow annual worth holds = wider worth _ _
        (part-narrow (basis_of_task task ties) (pay_of_task task) annual refl (some-nodes (pay_of task.pay.now).body)
        (some-years (lives_of task.group.now.file task.group.now.lives) (pay_of task.pay.now).body)
        n mask (count-lives task.group.now ∙ group.count) below-all run in-years coefficient coefficient-is group.few)
        holds.narrow

    pub term-within : task.pay.now.kind ≢ Insurance → (worth : Ends) → EnclosesSet
        (basis_of_task task ties) n (paid_in (pay_of_task task) run times) (bits n mask) 0 (suc run.last) worth
        → IsWithin worth (pos 0) (pos ((measures_of (basis_of_task task ties) (pay_of_task task)).weight
        * most_worth task.pay.now.kind (measures_of (basis_of_task task ties) (pay_of_task task)) * fine))
    term-within annual worth holds =
        let most =
        part-sized (basis_of_task task ties) (pay_of_task task) annual refl (some-nodes (pay_of task.pay.now).body)
        (some-years (lives_of task.group.now.file task.group.now.lives) (pay_of task.pay.now).body)
        n mask (count-lives task.group.now ∙ group.count) below-all run in-years coefficient coefficient-is in
        let ones = mul-le-mul_right fine most in
        record { low = holds.within.low; high = omega (arith, ints, holds.within.high, ones) }

    pub term-most : (worth : Ends) → EnclosesSet (basis_of_task task ties) n (paid_in (pay_of_task task) run times)
        (bits n mask) 0 (suc run.last) worth → IsWithin worth (pos 0) (pos (MOST_PART * fine))
    term-most worth holds = run-most (pay_of_task task) run times (basis_of_task task ties) n 0
        (suc run.last) (bits n mask) worth refl is.valid.vary times-small (omega (arith, to-small, is.horizon_in)) holds

    pub term-small : (worth : Ends) → EnclosesSet (basis_of_task task ties) n (paid_in (pay_of_task task) run times)
        (bits n mask) 0 (suc run.last) worth → IsWithin worth (pos 0) (pos (10 ^ 32))
    term-small worth holds = run-within (pay_of_task task) run times (basis_of_task task ties) n 0
        (suc run.last) (bits n mask) worth refl is.valid.vary times-small (omega (arith, to-small, is.horizon_in)) holds

-- what is from 0 to a bound is at most the bound in size, and so is what it takes off 0
pub both-ways : (i : Ends) (most : ℕ) → IsWithin i (pos 0) (pos most) → IsWithin i (neg_ℤ (pos most)) (pos most)
both-ways i most h = record { low = omega (arith, ints, h.low); high = h.high }

pub turned : (i r : Ends) (most : ℕ) → IsWithin i (pos 0) (pos most)
    → {a b : ℤ} → r.lo ≡ a -ℤ i.hi → r.hi ≡ b -ℤ i.lo → a ≡ pos 0 → b ≡ pos 0 → IsWithin r (neg_ℤ (pos most)) (pos most)
turned i r most h lo hi none nothing =
    record { low = omega (arith, ints, lo, none, h.high); high = omega (arith, ints, hi, nothing, h.low) }
