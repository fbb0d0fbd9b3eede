-- What is due on the end of a term alone: of all years only the last one of the term pays.
use Rattle.std.proofs.Common.{◌≡◌, ◌≢◌, ℕ, zero, suc, ◌+◌, ◌*◌, ◌-◌, ◌^◌, ◌<◌, ◌≤◌, arith, refl, ap, sym, ◌∙◌, List, length, Bool, true, false, cond, ◌&&◌, nat_eq, nat_le, ℤ, pos, mul-le-mul_right, ⊎_elim}
use Rattle.std.proofs.lemmas.Bool.{cases_lt}
use Rattle.std.proofs.lemmas.Bool.Decides.{nat_tests}
use Rattle.std.proofs.lemmas.Int.{ints}
use Rattle.std.proofs.lemmas.Nat.{mul-le}
use Rattle.halo_sums.specs.Masks.{bits}
use Rattle.halo_sums.specs.Sets.{in_set, size_of}
use Rattle.halo_sums.specs.Sums.{numbers_from, product_over}
use Rattle.halo_sums.proofs.Integers.{pos_injective}
use Rattle.halo_sums.proofs.IntSums.{int_sum_over-none}
use Rattle.halo_sums.proofs.SetMasks.{length-bits}
use Rattle.halo_sums.proofs.Sums.{sum_over-ext, sum_over-none}
use Rattle.halo_sums.specs.Within.{is_within}
use Rattle.halo_num.specs.Ends.{Ends, fine}
use Rattle.halo_num.proofs.Enclosures.{encloses_at}
use Rattle.halo_status.specs.Pay.{PlainPay}
use Rattle.halo_model.specs.Backward.{above_zero, below_zero}
use Rattle.halo_model.specs.Basis.{Basis, accumulated, taken}
use Rattle.halo_model.specs.Chance.{asked}
use Rattle.halo_model.specs.EvenTies.{first_leaving, lives_in}
use Rattle.halo_model.specs.Horizon.{horizon}
use Rattle.halo_model.specs.Order.{rank_in}
use Rattle.halo_model.specs.Outcome.{joint_survivors}
use Rattle.halo_model.specs.SetValue.{end_of_term}
use Rattle.halo_model.proofs.Discounts.{accumulated-from}
use Rattle.halo_model.proofs.LeavingsOfASet.{leavings-of-a-set}
use Rattle.halo_poly.specs.Poly.{coefficient_at}
use Rattle.halo_life.specs.Lists.{Lists, entry, nothing}
use Rattle.halo_life.specs.PlainGroup.{IsGroup}
use Rattle.halo_compile.proofs.Sums.{wider}
use Rattle.halo_compile.specs.NamedSets.{AreNamed}
use Rattle.halo_compile.specs.OfTask.{pay_of_task}
use Rattle.halo_compile.specs.ValidTask.{IsTask}
use Rattle.halo_compile.specs.declared.task.Task.{Task}
use Rattle.halo_insure.specs.declared.due.Due.{Due}
use Rattle.halo_insure.specs.declared.sets.Year.{Year}
use Rattle.halo_insure.specs.Dues.{due_of, ends_count}
use Rattle.halo_endowment.specs.Endowment.{EnclosesEndowment}
use Rattle.halo_insure.specs.Ending.{ArePayments, HoldEndowments, IsPaidAtEnd}
use Rattle.halo_insure.specs.Leavings.{counted_numbers, counts, set_leavings, set_survivors}
use Rattle.halo_insure.specs.OfTask.{HoldDuesOn, insured_basis}
use Rattle.halo_insure.specs.OneSet.{most_due, worth_of_dues}
use Rattle.halo_insure.specs.Total.{EnclosesSet}
use Rattle.halo_insure.specs.YearOfTask.{IsYearOf}
use Rattle.halo_insure.specs.YearSets.{next_coefficient}
use Rattle.halo_insure.proofs.DueOfSet.{due-of-form}
use Rattle.halo_insure.proofs.OneSet.{worthless}
use Rattle.halo_insure.proofs.Tasks.{lives-of-task}

-- where nobody leaves, what is due on the ends of terms alone is worth something
module _ (b : Basis) (leaving alive : ℕ → ℕ) (due : ℕ → Due) (stay : (j : ℕ) → leaving j ≡ 0) where
  -- nothing, where no year pays
  pub no-end : (years T : ℕ) → ((j : ℕ) → T ≤ j → j < T + years → (due j).at_end ≡ 0)
      → worth_of_dues b leaving alive due T years ≡ 0
  no-end zero T none = refl
  no-end (suc years) T none =
      let later = no-end years (suc T) (λ j from below. none j (omega (arith, from)) (omega (arith, below))) in
      rw (stay T, none T (omega arith) (omega arith), later) (omega arith)

  -- and where one year alone pays, its payment with the discount factors up to its end
  pub one-end : (gap years T k : ℕ) → k ≡ T + gap → k < T + years → ((j : ℕ) → j ≢ k → (due j).at_end ≡ 0)
      → worth_of_dues b leaving alive due T years
      ≡ product_over (numbers_from T (suc gap)) b.q * ((due k).at_end * alive (suc k)) * accumulated b (suc k)
  one-end gap zero T k here before none = absurd (omega (arith, here, before))
  one-end zero (suc years) T k here before none =
      let now : k ≡ T = omega (arith, here) in
      let later = no-end years (suc T) (λ j from below. none j (omega (arith, from, now))) in
      rw (now, stay T, later) (omega arith)
  one-end (suc gap) (suc years) T k here before none =
      let later = one-end gap years (suc T) k (omega (arith, here)) (omega (arith, before)) none in
      rw (stay T, none T (omega (arith, here)), later) (omega arith)

-- what is due in one of some years is not more than in all of them
due-in-one : (due : ℕ → Due) (years T k : ℕ) → T ≤ k → k < T + years → (due k).at_end ≤ most_due due T years
due-in-one due zero T k from before = absurd (omega (arith, from, before))
due-in-one due (suc years) T k from before = ⊎_elim
    (λ (later : T < k). omega (arith, due-in-one due years (suc T) k (omega (arith, later)) (omega (arith, before))))
    (λ (now : k ≤ T). let here : k ≡ T = omega (arith, now, from) in rw here (omega arith))
    (cases_lt T k)

-- what falls on the end of the terms of k + 1 years is due in year k alone
module _ (part : ℤ → ℕ) (b : Basis) (pay : PlainPay) (n : ℕ) (s : List Bool) where
  abbrev H : ℕ
  H = horizon b.lives pay.body

  abbrev due : ℕ → Due
  due = due_of part pay (end_of_term n) H s

  other-year : (j : ℕ) → suc j ≢ n → (due j).at_end ≡ 0
  other-year j other =
      let no : nat_eq (suc j) n ≡ false = grind (arith, nat_tests, other) in
      rw no (none (nat_le pay.defer j) _)
    where
      none : (deferred : Bool) (paid : ℕ) → cond (deferred && false) paid 0 ≡ 0
      none true paid = refl
      none false paid = refl

  -- and nobody leaves by an event that counts
  nobody-counts : length s ≡ length b.lives → (k : ℕ) → set_leavings b pay (end_of_term n) s k ≡ 0
  nobody-counts len k = sum_over-ext (taken b) _ _ (λ order. in-order (rank_in order)) ∙ sum_over-none (taken b)
    where
      in-order : (rank : ℕ → ℕ) → first_leaving (counted_numbers b pay (end_of_term n) k) rank
          (lives_in (length b.lives) (in_set s)) ≡ 0
      in-order rank = pos_injective _ _
          (sym (leavings-of-a-set b.lives k (counts pay (end_of_term n)) (asked pay.causes) rank s len)
          ∙ int_sum_over-none (numbers_from 0 (length b.lives)))

  -- so nothing is due where that year does not come any more, or not before the horizon
  pub end-not-due : length s ≡ length b.lives → (T : ℕ) → (T < n → H < n) → (i : Ends)
      → i.lo ≡ pos 0 → i.hi ≡ pos 0 → EnclosesSet part b pay (end_of_term n) s T i
  end-not-due len T past i low high =
      worthless b (set_leavings b pay (end_of_term n) s) (set_survivors b s) due (4 * size_of s) T (H - T) i
      (no-end b (set_leavings b pay (end_of_term n) s) (set_survivors b s) due (nobody-counts len) (H - T) T
      (λ j from below. other-year j (λ here.
      omega (arith, here, from, below, past (omega (arith, here, from)))))) low high

-- of a set of a mask, by its pure endowment
module _ (part : ℤ → ℕ) (b : Basis) (pay : PlainPay) (mask T k : ℕ) (from : T ≤ k)
    (before : k < horizon b.lives pay.body) (in_time : horizon b.lives pay.body ≤ b.last_time) where
  abbrev set : List Bool
  set = bits (length b.lives) mask

  abbrev years : ℕ
  years = horizon b.lives pay.body - T

  abbrev due_on_end : ℕ → Due
  due_on_end = due_of part pay (end_of_term (suc k)) (horizon b.lives pay.body) set

  abbrev gap : ℕ
  gap = suc k - T

  last : k < T + years
  last = omega (arith, from, before)

  most : (due_on_end k).at_end ≤ most_due due_on_end T years
  most = due-in-one due_on_end years T k from last

  wide : 3 * gap + 2 * size_of set ≤ years * (4 * size_of set + 3)
  wide =
      let some : suc (k - T) ≤ years = omega (arith, from, before) in
      let all : suc (k - T) * (4 * size_of set + 3) ≤ years * (4 * size_of set + 3) =
      mul-le-mul_right (4 * size_of set + 3) some in
      omega (arith, from, all)

  worth : worth_of_dues b (set_leavings b pay (end_of_term (suc k)) set) (set_survivors b set) due_on_end T years
      ≡ product_over (numbers_from T gap) b.q * ((due_on_end k).at_end * set_survivors b set (suc k))
      * accumulated b (suc k)
  worth =
      let g : gap ≡ suc (k - T) = omega (arith, from) in
      rw g (one-end b (set_leavings b pay (end_of_term (suc k)) set) (set_survivors b set) due_on_end
      (nobody-counts part b pay (suc k) set (length-bits (length b.lives) mask)) (k - T) years T k
      (omega (arith, from)) last
      (λ j other. other-year part b pay (suc k) set j (λ same. other (omega (arith, same)))))

  pub end-due : (endowment i : Ends) → EnclosesEndowment b (length b.lives) T (suc k) mask endowment
      → ArePayments (due_on_end k).at_end endowment i → EnclosesSet part b pay (end_of_term (suc k)) set T i
  end-due endowment i of_set paid = record {
    encloses = encloses_at i _ _ _ _ (length (taken b) * accumulated b (suc k))
        (paid.encloses _ _ of_set.encloses) (ap pos (worth ∙ omega arith)) whole;
    from = paid.from;
    bound = omega (arith, ints, paid.bound, mul-le-mul_right fine most);
    narrow = wider i _ _ narrow_enough (paid.narrow _ of_set.narrow);
  }
    where
      whole : set_survivors b set T * accumulated b T
          ≡ product_over (numbers_from T gap) (λ j. b.p j + b.q j) * joint_survivors T (in_set set) b.lives
          * (length (taken b) * accumulated b (suc k))
      whole = rw (accumulated-from b T (suc k) (omega (arith, from)) (omega (arith, before, in_time))) (omega arith)

      narrow_enough : (due_on_end k).at_end * (3 * gap + 2 * size_of set)
          ≤ years * ((4 * size_of set + 3) * most_due due_on_end T years)
      narrow_enough = let all = mul-le _ _ _ _ most wide in omega (arith, all)

-- for all sets of the named lives of a task
module _ {n m : ℕ} (task : Task n m) (is : IsTask task) (group : IsGroup n task.group.now) where
  abbrev basis : Basis
  basis = insured_basis task

  abbrev pay_of_one : PlainPay
  pay_of_one = pay_of_task task

  -- nothing is due where the end does not come any more, or not before the horizon
  pub no-dues : (t : ℕ) → (task.group.now.start < t → task.horizon < t) → (lists : Lists)
      → ((mask : ℕ) → AreNamed pay_of_one.body mask
      → (entry lists.plus mask ≡ nothing) × (entry lists.minus mask ≡ nothing))
      → HoldDuesOn task (end_of_term t) task.group.now.start lists
  no-dues t past lists empty mask below named =
      let len : length (bits n mask) ≡ length basis.lives = length-bits n mask ∙ sym (lives-of-task task group) in
      let gone : task.group.now.start < t → horizon basis.lives pay_of_one.body < t = rw (← is.horizon_is) past in
      let none = empty mask named in (
        end-not-due above_zero basis pay_of_one t (bits n mask) len task.group.now.start gone
            (entry lists.plus mask) (rw none.0 refl) (rw none.0 refl),
        end-not-due below_zero basis pay_of_one t (bits n mask) len task.group.now.start gone
            (entry lists.minus mask) (rw none.1 refl) (rw none.1 refl),
      )

  module _ (k : ℕ) (from : task.group.now.start ≤ k) (before : k < task.horizon) (year : Year m) (ends : Bool)
      (of_year : IsYearOf task k ends year) (counted : ends ≡ ends_count pay_of_one (end_of_term (suc k)) (suc k)) where
    -- of each set its payments, by its pure endowment
    set-held : (part : ℤ → ℕ) (mask : ℕ) → mask < 2 ^ n → (endowment i : Ends)
        → EnclosesEndowment basis n task.group.now.start (suc k) mask endowment
        → IsPaidAtEnd part year mask endowment i
        → EnclosesSet part basis pay_of_one (end_of_term (suc k)) (bits n mask) task.group.now.start i
    set-held part mask below endowment i of_set paid =
        let count = lives-of-task task group in
        let due = due-of-form part pay_of_one refl (end_of_term (suc k)) (horizon basis.lives pay_of_one.body)
        (bits n mask) k year.pays.payment year.pays.ends (coefficient_at year.here.now mask)
        (next_coefficient year mask)
        of_year.payment (of_year.counts ∙ counted) (of_year.here mask below)
        (rw (← is.horizon_is) (of_year.next mask below)) in
        rw count at (end-due part basis pay_of_one mask task.group.now.start k from (rw (← is.horizon_is) before)
        (rw (← is.horizon_is) is.horizon_in) endowment i (rw count of_set) (rw (count, ← ap (λ d. d.at_end) due) paid))

    pub dues-held : (t : ℕ) → t ≡ suc k → (named : ℕ) → ((mask : ℕ) → AreNamed pay_of_one.body mask
        → is_within mask named ≡ true) → (endowed paid : Lists) → HoldEndowments task t endowed
        → ((mask : ℕ) → is_within mask named ≡ true
        → IsPaidAtEnd above_zero year mask (entry endowed.plus mask) (entry paid.plus mask))
        → ((mask : ℕ) → is_within mask named ≡ true
        → IsPaidAtEnd below_zero year mask (entry endowed.plus mask) (entry paid.minus mask))
        → HoldDuesOn task (end_of_term t) task.group.now.start paid
    dues-held t next named inside endowed paid endowments plus minus =
        rw next (λ mask below of_named.
        let of_set = (rw next at endowments) mask below of_named in
        let within = inside mask of_named in (
          set-held above_zero mask below _ _ of_set (plus mask within),
          set-held below_zero mask below _ _ of_set (minus mask within),
        ))
