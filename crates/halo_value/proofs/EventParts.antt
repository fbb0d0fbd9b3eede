-- The parts of an insurance at the start with all lives alive.
use Rattle.std.proofs.Common.{◌≡◌, ℕ, ◌-◌, ◌*◌, ◌<◌, ◌++◌, filter, List, [], ◌∷◌, length, map, Bool, true, false, ℤ, pos, ◌*ℤ◌, arith, ap, subst, refl, ◌∙◌}
use Rattle.std.specs.Prelude.{neg_ℤ}
use Rattle.std.proofs.lemmas.Int.{ints}
use Rattle.std.proofs.lemmas.List.{map-append}
use Rattle.std.proofs.lemmas.List.Elements.{filter-append}
use Rattle.halo_sums.specs.Masks.{has_bit}
use Rattle.halo_sums.specs.Sums.{indicator, int_sum_over, numbers_from}
use Rattle.halo_sums.proofs.IntSums.{int_sum_over-ext}
use Rattle.halo_num.specs.Ends.{Ends, IsWithin, fine}
use Rattle.halo_num.specs.declared.nano.Nano.{Nano}
use Rattle.halo_status.specs.Naming.{names_life, names_term}
use Rattle.halo_status.specs.Pay.{PlainPay, pay_of}
use Rattle.halo_status.specs.Tree.{Tree}
use Rattle.halo_contract.specs.Premium.{all_lives}
use Rattle.halo_life.specs.PlainGroup.{IsGroup}
use Rattle.halo_model.specs.Basis.{Basis, taken}
use Rattle.halo_model.specs.Chance.{paid_on_leaving}
use Rattle.halo_model.specs.Enclosed.{of_one}
use Rattle.halo_model.specs.EnclosureLaws.{IsShortPay}
use Rattle.halo_model.specs.Event.{ends}
use Rattle.halo_model.specs.Order.{rank_in}
use Rattle.halo_model.specs.Outcome.{Outcome, outcomes, weight}
use Rattle.halo_model.specs.Part.{paid_for_year}
use Rattle.halo_model.specs.Payment.{falls_on}
use Rattle.halo_model.specs.PayPart.{EnclosesPayPart, IsPartLine, on_life, on_term, part_numerator, parts_on_lives, parts_on_terms}
use Rattle.halo_model.proofs.Sizes.{one-bound}
use Rattle.halo_compile.specs.OfTask.{basis_of_task}
use Rattle.halo_compile.specs.ValidTask.{IsTask}
use Rattle.halo_compile.specs.declared.task.Task.{Task}
use Rattle.halo_compile.proofs.Tasks.{count-lives}
use Rattle.halo_along.specs.Parts.{EnclosesPartOfOne, worth_on_end, worth_on_leaving}
use Rattle.halo_insure.specs.Parts.{EnclosesEnd, EnclosesLeaving}
use Rattle.halo_lines.specs.Printable.{IsPrintable}
use Rattle.halo_lines.specs.declared.parts.Part.{Part}
use Rattle.halo_lines.specs.declared.parts.Part.TheVariants as part
use Rattle.halo_lines.specs.declared.parts.TheConstants.{MOST_PART}
use Rattle.halo_value.specs.Explained.{AddsParts, IsAtStart}
use Rattle.halo_value.proofs.AllLives.{in-all, same-denominator, same-outcomes}
use Rattle.halo_value.proofs.AmountOne.{measures-of-one}
use Rattle.halo_value.proofs.Explained.{adds-none, adds-one, dropped, kept}

-- what falls on an event of outcomes does not depend on how their lives are told
leaving-told : (b : Basis) (pay : PlainPay) (rank : ℕ → ℕ) (a : ℕ) (one other : List Outcome) → one ≡ other
    → int_sum_over (numbers_from 0 b.last_time) (λ k. pos (paid_for_year b pay 0 k)
    *ℤ int_sum_over one (λ o. pos (weight b.lives o) *ℤ indicator (paid_on_leaving pay rank 0 a k o)))
    ≡ int_sum_over (numbers_from 0 b.last_time) (λ k. pos (paid_for_year b pay 0 k)
    *ℤ int_sum_over other (λ o. pos (weight b.lives o) *ℤ indicator (paid_on_leaving pay rank 0 a k o)))
leaving-told b pay rank a one other same = ap (λ (outcomes : List Outcome).
    int_sum_over (numbers_from 0 b.last_time) (λ k. pos (paid_for_year b pay 0 k)
    *ℤ int_sum_over outcomes (λ o. pos (weight b.lives o) *ℤ indicator (paid_on_leaving pay rank 0 a k o)))) same

end-told : (b : Basis) (pay : PlainPay) (rank : ℕ → ℕ) (n : ℕ) (one other : List Outcome) → one ≡ other
    → pos (paid_for_year b pay 0 (n - 1))
    *ℤ int_sum_over one (λ o. pos (weight b.lives o) *ℤ indicator (falls_on pay rank 0 o (ends n)))
    ≡ pos (paid_for_year b pay 0 (n - 1))
    *ℤ int_sum_over other (λ o. pos (weight b.lives o) *ℤ indicator (falls_on pay rank 0 o (ends n)))
end-told b pay rank n one other same = ap (λ (outcomes : List Outcome). pos (paid_for_year b pay 0 (n - 1))
    *ℤ int_sum_over outcomes (λ o. pos (weight b.lives o) *ℤ indicator (falls_on pay rank 0 o (ends n)))) same

module _ {n m : ℕ} (task : Task n m) (is : IsTask task) (group : IsGroup n task.group.now) (at : IsAtStart task) where
  abbrev b : Basis
  b = basis_of_task task task.group.now.ties

  abbrev pay : PlainPay
  pay = pay_of task.pay.now

  -- all lives that there are are alive
  all-there : (i : ℕ) → i < length b.lives → has_bit task.group.now.alive i ≡ all_lives i
  all-there i below = rw at.alive
      (in-all i (omega (arith, below, count-lives task.group.now, group.count, group.few)))

  same-outcomes-told : outcomes 0 (has_bit task.group.now.alive) b.lives ≡ outcomes 0 all_lives b.lives
  same-outcomes-told = same-outcomes 0 (has_bit task.group.now.alive) all_lives b.lives all-there

  -- what falls on the leaving of a life, and on the end of the terms of so many years
  pub leaving-enclosed : (life : ℕ) (i : Ends)
      → EnclosesLeaving b (of_one pay) task.group.now.start (has_bit task.group.now.alive) life i
      → EnclosesPayPart b pay (on_life life) i
  leaving-enclosed life i given =
      let h = subst
      (λ (t : ℕ). EnclosesLeaving b (of_one pay) t (has_bit task.group.now.alive) life i) at.start given in
      let told : worth_on_leaving b (of_one pay) 0 (has_bit task.group.now.alive) life
      ≡ part_numerator b (of_one pay) (on_life life) =
      int_sum_over-ext (taken b) _ _ (λ order. leaving-told b (of_one pay) (rank_in order) life
      (outcomes 0 (has_bit task.group.now.alive) b.lives) (outcomes 0 all_lives b.lives) same-outcomes-told) in
      record {
        encloses = rw (told, same-denominator b 0 (has_bit task.group.now.alive) all_lives all-there) at h.encloses;
        narrow = rw (measures-of-one b pay) at h.narrow;
      }

  pub end-enclosed : (years : ℕ) (i : Ends)
      → EnclosesEnd b (of_one pay) task.group.now.start (has_bit task.group.now.alive) years i
      → EnclosesPayPart b pay (on_term years) i
  end-enclosed years i given =
      let h = subst
      (λ (t : ℕ). EnclosesEnd b (of_one pay) t (has_bit task.group.now.alive) years i) at.start given in
      let told : worth_on_end b (of_one pay) 0 (has_bit task.group.now.alive) years
      ≡ part_numerator b (of_one pay) (on_term years) =
      int_sum_over-ext (taken b) _ _ (λ order. end-told b (of_one pay) (rank_in order) years
      (outcomes 0 (has_bit task.group.now.alive) b.lives) (outcomes 0 all_lives b.lives) same-outcomes-told) in
      record {
        encloses = rw (told, same-denominator b 0 (has_bit task.group.now.alive) all_lives all-there) at h.encloses;
        narrow = rw (measures-of-one b pay) at h.narrow;
      }

  -- a part is small enough to be printed
  pub part-small : (T : ℕ) (S : ℕ → Bool) (worth : ℤ) (i : Ends) → EnclosesPartOfOne b (of_one pay) T S worth i
      → IsWithin i (neg_ℤ (pos (MOST_PART * fine))) (pos (MOST_PART * fine))
  part-small T S worth i given =
      let short : IsShortPay b (of_one pay) = record {
        years = rw is.horizon_is at is.horizon_in;
        vary = is.valid.vary;
      } in
      let most = one-bound b (of_one pay) short in
      record { low = omega (arith, ints, given.within.low); high = omega (arith, ints, given.within.high, most) }

-- the parts of some events and of some more
pub lives-then : (body : Tree) (first then : List ℕ)
    → parts_on_lives body (first ++ then) ≡ parts_on_lives body first ++ parts_on_lives body then
lives-then body first then =
    let test = λ (a : ℕ). names_life a body in
    ap (map on_life) (filter-append test first then) ∙ map-append on_life (filter test first) (filter test then)

pub terms-then : (body : Tree) (first then : List ℕ)
    → parts_on_terms body (first ++ then) ≡ parts_on_terms body first ++ parts_on_terms body then
terms-then body first then =
    let test = λ (k : ℕ). names_term k body in
    ap (map on_term) (filter-append test first then) ∙ map-append on_term (filter test first) (filter test then)

module _ (n : ℕ) (b : Basis) (pay : PlainPay) where
  -- a life that the body names has its part, and another one has none
  pub life-added : (life : ℕ) (worth : Nano) (before after : List Part) → names_life life pay.body ≡ true → life < n
      → IsPartLine b pay (on_life life) worth → IsPrintable worth → after ≡ before ++ part.OnLife life worth ∷ []
      → AddsParts n b pay (parts_on_lives pay.body (life ∷ [])) before after
  life-added life worth before after named below line printable pushed =
      rw (kept (λ a. names_life a pay.body) life named)
      (adds-one n b pay (on_life life) (part.OnLife life worth) before after pushed (refl, line)
      (record { lives = below; worth = printable }))

  pub no-life : (life : ℕ) (before : List Part) → names_life life pay.body ≡ false
      → AddsParts n b pay (parts_on_lives pay.body (life ∷ [])) before before
  no-life life before other =
      rw (dropped (λ a. names_life a pay.body) life other) (adds-none n b pay before)

  -- and so it is with the lengths of terms
  pub term-added : (years : ℕ) (worth : Nano) (before after : List Part) → names_term years pay.body ≡ true
      → IsPartLine b pay (on_term years) worth → IsPrintable worth → after ≡ before ++ part.OnTerm years worth ∷ []
      → AddsParts n b pay (parts_on_terms pay.body (years ∷ [])) before after
  term-added years worth before after named line printable pushed =
      rw (kept (λ k. names_term k pay.body) years named)
      (adds-one n b pay (on_term years) (part.OnTerm years worth) before after pushed (refl, line)
      (record { lives = tt; worth = printable }))

  pub no-term : (years : ℕ) (before : List Part) → names_term years pay.body ≡ false
      → AddsParts n b pay (parts_on_terms pay.body (years ∷ [])) before before
  no-term years before other =
      rw (dropped (λ k. names_term k pay.body) years other) (adds-none n b pay before)
