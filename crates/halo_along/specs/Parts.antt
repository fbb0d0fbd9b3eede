-- Parts of what an insurance of 1 is worth in the declared order: what falls on the leaving of one
-- life, and what falls on the end of the terms of one length.
use Rattle.std.specs.Prelude.{ℕ, ◌*◌, Bool, ℤ, pos}
use Rattle.halo_sums.specs.Masks.{has_bit}
use Rattle.halo_sums.specs.Sums.{int_sum_over}
use Rattle.halo_num.specs.Ends.{Ends, HasWidth, IsWithin, fine}
use Rattle.halo_num.specs.Enclosure.{Encloses}
use Rattle.halo_status.specs.Pay.{PlainPay, pay_of}
use Rattle.halo_contract.specs.declared.ties.Ties.TheVariants.{Declared}
use Rattle.halo_model.specs.Basis.{Basis, taken}
use Rattle.halo_model.specs.Counts.{measures_of, most_worth, width_count}
use Rattle.halo_model.specs.Enclosed.{of_one}
use Rattle.halo_model.specs.Order.{rank_in}
use Rattle.halo_model.specs.Part.{end_part, leaving_part}
use Rattle.halo_model.specs.Value.{denominator}
use Rattle.halo_along.specs.Along.{basis_of_tree_task}
use Rattle.halo_along.specs.declared.tree_task.TreeTask.{TreeTask}

-- what falls on the leaving of a life, added up over the orders taken
abbrev pub worth_on_leaving : Basis → PlainPay → ℕ → (ℕ → Bool) → ℕ → ℤ
worth_on_leaving b pay T S life =
    int_sum_over (taken b) (λ order. leaving_part b pay (rank_in order) T S life)

-- what falls on the end of a term of so many years
abbrev pub worth_on_end : Basis → PlainPay → ℕ → (ℕ → Bool) → ℕ → ℤ
worth_on_end b pay T S years =
    int_sum_over (taken b) (λ order. end_part b pay (rank_in order) T S years)

-- i encloses a part of what an insurance of 1 is worth at T with the lives of S alive: no wider
-- than its count, and from 0 to the most that it can be worth
pub record EnclosesPartOfOne
    (b : Basis) (pay : PlainPay) (T : ℕ) (S : ℕ → Bool) (part : ℤ) (i : Ends) : Type 0 where
  pub encloses : Encloses i part (denominator b T S)
  pub narrow : HasWidth i (width_count (measures_of b pay))
  pub within : IsWithin i (pos 0) (pos (most_worth pay.kind (measures_of b pay) * fine))

-- i encloses what falls on the leaving of a life, at the time of the group ..
abbrev pub EnclosesWorthOnLife : {n : ℕ} → TreeTask n → ℕ → Ends → Type 0
EnclosesWorthOnLife along life i =
    let b = basis_of_tree_task along Declared in
    let pay : PlainPay = of_one (pay_of along.pay.now) in
    let start : ℕ = along.group.now.start in
    let living : ℕ → Bool = has_bit along.group.now.alive in
    EnclosesPartOfOne b pay start living (worth_on_leaving b pay start living life) i

-- .. and what falls on the end of a term of so many years
abbrev pub EnclosesWorthOnTerm : {n : ℕ} → TreeTask n → ℕ → Ends → Type 0
EnclosesWorthOnTerm along years i =
    let b = basis_of_tree_task along Declared in
    let pay : PlainPay = of_one (pay_of along.pay.now) in
    let start : ℕ = along.group.now.start in
    let living : ℕ → Bool = has_bit along.group.now.alive in
    EnclosesPartOfOne b pay start living (worth_on_end b pay start living years) i
