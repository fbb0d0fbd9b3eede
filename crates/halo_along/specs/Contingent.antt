-- What an insurance pays on the ends of terms in the years of a valuation, and its value where the
-- lives of one year leave in the declared order.
use Rattle.std.specs.Prelude.{ℕ, suc, ◌*◌, Bool, cond, ℤ, pos, ◌*ℤ◌, length}
use Rattle.halo_sums.specs.Masks.{has_bit}
use Rattle.halo_sums.specs.Sums.{indicator, int_sum_over, numbers_from}
use Rattle.halo_num.specs.Ends.{Ends}
use Rattle.halo_status.specs.Naming.{names_life}
use Rattle.halo_status.specs.Pay.{PlainPay, pay_of}
use Rattle.halo_contract.specs.declared.ties.Ties.TheVariants.{Declared}
use Rattle.halo_model.specs.Basis.{Basis, discounted}
use Rattle.halo_model.specs.Counts.{lives_named}
use Rattle.halo_model.specs.Enclosed.{EnclosesOne, of_one}
use Rattle.halo_model.specs.Event.{ends}
use Rattle.halo_model.specs.Expectation.{expected}
use Rattle.halo_model.specs.Part.{leaving_part}
use Rattle.halo_model.specs.Payment.{falls_on}
use Rattle.halo_along.specs.Along.{basis_of_tree_task}
use Rattle.halo_along.specs.Insured.{insured_in}
use Rattle.halo_along.specs.Leavings.{declared_rank, width_of_event, width_of_falling}
use Rattle.halo_along.specs.Years.{EnclosesPresent}
use Rattle.halo_along.specs.declared.tree_task.TreeTask.{TreeTask}
use Rattle.halo_compile.specs.declared.payment.TheConstants.{MOST_PAID}

-- the value at T of 1 paid at the end of year k if a payment falls then on the end of the terms of
-- k + 1 years
abbrev pub value_of_one_on_end : Basis → PlainPay → ℕ → (ℕ → Bool) → ℕ → ℤ
value_of_one_on_end b pay T S k =
    pos (discounted b T (suc k)) *ℤ expected T S b.lives (λ o.
    indicator (falls_on pay (declared_rank (length b.lives)) T o (ends (suc k))))

-- of what an insurance pays then
abbrev pub value_on_end : Basis → PlainPay → ℕ → (ℕ → Bool) → ℕ → ℤ
value_on_end b pay T S k = value_of_one_on_end b pay T S k *ℤ pos (insured_in pay k)

-- and of what it pays on the ends of terms in so many years from T on
abbrev pub value_on_ends : Basis → PlainPay → ℕ → (ℕ → Bool) → ℕ → ℤ
value_on_ends b pay T S years = int_sum_over (numbers_from T years) (value_on_end b pay T S)

-- i encloses the value at the time of the group of 1 paid at the end of year k if a payment falls
-- on the end of the terms that end then
unfoldable pub EnclosesOneEnd : {n : ℕ} → TreeTask n → ℕ → Ends → Type 0
EnclosesOneEnd along k i =
    let b = basis_of_tree_task along Declared in
    let start : ℕ = along.group.now.start in
    let living : ℕ → Bool = has_bit along.group.now.alive in
    EnclosesPresent b start living
    (value_of_one_on_end b (of_one (pay_of along.pay.now)) start living k)
    (width_of_event along) 1 i

-- of what an insurance of 1 pays then
unfoldable pub EnclosesEnd : {n : ℕ} → TreeTask n → ℕ → Ends → Type 0
EnclosesEnd along k i =
    let b = basis_of_tree_task along Declared in
    let start : ℕ = along.group.now.start in
    let living : ℕ → Bool = has_bit along.group.now.alive in
    EnclosesPresent b start living
    (value_on_end b (of_one (pay_of along.pay.now)) start living k)
    (width_of_falling along) MOST_PAID i

-- and of what it pays on the ends of terms in so many years from that time on
unfoldable pub EnclosesEnds : {n : ℕ} → TreeTask n → ℕ → Ends → Type 0
EnclosesEnds along years i =
    let b = basis_of_tree_task along Declared in
    let start : ℕ = along.group.now.start in
    let living : ℕ → Bool = has_bit along.group.now.alive in
    EnclosesPresent b start living
    (value_on_ends b (of_one (pay_of along.pay.now)) start living years)
    (years * width_of_falling along) (years * MOST_PAID) i

-- i encloses the value at the time of the group of what an insurance of 1 pays on the leaving of
-- life a, no wider than the years to the horizon allow, and not wide at all for a life that the
-- body does not name
unfoldable pub EnclosesOnLife : {n : ℕ} → TreeTask n → ℕ → Ends → Type 0
EnclosesOnLife along a i =
    let b = basis_of_tree_task along Declared in
    let start : ℕ = along.group.now.start in
    let living : ℕ → Bool = has_bit along.group.now.alive in
    let named : ℕ = cond (names_life a (pay_of along.pay.now).body) 1 0 in
    EnclosesPresent b start living
    (leaving_part b (of_one (pay_of along.pay.now)) (declared_rank (length b.lives)) start living a)
    (named * (along.horizon * width_of_falling along)) (along.horizon * MOST_PAID) i

-- and on the leavings of the first so many lives
unfoldable pub EnclosesOnLives : {n : ℕ} → TreeTask n → ℕ → Ends → Type 0
EnclosesOnLives along count i =
    let b = basis_of_tree_task along Declared in
    let start : ℕ = along.group.now.start in
    let living : ℕ → Bool = has_bit along.group.now.alive in
    EnclosesPresent b start living
    (int_sum_over (numbers_from 0 count)
    (leaving_part b (of_one (pay_of along.pay.now)) (declared_rank (length b.lives)) start living))
    (lives_named count (pay_of along.pay.now).body * (along.horizon * width_of_falling along))
    (count * (along.horizon * MOST_PAID)) i

-- i encloses the value at time t of the pay, with amount 1, where the lives of a set are alive and
-- those of one year leave in the declared order
abbrev pub EnclosesInOrder : {n : ℕ} → TreeTask n → ℕ → ℕ → Ends → Type 0
EnclosesInOrder along t alive i =
    EnclosesOne (basis_of_tree_task along Declared) (pay_of along.pay.now) t (has_bit alive) i
