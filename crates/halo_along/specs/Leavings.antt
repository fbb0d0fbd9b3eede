-- What an insurance pays on the leaving of one life in the years of a valuation, where the lives of
-- one year leave in the declared order.
use Rattle.std.specs.Prelude.{ℕ, suc, ◌+◌, ◌*◌, ◌<◌, Bool, List, length, ℤ, pos, ◌*ℤ◌}
use Rattle.halo_sums.specs.Masks.{has_bit}
use Rattle.halo_sums.specs.Sums.{indicator, int_sum_over, numbers_from}
use Rattle.halo_num.specs.Chance.{EnclosesChance}
use Rattle.halo_num.specs.Ends.{Ends}
use Rattle.halo_status.specs.Nodes.{nodes}
use Rattle.halo_status.specs.Pay.{PlainPay, pay_of}
use Rattle.halo_contract.specs.declared.ties.Ties.TheVariants.{Declared}
use Rattle.halo_model.specs.Basis.{Basis, discounted}
use Rattle.halo_model.specs.Chance.{paid_on_leaving}
use Rattle.halo_model.specs.Counts.{greatest_factor}
use Rattle.halo_model.specs.Enclosed.{of_one}
use Rattle.halo_model.specs.Expectation.{expected, looked_at}
use Rattle.halo_model.specs.FromTables.{lives_of}
use Rattle.halo_model.specs.Independent.{started_of, survivors_of}
use Rattle.halo_model.specs.Order.{rank_in}
use Rattle.halo_life.specs.PlainGroup.{PlainGroup}
use Rattle.halo_chance.specs.Enclosed.{entry_at}
use Rattle.halo_along.specs.Along.{basis_of_tree_task}
use Rattle.halo_along.specs.Insured.{insured_in}
use Rattle.halo_along.specs.Years.{EnclosesPresent}
use Rattle.halo_along.specs.declared.tree_task.TreeTask.{TreeTask}
use Rattle.halo_compile.specs.declared.payment.TheConstants.{MOST_PAID}

-- the rank of each of n lives in the declared order
abbrev pub declared_rank : ℕ → ℕ → ℕ
declared_rank n = rank_in (numbers_from 0 n)

-- the entries of the first so many lives enclose their chances to be alive when they are looked at
-- where life a leaves in year k, each at most 1 wide: at the end of the year those declared before
-- it, and at its start the others
unfoldable pub EncloseLookedAt : PlainGroup → ℕ → ℕ → ℕ → List Ends → Type 0
EncloseLookedAt group a k count entries = (i : ℕ) → i < count →
    let lives = lives_of group.file group.lives in
    EnclosesChance
    (survivors_of (looked_at (declared_rank (length lives)) a k) (has_bit group.alive) lives i)
    (started_of group.start (has_bit group.alive) lives i)
    1
    (entry_at entries i)

-- the value at T of 1 paid at the end of year k if a payment falls on the leaving of life a in it
abbrev pub value_of_one_on_leaving : Basis → PlainPay → ℕ → (ℕ → Bool) → ℕ → ℕ → ℤ
value_of_one_on_leaving b pay T S a k =
    pos (discounted b T (suc k)) *ℤ expected T S b.lives (λ o.
    indicator (paid_on_leaving pay (declared_rank (length b.lives)) T a k o))

-- of what an insurance pays then
abbrev pub value_on_leaving : Basis → PlainPay → ℕ → (ℕ → Bool) → ℕ → ℕ → ℤ
value_on_leaving b pay T S a k = value_of_one_on_leaving b pay T S a k *ℤ pos (insured_in pay k)

-- and of what it pays on the leaving of the life in so many years from T on
abbrev pub value_on_leavings : Basis → PlainPay → ℕ → (ℕ → Bool) → ℕ → ℕ → ℤ
value_on_leavings b pay T S a years =
    int_sum_over (numbers_from T years) (value_on_leaving b pay T S a)

-- how wide the value of 1 paid on an event up to the horizon may be: its discount factor by 3 for
-- each year, the chance of a leaving by 1, each of the two chances of which a loss is the
-- difference by 1 for each place of a life and for each node of the status on which the pay waits,
-- and the roundings of two products
abbrev pub width_of_event : {n : ℕ} → TreeTask n → ℕ
width_of_event along = 3 * along.horizon + 4 * nodes (pay_of along.pay.now).body + 7

-- and that of what the insurance pays on it: times the greatest factor
abbrev pub width_of_falling : {n : ℕ} → TreeTask n → ℕ
width_of_falling along = width_of_event along * greatest_factor along.pay.now.vary along.horizon

-- i encloses the value at the time of the group of 1 paid at the end of year k if a payment falls
-- on the leaving of life a in it
unfoldable pub EnclosesOneLeaving : {n : ℕ} → TreeTask n → ℕ → ℕ → Ends → Type 0
EnclosesOneLeaving along a k i =
    let b = basis_of_tree_task along Declared in
    let start : ℕ = along.group.now.start in
    let living : ℕ → Bool = has_bit along.group.now.alive in
    EnclosesPresent b start living
    (value_of_one_on_leaving b (of_one (pay_of along.pay.now)) start living a k)
    (width_of_event along) 1 i

-- of what an insurance of 1 pays then
unfoldable pub EnclosesLeaving : {n : ℕ} → TreeTask n → ℕ → ℕ → Ends → Type 0
EnclosesLeaving along a k i =
    let b = basis_of_tree_task along Declared in
    let start : ℕ = along.group.now.start in
    let living : ℕ → Bool = has_bit along.group.now.alive in
    EnclosesPresent b start living
    (value_on_leaving b (of_one (pay_of along.pay.now)) start living a k)
    (width_of_falling along) MOST_PAID i

-- and of what it pays on the leaving of the life in so many years from that time on
unfoldable pub EnclosesLeavings : {n : ℕ} → TreeTask n → ℕ → ℕ → Ends → Type 0
EnclosesLeavings along a years i =
    let b = basis_of_tree_task along Declared in
    let start : ℕ = along.group.now.start in
    let living : ℕ → Bool = has_bit along.group.now.alive in
    EnclosesPresent b start living
    (value_on_leavings b (of_one (pay_of along.pay.now)) start living a years)
    (years * width_of_falling along) (years * MOST_PAID) i
