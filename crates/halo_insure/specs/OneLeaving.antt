-- What falls on the leaving of one life for a set of lives, year by year, where the lives of one
-- year leave in the declared order.
use Rattle.std.specs.Prelude.{◌≡◌, ℕ, suc, ◌+◌, ◌-◌, ◌*◌, ◌^◌, ◌<◌, Bool, cond, nat_lt, true, List, get_or, ℤ}
use Rattle.halo_sums.specs.Masks.{bits, has_bit}
use Rattle.halo_sums.specs.Sets.{in_set, size_of}
use Rattle.halo_sums.specs.Sums.{numbers_from, product_over}
use Rattle.halo_num.specs.Chance.{EnclosesChance}
use Rattle.halo_num.specs.Ends.{Ends}
use Rattle.halo_status.specs.Pay.{PlainPay}
use Rattle.halo_model.specs.Backward.{above_zero, below_zero}
use Rattle.halo_model.specs.Basis.{Basis}
use Rattle.halo_model.specs.Chance.{asked}
use Rattle.halo_model.specs.EvenTies.{lives_in}
use Rattle.halo_model.specs.Horizon.{horizon}
use Rattle.halo_model.specs.Life.{PlainLife, leavers_by}
use Rattle.halo_model.specs.OrderLaws.{no_life}
use Rattle.halo_model.specs.Outcome.{joint_survivors}
use Rattle.halo_model.specs.SetValue.{leaving_of}
use Rattle.halo_poly.specs.Poly.{coefficient_at}
use Rattle.halo_life.specs.Lists.{Lists, entry}
use Rattle.halo_chance.specs.Enclosed.{entry_at}
use Rattle.halo_compile.specs.NamedSets.{AreNamed}
use Rattle.halo_compile.specs.OfTask.{pay_of_task}
use Rattle.halo_compile.specs.declared.task.Task.{Task}
use Rattle.halo_endowment.specs.Payments.{AddsPayments}
use Rattle.halo_insure.specs.declared.sets.Year.{Year}
use Rattle.halo_insure.specs.Dues.{due_of}
use Rattle.halo_insure.specs.Leavings.{set_leavings, set_survivors}
use Rattle.halo_insure.specs.OfTask.{insured_basis}
use Rattle.halo_insure.specs.OneSet.{EnclosesDues}

-- the lives of a basis by their numbers
abbrev pub life_of_basis : Basis → ℕ → PlainLife
life_of_basis b i = get_or b.lives i no_life

-- the weight with which all of a set of n lives are there when life a leaves in year k: those
-- declared before it stay until the end of the year, the others are alive at its start
abbrev pub there_when_leaving : Basis → ℕ → ℕ → ℕ → (ℕ → Bool) → ℕ
there_when_leaving b n a k S =
    product_over (lives_in n S) (λ i. (life_of_basis b i).survivors (cond (nat_lt i a) (suc k) k))

-- the entries of n lives enclose their chances to be there when life a leaves in year k, each of
-- them alive at T: each is at most 1 wide
abbrev pub AreThereWhenLeaving : Basis → ℕ → ℕ → ℕ → ℕ → List Ends → Type 0
AreThereWhenLeaving b n T a k entries = (i : ℕ) → i < n → EnclosesChance
    ((life_of_basis b i).survivors (cond (nat_lt i a) (suc k) k))
    ((life_of_basis b i).survivors T) 1 (entry_at entries i)

-- i encloses the value at T of 1 paid at the end of year k if life a leaves in it by one of some
-- causes and all of a set of others are there then, where all are alive at T. It is at most 3 wide
-- for each year, 2 for the life, and 2 for each other.
abbrev pub EnclosesFalling : Basis → (ℕ → Bool) → ℕ → ℕ → ℕ → ℕ → ℕ → Ends → Type 0
EnclosesFalling b causes n T a k mask i = EnclosesChance
    (product_over (numbers_from T (suc k - T)) b.q * leavers_by causes (life_of_basis b a) k
    * there_when_leaving b n a k (in_set (bits n mask)))
    (product_over (numbers_from T (suc k - T)) (λ j. b.p j + b.q j)
    * (life_of_basis b a).survivors T * joint_survivors T (in_set (bits n mask)) b.lives)
    (3 * (suc k - T) + 2 + 2 * size_of (bits n mask))
    i

-- the entries of `plus` of the sets of named lives without life a enclose these
abbrev pub HoldFallings : {n m : ℕ} → Task n m → ℕ → ℕ → Lists → Type 0
HoldFallings {n} task a k lists = (mask : ℕ) → mask < 2 ^ n → AreNamed (pay_of_task task).body mask
    → has_bit mask a ≡ true
    → EnclosesFalling (insured_basis task) (asked (pay_of_task task).causes) n
    task.group.now.start a k (mask - 2 ^ a) (entry lists.plus (mask - 2 ^ a))

-- as many as are due for a set on the leaving of life a in a year, by the parts of its coefficient
-- of either sign, with the chance that the entry of `plus` without the life tells
pub record IsPaidOnLeaving {m : ℕ} (year : Year m) (a mask : ℕ) (before after : Lists)
    : Type 0 where
  pub plus : AddsPayments
      (year.pays.payment * above_zero (coefficient_at year.here.now mask))
      (entry before.plus (mask - 2 ^ a)) (entry before.plus mask) (entry after.plus mask)
  pub minus : AddsPayments
      (year.pays.payment * below_zero (coefficient_at year.here.now mask))
      (entry before.plus (mask - 2 ^ a)) (entry before.minus mask) (entry after.minus mask)

-- i encloses what is due for a set on the leaving of life a in so many years from T on, by the
-- parts of one sign
abbrev pub EnclosesLeavings : (ℤ → ℕ) → Basis → PlainPay → ℕ → List Bool → ℕ → ℕ → Ends → Type 0
EnclosesLeavings part b pay a s T years i =
    EnclosesDues b (set_leavings b pay (leaving_of a) s) (set_survivors b s)
    (due_of part pay (leaving_of a) (horizon b.lives pay.body) s) (4 * size_of s) T years i

-- the entries of the sets of named lives with life a enclose it for the years from the time of the
-- task's group up to time t
abbrev pub HoldLeavings : {n m : ℕ} → Task n m → ℕ → ℕ → Lists → Type 0
HoldLeavings {n} task a t lists = (mask : ℕ) → mask < 2 ^ n → AreNamed (pay_of_task task).body mask
    → has_bit mask a ≡ true
    → EnclosesLeavings above_zero (insured_basis task) (pay_of_task task) a (bits n mask)
    task.group.now.start (t - task.group.now.start) (entry lists.plus mask)
    × EnclosesLeavings below_zero (insured_basis task) (pay_of_task task) a (bits n mask)
    task.group.now.start (t - task.group.now.start) (entry lists.minus mask)
