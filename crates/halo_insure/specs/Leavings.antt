-- The weights of a year for a set of lives that are alive at its start, over all orders that the
-- rule for ties takes.
use Rattle.std.specs.Prelude.{ℕ, ◌*◌, Bool, ◌&&◌, List, length}
use Rattle.halo_sums.specs.Sets.{in_set}
use Rattle.halo_status.specs.Pay.{PlainPay}
use Rattle.halo_model.specs.Basis.{Basis, taken}
use Rattle.halo_model.specs.Chance.{asked}
use Rattle.halo_model.specs.EvenTies.{YearNumbers}
use Rattle.halo_model.specs.OrderLaws.{year_numbers}
use Rattle.halo_model.specs.Outcome.{joint_survivors}
use Rattle.halo_model.specs.SetValue.{SomeEvents, can_fall_on_life}
use Rattle.halo_life.specs.YearOfSets.{leavings_of_set}

-- whether the leaving of life a counts: it is one of some events, and a payment can fall on it
abbrev pub counts : PlainPay → SomeEvents → ℕ → Bool
counts pay events a = events.lives a && can_fall_on_life pay a

-- the numbers of year k of the lives of a basis, of whom those who leave count by the causes of the
-- pay
abbrev pub counted_numbers : Basis → PlainPay → SomeEvents → ℕ → YearNumbers
counted_numbers b pay events k = year_numbers (counts pay events) (asked pay.causes) b.lives k

-- the weight with which the first of a set to leave in year k leaves by an event that counts: the
-- sum over the orders
abbrev pub set_leavings : Basis → PlainPay → SomeEvents → List Bool → ℕ → ℕ
set_leavings b pay events s k =
    leavings_of_set b.ties (length b.lives) (counted_numbers b pay events k) (in_set s)

-- the weight of a whole set at time k, in the same parts: their survivors, once for each order
abbrev pub set_survivors : Basis → List Bool → ℕ → ℕ
set_survivors b s k = length (taken b) * joint_survivors k (in_set s) b.lives
