-- Enclosures of what sets of lives add to a value, over the years backward, and how wide they may
-- be.
use Rattle.std.specs.Prelude.{ℕ, zero, suc, ◌+◌, ◌*◌, ◌^◌, ◌<◌, Bool, List, ℤ, pos, ◌*ℤ◌, ◌≤ℤ◌}
use Rattle.halo_num.specs.Ends.{Ends, HasWidth, IsWithin, fine}
use Rattle.halo_num.specs.Enclosure.{Encloses}
use Rattle.halo_sums.specs.Masks.{bits}
use Rattle.halo_sums.specs.Sets.{in_set}
use Rattle.halo_status.specs.Pay.{PlainPay}
use Rattle.halo_model.specs.Basis.{Basis, accumulated}
use Rattle.halo_model.specs.Outcome.{joint_survivors}
use Rattle.halo_model.specs.Backward.{backward, gain, loss}
use Rattle.halo_life.specs.Lists.{Lists, entry}
use Rattle.halo_compile.specs.NamedSets.{AreNamed}

-- i encloses num / den where there is such a fraction, at most w wide; it is from 0 to so many ones
pub record EnclosesSetWorth (num den most w : ℕ) (i : Ends) : Type 0 where
  pub encloses : 0 < den → Encloses i (pos num) den
  pub narrow : HasWidth i w
  pub within : IsWithin i (pos 0) (pos (most * fine))

-- a later value, whose ends are in order, times a chance: the result encloses the product, is no
-- greater than the value, and is wider by the width of the chance and 1 for each one that the value
-- can be
pub record Carries (later chance result : Ends) : Type 0 where
  pub order : later.lo ≤ℤ later.hi
  pub encloses : (n m : ℤ) (d e : ℕ) →
      Encloses later n d → Encloses chance m e → Encloses result (n *ℤ m) (d * e)
  pub from : pos 0 ≤ℤ result.lo
  pub bound : (a : ℕ) → later.hi ≤ℤ pos (a * fine) → result.hi ≤ℤ pos (a * fine)
  pub narrow : (a v w : ℕ) →
      later.hi ≤ℤ pos (a * fine) → HasWidth later w → HasWidth chance v →
      HasWidth result (w + (v + 1) * a)

-- all that is paid in so many years from t on, without interest
abbrev pub paid_in_all : (ℕ → ℕ) → ℕ → ℕ → ℕ
paid_in_all paid t zero = 0
paid_in_all paid t (suc years) = paid t + paid_in_all paid (suc t) years

-- twice the years that what is paid has to be carried back to t
abbrev pub waited : (ℕ → ℕ) → ℕ → ℕ → ℕ
waited paid t zero = 0
waited paid t (suc years) = 2 * paid_in_all paid (suc t) years + waited paid (suc t) years

-- i encloses what is paid on a set of n lives in so many years from t on; a payment widens it by at
-- most 2 (n + 2) for each year that it is carried back
abbrev pub EnclosesSet : Basis → ℕ → (ℕ → ℕ) → List Bool → ℕ → ℕ → Ends → Type 0
EnclosesSet b n paid s t years i =
    EnclosesSetWorth
    (backward b s paid t years)
    (joint_survivors t (in_set s) b.lives * accumulated b t)
    (paid_in_all paid t years)
    ((n + 2) * waited paid t years)
    i

-- and the same at time t of what is paid from the next time on
abbrev pub EnclosesCarried : Basis → ℕ → (ℕ → ℕ) → List Bool → ℕ → ℕ → Ends → Type 0
EnclosesCarried b n paid s t years i =
    EnclosesSetWorth
    (b.q t * backward b s paid (suc t) years)
    (joint_survivors t (in_set s) b.lives * accumulated b t)
    (paid_in_all paid (suc t) years)
    ((n + 2) * (2 * paid_in_all paid (suc t) years + waited paid (suc t) years))
    i

-- the entries of all sets of named lives, of n: what an annuity valued at T pays in so many years
-- from t on
abbrev pub HoldValues : Basis → PlainPay → ℕ → ℕ → ℕ → ℕ → Lists → Type 0
HoldValues b pay T n t years lists = (mask : ℕ) → mask < 2 ^ n → AreNamed pay.body mask →
    EnclosesSet b n (gain pay T (bits n mask)) (bits n mask) t years (entry lists.plus mask)
    × EnclosesSet b n (loss pay T (bits n mask)) (bits n mask) t years (entry lists.minus mask)

-- and the same at time t of what it pays from the next time on
abbrev pub HoldCarried : Basis → PlainPay → ℕ → ℕ → ℕ → ℕ → Lists → Type 0
HoldCarried b pay T n t years lists = (mask : ℕ) → mask < 2 ^ n → AreNamed pay.body mask →
    EnclosesCarried b n (gain pay T (bits n mask)) (bits n mask) t years (entry lists.plus mask)
    × EnclosesCarried b n (loss pay T (bits n mask)) (bits n mask) t years (entry lists.minus mask)
