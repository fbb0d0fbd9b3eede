-- The value of an insurance from the values of all sets of the lives alive.
use Rattle.std.specs.Prelude.{◌≡◌, ℕ, ◌-◌, ◌*◌, ◌^◌, ◌<◌, ◌≤◌, List, Bool, length, ℤ, pos}
use Rattle.halo_sums.specs.Masks.{bits, has_bit}
use Rattle.halo_sums.specs.Sets.{size_of}
use Rattle.halo_num.specs.Enclosure.{Encloses}
use Rattle.halo_num.specs.Ends.{Ends, HasWidth}
use Rattle.halo_status.specs.Pay.{PlainPay}
use Rattle.halo_model.specs.Backward.{above_zero, below_zero}
use Rattle.halo_model.specs.Basis.{Basis}
use Rattle.halo_model.specs.Chance.{IsValidInsurance}
use Rattle.halo_model.specs.Counts.{measures_of, width_count}
use Rattle.halo_model.specs.Horizon.{horizon}
use Rattle.halo_model.specs.Life.{AreLives}
use Rattle.halo_model.specs.PartLaws.{EndBy}
use Rattle.halo_model.specs.SetValue.{SomeEvents, all_events}
use Rattle.halo_model.specs.Value.{denominator, numerator}
use Rattle.halo_life.specs.Lists.{Lists, entry}
use Rattle.halo_life.specs.Total.{total_of}
use Rattle.halo_compile.specs.NamedSets.{AreNamed, IsNamedPart}
use Rattle.halo_insure.specs.Dues.{due_of}
use Rattle.halo_insure.specs.Leavings.{set_leavings, set_survivors}
use Rattle.halo_insure.specs.OneSet.{EnclosesDues}

-- an interval encloses the value at T of what is due for a set by the parts of one sign; the
-- chances of a year are at most 4 wide for each life
abbrev pub EnclosesSet : (ℤ → ℕ) → Basis → PlainPay → SomeEvents → List Bool → ℕ → Ends → Type 0
EnclosesSet part b pay events s T i =
    EnclosesDues b (set_leavings b pay events s)
    (set_survivors b s) (due_of part pay events (horizon b.lives pay.body) s)
    (4 * size_of s) T (horizon b.lives pay.body - T) i

-- the entries of the sets of named lives, of n, enclose what is due for each of them at T
abbrev pub HoldDues : Basis → PlainPay → SomeEvents → ℕ → ℕ → Lists → Type 0
HoldDues b pay events n T lists = (mask : ℕ) → mask < 2 ^ n → AreNamed pay.body mask
    → EnclosesSet above_zero b pay events (bits n mask) T (entry lists.plus mask)
    × EnclosesSet below_zero b pay events (bits n mask) T (entry lists.minus mask)

-- an interval encloses the value of an insurance at T with some lives alive, within its count
pub record EnclosesInsurance (b : Basis) (pay : PlainPay) (T alive : ℕ) (i : Ends) : Type 0 where
  pub encloses : Encloses i
      (pos (numerator b pay T (has_bit alive))) (denominator b T (has_bit alive))
  pub narrow : HasWidth i (width_count (measures_of b pay))

-- the total over the sets of the named lives of those alive is such an interval, whichever lives
-- are alive and whatever the rule for ties
abbrev pub SetsEncloseValue : Type 0
SetsEncloseValue = (b : Basis) → AreLives b.lives → EndBy b.last_time b.lives
    → (pay : PlainPay)
    → IsValidInsurance pay → pay.amount ≡ 1 → horizon b.lives pay.body ≤ b.last_time
    → (T : ℕ) (lists : Lists) → HoldDues b pay all_events (length b.lives) T lists
    → (alive named : ℕ) → IsNamedPart pay.body alive named
    → EnclosesInsurance b pay T alive (total_of lists (2 ^ length b.lives) named)
