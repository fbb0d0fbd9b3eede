-- What falls on the end of a term for a set of lives, by its pure endowment.
use Rattle.std.specs.Prelude.{ℕ, ◌*◌, ◌^◌, ◌<◌, ℤ, pos, ◌≤ℤ◌}
use Rattle.halo_num.specs.Ends.{Ends, HasWidth, fine}
use Rattle.halo_num.specs.Enclosure.{Encloses}
use Rattle.halo_poly.specs.Poly.{coefficient_at}
use Rattle.halo_life.specs.Lists.{Lists, entry}
use Rattle.halo_compile.specs.NamedSets.{AreNamed}
use Rattle.halo_compile.specs.OfTask.{pay_of_task}
use Rattle.halo_compile.specs.declared.task.Task.{Task}
use Rattle.halo_endowment.specs.Endowment.{EnclosesEndowment}
use Rattle.halo_insure.specs.declared.sets.Year.{Year}
use Rattle.halo_insure.specs.Dues.{due_by}
use Rattle.halo_insure.specs.OfTask.{insured_basis}
use Rattle.halo_insure.specs.YearSets.{next_coefficient}

-- the entries of `plus` of the sets of named lives enclose their pure endowments from the time of
-- the task's group to time t
abbrev pub HoldEndowments : {n m : ℕ} → Task n m → ℕ → Lists → Type 0
HoldEndowments {n} task t lists = (mask : ℕ) → mask < 2 ^ n → AreNamed (pay_of_task task).body mask
    → EnclosesEndowment
    (insured_basis task) n task.group.now.start t mask (entry lists.plus mask)

-- so many payments with a chance
pub record ArePayments (count : ℕ) (chance result : Ends) : Type 0 where
  pub from : pos 0 ≤ℤ result.lo
  pub bound : result.hi ≤ℤ pos (count * fine)
  pub narrow : (w : ℕ) → HasWidth chance w → HasWidth result (count * w)
  pub encloses : (n d : ℕ) → Encloses chance (pos n) d → Encloses result (pos (count * n)) d

-- as many as are due for a set on the end of a term with a year, by the parts of its coefficients
-- of one sign
abbrev pub IsPaidAtEnd : {m : ℕ} → (ℤ → ℕ) → Year m → ℕ → Ends → Ends → Type 0
IsPaidAtEnd part year mask endowment result = ArePayments
    ((due_by part year.pays.payment year.pays.ends
    (coefficient_at year.here.now mask) (next_coefficient year mask)).at_end)
    endowment result
