-- What is due for one set of lives over the years, if all of it is paid out and nothing in.
use Rattle.std.specs.Prelude.{◌≡◌, ℕ, zero, suc, ◌+◌, ◌*◌, pos, ◌≤ℤ◌}
use Rattle.halo_num.specs.Ends.{Ends, HasWidth, fine}
use Rattle.halo_num.specs.Enclosure.{Encloses}
use Rattle.halo_model.specs.Basis.{Basis, accumulated}
use Rattle.halo_insure.specs.declared.due.Due.{Due}

-- The value at k of what is due at the ends of so many years from k on, for so many leavings in
-- each year and survivors at each time. It is cleared of fractions: told in the parts of which 1
-- has the survivors at k times the interest of all years.
abbrev pub worth_of_dues : Basis → (ℕ → ℕ) → (ℕ → ℕ) → (ℕ → Due) → ℕ → ℕ → ℕ
worth_of_dues b leaving alive due k zero = 0
worth_of_dues b leaving alive due k (suc years) =
    b.q k
    * (((due k).on_leaving * leaving k + (due k).at_end * alive (suc k)) * accumulated b (suc k)
    + worth_of_dues b leaving alive due (suc k) years)

-- how much is due in all, at most
abbrev pub most_due : (ℕ → Due) → ℕ → ℕ → ℕ
most_due due k zero = 0
most_due due k (suc years) = (due k).on_leaving + (due k).at_end + most_due due (suc k) years

-- where nobody is left at k, nobody leaves in year k and nobody survives it
pub record EndWithNobody (leaving alive : ℕ → ℕ) (k : ℕ) : Type 0 where
  pub leaves : alive k ≡ 0 → leaving k ≡ 0
  pub survives : alive k ≡ 0 → alive (suc k) ≡ 0

-- The value is enclosed. It is at most as much as is due, and where the chances of a year are at
-- most d wide, each year widens it by at most d + 3 for each payment that is due.
pub record EnclosesDues
    (b : Basis) (leaving alive : ℕ → ℕ) (due : ℕ → Due) (d k years : ℕ) (i : Ends) : Type 0 where
  pub encloses : Encloses i
      (pos (worth_of_dues b leaving alive due k years)) (alive k * accumulated b k)
  pub from : pos 0 ≤ℤ i.lo
  pub bound : i.hi ≤ℤ pos (most_due due k years * fine)
  pub narrow : HasWidth i (years * ((d + 3) * most_due due k years))

-- What one year back makes of a later value of a set, given the chances that one of it is the first
-- to leave and counts and that all survive, the discount factor, and what is due: what is due and
-- what comes later, if all survive, are discounted together.
pub record GoesBack (later leave survive discount : Ends) (due : Due) (result : Ends) : Type 0 where
  pub from : pos 0 ≤ℤ result.lo
  pub bound : (m : ℕ)
      → later.hi ≤ℤ pos (m * fine) → result.hi ≤ℤ pos ((due.on_leaving + due.at_end + m) * fine)
  pub narrow : (m u e : ℕ) → later.hi ≤ℤ pos (m * fine)
      → HasWidth later u → HasWidth leave e → HasWidth survive e → HasWidth discount 1
      → HasWidth result (u + (e + 3) * (due.on_leaving + due.at_end + m))
  pub encloses : (left live start x rest q i : ℕ)
      → Encloses leave (pos left) start
      → Encloses survive (pos live) start → Encloses discount (pos q) i
      → Encloses later (pos x) (live * rest) → (live ≡ 0 → x ≡ 0)
      → Encloses result
      (pos (q * ((due.on_leaving * left + due.at_end * live) * rest + x))) (start * (i * rest))
