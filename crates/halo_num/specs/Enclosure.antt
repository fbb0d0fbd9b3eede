-- What an interval encloses: a fraction, stated without division.
use Rattle.std.specs.Prelude.{ℕ, ℤ, pos, ◌*ℤ◌, ◌≤ℤ◌}
use Rattle.halo_num.specs.Ends.{Ends, fine, printed}

-- the fraction num / den lies between the ends, which count fine units
pub record Encloses (i : Ends) (num : ℤ) (den : ℕ) : Type 0 where
  pub low : (i.lo *ℤ pos den) ≤ℤ (num *ℤ pos fine)
  pub high : (num *ℤ pos fine) ≤ℤ (i.hi *ℤ pos den)

-- the fraction num / den lies between lo and hi, which count printed units
pub record EnclosesPrinted (lo hi num : ℤ) (den : ℕ) : Type 0 where
  pub low : (lo *ℤ pos den) ≤ℤ (num *ℤ pos printed)
  pub high : (num *ℤ pos printed) ≤ℤ (hi *ℤ pos den)
