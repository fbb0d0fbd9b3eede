-- A choice by a chance, and its least and greatest value over three intervals.
use Rattle.std.specs.Prelude.{◌≡◌, ℤ, pos, ◌+ℤ◌, ◌-ℤ◌, ◌*ℤ◌, ◌≤ℤ◌}
use Rattle.halo_num.specs.Ends.{Ends, fine}

-- x with the chance s, else y, each in fine units: the expected value in units of 10^-36
abbrev pub blend : ℤ → ℤ → ℤ → ℤ
blend s x y = s *ℤ x +ℤ (pos fine -ℤ s) *ℤ y

-- z lies between the ends
pub record IsIn (z : ℤ) (i : Ends) : Type 0 where
  pub low : i.lo ≤ℤ z
  pub high : z ≤ℤ i.hi

-- a chance s in p, a value x in a and a value y in b whose blend is z
pub record BlendsTo (p a b : Ends) (z : ℤ) : Type 0 where
  pub s : ℤ
  pub x : ℤ
  pub y : ℤ
  pub s_in : IsIn s p
  pub x_in : IsIn x a
  pub y_in : IsIn y b
  pub same : blend s x y ≡ z

-- z is the least blend of a chance in p and values in a and b
pub record IsLeastBlend (p a b : Ends) (z : ℤ) : Type 0 where
  pub reached : BlendsTo p a b z
  pub least : (s x y : ℤ) → IsIn s p → IsIn x a → IsIn y b → z ≤ℤ blend s x y

-- z is the greatest blend of a chance in p and values in a and b
pub record IsGreatestBlend (p a b : Ends) (z : ℤ) : Type 0 where
  pub reached : BlendsTo p a b z
  pub greatest : (s x y : ℤ) → IsIn s p → IsIn x a → IsIn y b → blend s x y ≤ℤ z
