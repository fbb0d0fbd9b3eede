-- Only sets of lives that a body names have coefficients.
use Rattle.std.specs.Prelude.{◌≡◌, ℕ, true, false, List, Bool, None, pos}
use Rattle.halo_sums.specs.Sets.{in_set}
use Rattle.halo_status.specs.Naming.{names_life}
use Rattle.halo_status.specs.Pay.{PlainPay}
use Rattle.halo_model.specs.Coefficient.{form}

-- a set with a life that the body of a pay does not name has no coefficient
abbrev pub UnnamedDoNotCount : Type 0
UnnamedDoNotCount = (pay : PlainPay) → pay.mark ≡ None → (i : ℕ) → names_life i pay.body ≡ false
    → (t : ℕ) (s : List Bool) → in_set s i ≡ true → form pay t s ≡ pos 0
