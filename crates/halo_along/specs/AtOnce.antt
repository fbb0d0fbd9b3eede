-- Annuities that are worth at least 1.
use Rattle.std.specs.Prelude.{◌≡◌, ℕ, true}
use Rattle.halo_sums.specs.Masks.{has_bit}
use Rattle.halo_status.specs.Exists.{exists}
use Rattle.halo_status.specs.Pay.{pay_of}
use Rattle.halo_status.specs.View.{is_on}
use Rattle.halo_status.specs.declared.pay.Kind.TheVariants.{Due}
use Rattle.halo_status.specs.declared.pay.Pay.{Pay}
use Rattle.halo_status.specs.declared.pay.Vary.TheVariants.{Level}
use Rattle.halo_status.specs.declared.view.View.TheVariants.{Due as DueView}

-- an annuity-due, level and without deferral, pays at time t: its body exists then with the lives
-- of a set alive
pub record PaysAtOnce (pay : Pay) (t alive : ℕ) : Type 0 where
  pub due : pay.kind ≡ Due
  pub level : pay.vary ≡ Level
  pub at_once : pay.defer ≡ 0
  pub exists_then : exists (has_bit alive) (is_on DueView t) (pay_of pay).body ≡ true
