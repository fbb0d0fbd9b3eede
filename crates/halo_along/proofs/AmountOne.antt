-- The measures of a pay are those of the pay with amount 1.
use Rattle.std.proofs.Common.{◌≡◌, refl}
use Rattle.halo_status.specs.Pay.{PlainPay}
use Rattle.halo_model.specs.Basis.{Basis}
use Rattle.halo_model.specs.Coefficient.{form}
use Rattle.halo_model.specs.Counts.{measures_of}
use Rattle.halo_model.specs.Enclosed.{of_one}

pub measures-of-one : (b : Basis) (pay : PlainPay) → measures_of b (of_one pay) ≡ measures_of b pay
unfolding form
measures-of-one b pay = refl
