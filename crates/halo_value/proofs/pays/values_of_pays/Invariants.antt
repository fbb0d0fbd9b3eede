-- The pays so far have their values.
use Rattle.std.proofs.Common.{map, take}
use Rattle.std.specs.List.{AllZip}
use Rattle.halo_status.specs.Pay.{pay_of}
use Rattle.halo_value.specs.PayValues.{AreValuesOf}
use Rattle.halo_value.specs.Setting.{basis_of_setting}
use Rattle.halo_value.proofs.pays.values_of_pays.Given as goal

abbrev pub invariant-loop-pay : goal.invariant-loop-pay
invariant-loop-pay g l = AllZip (AreValuesOf (basis_of_setting l.setting) l.setting.reserves.now)
    (map pay_of (take l.pay-index l.pays)) l.values.items
