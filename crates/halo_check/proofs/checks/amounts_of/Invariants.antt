use Rattle.std.specs.Prelude.{◌≡◌, map, take}
use Rattle.halo_status.specs.Pay.{pay_of}
use Rattle.halo_contract.specs.PlainContract.{amount_of_all}
use Rattle.halo_check.proofs.checks.amounts_of.Given as goal

abbrev pub invariant-loop-pay : goal.invariant-loop-pay
invariant-loop-pay l = l.sum ≡ amount_of_all (map pay_of (take l.pay-index l.pays))
