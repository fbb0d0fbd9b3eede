-- The values of the pays so far.
use Rattle.std.proofs.Common.{◌≡◌, take}
use Rattle.halo_value.specs.ContractValues.{values_at}
use Rattle.halo_value.proofs.column.at_reserve.Given as goal

abbrev pub invariant-loop-pay : goal.invariant-loop-pay
invariant-loop-pay l = l.column.items ≡ values_at (take l.pay-index l.values) l.place
