-- The values of the pays so far.
use Rattle.std.proofs.Common.{◌≡◌, take}
use Rattle.halo_value.specs.ContractValues.{starts_of}
use Rattle.halo_value.proofs.column.starts.Given as goal

abbrev pub invariant-loop-pay : goal.invariant-loop-pay
invariant-loop-pay l = l.column.items ≡ starts_of (take l.pay-index l.values)
