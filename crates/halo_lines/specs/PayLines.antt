-- The lines of the pays of a contract.
use Rattle.std.specs.Prelude.{List}
use Rattle.std.specs.List.{AllZip}
use Rattle.halo_num.specs.declared.nano.Nano.{Nano}
use Rattle.halo_status.specs.Pay.{PlainPay}
use Rattle.halo_model.specs.Basis.{Basis}
use Rattle.halo_model.specs.Line.{IsPayLine}

-- each pay has its line
abbrev pub ArePayLines : Basis → List PlainPay → List Nano → Type 0
ArePayLines b pays lines = AllZip (IsPayLine b) pays lines
