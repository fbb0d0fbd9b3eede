-- The pays so far have their lines, which can be printed.
use Rattle.std.proofs.Common.{map, take}
use Rattle.std.specs.Prelude.{All}
use Rattle.halo_model.specs.Basis.{Basis}
use Rattle.halo_contract.specs.Premium.{all_lives}
use Rattle.halo_status.specs.Pay.{pay_of}
use Rattle.halo_lines.specs.PayLines.{ArePayLines}
use Rattle.halo_lines.specs.Printable.{IsPrintable}
use Rattle.halo_lines.specs.Values.{AreValues}
use Rattle.halo_lines.proofs.pays.pay_lines.Given as goal

abbrev pub invariant-loop-place : goal.invariant-loop-place
invariant-loop-place l = record {
  lines : (b : Basis) → AreValues b 0 all_lives (map pay_of l.pays) l.values
      → ArePayLines b (map pay_of (take l.place l.pays)) l.lines.items;
  printable : All IsPrintable l.lines.items;
}
