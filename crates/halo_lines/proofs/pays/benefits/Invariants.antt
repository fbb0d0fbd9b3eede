-- The total encloses the pays so far, and has room for the others.
use Rattle.std.proofs.Common.{ℕ, Bool, map, take}
use Rattle.halo_status.specs.Pay.{pay_of}
use Rattle.halo_model.specs.Basis.{Basis}
use Rattle.halo_model.specs.Enclosed.{EnclosesBenefits}
use Rattle.halo_lines.specs.Values.{AreValues}
use Rattle.halo_lines.proofs.PayByPay.{amounts}
use Rattle.halo_lines.proofs.Room.{IsTotalOf}
use Rattle.halo_lines.proofs.pays.benefits.Given as goal

abbrev pub invariant-loop-place : goal.invariant-loop-place
invariant-loop-place l = record {
  room : IsTotalOf (amounts (map pay_of (take l.place l.pays))) l.total;
  benefits : (b : Basis) (T : ℕ) (S : ℕ → Bool) → AreValues b T S (map pay_of l.pays) l.values
      → EnclosesBenefits b (map pay_of (take l.place l.pays)) T S l.total;
}
