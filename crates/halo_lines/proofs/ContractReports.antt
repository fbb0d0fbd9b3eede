-- Each contract that can be valued has a report that encloses it.
use Rattle.std.proofs.Common.{ℕ, ◌+◌, ◌*◌, ◌/◌, ◌%◌, ◌≤◌, ◌≡◌, List, [], ◌∷◌, Option, None, Some, arith}
use Rattle.std.proofs.Common.{ℤ, pos, negsuc, ◌*ℤ◌, ◌+ℤ◌, ◌≤ℤ◌}
use Rattle.std.proofs.Math.Nat.{div-add-mod}
use Rattle.std.proofs.lemmas.Int.{ints}
use Rattle.std.proofs.lemmas.List.Elements.{All-head, All-tail}
use Rattle.std.specs.Prelude.{All, IfSome}
use Rattle.halo_sums.proofs.Integers.{add_mul}
use Rattle.halo_num.specs.Ends.{printed}
use Rattle.halo_num.specs.declared.nano.Nano.{Nano}
use Rattle.halo_status.specs.Pay.{PlainPay}
use Rattle.halo_status.specs.Tree.{Tree}
use Rattle.halo_contract.specs.PlainContract.{PlainContract}
use Rattle.halo_contract.specs.Premium.{all_lives}
use Rattle.halo_contract.specs.declared.contract.ReserveLine.{ReserveLine}
use Rattle.halo_table.specs.DecrementTable.{TableFile}
use Rattle.halo_model.specs.Basis.{Basis}
use Rattle.halo_model.specs.ContractBasis.{contract_basis, premium_status}
use Rattle.halo_model.specs.Line.{IsLine, IsTotalLine, printed_width_of_reserve}
use Rattle.halo_model.specs.PositiveLaws.{HasPositivePremium, HasPositiveReserve}
use Rattle.halo_model.specs.Value.{denominator}
use Rattle.halo_model.specs.Widths.{printed_pay_width, printed_premium_width, printed_reserve_width}
use Rattle.halo_model.specs.Widths.{printed_total_width}
use Rattle.halo_model.proofs.Positive.{contracts-have-positive-denominators}
use Rattle.halo_lines.specs.PayLines.{ArePayLines}
use Rattle.halo_lines.specs.Report.{AreReserveLines, ContractsHaveReports, IsPremiumLineOf}

-- a whole number that a quotient reaches, and the next one does not fall short of it
pub record IsBelow (r n : ℤ) (d : ℕ) : Type 0 where
  pub reached : (r *ℤ pos d) ≤ℤ n
  pub near : n ≤ℤ (r *ℤ pos d +ℤ pos d)

below : (n : ℤ) (d : ℕ) → 1 ≤ d → (r : ℤ) × IsBelow r n d
below (pos n) d some =
    let parts : d * (n / d) + n % d ≡ n = div-add-mod n d in
    let rest : n % d ≤ d = omega arith in
    (pos (n / d), record { reached = omega (arith, ints, parts); near = omega (arith, ints, parts, rest) })
below (negsuc n) d some =
    let parts : d * (n / d) + n % d ≡ n = div-add-mod n d in
    let rest : n % d + 1 ≤ d = omega arith in
    (negsuc (n / d), record { reached = omega (arith, ints, parts, rest); near = omega (arith, ints, parts) })

-- each fraction has a line
pub a-line : (num : ℤ) (den w : ℕ) → 1 ≤ den → 1 ≤ w → (ends : Nano) × IsLine ends num den w
a-line num den w positive wide =
    let lower = below (num *ℤ pos printed) den positive in
    let next = λ (r : ℤ). add_mul r (pos 1) (pos den) in (
      record { lo = lower.0; hi = lower.0 +ℤ pos 1 },
      record {
        encloses = record { low = lower.1.reached; high = omega (arith, ints, lower.1.near, next lower.0) };
        narrow = omega (arith, ints, wide);
      },
    )

pay-lines : (b : Basis) → 1 ≤ denominator b 0 all_lives → (pays : List PlainPay)
    → (lines : List Nano) × ArePayLines b pays lines
unfolding printed_pay_width
pay-lines b positive [] = ([], tt)
pay-lines b positive (pay ∷ pays) =
    let first = a-line _ _ (printed_pay_width b pay) positive (omega arith) in
    let rest = pay-lines b positive pays in
    (first.0 ∷ rest.0, (first.1, rest.1))

total-line : (b : Basis) (pays : List PlainPay) → 1 ≤ denominator b 0 all_lives
    → (ends : Nano) × IsTotalLine b pays ends
unfolding printed_total_width
total-line b pays positive = a-line _ _ (printed_total_width b pays) positive (omega arith)

module _ (tables : TableFile) (contract : PlainContract) where
  abbrev basis : Basis
  basis = contract_basis tables contract

  premium-line : (premium : Option Tree) → IfSome premium (HasPositivePremium tables contract)
      → (ends : Option Nano) × IsPremiumLineOf basis contract.pays premium ends
  unfolding printed_premium_width
  premium-line None positive = (None, tt)
  premium-line (Some status) positive =
      let line = a-line _ _ (printed_premium_width basis contract.pays status) positive.of_premium (omega arith) in
      (Some line.0, line.1)

  wide-reserve : (premium : Option Tree) → 1 ≤ printed_width_of_reserve basis contract.pays premium
  unfolding printed_total_width printed_reserve_width
  wide-reserve None = omega arith
  wide-reserve (Some status) = omega arith

  reserve-lines : (reserves : List ReserveLine) → All (HasPositiveReserve tables contract) reserves
      → (lines : List Nano) × AreReserveLines basis contract.pays (premium_status contract) reserves lines
  reserve-lines [] positive = ([], tt)
  reserve-lines (reserve ∷ reserves) positive =
      let each = All-head (HasPositiveReserve tables contract) reserve reserves positive in
      let first = a-line _ _ _ each.of_reserve (wide-reserve (premium_status contract)) in
      let rest = reserve-lines reserves (All-tail (HasPositiveReserve tables contract) reserve reserves positive) in
      (first.0 ∷ rest.0, (first.1, rest.1))

pub contracts-have-reports : ContractsHaveReports
contracts-have-reports tables sound contract valid =
    let positive = contracts-have-positive-denominators tables sound contract valid in
    let pays = pay-lines (contract_basis tables contract) positive.at_start contract.pays in
    let total = total-line (contract_basis tables contract) contract.pays positive.at_start in
    let premium = premium-line tables contract (premium_status contract) positive.premium in
    let reserves = reserve-lines tables contract contract.reserves positive.reserves in (
      record { pays = pays.0; total = total.0; premium = premium.0; reserves = reserves.0 },
      record { pays = pays.1; total = total.1; premium = premium.1; reserves = reserves.1 },
    )
