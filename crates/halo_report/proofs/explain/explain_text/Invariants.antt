-- What was written and the lines of the pays that are left make all lines.
use Rattle.std.proofs.Common.{◌≡◌, ◌++◌, drop, map}
use Rattle.halo_status.specs.Pay.{pay_of}
use Rattle.halo_contract.specs.PlainContract.{contract_of, life_names}
use Rattle.halo_lines.specs.Parts.{parts_of}
use Rattle.halo_report.specs.ExplainText.{explain_text, part_lines}
use Rattle.halo_report.specs.PaysText.{pays_lines}
use Rattle.halo_report.proofs.explain.explain_text.Given as goal

abbrev pub invariant-loop-place : goal.invariant-loop-place
invariant-loop-place l =
    l.text.items
    ++ pays_lines (life_names l.contract.lives.items) l.tables.causes
    (part_lines (life_names l.contract.lives.items) (parts_of l.parts)) l.place
    (map pay_of (drop l.place l.contract.pays.items))
    ≡ explain_text l.tables (contract_of l.contract) (parts_of l.parts)
