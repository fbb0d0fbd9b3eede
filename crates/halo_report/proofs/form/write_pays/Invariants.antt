-- What was written and the lines of the pays that are left make all lines.
use Rattle.std.proofs.Common.{◌≡◌, ◌++◌, drop, map}
use Rattle.halo_status.specs.Pay.{pay_of}
use Rattle.halo_contract.specs.PlainContract.{life_names}
use Rattle.halo_report.specs.FormText.{form_lines}
use Rattle.halo_report.specs.PaysText.{pays_lines}
use Rattle.halo_report.proofs.form.write_pays.Given as goal

abbrev pub invariant-loop-place : goal.invariant-loop-place
invariant-loop-place g l =
    l.into.items
    ++ pays_lines (life_names l.lives) l.tables.causes (form_lines (life_names l.lives) l.forms) l.place
    (map pay_of (drop l.place l.pays))
    ≡ l.fn.into.items
    ++ pays_lines (life_names l.lives) l.tables.causes (form_lines (life_names l.lives) l.forms) 0 (map pay_of l.pays)
