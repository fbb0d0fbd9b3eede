-- What was written and the lines that are left make all lines.
use Rattle.std.proofs.Common.{◌≡◌, ◌++◌, drop, map}
use Rattle.halo_contract.specs.PlainContract.{life_names}
use Rattle.halo_status.specs.Pay.{pay_of}
use Rattle.halo_spell.specs.ContractText.{lines_text, pay_line}
use Rattle.halo_spell.proofs.lines.write_pays.Given as goal

abbrev pub invariant-loop-pay : goal.invariant-loop-pay
invariant-loop-pay l =
    l.into.items ++ lines_text (map (pay_line (life_names l.lives) l.tables.causes)
    (map pay_of (drop l.pay-index l.pays)))
    ≡ l.fn.into.items ++ lines_text (map (pay_line (life_names l.lives) l.tables.causes) (map pay_of l.pays))
