-- What was written and the lines that are left make all lines.
use Rattle.std.proofs.Common.{◌≡◌, ◌++◌, drop, map}
use Rattle.halo_contract.specs.PlainContract.{life_names}
use Rattle.halo_spell.specs.ContractText.{lines_text, reserve_line}
use Rattle.halo_spell.proofs.lines.write_reserves.Given as goal

abbrev pub invariant-loop-reserve : goal.invariant-loop-reserve
invariant-loop-reserve l =
    l.into.items ++ lines_text (map (reserve_line (life_names l.lives)) (drop l.reserve-index l.reserves))
    ≡ l.fn.into.items ++ lines_text (map (reserve_line (life_names l.lives)) l.reserves)
