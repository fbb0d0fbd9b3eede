-- What was written and the lines that are left make all lines.
use Rattle.std.proofs.Common.{◌≡◌, ◌++◌, drop}
use Rattle.std.specs.Prelude.{flat_map}
use Rattle.halo_contract.specs.PlainContract.{life_names}
use Rattle.halo_report.specs.ExplainText.{part_line}
use Rattle.halo_report.proofs.explain.write_parts.Given as goal

abbrev pub invariant-loop-part : goal.invariant-loop-part
invariant-loop-part l =
    l.into.items ++ flat_map (part_line (life_names l.lives)) (drop l.part-index l.parts)
    ≡ l.fn.into.items ++ flat_map (part_line (life_names l.lives)) l.parts
