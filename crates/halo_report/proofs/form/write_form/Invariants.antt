-- What was written and the lines that are left make all lines.
use Rattle.std.proofs.Common.{◌≡◌, ◌++◌, drop}
use Rattle.halo_contract.specs.PlainContract.{life_names}
use Rattle.halo_report.specs.FormText.{segment_lines}
use Rattle.halo_report.proofs.form.write_form.Given as goal

abbrev pub invariant-loop-segment : goal.invariant-loop-segment
invariant-loop-segment g l =
    l.into.items ++ segment_lines (life_names l.lives) (drop l.segment-index l.form)
    ≡ l.fn.into.items ++ segment_lines (life_names l.lives) l.form
