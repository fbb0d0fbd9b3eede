-- What was written and the lines that are left make all lines.
use Rattle.std.proofs.Common.{◌≡◌, ◌++◌, ◌+◌, drop}
use Rattle.halo_report.specs.Lines.{numbered_lines}
use Rattle.halo_report.proofs.value.write_numbered.Given as goal

abbrev pub invariant-loop-place : goal.invariant-loop-place
invariant-loop-place l =
    l.into.items ++ numbered_lines l.word (l.place + 1) (drop l.place l.list)
    ≡ l.fn.into.items ++ numbered_lines l.word 1 l.list
