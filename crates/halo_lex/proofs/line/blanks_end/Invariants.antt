use Rattle.std.proofs.Common.{◌≡◌, ◌-◌, ◌≤◌, length, true}
use Rattle.std.specs.List.{AllWithin}
use Rattle.halo_lex.specs.Words.{is_blank}
use Rattle.halo_lex.proofs.line.blanks_end.Given as goal

abbrev pub decreases-loop-to : goal.decreases-loop-to
decreases-loop-to l = length l.line - l.to

abbrev pub invariant-loop-to : goal.invariant-loop-to
invariant-loop-to l = record {
  forth : l.from ≤ l.to;
  within : l.to ≤ length l.line;
  pass : AllWithin (λ b. is_blank b ≡ true) l.line l.from l.to;
}
