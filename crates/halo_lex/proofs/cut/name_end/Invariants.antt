use Rattle.std.proofs.Common.{◌≡◌, ◌-◌, ◌≤◌, length, true}
use Rattle.std.specs.List.{AllWithin}
use Rattle.halo_text.specs.Name.{is_name_byte}
use Rattle.halo_lex.proofs.cut.name_end.Given as goal

abbrev pub decreases-loop-to : goal.decreases-loop-to
decreases-loop-to l = length l.word - l.to

abbrev pub invariant-loop-to : goal.invariant-loop-to
invariant-loop-to l = record {
  forth : l.from ≤ l.to;
  within : l.to ≤ length l.word;
  pass : AllWithin (λ b. is_name_byte b ≡ true) l.word l.from l.to;
}
