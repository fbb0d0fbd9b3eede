use Rattle.std.proofs.Common.{◌-◌, length}
use Rattle.halo_lex.proofs.Cutting.{CutsUpTo}
use Rattle.halo_lex.proofs.cut.symbol_tokens.Given as goal

abbrev pub decreases-loop-from : goal.decreases-loop-from
decreases-loop-from l = length l.word - l.from

abbrev pub invariant-loop-from : goal.invariant-loop-from
invariant-loop-from l = CutsUpTo l.word l.found.items l.from
