-- The lives so far.
use Rattle.std.proofs.Common.{◌≡◌, map, take}
use Rattle.halo_value.proofs.lives.declared_lives.Given as goal

abbrev pub invariant-loop-line : goal.invariant-loop-line
invariant-loop-line l = l.lives.items ≡ map (λ line. line.life) (take l.line-index l.lines)
