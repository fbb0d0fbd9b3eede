use Rattle.std.proofs.Common.{map}
use Rattle.halo_check.proofs.Apart.{AreApart}
use Rattle.halo_check.proofs.declared.are_different.Given as goal

abbrev pub invariant-loop-name : goal.invariant-loop-name
invariant-loop-name l = AreApart (map (λ name. name.now) l.names) l.name-index l.earlier
