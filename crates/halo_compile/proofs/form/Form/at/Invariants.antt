use Rattle.std.proofs.Common.{ℕ, ◌<◌}
use Rattle.halo_compile.specs.Form.{HasTime}
use Rattle.halo_compile.proofs.form.Form.at.Given as goal

abbrev pub invariant-loop-segment : goal.invariant-loop-segment
invariant-loop-segment g l = (k : ℕ) → k < l.segment-index → HasTime l.self l.t k → ⊥
