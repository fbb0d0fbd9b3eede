-- The coefficients are the same at all times before this one.
use Rattle.std.proofs.Common.{◌≡◌, ℕ, ◌<◌, ◌≤◌}
use Rattle.halo_status.specs.Pay.{pay_of}
use Rattle.halo_status.specs.StatusTree.{tree_of}
use Rattle.halo_model.specs.Segment.{coefficients_at}
use Rattle.halo_compile.specs.Marks.{AreNamed}
use Rattle.halo_compile.proofs.segments.next_change.Given as goal

abbrev pub invariant-loop-t : goal.invariant-loop-t
invariant-loop-t l =
    (n : ℕ) → AreNamed n (tree_of l.pay.body) l.named → (t : ℕ) → l.from ≤ t → t < l.t
    → coefficients_at (pay_of l.pay) n t ≡ coefficients_at (pay_of l.pay) n l.from
