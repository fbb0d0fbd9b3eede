-- The greatest so far and those that are left have the greatest of all.
use Rattle.std.proofs.Common.{◌≡◌, ◌≤◌, drop, max}
use Rattle.halo_compile.specs.Weight.{greatest_weight}
use Rattle.halo_compile.proofs.form.Form.weight.Given as goal

abbrev pub invariant-loop-i : goal.invariant-loop-i
invariant-loop-i g l =
    record {
      some : 1 ≤ l.weight;
      greatest : max l.weight (greatest_weight (drop l.i l.self-inside.segments.items))
          ≡ greatest_weight l.self-inside.segments.items;
    }
