-- The lives are 0, 1 and 2, and the first is a life.
use Rattle.std.proofs.Common.{ℕ, ◌+◌, ◌<◌, ◌≤◌, arith, false, refl, ◌||◌, cond, nat_eq}
use Rattle.std.specs.Prelude.{IsTrue}
use Rattle.std.proofs.lemmas.Bool.Decides.{nat_tests}
use Rattle.halo_status.proofs.Shapes.{tree_of-Life}
use Rattle.halo_chance.proofs.tests.loss_of_first_of_three.Goals as goal

three_named : (i : ℕ) → IsTrue (nat_eq i 0 || (nat_eq i 1 || (nat_eq i 2 || false))) → i < 3
three_named i h = grind (arith, nat_tests)

each_once : (i : ℕ) → cond (nat_eq i 0) 1 0 + (cond (nat_eq i 1) 1 0 + (cond (nat_eq i 2) 1 0 + 0)) ≤ 1
each_once i = grind (arith, nat_tests)

pub loss_of_mark-requires-clause-named : goal.loss_of_mark-requires-clause-named
loss_of_mark-requires-clause-named g c =
    simp (c.in_ok-members.ensures, tree_of-Life) (λ i h. omega (arith, three_named i h, c.halves.ensures.room))

pub loss_of_mark-requires-clause-once : goal.loss_of_mark-requires-clause-once
loss_of_mark-requires-clause-once g c = simp (c.in_ok-members.ensures, tree_of-Life) each_once

pub loss_of_mark-requires-clause-lasting : goal.loss_of_mark-requires-clause-lasting
loss_of_mark-requires-clause-lasting g c = simp (c.in_ok-members.ensures, tree_of-Life) tt

pub loss_of_mark-requires-clause-life : goal.loss_of_mark-requires-clause-life
loss_of_mark-requires-clause-life g c = simp (c.in_ok-members.ensures, tree_of-Life) refl
