-- The lives are 0, 1 and 2.
use Rattle.std.proofs.Common.{ℕ, ◌<◌, arith, false, ◌||◌, nat_eq}
use Rattle.std.specs.Prelude.{IsTrue}
use Rattle.std.proofs.lemmas.Bool.Decides.{nat_tests}
use Rattle.halo_status.proofs.Shapes.{tree_of-Life}
use Rattle.halo_chance.proofs.tests.first_of_three.Goals as goal

three_named : (i : ℕ) → IsTrue (nat_eq i 0 || (nat_eq i 1 || (nat_eq i 2 || false))) → i < 3
three_named i h = grind (arith, nat_tests)

pub chance_of_mark-requires-clause-named : goal.chance_of_mark-requires-clause-named
chance_of_mark-requires-clause-named g c =
    simp (c.in_ok-members.ensures, tree_of-Life) (λ i h. omega (arith, three_named i h, c.halves.ensures.room))
