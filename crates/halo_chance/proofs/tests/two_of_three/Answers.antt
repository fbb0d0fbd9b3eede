-- The lives are 0, 1 and 2.
use Rattle.std.proofs.Common.{ℕ, ◌<◌, arith, false, ◌||◌, nat_eq}
use Rattle.std.specs.Prelude.{IsTrue}
use Rattle.std.proofs.lemmas.Bool.Decides.{nat_tests}
use Rattle.halo_status.proofs.Shapes.{tree_of-AtLeast, tree_of-Life}
use Rattle.halo_chance.proofs.tests.two_of_three.Goals as goal

three_named : (i : ℕ) → IsTrue (nat_eq i 0 || (nat_eq i 1 || (nat_eq i 2 || false))) → i < 3
three_named i h = grind (arith, nat_tests)

pub returns : goal.returns
returns c = simp (tree_of-AtLeast, c.in_ok-members.ensures, tree_of-Life) three_named
