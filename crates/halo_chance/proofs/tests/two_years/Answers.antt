-- The life is 0.
use Rattle.std.proofs.Common.{ℕ, ◌<◌, arith, false, ◌||◌, nat_eq}
use Rattle.std.specs.Prelude.{IsTrue}
use Rattle.std.proofs.lemmas.Bool.Decides.{nat_tests}
use Rattle.halo_status.proofs.Shapes.{tree_of-Joint, tree_of-Life, tree_of-Term}
use Rattle.halo_chance.proofs.tests.two_years.Goals as goal

one_named : (i : ℕ) → IsTrue (nat_eq i 0 || (false || false)) → i < 3
one_named i h = grind (arith, nat_tests)

pub returns-clause-named : goal.returns-clause-named
returns-clause-named c = simp (tree_of-Joint, c.in_ok-members.ensures, tree_of-Life, tree_of-Term) one_named
