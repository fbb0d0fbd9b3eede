-- The lives of a status are found in its parts, and each has a number below 16 because those of the whole do.
use Rattle.std.proofs.Common.{rules, eq-eqb, refl}
use Rattle.halo_status.specs.declared.status.Status.{the_lemmas}
use Rattle.halo_status.proofs.LivesNamed.{names_below_first, names_below_second, names_below_members, names_below_member, both_lives, more_lives}
use Rattle.halo_status.proofs.Masks.{has_bit-shl}
use Rattle.halo_status.proofs.Shapes.{tree_of-Life}
use Rattle.halo_status.proofs.status.+naming_lives.Goals as goal

pub Status::lives-overflow_shl-result : goal.Status::lives-overflow_shl-result
Status::lives-overflow_shl-result t c = c.requires _ (rw (c.in-Life.is, tree_of-Life) (eq-eqb _ _ refl))

pub Status::lives-lives-requires : goal.Status::lives-lives-requires
Status::lives-lives-requires t c =
    (search (rules, the_lemmas), rw c.deref.ensures (names_below_first _ _ _ _ c.in-After.is c.requires))

pub Status::lives-lives-requires-in-After : goal.Status::lives-lives-requires-in-After
Status::lives-lives-requires-in-After t c =
    (search (rules, the_lemmas), rw c.deref-in-After.ensures (names_below_second _ _ _ _ c.in-After.is c.requires))

pub Status::lives-lives_of-requires : goal.Status::lives-lives_of-requires
Status::lives-lives_of-requires t c =
    (search (rules, the_lemmas), rw c.as_slice.ensures.items (names_below_members _ _ _ c.in-Joint.is c.requires))

pub Status::lives-returns-in-Life : goal.Status::lives-returns-in-Life
Status::lives-returns-in-Life t c =
    λ i. rw (c.in-Life.is, tree_of-Life) (has_bit-shl _ i
    (c.requires _ (rw (c.in-Life.is, tree_of-Life) (eq-eqb _ _ refl))))

pub Status::lives-returns-in-After : goal.Status::lives-returns-in-After
Status::lives-returns-in-After t c =
    both_lives _ _ _ _ _ c.in-After.is (rw c.deref.ensures at c.lives.ensures)
    (rw c.deref-in-After.ensures at c.lives-in-After.ensures)

pub lives_of-lives-lives-requires : goal.lives_of-lives-lives-requires
lives_of-lives-lives-requires t c = (
  search (rules, the_lemmas),
  names_below_member _ _ _ _ c.loop-member-test.true c.member-item.is
      c.loop-member.invariant _ c.requires,
)

pub lives_of-loop-member-preserved : goal.lives_of-loop-member-preserved
lives_of-loop-member-preserved t c =
    more_lives _ _ _ _ c.loop-member-test.true c.member-item.is c.loop-member.invariant _ c.lives-lives.ensures
