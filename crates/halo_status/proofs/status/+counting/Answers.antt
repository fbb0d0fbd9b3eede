-- The parts of a status have fewer nodes than it has, and the lists in them are short.
use Rattle.std.proofs.Common.{rules, arith}
use Rattle.halo_status.specs.declared.status.Status.{the_lemmas}
use Rattle.halo_status.proofs.Lists.{nodes-list, nodes-After, short_lists}
use Rattle.halo_status.proofs.status.+counting.Goals as goal

pub Status::nodes-nodes-requires : goal.Status::nodes-nodes-requires
Status::nodes-nodes-requires t c =
    (search (rules, the_lemmas), rw c.deref.ensures (omega (arith, nodes-After _ _ _ c.in-After.is)))

pub Status::nodes-nodes-requires-in-After : goal.Status::nodes-nodes-requires-in-After
Status::nodes-nodes-requires-in-After t c =
    (search (rules, the_lemmas), rw c.deref-in-After.ensures (omega (arith, nodes-After _ _ _ c.in-After.is)))

pub Status::nodes-nodes_of-requires : goal.Status::nodes-nodes_of-requires
Status::nodes-nodes_of-requires t c =
    (search (rules, the_lemmas), rw c.as_slice.ensures.items (omega (arith, nodes-list _ _ c.in-Joint.is)))

pub Status::nodes-returns-in-Joint-clause-lists : goal.Status::nodes-returns-in-Joint-clause-lists
Status::nodes-returns-in-Joint-clause-lists t c =
    short_lists _ _ c.as_slice.ensures.short (rw c.as_slice.ensures.items at c.nodes_of.ensures.lists) c.in-Joint.is
