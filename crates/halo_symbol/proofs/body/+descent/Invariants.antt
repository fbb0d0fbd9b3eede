use Rattle.std.proofs.Common.{◌≡◌, ◌≤◌, ◌+◌, ◌*◌, length}
use Rattle.halo_symbol.specs.Nesting.{nest_members}
use Rattle.halo_symbol.specs.Pieces.{members_pieces}
use Rattle.halo_symbol.specs.View.{plain_members}
use Rattle.halo_symbol.proofs.body.+descent.Given as goal

abbrev pub decreases-bracketed : goal.decreases-bracketed
decreases-bracketed l = 5 * l.depth

abbrev pub decreases-group : goal.decreases-group
decreases-group l = 5 * l.depth

abbrev pub decreases-node : goal.decreases-node
decreases-node l = 5 * l.depth + 1

abbrev pub decreases-more_members : goal.decreases-more_members
decreases-more_members l = 5 * l.depth + 2

abbrev pub decreases-members : goal.decreases-members
decreases-members l = 5 * l.depth + 3

abbrev pub decreases-body : goal.decreases-body
decreases-body l = 5 * l.depth + 4

abbrev pub invariant-more_members-loop-alloc : goal.invariant-more_members-loop-alloc
invariant-more_members-loop-alloc l = record {
  read : members_pieces (plain_members l.initial.members) l.initial.reader
      ≡ members_pieces (plain_members l.members) l.reader;
  deep : nest_members (plain_members l.members) ≤ l.depth;
}

abbrev pub decreases-more_members-loop-alloc : goal.decreases-more_members-loop-alloc
decreases-more_members-loop-alloc l = length l.reader
