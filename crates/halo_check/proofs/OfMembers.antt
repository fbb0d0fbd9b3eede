-- Facts of the members of a joint status.
use Rattle.std.proofs.Common.{◌≢◌, refl}
use Rattle.halo_status.specs.Tree.{Tree, Trees, life, term, joint, last, at_least, exactly, after}
use Rattle.halo_check.specs.Checks.{OfMembers}

pub of_no_joint : (P : Trees → Type 0) (t : Tree) → ((ms : Trees) → t ≢ joint ms) → OfMembers P t
of_no_joint P (life i) none = tt
of_no_joint P (term n) none = tt
of_no_joint P (joint ms) none = absurd (none ms refl)
of_no_joint P (last ms) none = tt
of_no_joint P (at_least r ms) none = tt
of_no_joint P (exactly r ms) none = tt
of_no_joint P (after s t) none = tt
