-- Laws of statuses.
use Rattle.std.specs.Prelude.{◌≡◌, ℕ, ◌≤◌, Bool, false}
use Rattle.halo_status.specs.Tree.{Tree}
use Rattle.halo_status.specs.Exists.{exists, IsSubset, empty_set}
use Rattle.halo_status.specs.Nodes.{HasPositiveRanks, HasShortLists, IsLasting}
use Rattle.halo_status.specs.View.{is_on}
use Rattle.halo_status.specs.declared.view.View.{View}

-- a lasting status that does not exist does not exist with fewer lives or fewer terms
abbrev pub LastingFallsOnce : Type 0
LastingFallsOnce = (alive still_alive on still_on : ℕ → Bool) (s : Tree) → IsLasting s
    → IsSubset still_alive alive → IsSubset still_on on
    → exists alive on s ≡ false → exists still_alive still_on s ≡ false

-- a lasting status that does not exist at a time does not exist later, when no more lives are there
abbrev pub LastingStaysFallen : Type 0
LastingStaysFallen = (alive still_alive : ℕ → Bool) (view : View) (t later : ℕ) (s : Tree)
    → IsLasting s → IsSubset still_alive alive → t ≤ later
    → exists alive (is_on view t) s ≡ false → exists still_alive (is_on view later) s ≡ false

-- a status whose ranks are at least 1 does not exist with no life there and no term on
abbrev pub NobodyThere : Type 0
NobodyThere = (s : Tree) → HasShortLists s → HasPositiveRanks s
    → exists empty_set empty_set s ≡ false
