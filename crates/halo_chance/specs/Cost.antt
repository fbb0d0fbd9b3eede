-- How many products the chance of a status costs, by its nodes.
use Rattle.std.specs.Prelude.{ℕ, ◌+◌, ◌*◌, ◌≤◌}

-- of a counter before and after, for a status of so many nodes within one that has at most `most`
unfoldable pub CostsTree : ℕ → ℕ → ℕ → Type 0
CostsTree old new nodes = (most : ℕ) → nodes ≤ most → new + 2 * most ≤ old + 2 * most * nodes

-- for members of so many nodes, of a list that has so many in all
unfoldable pub CostsMembers : ℕ → ℕ → ℕ → ℕ → Type 0
CostsMembers old new nodes all = (most : ℕ) → all + 1 ≤ most → new ≤ old + 2 * most * nodes
