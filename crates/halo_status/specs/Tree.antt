-- Statuses as plain trees: what a contract's symbol writes in its brackets, without memory or
-- numbers of fixed width.
use Rattle.std.specs.Prelude.{ℕ, zero, suc, ◌+◌, Option, Some, None}

-- a status of the lives and terms of a contract
mutual
  pub data Tree : Type 0 where
    -- the life of a number, a status (x)
    life : ℕ → Tree
    -- so many years from the start of the contract
    term : ℕ → Tree
    -- all of its members, a joint-life status (x:y)
    joint : Trees → Tree
    -- at least one of its members, a last-survivor status, the bar over x:y
    last : Trees → Tree
    -- at least r of its members, the r-survivor status r/(x:y:z), the books' k-survivor status
    at_least : ℕ → Trees → Tree
    -- exactly r of its members, the deferred r-survivor status [r]/(x:y:z)
    exactly : ℕ → Trees → Tree
    -- the second after the first has failed, a reversion u|w, as a reversionary annuity is paid
    after : Tree → Tree → Tree

  -- the members of a status, in their order
  pub data Trees : Type 0 where
    none : Trees
    more : Tree → Trees → Trees

-- how many members there are
abbrev pub member_count : Trees → ℕ
member_count none = 0
member_count (more s ms) = member_count ms + 1

-- the member at a place, counted from 0
abbrev pub member_at : Trees → ℕ → Option Tree
member_at none place = None
member_at (more s ms) zero = Some s
member_at (more s ms) (suc place) = member_at ms place
