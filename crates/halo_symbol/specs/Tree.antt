-- Statuses as they are written: trees that keep the brackets, and names and numbers as the bytes
-- that write them.
use Rattle.std.specs.Prelude.{ℕ, suc, List}

mutual
  -- one member of a list
  pub data Node : Type 0 where
    -- the life of this name
    life : List ℕ → Node
    -- `<n>`, a term of n years
    term : List ℕ → Node
    -- `bar(..)`, the last survivor of a list
    last : Members → Node
    -- `r/(..)`, at least r members of a list
    at_least : List ℕ → Members → Node
    -- `[r]/(..)`, exactly r members of a list
    exactly : List ℕ → Members → Node
    -- `(..)`, a body in brackets
    group : Body → Node

  -- a list of one or more members
  pub data Members : Type 0 where
    -- the last member
    one : Node → Members
    -- a member, and those behind it
    and : Node → Members → Members

  -- what stands in the square brackets of a symbol, in round brackets, or by itself as a status
  pub data Body : Type 0 where
    -- one list
    list : Members → Body
    -- `..|..`, the second list after the first, as a reversionary annuity is paid
    reversion : Members → Members → Body

-- how many members there are
abbrev pub member_count : Members → ℕ
member_count (one m) = 1
member_count (and m ms) = suc (member_count ms)
