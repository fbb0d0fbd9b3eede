-- How deep round brackets nest.
use Rattle.std.specs.Prelude.{ℕ, suc, max}
use Rattle.halo_symbol.specs.Tree.{Node, life, term, last, at_least, exactly, group, Members, one, and, Body, list, reversion}

abbrev mutual
  -- those of a member
  pub nest : Node → ℕ
  nest (life name) = 0
  nest (term years) = 0
  nest (last ms) = suc (nest_members ms)
  nest (at_least rank ms) = suc (nest_members ms)
  nest (exactly rank ms) = suc (nest_members ms)
  nest (group body) = suc (nest_body body)

  -- those of a list
  pub nest_members : Members → ℕ
  nest_members (one m) = nest m
  nest_members (and m ms) = max (nest m) (nest_members ms)

  -- those of a body
  pub nest_body : Body → ℕ
  nest_body (list ms) = nest_members ms
  nest_body (reversion ms ns) = max (nest_members ms) (nest_members ns)
