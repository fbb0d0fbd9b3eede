-- Which way the values of a pay are found: along the tree of its body, or in a pass over the sets
-- of the lives that it names.
use Rattle.std.specs.Prelude.{ℕ, ◌+◌, ◌*◌, ◌^◌, ◌≤◌}
use Rattle.halo_status.specs.Nodes.{nodes}
use Rattle.halo_status.specs.Pay.{pay_of}
use Rattle.halo_status.specs.ReadOnce.{IsReadOnce}
use Rattle.halo_model.specs.Counts.{lives_named}
use Rattle.halo_along.specs.Along.{FollowsTheTree, PaysByItsBody}
use Rattle.halo_along.specs.declared.tree_task.TreeTask.{TreeTask}

-- the most products of one value in a year along a tree of m nodes, of a pay that falls due by its
-- body alone: 2 (m + 1)²
abbrev pub products_by_body : {n : ℕ} → TreeTask n → ℕ
products_by_body along = 2 * (nodes (pay_of along.pay.now).body + 1) ^ 2

-- and of any other, for the leavings of the n lives that the body names and the ends of its terms:
-- 2 (n + 1) times as many
abbrev pub products_by_events : {n : ℕ} → TreeTask n → ℕ
products_by_events {n} along =
    2 * (lives_named n (pay_of along.pay.now).body + 1) * products_by_body along

-- the most products of a year in a pass over the sets of these lives, for all values: 4 * 2^n
abbrev pub products_by_sets : {n : ℕ} → TreeTask n → ℕ
products_by_sets {n} along = 4 * 2 ^ lives_named n (pay_of along.pay.now).body

-- so many values take no more products along the tree than in a pass
pub record IsCheaperAlong {n : ℕ} (along : TreeTask n) (values : ℕ) : Type 0 where
  pub by_body : PaysByItsBody along.pay.now
      → values * products_by_body along ≤ products_by_sets along
  pub by_events : (PaysByItsBody along.pay.now → ⊥)
      → values * products_by_events along ≤ products_by_sets along

-- so many values of a pay are found along its tree
pub record GoesAlong {n : ℕ} (along : TreeTask n) (values : ℕ) : Type 0 where
  pub follows : FollowsTheTree along
  pub cheaper : IsCheaperAlong along values
  pub once : IsReadOnce (pay_of along.pay.now).body
