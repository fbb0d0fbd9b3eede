-- The laws of statuses that are read once: the chance along the tree is the chance.
use Rattle.std.specs.Prelude.{◌≡◌, ℕ, ◌≤◌, Bool, List, length, pos, ◌*ℤ◌}
use Rattle.halo_sums.specs.Sums.{indicator, numbers_from, product_over}
use Rattle.halo_sums.specs.Sets.{in_set}
use Rattle.halo_status.specs.Tree.{Tree}
use Rattle.halo_status.specs.Exists.{exists}
use Rattle.halo_status.specs.Naming.{NamesLivesBelow}
use Rattle.halo_status.specs.ReadOnce.{IsReadOnce}
use Rattle.halo_model.specs.Life.{AreLives, PlainLife}
use Rattle.halo_model.specs.Outcome.{joint_survivors}
use Rattle.halo_model.specs.There.{there_at}
use Rattle.halo_model.specs.Expectation.{expected}
use Rattle.halo_model.specs.ByTree.{weight_of, whole_of}
use Rattle.halo_model.specs.Independent.{existence_weight, started_of, survivors_of}

-- a chance for each life
abbrev pub AreChances : (ℕ → ℕ) → (ℕ → ℕ) → Type 0
AreChances n d = (i : ℕ) → n i ≤ d i

-- of independent lives: the sum over all sets of them is the weight along the tree, where no life
-- stands in it twice
abbrev pub ExistenceByTree : Type 0
ExistenceByTree = (count : ℕ) (n d : ℕ → ℕ)
    → AreChances n d → (on : ℕ → Bool) (s : Tree) → IsReadOnce s → NamesLivesBelow count s
    → pos (whole_of d s) *ℤ existence_weight count n d on s
    ≡ pos (weight_of n d on s) *ℤ pos (product_over (numbers_from 0 count) d)

-- over the outcomes of lives, each looked at at a time of its own
abbrev pub ExpectedByTree : Type 0
ExpectedByTree = (times : ℕ → ℕ) (T : ℕ)
    → ((i : ℕ) → T ≤ times i) → (S : ℕ → Bool) (lives : List PlainLife) → AreLives lives
    → (on : ℕ → Bool) (s : Tree) → IsReadOnce s → NamesLivesBelow (length lives) s
    → pos (whole_of (started_of T S lives) s)
    *ℤ expected T S lives (λ o. indicator (exists (in_set (there_at times o)) on s))
    ≡ pos (weight_of (survivors_of times S lives) (started_of T S lives) on s)
    *ℤ pos (joint_survivors T S lives)
