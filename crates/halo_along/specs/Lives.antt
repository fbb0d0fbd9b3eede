-- The chances of the lives of a group at a time.
use Rattle.std.specs.Prelude.{ℕ, ◌<◌, List}
use Rattle.halo_sums.specs.Masks.{has_bit}
use Rattle.halo_num.specs.Ends.{Ends}
use Rattle.halo_num.specs.Chance.{EnclosesChance}
use Rattle.halo_model.specs.FromTables.{lives_of}
use Rattle.halo_model.specs.Independent.{started_of, survivors_of}
use Rattle.halo_life.specs.PlainGroup.{PlainGroup}
use Rattle.halo_chance.specs.Enclosed.{entry_at}

-- the entries of the first so many lives enclose their chances to be alive at time t, each at most
-- 1 wide
unfoldable pub EncloseSurvival : PlainGroup → ℕ → ℕ → List Ends → Type 0
EncloseSurvival group t count entries = (i : ℕ) → i < count →
    EnclosesChance
    (survivors_of (λ j. t) (has_bit group.alive) (lives_of group.file group.lives) i)
    (started_of group.start (has_bit group.alive) (lives_of group.file group.lives) i)
    1
    (entry_at entries i)
