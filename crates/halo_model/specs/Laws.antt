-- The laws of lives and outcomes.
use Rattle.std.specs.Prelude.{◌≡◌, ℕ, ◌≤◌, All, Bool, List, length, ℤ, ◌*ℤ◌}
use Rattle.halo_sums.specs.Sums.{int_sum_over, sum_over}
use Rattle.halo_sums.specs.Sets.{sets}
use Rattle.halo_sums.specs.Coefficients.{coefficient}
use Rattle.halo_table.specs.DecrementTable.{TableFile, HasRow}
use Rattle.halo_table.specs.Sound.{IsSound}
use Rattle.halo_table.specs.declared.lives.Life.{Life}
use Rattle.halo_model.specs.Life.{AreLives, PlainLife}
use Rattle.halo_model.specs.FromTables.{lives_of}
use Rattle.halo_model.specs.Outcome.{joint_survivors, outcomes, weight}
use Rattle.halo_model.specs.There.{there_at}
use Rattle.halo_model.specs.Expectation.{all_there, exactly_there, expected}

-- lives that have rows in the tables of a file without fault keep the rule of a decrement table
abbrev pub LivesOfTablesKeepTheRule : Type 0
LivesOfTablesKeepTheRule = (file : TableFile) → IsSound file → (lives : List Life)
    → All (λ life. HasRow file life.table life.age) lives → AreLives (lives_of file lives)

-- the weights of all outcomes from T with the lives of S add up to the joint survivors
abbrev pub WeightsAddUp : Type 0
WeightsAddUp = (T : ℕ) (S : ℕ → Bool) (lives : List PlainLife) → AreLives lives
    → sum_over (outcomes T S lives) (λ o. weight lives o) ≡ joint_survivors T S lives

-- The sum over outcomes of weight times a function of the lives that are there, each life i at a
-- time `times i` from T on. It is the sum over all sets of lives of the function times the weight
-- with which exactly the set is there ..
abbrev pub ExpectedBySets : Type 0
ExpectedBySets = (times : ℕ → ℕ) (T : ℕ) → ((i : ℕ) → T ≤ times i)
    → (S : ℕ → Bool) (lives : List PlainLife) → AreLives lives → (f : List Bool → ℤ)
    → expected T S lives (λ o. f (there_at times o))
    ≡ int_sum_over (sets (length lives)) (λ u. exactly_there times T S lives u *ℤ f u)

-- .. and the sum of the coefficient times the weight with which at least the set is there
abbrev pub ExpectedByCoefficients : Type 0
ExpectedByCoefficients = (times : ℕ → ℕ) (T : ℕ) → ((i : ℕ) → T ≤ times i)
    → (S : ℕ → Bool) (lives : List PlainLife) → AreLives lives → (f : List Bool → ℤ)
    → expected T S lives (λ o. f (there_at times o))
    ≡ int_sum_over (sets (length lives)) (λ s. coefficient f s *ℤ all_there times T S lives s)
