-- The chances of a year: of each life, and of one set of lives, told in the numbers of the year.
use Rattle.std.specs.Prelude.{◌≡◌, ℕ, ◌+◌, ◌-◌, ◌*◌, ◌<◌, ◌≤◌, Bool, true, List, get_or, length, pos, ◌+ℤ◌, ◌≤ℤ◌}
use Rattle.halo_sums.specs.Masks.{bits, has_bit}
use Rattle.halo_sums.specs.Sets.{in_set, size_of}
use Rattle.halo_sums.specs.Sums.{product_over}
use Rattle.halo_num.specs.Chance.{EnclosesChance}
use Rattle.halo_num.specs.Enclosure.{Encloses}
use Rattle.halo_num.specs.Ends.{Ends, HasWidth, IsWithin, fine}
use Rattle.halo_model.specs.Chance.{asked}
use Rattle.halo_model.specs.FromTables.{lives_of}
use Rattle.halo_model.specs.EvenTies.{YearNumbers, lives_in, without}
use Rattle.halo_model.specs.Order.{orders_taken}
use Rattle.halo_contract.specs.declared.ties.Ties.{Ties}
use Rattle.halo_model.specs.OrderLaws.{year_numbers}
use Rattle.halo_life.specs.Lists.{entry, nothing}
use Rattle.halo_sums.specs.Within.{is_within}
use Rattle.halo_life.specs.YearOfSets.{leavings_of_set}
use Rattle.halo_life.specs.PlainGroup.{PlainGroup}
use Rattle.halo_life.specs.declared.year.Year.{Year}
use Rattle.halo_life.specs.declared.year.YearOfLife.{YearOfLife}

-- Of some who are alive, so many leave and so many stay: both chances are enclosed. One of the two
-- comes at most, so their lower ends are at most 1 together.
pub record EnclosesYear (leave stay alive : ℕ) (year : YearOfLife) : Type 0 where
  pub leaving : EnclosesChance leave alive 1 year.leaving
  pub staying : EnclosesChance stay alive 1 year.staying
  pub together : (year.leaving.lo +ℤ year.staying.lo) ≤ℤ pos fine

-- a life's chances, by its number
abbrev pub year_at : List YearOfLife → ℕ → YearOfLife
year_at lives i = get_or lives i (record { leaving = nothing; staying = nothing })

-- the numbers of a year of a group's lives, of whom some count if they leave by some causes
abbrev pub numbers_of : PlainGroup → Year → YearNumbers
numbers_of g year =
    year_numbers (has_bit year.counted) (asked year.causes) (lives_of g.file g.lives) year.k

-- the chances of each of n lives enclose its numbers, of which no more leave and stay than are
-- alive
pub record EncloseYears (n : ℕ) (numbers : YearNumbers) (lives : List YearOfLife) : Type 0 where
  pub parts : (i : ℕ) → numbers.leaving i + numbers.staying i ≤ numbers.alive i
  pub each : (i : ℕ) → i < n
      → EnclosesYear (numbers.leaving i) (numbers.staying i) (numbers.alive i) (year_at lives i)

-- the chance that all of a set of n lives stay, with a width of 2 for each of it
abbrev pub EnclosesSurvival : ℕ → YearNumbers → ℕ → Ends → Type 0
EnclosesSurvival n numbers mask chance =
    EnclosesChance
    (product_over (lives_in n (in_set (bits n mask))) numbers.staying)
    (product_over (lives_in n (in_set (bits n mask))) numbers.alive)
    (2 * size_of (bits n mask))
    chance

-- the chance that the first of a set to leave counts, with a width of 4 for each of it
abbrev pub EnclosesLeaving : Ties → ℕ → YearNumbers → ℕ → Ends → Type 0
EnclosesLeaving ties n numbers mask chance =
    EnclosesChance
    (leavings_of_set ties n numbers (in_set (bits n mask)))
    (length (orders_taken ties n) * product_over (lives_in n (in_set (bits n mask))) numbers.alive)
    (4 * size_of (bits n mask))
    chance

-- the sets within a set that come before it have their chances in a list
abbrev pub HasSmaller : (ℕ → Ends → Type 0) → ℕ → List Ends → Type 0
HasSmaller IsChance set list =
    (part : ℕ) → part < set → is_within part set ≡ true → IsChance part (entry list part)

-- Life b as the first of a set: it leaves and counts, and the others are alive; or it stays, and
-- the first of the others to leave counts.
abbrev pub weight_as_first : Ties → ℕ → YearNumbers → (ℕ → Bool) → ℕ → ℕ
weight_as_first ties n numbers S b =
    numbers.leaving b
    * (length (orders_taken ties n) * product_over (lives_in n (without S b)) numbers.alive)
    + numbers.staying b * leavings_of_set ties n numbers (without S b)

-- the chance of that, in the parts in which those of the set are told
pub record EnclosesFirst
    (ties : Ties) (n : ℕ) (numbers : YearNumbers) (mask b : ℕ) (chance : Ends) : Type 0 where
  pub encloses : Encloses chance
      (pos (weight_as_first ties n numbers (in_set (bits n mask)) b))
      (length (orders_taken ties n)
      * product_over (lives_in n (in_set (bits n mask))) numbers.alive)
  pub narrow : HasWidth chance (4 * (size_of (bits n mask) - 1) + 3)
  pub within : IsWithin chance (pos 0) (pos (2 * fine))
  pub low : chance.lo ≤ℤ pos fine
