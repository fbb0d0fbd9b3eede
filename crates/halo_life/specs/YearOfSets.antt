-- The chances of a year for sets of lives that are all alive at its start.
use Rattle.std.specs.Prelude.{◌≡◌, ℕ, suc, ◌*◌, ◌^◌, ◌<◌, Bool, true, List, length}
use Rattle.halo_sums.specs.Masks.{bits, has_bit}
use Rattle.halo_sums.specs.Sets.{in_set, size_of}
use Rattle.halo_sums.specs.Sums.{sum_over}
use Rattle.halo_num.specs.Chance.{EnclosesChance}
use Rattle.halo_num.specs.Ends.{Ends}
use Rattle.halo_model.specs.EvenTies.{YearNumbers, first_leaving, lives_in}
use Rattle.halo_model.specs.Life.{PlainLife}
use Rattle.halo_model.specs.Order.{orders_taken, rank_in}
use Rattle.halo_contract.specs.declared.ties.Ties.{Ties}
use Rattle.halo_contract.specs.declared.ties.Ties.TheVariants.{Even, Declared}
use Rattle.halo_model.specs.OrderLaws.{year_numbers}
use Rattle.halo_model.specs.Outcome.{joint_survivors}
use Rattle.halo_life.specs.Lists.{entry}
use Rattle.halo_sums.specs.Within.{is_within}

-- the list encloses, for each set of n lives within another, the chance that all of the set, alive
-- at k, are alive at k + 1, with a width of 2 for each life of the set
-- p_(x:y) = p_x · p_y
abbrev pub EncloseSurvivals : ℕ → List PlainLife → ℕ → ℕ → List Ends → Type 0
EncloseSurvivals n lives k named list = (mask : ℕ) → mask < 2 ^ n → is_within mask named ≡ true
    → EnclosesChance
    (joint_survivors (suc k) (in_set (bits n mask)) lives)
    (joint_survivors k (in_set (bits n mask)) lives)
    (2 * size_of (bits n mask))
    (entry list mask)

-- of a set of n lives that are alive at the start of a year: the weight with which the first of it
-- to leave counts, added up over the orders taken
abbrev pub leavings_of_set : Ties → ℕ → YearNumbers → (ℕ → Bool) → ℕ
leavings_of_set ties n year S =
    sum_over (orders_taken ties n) (λ order. first_leaving year (rank_in order) (lives_in n S))

-- the list encloses, for each set of n lives within another, the chance that of the set, alive at
-- k, the first to leave in year k leaves by one of some causes and is one of the lives counted,
-- with a width of 4 for each life of the set
abbrev pub EncloseLeavings : Ties → ℕ → List PlainLife → ℕ → ℕ → ℕ → (ℕ → Bool) → List Ends → Type 0
EncloseLeavings ties n lives k named counted causes list = (mask : ℕ)
    → mask < 2 ^ n → is_within mask named ≡ true
    → EnclosesChance
    (leavings_of_set ties n (year_numbers (has_bit counted) causes lives k) (in_set (bits n mask)))
    (length (orders_taken ties n) * joint_survivors k (in_set (bits n mask)) lives)
    (4 * size_of (bits n mask))
    (entry list mask)

-- the products that these chances of all sets of n lives take at most: one for a set in the
-- declared order, and one for each life of it where all orders are taken
abbrev pub products_of_leavings : Ties → ℕ → ℕ
products_of_leavings Declared n = 2 ^ n
products_of_leavings Even n = n * 2 ^ n
