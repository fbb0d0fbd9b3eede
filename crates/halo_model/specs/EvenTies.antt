-- Lives that leave in one year in each order with equal chance: the numbers of a year, and the sums
-- over all orders.
use Rattle.std.specs.Prelude.{ℕ, zero, suc, ◌*◌, Bool, cond, not, ◌&&◌, nat_eq, nat_lt, List, filter}
use Rattle.halo_sums.specs.Sums.{numbers_from, product_over, sum_over}
use Rattle.halo_model.specs.Order.{orders_taken, rank_in}
use Rattle.halo_contract.specs.declared.ties.Ties.TheVariants.{Even}

-- n!
abbrev pub factorial : ℕ → ℕ
factorial zero = 1
factorial (suc n) = suc n * factorial n

-- those of n lives that are in a set
abbrev pub lives_in : ℕ → (ℕ → Bool) → List ℕ
lives_in n S = filter S (numbers_from 0 n)

-- a set without a life
abbrev pub without : (ℕ → Bool) → ℕ → ℕ → Bool
without S b i = S i && not (nat_eq i b)

-- The numbers of a year for each life: those who are alive at its beginning, those of them who stay
-- to its end, and those who leave in it by one of the causes that are asked for.
pub record YearNumbers : Type 0 where
  pub alive : ℕ → ℕ
  pub staying : ℕ → ℕ
  pub leaving : ℕ → ℕ

-- where life a leaves: who leave for itself, who stay for a life that comes before it, and who are
-- alive for the others
abbrev pub number_at : YearNumbers → (ℕ → ℕ) → ℕ → ℕ → ℕ
number_at y rank a i =
    cond (nat_eq i a) (y.leaving i) (cond (nat_lt (rank i) (rank a)) (y.staying i) (y.alive i))

-- The weight with which, of some lives that are all alive at the beginning of a year, the first
-- that leaves in it leaves by one of the causes: the sum over the lives of the weight with which
-- the life leaves and those before it stay. Each life is of the weight of those alive, so the
-- weight of all is the product of these.
abbrev pub first_leaving : YearNumbers → (ℕ → ℕ) → List ℕ → ℕ
first_leaving y rank lives = sum_over lives (λ a. product_over lives (number_at y rank a))

-- the same over all orders of n lives, for those in a set
unfoldable pub first_leaving_evenly : ℕ → YearNumbers → (ℕ → Bool) → ℕ
first_leaving_evenly n y S =
    sum_over (orders_taken Even n) (λ order. first_leaving y (rank_in order) (lives_in n S))
