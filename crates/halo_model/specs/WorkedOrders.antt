-- Worked numbers of orders: lives of whom half leave in a year.
use Rattle.std.specs.Prelude.{◌≡◌, ℕ, Bool, true, cond, nat_eq, nat_lt, [], ◌∷◌, filter, length}
use Rattle.halo_sums.specs.Sums.{sum_over}
use Rattle.halo_model.specs.Order.{orders_taken, rank_in}
use Rattle.halo_contract.specs.declared.ties.Ties.TheVariants.{Even}
use Rattle.halo_model.specs.EvenTies.{YearNumbers, first_leaving, first_leaving_evenly}
use Rattle.halo_model.specs.OrderLaws.{exactly_before, product_by_rank}

-- of two alive one leaves and one stays; those who leave count for some lives
abbrev pub halves : (ℕ → Bool) → YearNumbers
halves counts = record { alive = λ i. 2; staying = λ i. 1; leaving = λ i. cond (counts i) 1 0 }

-- all of some first lives
abbrev pub first_lives : ℕ → ℕ → Bool
first_lives n i = nat_lt i n

-- In the declared order the second of two is the first to leave with the chance 1/4. Over all
-- orders, the first of two is with 3/8, the first of three with 7/24, and some of two with 3/4. Of
-- four lives, 1 alone of 1 and 2 comes before 0 in 4 of 24 orders. The mean of a product of 1/2 for
-- who comes before life 0 of three, else 1, is 7/12.
pub record OrderRows : Type 0 where
  pub second_of_two : first_leaving
      (halves (λ i. nat_eq i 1)) (rank_in (0 ∷ 1 ∷ [])) (0 ∷ 1 ∷ []) ≡ 1
  pub first_of_two : first_leaving_evenly 2 (halves (λ i. nat_eq i 0)) (first_lives 2) ≡ 3
  pub first_of_three : first_leaving_evenly 3 (halves (λ i. nat_eq i 0)) (first_lives 3) ≡ 14
  pub some_of_two : first_leaving_evenly 2 (halves (λ i. true)) (first_lives 2) ≡ 6
  pub one_before : length (filter (λ order. exactly_before order 0 (λ i. nat_eq i 1) (1 ∷ 2 ∷ []))
      (orders_taken Even 4)) ≡ 4
  pub mean_of_three : sum_over (orders_taken Even 3)
      (λ order. product_by_rank (λ i. 1) (λ i. 2) (rank_in order) 0 (1 ∷ 2 ∷ [])) ≡ 14
