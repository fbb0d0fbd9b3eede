-- The laws of sums over all orders.
use Rattle.std.specs.Prelude.{◌≡◌, ℕ, zero, suc, ◌+◌, ◌-◌, ◌*◌, ◌<◌, All, Bool, true, false, cond, not, nat_lt, List, [], ◌∷◌, filter, get_or, length, pos}
use Rattle.std.specs.List.{list_all}
use Rattle.halo_sums.specs.Sums.{int_sum_over, numbers_from, product_over, sum_over}
use Rattle.halo_sums.specs.Choices.{choose}
use Rattle.halo_sums.specs.Sets.{in_set}
use Rattle.halo_model.specs.Life.{PlainLife, leavers_by}
use Rattle.halo_model.specs.Order.{orders_taken, rank_in}
use Rattle.halo_contract.specs.declared.ties.Ties.{Ties}
use Rattle.halo_contract.specs.declared.ties.Ties.TheVariants.{Even}
use Rattle.halo_model.specs.EvenTies.{YearNumbers, factorial, first_leaving, first_leaving_evenly, lives_in, without}
use Rattle.halo_model.specs.Expectation.{all_there_at_leaving, looked_at}

-- whether of some lives exactly those of a set come before life a in an order
abbrev pub exactly_before : List ℕ → ℕ → (ℕ → Bool) → List ℕ → Bool
exactly_before order a early lives = list_all
    (λ i. cond (nat_lt (rank_in order i) (rank_in order a)) (early i) (not (early i))) lives

-- Of n lives, a one of them, S a set of s others and J a subset of it with j lives: the orders in
-- which, of the lives of S, exactly those of J come before a, times (s + 1) C(s, j), are n!.
abbrev pub OrdersCounted : Type 0
OrdersCounted = (n a : ℕ)
    → a < n → (S J : ℕ → Bool) → S a ≡ false → ((i : ℕ) → J i ≡ true → S i ≡ true)
    → length (filter (λ order. exactly_before order a J (lives_in n S)) (orders_taken Even n))
    * (suc (length (lives_in n S)) * choose (length (lives_in n S)) (length (lives_in n J)))
    ≡ factorial n

-- the product over some lives of one number for each that comes before life a by the ranks, and of
-- another for each other
abbrev pub product_by_rank : (ℕ → ℕ) → (ℕ → ℕ) → (ℕ → ℕ) → ℕ → List ℕ → ℕ
product_by_rank early late rank a lives =
    product_over lives (λ i. cond (nat_lt (rank i) (rank a)) (early i) (late i))

-- the sum, over all choices of j of some lives, of the product of one number over those chosen and
-- of another over the others
abbrev pub sum_of_choices : (ℕ → ℕ) → (ℕ → ℕ) → List ℕ → ℕ → ℕ
sum_of_choices early late [] zero = 1
sum_of_choices early late [] (suc j) = 0
sum_of_choices early late (i ∷ lives) zero = late i * sum_of_choices early late lives zero
sum_of_choices early late (i ∷ lives) (suc j) =
    early i * sum_of_choices early late lives j + late i * sum_of_choices early late lives (suc j)

-- The mean over all orders of such a product, for s lives besides a: a choice of j of them comes
-- before a, and no other does, with the chance 1 / ((s + 1) C(s, j)). Both sides are told in parts
-- of which 1 has n! (s + 1)!.
abbrev pub MeanOverOrders : Type 0
MeanOverOrders = (n a : ℕ) → a < n → (S : ℕ → Bool) → S a ≡ false → (early late : ℕ → ℕ)
    → sum_over (orders_taken Even n)
    (λ order. product_by_rank early late (rank_in order) a (lives_in n S))
    * factorial (suc (length (lives_in n S)))
    ≡ factorial n * sum_over (numbers_from 0 (suc (length (lives_in n S)))) (λ j.
    factorial j
    * factorial (length (lives_in n S) - j) * sum_of_choices early late (lives_in n S) j)

-- The first of s lives in an order is each of them with equal chance. It leaves, and the others are
-- as they were; or it stays, and the first of the others to leave is asked for.
abbrev pub FirstLeavingEvenly : Type 0
FirstLeavingEvenly = (n : ℕ) (y : YearNumbers) (S : ℕ → Bool)
    → length (lives_in n S) * first_leaving_evenly n y S
    ≡ sum_over (lives_in n S)
    (λ b. y.leaving b * (factorial n * product_over (lives_in n (without S b)) y.alive)
    + y.staying b * first_leaving_evenly n y (without S b))

-- Where whoever leaves leaves by one of the causes, one of a set leaves so unless all of the set
-- stay, whichever order is taken: the first to leave does not depend on the order.
abbrev pub SomeLeavesInEachOrder : Type 0
SomeLeavesInEachOrder = (n : ℕ) (y : YearNumbers)
    → ((i : ℕ) → i < n → y.leaving i + y.staying i ≡ y.alive i)
    → (S : ℕ → Bool) → ((i : ℕ) → S i ≡ true → i < n) → (ties : Ties)
    → All (λ order. first_leaving y (rank_in order) (lives_in n S) + product_over
    (lives_in n S) y.staying ≡ product_over (lives_in n S) y.alive) (orders_taken ties n)

-- a life in no table
abbrev pub no_life : PlainLife
no_life = record { years_left = 0; causes = 0; survivors = λ t. 0; leavers = λ k j. 0 }

-- the numbers of year k of some lives, of whom those who leave by one of some causes count where
-- the life does
abbrev pub year_numbers : (ℕ → Bool) → (ℕ → Bool) → List PlainLife → ℕ → YearNumbers
year_numbers counts causes lives k = record {
  alive = λ i. (get_or lives i no_life).survivors k;
  staying = λ i. (get_or lives i no_life).survivors (suc k);
  leaving = λ i. cond (counts i) (leavers_by causes (get_or lives i no_life) k) 0;
}

-- the weight with which, of a set of lives alive at k, one that counts leaves in year k by one of
-- the causes, looked at as the chance of its leaving asks: it is that of the first to leave
abbrev pub LeavingsOfASet : Type 0
LeavingsOfASet = (lives : List PlainLife)
    (k : ℕ) (counts causes : ℕ → Bool) (rank : ℕ → ℕ) (s : List Bool) → length s ≡ length lives
    → int_sum_over (numbers_from 0 (length lives)) (λ a. cond (counts a)
    (all_there_at_leaving a causes k (looked_at rank a k) k (in_set s) lives s) (pos 0))
    ≡ pos (first_leaving
    (year_numbers counts causes lives k) rank (lives_in (length lives) (in_set s)))
