-- The first of a set of lives to leave, in the declared order and over all orders: one life of the set and the others.
use Rattle.std.proofs.Common.{◌≡◌, get_or, ℕ, zero, suc, ◌+◌, ◌*◌, ◌-◌, ◌<◌, ◌≤◌, arith, refl, ap, sym, ◌∙◌, List, [], ◌∷◌, length, Bool, true, false, cond, nat_eq, ⊎_elim}
use Rattle.std.specs.Prelude.{All}
use Rattle.std.specs.List.{filter}
use Rattle.std.proofs.Math.Path.{fun_ext}
use Rattle.std.proofs.lemmas.Bool.{cases_lt}
use Rattle.std.proofs.lemmas.Nat.{mul-le}
use Rattle.std.proofs.lemmas.List.Elements.{All-head, All-tail}
use Rattle.halo_sums.specs.Sums.{numbers_from, product_over, sum_over}
use Rattle.halo_sums.proofs.Sums.{sum_over-const}
use Rattle.halo_model.specs.Order.{orders, orders_taken, rank_in}
use Rattle.halo_contract.specs.declared.ties.Ties.{Ties}
use Rattle.halo_contract.specs.declared.ties.Ties.TheVariants.{Even, Declared}
use Rattle.halo_model.specs.EvenTies.{YearNumbers, factorial, first_leaving, first_leaving_evenly, lives_in, number_at, without}
use Rattle.halo_model.proofs.Orders.{orders-count}
use Rattle.halo_model.proofs.EvenTies.{above, below, first-step, first_in, length-numbers, looks-at-set, sum_over-kept, without-here, without-there}
use Rattle.halo_model.proofs.OrderLaws.{first-leaving-evenly}
use Rattle.halo_model.proofs.SomeLeaves.{some-leaves-in-each-order}
use Rattle.halo_life.specs.YearOfSets.{leavings_of_set}
use Rattle.halo_life.specs.YearOfLives.{weight_as_first}

-- the first life of a set stands before the others
without-past : (S : ℕ → Bool) (count first b : ℕ)
    → b < first → filter (without S b) (numbers_from first count) ≡ filter S (numbers_from first count)
without-past S zero first b h = refl
without-past S (suc count) first b h =
    rw (without-there S b first (above first b h), without-past S count (suc first) b (omega arith)) refl

first-apart : (S : ℕ → Bool) (count first b : ℕ)
    → S b ≡ true → first ≤ b → b < first + count → ((i : ℕ) → S i ≡ true → b ≤ i)
    → filter S (numbers_from first count) ≡ b ∷ filter (without S b) (numbers_from first count)
first-apart S zero first b at-b low high lowest = absurd (omega arith)
first-apart S (suc count) first b at-b low high lowest = ⊎_elim
    (λ before. skip (S first) refl before (first-apart S count (suc first) b at-b (omega arith) (omega arith) lowest))
    (λ reached. let e : first ≡ b = omega arith in rw e (here (suc b) (omega arith)))
    (cases_lt first b)
  where
    here : (next : ℕ)
        → b < next → filter S (b ∷ numbers_from next count) ≡ b ∷ filter (without S b) (b ∷ numbers_from next count)
    here next h = rw (without-here S b, at-b, without-past S count next b h) refl

    skip : (c : Bool) → S first ≡ c → first < b
        → filter S (numbers_from (suc first) count) ≡ b ∷ filter (without S b) (numbers_from (suc first) count)
        → filter S (first ∷ numbers_from (suc first) count)
        ≡ b ∷ filter (without S b) (first ∷ numbers_from (suc first) count)
    skip true e before rest = absurd (omega (arith, lowest first e))
    skip false e before rest = rw (without-there S b first (below first b before), e) rest

module _ (n : ℕ) (y : YearNumbers) where
  -- in the declared order the first life of a set comes first
  pub in-declared-order : (S : ℕ → Bool) (b : ℕ) → S b ≡ true → b < n → ((i : ℕ) → S i ≡ true → b ≤ i)
      → leavings_of_set Declared n y S ≡ weight_as_first Declared n y S b
  in-declared-order S b at-b low lowest =
      let here = sym (looks-at-set n y S (numbers_from 0 n))
      ∙ ap (first_in n y S) (first-apart S n 0 b at-b (omega arith) (omega arith) lowest)
      ∙ first-step n y S b at-b low (filter (without S b) (numbers_from 0 n)) in
      let others = looks-at-set n y (without S b) (numbers_from 0 n) in
      joined _ _ (y.leaving b) (y.staying b) _ _ here others
    where
      joined : (x a q p f g : ℕ) → x ≡ q * a + p * f → f ≡ g → x + 0 ≡ q * (1 * a) + p * (g + 0)
      joined x a q p f g e h = rw (e, h) (omega arith)

  -- over all orders each life of a set comes first equally often
  pub count-all : length (orders_taken Even n) ≡ factorial n
  count-all = omega (
    arith,
    sum_over-const (orders (numbers_from 0 n)) 1,
    orders-count (numbers_from 0 n) 1,
    ap factorial (length-numbers n 0),
  )

  pub each-first : (S : ℕ → Bool) → length (lives_in n S) * leavings_of_set Even n y S
      ≡ sum_over (numbers_from 0 n) (λ b. cond (S b) (weight_as_first Even n y S b) 0)
  unfolding first_leaving_evenly
  each-first S = first-leaving-evenly n y S ∙ sum_over-kept S (numbers_from 0 n) _
      ∙ ap (λ f. sum_over (numbers_from 0 n) (λ b. cond (S b) (f b) 0)) (fun_ext (λ b. same b))
    where
      same : (b : ℕ) → y.leaving b * (factorial n * product_over (lives_in n (without S b)) y.alive)
          + y.staying b * first_leaving_evenly n y (without S b) ≡ weight_as_first Even n y S b
      same b = ap (λ f. y.leaving b * (f * product_over (lives_in n (without S b)) y.alive)
          + y.staying b * leavings_of_set Even n y (without S b)) (sym count-all)

  -- the weight of a set is at most that of all its lives
  module _ (parts : (i : ℕ) → y.leaving i + y.staying i ≤ y.alive i) where
    -- where whoever does not stay leaves and counts
    abbrev full : YearNumbers
    full = record { alive = y.alive; staying = y.staying; leaving = λ i. y.alive i - y.staying i }

    more : (rank : ℕ → ℕ) (a i : ℕ) → number_at y rank a i ≤ number_at full rank a i
    more rank a i = each (nat_eq i a) _
      where
        each : (c : Bool) (k : ℕ) → cond c (y.leaving i) k ≤ cond c (y.alive i - y.staying i) k
        each true k = omega (arith, parts i)
        each false k = omega arith

    product-more : (f g : ℕ → ℕ) → ((i : ℕ) → f i ≤ g i) → (xs : List ℕ) → product_over xs f ≤ product_over xs g
    product-more f g h [] = omega arith
    product-more f g h (x ∷ xs) = mul-le _ _ _ _ (h x) (product-more f g h xs)

    sum-more : (f g : ℕ → ℕ) → ((i : ℕ) → f i ≤ g i) → (xs : List ℕ) → sum_over xs f ≤ sum_over xs g
    sum-more f g h [] = omega arith
    sum-more f g h (x ∷ xs) = omega (arith, h x, sum-more f g h xs)

    in-order : (rank : ℕ → ℕ) (lives : List ℕ) → first_leaving y rank lives ≤ first_leaving full rank lives
    in-order rank lives = sum-more _ _ (λ a. product-more _ _ (more rank a) lives) lives

    sum-most : (f : List ℕ → ℕ) (c : ℕ) (xs : List (List ℕ))
        → All (λ order. f order ≤ c) xs → sum_over xs f ≤ length xs * c
    sum-most f c [] h = omega arith
    sum-most f c (x ∷ xs) h =
        omega (arith, All-head (λ order. f order ≤ c) x xs h, sum-most f c xs (All-tail (λ order. f order ≤ c) x xs h))

    pub leavings-most : (ties : Ties) (S : ℕ → Bool) → ((i : ℕ) → S i ≡ true → i < n)
        → leavings_of_set ties n y S ≤ length (orders_taken ties n) * product_over (lives_in n S) y.alive
    leavings-most ties S low = sum-most (λ order. first_leaving y (rank_in order) (lives_in n S))
        (product_over (lives_in n S) y.alive) (orders_taken ties n)
        (λ k d before. let whole = some-leaves-in-each-order n full (λ i h. omega (arith, parts i)) S low ties
        k d before in omega (arith, whole, in-order (rank_in (get_or (orders_taken ties n) k d)) (lives_in n S)))
