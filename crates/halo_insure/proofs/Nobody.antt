-- Where nobody of a set is left, nobody of it leaves and nobody survives.
use Rattle.std.proofs.Common.{◌≡◌, ℕ, zero, suc, ◌+◌, ◌*◌, ◌≤◌, arith, refl, ap, ◌∙◌, List, [], ◌∷◌, length, get_or, Bool, true, false, cond, nat_eq, nat_lt}
use Rattle.std.proofs.lemmas.Nat.{mul-le}
use Rattle.halo_sums.specs.Sums.{product_over, sum_over}
use Rattle.halo_sums.specs.Sets.{in_set}
use Rattle.halo_status.specs.Pay.{PlainPay}
use Rattle.halo_model.specs.Basis.{Basis, taken}
use Rattle.halo_model.specs.Chance.{asked}
use Rattle.halo_model.specs.EvenTies.{YearNumbers, first_leaving, lives_in, number_at}
use Rattle.halo_model.specs.Life.{AreLives, PlainLife, leavers_by}
use Rattle.halo_model.specs.Order.{rank_in}
use Rattle.halo_model.specs.OrderLaws.{no_life}
use Rattle.halo_model.specs.Outcome.{joint_survivors}
use Rattle.halo_model.specs.SetValue.{SomeEvents}
use Rattle.halo_model.proofs.Leavers.{year-splits}
use Rattle.halo_model.proofs.LeavingsOfASet.{next-lives}
use Rattle.halo_insure.specs.Leavings.{counted_numbers, counts, set_leavings, set_survivors}
use Rattle.halo_insure.specs.OneSet.{EndWithNobody}

-- those who leave and those who survive a year are at most those alive at its start, for each of some lives
lives-split : (causes : ℕ → Bool) (k : ℕ) (lives : List PlainLife) → AreLives lives → (i : ℕ)
    → leavers_by causes (get_or lives i no_life) k + (get_or lives i no_life).survivors (suc k)
    ≤ (get_or lives i no_life).survivors k
lives-split causes k [] rule i = omega arith
lives-split causes k (x ∷ lives) rule zero = year-splits causes x rule.0 k
lives-split causes k (x ∷ lives) rule (suc i) = lives-split causes k lives rule.1 i

-- the survivors of a set are those of its lives
set-product : (k : ℕ) (lives : List PlainLife) (s : List Bool) → length s ≡ length lives
    → product_over (lives_in (length lives) (in_set s)) (λ i. (get_or lives i no_life).survivors k)
    ≡ joint_survivors k (in_set s) lives
set-product k [] s len = refl
set-product k (x ∷ lives) [] len = absurd (omega (arith, len))
set-product k (x ∷ lives) (true ∷ s) len = ap (λ m. x.survivors k * m) (next-lives (in_set (true ∷ s))
    (length lives) 0 (λ i. (get_or (x ∷ lives) i no_life).survivors k) ∙ set-product k lives s (omega (arith, len)))
set-product k (x ∷ lives) (false ∷ s) len = next-lives (in_set (false ∷ s)) (length lives) 0
    (λ i. (get_or (x ∷ lives) i no_life).survivors k) ∙ set-product k lives s (omega (arith, len)) ∙ omega arith

product-most : (xs : List ℕ) (f g : ℕ → ℕ) → ((i : ℕ) → f i ≤ g i) → product_over xs f ≤ product_over xs g
product-most [] f g h = omega arith
product-most (x ∷ xs) f g h = mul-le (f x) (product_over xs f) (g x) (product_over xs g) (h x) (product-most xs f g h)

sum-of-none : (xs : List ℕ) (f : ℕ → ℕ) → ((i : ℕ) → f i ≤ 0) → sum_over xs f ≡ 0
sum-of-none [] f h = refl
sum-of-none (x ∷ xs) f h = omega (arith, h x, sum-of-none xs f h)

-- a first leaving has at most the weight of all alive, for each life
first-none : (y : YearNumbers) (rank : ℕ → ℕ) (lives : List ℕ) → ((i : ℕ) → y.leaving i ≤ y.alive i)
    → ((i : ℕ) → y.staying i ≤ y.alive i) → product_over lives y.alive ≡ 0 → first_leaving y rank lives ≡ 0
first-none y rank lives leave stay none =
    sum-of-none lives (λ a. product_over lives (number_at y rank a)) (λ a. omega (
      arith,
      none,
      product-most lives (number_at y rank a) y.alive (λ i. each a i (nat_eq i a) (nat_lt (rank i) (rank a))),
    ))
  where
    each : (a i : ℕ) (here before : Bool) → cond here (y.leaving i) (cond before (y.staying i) (y.alive i)) ≤ y.alive i
    each a i true before = leave i
    each a i false true = stay i
    each a i false false = omega arith

sum-each-none : (orders : List (List ℕ)) (f : List ℕ → ℕ) → ((order : List ℕ) → f order ≡ 0) → sum_over orders f ≡ 0
sum-each-none [] f h = refl
sum-each-none (order ∷ orders) f h = omega (arith, h order, sum-each-none orders f h)

module _ (b : Basis) (rule : AreLives b.lives)
    (pay : PlainPay) (events : SomeEvents) (s : List Bool) (len : length s ≡ length b.lives) (k : ℕ) where
  some-left : (i : ℕ) → (counted_numbers b pay events k).leaving i ≤ (counted_numbers b pay events k).alive i
  some-left i = each (counts pay events i) (lives-split (asked pay.causes) k b.lives rule i)
    where
      each : (c : Bool) → leavers_by (asked pay.causes) (get_or b.lives i no_life) k
          + (get_or b.lives i no_life).survivors (suc k) ≤ (get_or b.lives i no_life).survivors k
          → cond c (leavers_by (asked pay.causes) (get_or b.lives i no_life) k) 0
          ≤ (get_or b.lives i no_life).survivors k
      each true h = omega (arith, h)
      each false h = omega arith

  stay : (i : ℕ) → (counted_numbers b pay events k).staying i ≤ (counted_numbers b pay events k).alive i
  stay i = omega (arith, lives-split (asked pay.causes) k b.lives rule i)

  -- in each order nobody of the set leaves
  pub nobody-leaves : joint_survivors k (in_set s) b.lives ≡ 0
      → (rank : ℕ → ℕ) → first_leaving (counted_numbers b pay events k) rank (lives_in (length b.lives) (in_set s)) ≡ 0
  nobody-leaves gone rank = first-none (counted_numbers b pay events k) rank
      (lives_in (length b.lives) (in_set s)) some-left stay (set-product k b.lives s len ∙ gone)

  -- and nobody survives
  pub nobody-survives : joint_survivors k (in_set s) b.lives ≡ 0 → joint_survivors (suc k) (in_set s) b.lives ≡ 0
  nobody-survives gone = omega (
    arith,
    gone,
    set-product k b.lives s len,
    set-product (suc k) b.lives s len,
    product-most (lives_in (length b.lives) (in_set s))
        (counted_numbers b pay events k).staying (counted_numbers b pay events k).alive stay,
  )

  -- so it is with the sums over the orders taken
  pub end-with-nobody : EndWithNobody (set_leavings b pay events s) (set_survivors b s) k
  end-with-nobody = record {
    leaves = λ none. no-weight (taken b) none;
    survives = λ none. no-survivors (taken b) none;
  }
    where
      left : List ℕ → ℕ
      left order = first_leaving (counted_numbers b pay events k) (rank_in order) (lives_in (length b.lives) (in_set s))

      gone-from : (n j : ℕ) → suc n * j ≡ 0 → j ≡ 0
      gone-from n j e = omega (arith, e)

      no-weight : (orders : List (List ℕ))
          → length orders * joint_survivors k (in_set s) b.lives ≡ 0 → sum_over orders left ≡ 0
      no-weight [] none = refl
      no-weight (order ∷ orders) none =
          sum-each-none (order ∷ orders) left (λ o. nobody-leaves (gone-from (length orders) _ none) (rank_in o))

      no-survivors : (orders : List (List ℕ)) → length orders * joint_survivors k (in_set s) b.lives ≡ 0
          → length orders * joint_survivors (suc k) (in_set s) b.lives ≡ 0
      no-survivors [] none = omega arith
      no-survivors (order ∷ orders) none = rw (nobody-survives (gone-from (length orders) _ none)) (omega arith)
