-- In each order taken, each life has a rank of its own.
use Rattle.std.proofs.Common.{◌≡◌, ℕ, zero, suc, ◌+◌, ◌<◌, ◌≤◌, arith, refl, ap, ◌∙◌, List, [], ◌∷◌, map, Bool, true, false, not, cond, ◌||◌, nat_eq}
use Rattle.std.specs.Prelude.{All}
use Rattle.std.specs.List.{flat_map, list_any}
use Rattle.std.proofs.lemmas.Bool.Decides.{nat_tests}
use Rattle.std.proofs.lemmas.List.Elements.{All-append, All-cons, All-head, All-map, All-nil, All-tail, All-weaker}
use Rattle.halo_sums.specs.Sums.{numbers_from}
use Rattle.halo_model.specs.Order.{insertions, orders, rank_in}
use Rattle.halo_contract.specs.declared.ties.Ties.TheVariants.{Even, Declared}
use Rattle.halo_model.specs.OnePayment.{HaveOwnRanks, OrdersGiveOwnRanks}

-- whether a life stands in an order
abbrev stands : ℕ → List ℕ → Bool
stands i order = list_any (λ j. nat_eq i j) order

equal : (i j z : ℕ) → nat_eq i z ≡ true → nat_eq j z ≡ true → i ≡ j
equal i j z e f = grind (arith, nat_tests)

-- a life that stands in an order shares its rank with no other
own-rank : (order : List ℕ) (i j : ℕ) → stands i order ≡ true → rank_in order i ≡ rank_in order j → i ≡ j
own-rank [] i j h e = absurd (cc)
own-rank (z ∷ order) i j h e = each (own-rank order i j) (nat_eq i z) (nat_eq j z) refl refl h e
  where
    each : (stands i order ≡ true → rank_in order i ≡ rank_in order j → i ≡ j)
        → (p q : Bool) → nat_eq i z ≡ p → nat_eq j z ≡ q → (p || stands i order) ≡ true
        → cond (not p) (1 + rank_in order i) 0 ≡ cond (not q) (1 + rank_in order j) 0 → i ≡ j
    each rest true true u v h e = equal i j z u v
    each rest true false u v h e = absurd (omega arith)
    each rest false true u v h e = absurd (omega arith)
    each rest false false u v h e = rest h (omega arith)

-- what stands in all orders of some lives: each of them
module _ (i : ℕ) where
  All-flat_map : (f : List ℕ → List (List ℕ)) (P : List ℕ → Type 0) (xss : List (List ℕ))
      → All (λ xs. All P (f xs)) xss → All P (flat_map f xss)
  All-flat_map f P [] h = All-nil P
  All-flat_map f P (xs ∷ xss) h = All-append P (f xs) (flat_map f xss)
      (All-head (λ xs. All P (f xs)) xs xss h) (All-flat_map f P xss (All-tail (λ xs. All P (f xs)) xs xss h))

  swap : (p q r : Bool) → (p || (q || r)) ≡ (q || (p || r))
  swap true true r = refl
  swap true false r = refl
  swap false q r = refl

  inserted : (x : ℕ) (ys : List ℕ) → All (λ zs. stands i zs ≡ (nat_eq i x || stands i ys)) (insertions x ys)
  inserted x [] = All-cons (λ zs. stands i zs ≡ (nat_eq i x || stands i []))
      (x ∷ []) [] refl (All-nil (λ zs. stands i zs ≡ (nat_eq i x || stands i [])))
  inserted x (y ∷ ys) = All-cons
      (λ zs. stands i zs ≡ (nat_eq i x || stands i (y ∷ ys))) (x ∷ y ∷ ys) (map (λ zs. y ∷ zs) (insertions x ys)) refl
      (All-map (λ zs. stands i zs ≡ (nat_eq i x || stands i (y ∷ ys))) (λ zs. y ∷ zs) (insertions x ys)
      (All-weaker (λ zs. stands i zs ≡ (nat_eq i x || stands i ys))
      (λ zs. stands i (y ∷ zs) ≡ (nat_eq i x || stands i (y ∷ ys))) (λ zs e. ap (λ b. nat_eq i y || b) e
      ∙ swap (nat_eq i y) (nat_eq i x) (stands i ys)) (insertions x ys) (inserted x ys)))

  ordered : (xs : List ℕ) → All (λ order. stands i order ≡ stands i xs) (orders xs)
  ordered [] =
      All-cons (λ order. stands i order ≡ stands i []) [] [] refl (All-nil (λ order. stands i order ≡ stands i []))
  ordered (x ∷ xs) = All-flat_map (insertions x) (λ order. stands i order ≡ stands i (x ∷ xs)) (orders xs)
      (All-weaker (λ order. stands i order ≡ stands i xs)
      (λ order. All (λ zs. stands i zs ≡ stands i (x ∷ xs)) (insertions x order))
      (λ order e. All-weaker (λ zs. stands i zs ≡ (nat_eq i x || stands i order)) (λ zs. stands i zs
      ≡ stands i (x ∷ xs)) (λ zs q. q ∙ ap (λ b. nat_eq i x || b) e) (insertions x order) (inserted x order))
      (orders xs) (ordered xs))

stands-numbers : (n first i : ℕ) → first ≤ i → i < first + n → stands i (numbers_from first n) ≡ true
stands-numbers zero first i from before = absurd (omega arith)
stands-numbers (suc n) first i from before =
    each (λ past. stands-numbers n (suc first) i past (omega arith)) (nat_eq i first) refl
  where
    next : (first i : ℕ) → first ≤ i → nat_eq i first ≡ false → suc first ≤ i
    next first i from e = grind (arith, nat_tests)

    each : (suc first ≤ i → stands i (numbers_from (suc first) n) ≡ true)
        → (b : Bool) → nat_eq i first ≡ b → (b || stands i (numbers_from (suc first) n)) ≡ true
    each rest true e = refl
    each rest false e = rest (next first i from e)

all-each : (P : ℕ → List ℕ → Type 0) (xss : List (List ℕ))
    → ((i : ℕ) → All (P i) xss) → All (λ xs. (i : ℕ) → P i xs) xss
all-each P [] h = All-nil (λ xs. (i : ℕ) → P i xs)
all-each P (xs ∷ xss) h = All-cons (λ xs. (i : ℕ) → P i xs) xs xss
    (λ i. All-head (P i) xs xss (h i)) (all-each P xss (λ i. All-tail (P i) xs xss (h i)))

own-ranks : (xs order : List ℕ) (n : ℕ)
    → ((i : ℕ) → i < n → stands i xs ≡ true) → ((i : ℕ) → stands i order ≡ stands i xs) → HaveOwnRanks (rank_in order) n
own-ranks xs order n all same i j before within e = own-rank order i j (same i ∙ all i before) e

pub orders-give-own-ranks : OrdersGiveOwnRanks
orders-give-own-ranks Declared n = All-cons (λ order. HaveOwnRanks (rank_in order) n) (numbers_from 0 n) []
    (own-ranks (numbers_from 0 n) (numbers_from 0 n) n (λ i before. stands-numbers n 0 i (omega arith) (omega arith))
    (λ i. refl)) (All-nil (λ order. HaveOwnRanks (rank_in order) n))
orders-give-own-ranks Even n = All-weaker
    (λ order. (i : ℕ) → stands i order ≡ stands i (numbers_from 0 n)) (λ order. HaveOwnRanks (rank_in order) n)
    (λ order same. own-ranks (numbers_from 0 n) order n
    (λ i before. stands-numbers n 0 i (omega arith) (omega arith)) same) (orders (numbers_from 0 n))
    (all-each (λ i order. stands i order ≡ stands i (numbers_from 0 n))
    (orders (numbers_from 0 n)) (λ i. ordered i (numbers_from 0 n)))
