-- Sums over all orders of what lives do in one year.
use Rattle.std.proofs.Common.{◌≡◌, ℕ, zero, suc, ◌+◌, ◌*◌, ◌<◌, ◌≤◌, arith, refl, ap, sym, ◌∙◌, List, [], ◌∷◌, length, Bool, true, false, cond, not, ◌&&◌, nat_eq, nat_lt, ⊎_elim, lit<}
use Rattle.std.proofs.Math.Nat.{mul-le-mul_left, mul-le-mul_right, mul-pos}
use Rattle.std.proofs.lemmas.Bool.{cases_lt}
use Rattle.std.proofs.lemmas.Bool.Decides.{eqb_tells, nat_tests}
use Rattle.std.specs.List.{filter}
use Rattle.halo_sums.specs.Sums.{numbers_from, product_over, sum_over}
use Rattle.halo_sums.proofs.Numbers.{sum_over-numbers_ext}
use Rattle.halo_sums.proofs.Sums.{sum_over-add, sum_over-const, sum_over-ext, sum_over-scale}
use Rattle.halo_model.specs.Order.{orders, rank_in}
use Rattle.halo_model.specs.EvenTies.{YearNumbers, factorial, first_leaving, first_leaving_evenly, lives_in, number_at, without}
use Rattle.halo_model.proofs.Orders.{LooksOnlyAt, orders-count, orders-first-or-none, orders-restrict, over_each}

-- which of two lives comes first does not depend on the others
pub later : (m n : ℕ) → nat_lt (1 + m) (1 + n) ≡ nat_lt m n
later m n = grind (arith, nat_tests)

pub first-of : (n : ℕ) → nat_lt 0 (1 + n) ≡ true
first-of n = grind (arith, nat_tests)

pub not-before-first : (n : ℕ) → nat_lt n 0 ≡ false
not-before-first n = grind (arith, nat_tests)

other-kind : (keep : ℕ → Bool) (i y : ℕ) → keep i ≡ true → keep y ≡ false → nat_eq i y ≡ false
other-kind keep i y here there = ⊎_elim
    (λ h. absurd (let e : i ≡ y = h.1 in let f : keep y ≡ true = rw e at here in cc))
    (λ h. h.0)
    (eqb_tells i y)

pub rank-among : (keep : ℕ → Bool) (o : List ℕ) (i a : ℕ) → keep i ≡ true → keep a ≡ true
    → nat_lt (rank_in (filter keep o) i) (rank_in (filter keep o) a) ≡ nat_lt (rank_in o i) (rank_in o a)
rank-among keep [] i a at-i at-a = refl
rank-among keep (y ∷ ys) i a at-i at-a = each (keep y) refl (rank-among keep ys i a at-i at-a)
  where
    behind : (p q : Bool) (k l m n : ℕ) → nat_lt k l ≡ nat_lt m n → nat_lt
        (cond (not p) (1 + k) 0) (cond (not q) (1 + l) 0) ≡ nat_lt (cond (not p) (1 + m) 0) (cond (not q) (1 + n) 0)
    behind true true k l m n e = refl
    behind true false k l m n e = first-of l ∙ sym (first-of n)
    behind false true k l m n e = not-before-first (1 + k) ∙ sym (not-before-first (1 + m))
    behind false false k l m n e = later k l ∙ e ∙ sym (later m n)

    each : (b : Bool) → keep y ≡ b
        → nat_lt (rank_in (filter keep ys) i) (rank_in (filter keep ys) a) ≡ nat_lt (rank_in ys i) (rank_in ys a)
        → nat_lt (rank_in (cond b (y ∷ filter keep ys) (filter keep ys)) i)
        (rank_in (cond b (y ∷ filter keep ys) (filter keep ys)) a)
        ≡ nat_lt (rank_in (y ∷ ys) i) (rank_in (y ∷ ys) a)
    each true e same = behind (nat_eq i y) (nat_eq a y) _ _ _ _ same
    each false e same = same
        ∙ sym (rw (other-kind keep i y at-i e, other-kind keep a y at-a e) (later (rank_in ys i) (rank_in ys a)))

-- sums and products over the lives of a kind
pub sum_over-kept_ext : (keep : ℕ → Bool) (xs : List ℕ) (f g : ℕ → ℕ)
    → ((i : ℕ) → keep i ≡ true → f i ≡ g i) → sum_over (filter keep xs) f ≡ sum_over (filter keep xs) g
sum_over-kept_ext keep [] f g h = refl
sum_over-kept_ext keep (x ∷ xs) f g h = each (keep x) refl (sum_over-kept_ext keep xs f g h)
  where
    each : (b : Bool) → keep x ≡ b → sum_over (filter keep xs) f ≡ sum_over (filter keep xs) g → sum_over
        (cond b (x ∷ filter keep xs) (filter keep xs)) f ≡ sum_over (cond b (x ∷ filter keep xs) (filter keep xs)) g
    each true e rest = omega (arith, h x e, rest)
    each false e rest = rest

pub product_over-kept_ext : (keep : ℕ → Bool) (xs : List ℕ) (f g : ℕ → ℕ)
    → ((i : ℕ) → keep i ≡ true → f i ≡ g i) → product_over (filter keep xs) f ≡ product_over (filter keep xs) g
product_over-kept_ext keep [] f g h = refl
product_over-kept_ext keep (x ∷ xs) f g h = each (keep x) refl (product_over-kept_ext keep xs f g h)
  where
    each : (b : Bool) → keep x ≡ b → product_over (filter keep xs) f ≡ product_over (filter keep xs) g → product_over
        (cond b (x ∷ filter keep xs) (filter keep xs)) f ≡ product_over (cond b (x ∷ filter keep xs) (filter keep xs)) g
    each true e rest = rw (h x e, rest) refl
    each false e rest = rest

pub nat_eq-same : (k : ℕ) → nat_eq k k ≡ true
nat_eq-same k = grind (arith, nat_tests)

pub factorial-some : (n : ℕ) → 0 < factorial n
factorial-some zero = lit< tt
factorial-some (suc n) = let r = factorial-some n in mul-pos (omega arith) r

-- a set without a life: the same elsewhere
pub without-here : (S : ℕ → Bool) (b : ℕ) → without S b b ≡ false
without-here S b = rw (nat_eq-same b) (each (S b))
  where
    each : (c : Bool) → (c && not true) ≡ false
    each true = refl
    each false = refl

pub without-there : (S : ℕ → Bool) (b i : ℕ) → nat_eq i b ≡ false → without S b i ≡ S i
without-there S b i other = rw other (each (S i))
  where
    each : (c : Bool) → (c && not false) ≡ c
    each true = refl
    each false = refl

pub apart : (S : ℕ → Bool) (b i : ℕ) → without S b i ≡ true → nat_eq i b ≡ false
apart S b i e = each (S i) (nat_eq i b) e
  where
    each : (c d : Bool) → (c && not d) ≡ true → d ≡ false
    each true true e = absurd (cc)
    each true false e = refl
    each false d e = absurd (cc)

pub within : (S : ℕ → Bool) (b i : ℕ) → without S b i ≡ true → S i ≡ true
within S b i e = each (S i) (nat_eq i b) e
  where
    each : (c d : Bool) → (c && not d) ≡ true → c ≡ true
    each true d e = refl
    each false d e = e

pub turned : (i b : ℕ) → nat_eq i b ≡ false → nat_eq b i ≡ false
turned i b e = grind (arith, nat_tests, e)

pub above : (i k : ℕ) → k < i → nat_eq i k ≡ false
above i k h = grind (arith, nat_tests)

pub below : (i k : ℕ) → i < k → nat_eq i k ≡ false
below i k h = grind (arith, nat_tests)

-- past a life a set is the same without it
without-past : (S : ℕ → Bool) (count first b : ℕ)
    → b < first → filter (without S b) (numbers_from first count) ≡ filter S (numbers_from first count)
without-past S zero first b h = refl
without-past S (suc count) first b h =
    rw (without-there S b first (above first b h), without-past S count (suc first) b (omega arith)) refl

-- a life is taken out of a list of those of a set
abbrev pub IsTakenOut : (ℕ → Bool) → ℕ → List ℕ → Type 0
IsTakenOut S b xs = ((f : ℕ → ℕ) → sum_over (filter S xs) f ≡ f b + sum_over (filter (without S b) xs) f)
    × ((f : ℕ → ℕ) → product_over (filter S xs) f ≡ f b * product_over (filter (without S b) xs) f)

pub taken-out : (S : ℕ → Bool) (count first b : ℕ)
    → S b ≡ true → first ≤ b → b < first + count → IsTakenOut S b (numbers_from first count)
taken-out S zero first b at-b low high = absurd (omega arith)
taken-out S (suc count) first b at-b low high = ⊎_elim
    (λ before. skip (S first) refl before (taken-out S count (suc first) b at-b (omega arith) (omega arith)))
    (λ reached. let e : first ≡ b = omega arith in rw e (here (suc b) (omega arith)))
    (cases_lt first b)
  where
    here : (next : ℕ) → b < next → IsTakenOut S b (b ∷ numbers_from next count)
    here next h = rw (without-here S b, at-b, without-past S count next b h) ((λ f. refl), (λ f. refl))

    skip : (c : Bool) → S first ≡ c → first < b
        → IsTakenOut S b (numbers_from (suc first) count) → IsTakenOut S b (first ∷ numbers_from (suc first) count)
    skip true e before rest = rw (without-there S b first (below first b before), e)
        ((λ f. omega (arith, rest.0 f)), (λ f. rw (rest.1 f) (turn (f first) (f b) _)))
      where
        turn : (x y z : ℕ) → x * (y * z) ≡ y * (x * z)
        turn x y z = omega arith
    skip false e before rest = rw e rest

-- a sum over the lives of a set of what is at most c
pub sum_over-kept_most : (S : ℕ → Bool) (count first : ℕ) (f : ℕ → ℕ) (c : ℕ)
    → ((b : ℕ) → S b ≡ true → first ≤ b → b < first + count → f b ≤ c)
    → sum_over (numbers_from first count) (λ b. cond (S b) (f b) 0) ≤ length (filter S (numbers_from first count)) * c
sum_over-kept_most S zero first f c h = omega arith
sum_over-kept_most S (suc count) first f c h = each
    (S first) refl (sum_over-kept_most S count (suc first) f c (λ b at-b from to. h b at-b (omega arith) (omega arith)))
  where
    each : (t : Bool) → S first ≡ t → sum_over (numbers_from (suc first) count) (λ b. cond (S b) (f b) 0)
        ≤ length (filter S (numbers_from (suc first) count)) * c
        → cond t (f first) 0 + sum_over (numbers_from (suc first) count) (λ b. cond (S b) (f b) 0) ≤ length
        (cond t (first ∷ filter S (numbers_from (suc first) count)) (filter S (numbers_from (suc first) count))) * c
    each true e rest = omega (arith, h first e (omega arith) (omega arith), rest)
    each false e rest = omega (arith, rest)

-- the sum over the lives of a set, each with the others
pub each-in : (S : ℕ → Bool) (count first : ℕ) (h : ℕ → List ℕ → ℕ)
    → over_each (filter S (numbers_from first count)) h ≡ sum_over
    (numbers_from first count) (λ b. cond (S b) (h b (filter (without S b) (numbers_from first count))) 0)
each-in S zero first h = refl
each-in S (suc count) first h = each (S first) refl
    (each-in S count (suc first) h)
    (each-in S count (suc first) (λ b rest. h b (first ∷ rest)))
  where
    others : (c : Bool) → S first ≡ c → sum_over (numbers_from (suc first) count)
        (λ b. cond (S b) (h b (cond c (first ∷ filter (without S b) (numbers_from (suc first) count))
        (filter (without S b) (numbers_from (suc first) count)))) 0)
        ≡ sum_over (numbers_from (suc first) count)
        (λ b. cond (S b) (h b (filter (without S b) (first ∷ numbers_from (suc first) count))) 0)
    others c e = sum_over-numbers_ext count (suc first) _ _
        (λ b from to. ap (λ t. cond (S b) (h b (cond t (first ∷ filter (without S b) (numbers_from (suc first) count))
        (filter (without S b) (numbers_from (suc first) count)))) 0)
        (sym (without-there S b first (below first b from) ∙ e)))

    each : (c : Bool) → S first ≡ c
        → over_each (filter S (numbers_from (suc first) count)) h ≡ sum_over (numbers_from (suc first) count)
        (λ b. cond (S b) (h b (filter (without S b) (numbers_from (suc first) count))) 0)
        → over_each (filter S (numbers_from (suc first) count)) (λ b rest. h b (first ∷ rest))
        ≡ sum_over (numbers_from (suc first) count)
        (λ b. cond (S b) (h b (first ∷ filter (without S b) (numbers_from (suc first) count))) 0)
        → over_each
        (cond c (first ∷ filter S (numbers_from (suc first) count)) (filter S (numbers_from (suc first) count))) h
        ≡ cond c (h first (filter (without S first) (first ∷ numbers_from (suc first) count))) 0
        + sum_over (numbers_from (suc first) count)
        (λ b. cond (S b) (h b (filter (without S b) (first ∷ numbers_from (suc first) count))) 0)
    each true e plain with = rw (without-here S first, without-past S count (suc first) first (omega arith))
        (ap (λ n. h first (filter S (numbers_from (suc first) count)) + n) (with ∙ others true e))
    each false e plain with = omega (arith, plain, others false e)

-- a set with a life has one life more than without it
pub length-with : (n : ℕ) (S : ℕ → Bool) (b : ℕ)
    → S b ≡ true → b < n → length (lives_in n S) ≡ suc (length (lives_in n (without S b)))
length-with n S b at-b low =
    omega (arith, out.0 (λ i. 1), sum_over-const (lives_in n S) 1, sum_over-const (lives_in n (without S b)) 1)
  where
    out : IsTakenOut S b (numbers_from 0 n)
    out = taken-out S n 0 b at-b (omega arith) (omega arith)

pub length-numbers : (count first : ℕ) → length (numbers_from first count) ≡ count
length-numbers zero first = refl
length-numbers (suc count) first = ap suc (length-numbers count (suc first))

-- a sum over the lives of a set, as one over all lives
pub sum_over-kept : (S : ℕ → Bool) (xs : List ℕ) (f : ℕ → ℕ)
    → sum_over (filter S xs) f ≡ sum_over xs (λ b. cond (S b) (f b) 0)
sum_over-kept S [] f = refl
sum_over-kept S (x ∷ xs) f = each (S x) (sum_over-kept S xs f)
  where
    each : (t : Bool) → sum_over (filter S xs) f ≡ sum_over xs (λ b. cond (S b) (f b) 0)
        → sum_over (cond t (x ∷ filter S xs) (filter S xs)) f ≡ cond t (f x) 0 + sum_over xs (λ b. cond (S b) (f b) 0)
    each true e = ap (λ m. f x + m) e
    each false e = omega (arith, e)

-- equal at each life of a set, equal in sum
pub lives_in-ext : (n : ℕ) (S : ℕ → Bool) (f g : ℕ → ℕ)
    → ((b : ℕ) → S b ≡ true → b < n → f b ≡ g b) → sum_over (lives_in n S) f ≡ sum_over (lives_in n S) g
lives_in-ext n S f g h = sum_over-kept S (numbers_from 0 n) f ∙ sum_over-numbers_ext n 0 _ _
    (λ b from to. each b (omega arith) (S b) refl) ∙ sym (sum_over-kept S (numbers_from 0 n) g)
  where
    each : (b : ℕ) → b < n → (t : Bool) → S b ≡ t → cond t (f b) 0 ≡ cond t (g b) 0
    each b low true e = h b e low
    each b low false e = refl

-- the rank of the first of an order, and of those behind it
pub rank-first : (b : ℕ) (o : List ℕ) → rank_in (b ∷ o) b ≡ 0
rank-first b o = rw (nat_eq-same b) refl

pub rank-behind : (b : ℕ) (o : List ℕ) (i : ℕ) → nat_eq i b ≡ false → rank_in (b ∷ o) i ≡ 1 + rank_in o i
rank-behind b o i other = rw other refl

-- all lives of a set are of the weight of those alive
module _ (n : ℕ) (y : YearNumbers) where
  abbrev pub all_alive : (ℕ → Bool) → ℕ
  all_alive S = product_over (lives_in n S) y.alive

  abbrev pub first_in : (ℕ → Bool) → List ℕ → ℕ
  first_in S o = first_leaving y (rank_in o) (lives_in n S)

  pub looks-at-set : (S : ℕ → Bool) → LooksOnlyAt S (first_in S)
  looks-at-set S o =
      sum_over-kept_ext S (numbers_from 0 n) _ _ (λ a at-a. product_over-kept_ext S (numbers_from 0 n) _ _ (λ i at-i.
      ap (λ t. cond (nat_eq i a) (y.leaving i) (cond t (y.staying i) (y.alive i))) (rank-among S o i a at-i at-a)))

  pub number-itself : (rank : ℕ → ℕ) (a : ℕ) → number_at y rank a a ≡ y.leaving a
  number-itself rank a = rw (nat_eq-same a) refl

  number-other : (rank : ℕ → ℕ) (a i : ℕ) (comes : Bool) → nat_eq i a ≡ false
      → nat_lt (rank i) (rank a) ≡ comes → number_at y rank a i ≡ cond comes (y.staying i) (y.alive i)
  number-other rank a i comes other e = rw (other, e) refl

  -- where the first of an order leaves, and where one behind it does
  number-first : (b : ℕ) (o : List ℕ) (i : ℕ) → nat_eq i b ≡ false → number_at y (rank_in (b ∷ o)) b i ≡ y.alive i
  number-first b o i other = number-other (rank_in (b ∷ o)) b i false other
      (ap (λ m. nat_lt (rank_in (b ∷ o) i) m) (rank-first b o) ∙ not-before-first (rank_in (b ∷ o) i))

  number-stays : (b : ℕ) (o : List ℕ) (a : ℕ) → nat_eq a b ≡ false → number_at y (rank_in (b ∷ o)) a b ≡ y.staying b
  number-stays b o a other = number-other (rank_in (b ∷ o)) a b true (turned a b other)
      (ap (λ m. nat_lt m (rank_in (b ∷ o) a)) (rank-first b o)
      ∙ ap (λ m. nat_lt 0 m) (rank-behind b o a other) ∙ first-of (rank_in o a))

  number-behind : (b : ℕ) (o : List ℕ) (a i : ℕ)
      → nat_eq a b ≡ false → nat_eq i b ≡ false → number_at y (rank_in (b ∷ o)) a i ≡ number_at y (rank_in o) a i
  number-behind b o a i other-a other-i = ap (λ t. cond (nat_eq i a) (y.leaving i) (cond t (y.staying i) (y.alive i)))
      (ap (λ m. nat_lt m (rank_in (b ∷ o) a)) (rank-behind b o i other-i)
      ∙ ap (λ m. nat_lt (1 + rank_in o i) m) (rank-behind b o a other-a) ∙ later (rank_in o i) (rank_in o a))

  -- the first life leaves, and the others are alive; or it stays, and one of the others is the first to leave
  pub first-step : (S : ℕ → Bool) (b : ℕ) → S b ≡ true → b < n → (o : List ℕ)
      → first_in S (b ∷ o) ≡ y.leaving b * all_alive (without S b) + y.staying b * first_in (without S b) o
  first-step S b at-b low o = out.0 _
      ∙ ap (λ m. m + sum_over (lives_in n (without S b))
      (λ a. product_over (lives_in n S) (number_at y (rank_in (b ∷ o)) a))) (out.1 _ ∙ leaves)
      ∙ ap (λ m. y.leaving b * all_alive (without S b) + m) (sum_over-kept_ext (without S b)
      (numbers_from 0 n) _ _ (λ a at-a. out.1 _ ∙ stays a at-a) ∙ sum_over-scale (lives_in n (without S b))
      (y.staying b) (λ a. product_over (lives_in n (without S b)) (number_at y (rank_in o) a)))
    where
      out : IsTakenOut S b (numbers_from 0 n)
      out = taken-out S n 0 b at-b (omega arith) (omega arith)

      leaves : number_at y (rank_in (b ∷ o)) b b * product_over
          (lives_in n (without S b)) (number_at y (rank_in (b ∷ o)) b) ≡ y.leaving b * all_alive (without S b)
      leaves = ap (λ m. m * product_over (lives_in n (without S b)) (number_at y (rank_in (b ∷ o)) b))
          (number-itself (rank_in (b ∷ o)) b)
          ∙ ap (λ m. y.leaving b * m) (product_over-kept_ext
          (without S b) (numbers_from 0 n) _ _ (λ i at-i. number-first b o i (apart S b i at-i)))

      stays : (a : ℕ) → without S b a ≡ true → number_at y
          (rank_in (b ∷ o)) a b * product_over (lives_in n (without S b)) (number_at y (rank_in (b ∷ o)) a)
          ≡ y.staying b * product_over (lives_in n (without S b)) (number_at y (rank_in o) a)
      stays a at-a = ap (λ m. m * product_over (lives_in n (without S b)) (number_at y (rank_in (b ∷ o)) a))
          (number-stays b o a (apart S b a at-a))
          ∙ ap (λ m. y.staying b * m) (product_over-kept_ext (without S b)
          (numbers_from 0 n) _ _ (λ i at-i. number-behind b o a i (apart S b a at-a) (apart S b i at-i)))

  -- the sum over the orders of the lives of a set alone
  abbrev pub among : (ℕ → Bool) → ℕ
  among S = sum_over (orders (lives_in n S)) (first_in S)

  -- what the first life of a set gives to the sum, in all orders of the others
  abbrev pub first_share : (ℕ → Bool) → ℕ → ℕ
  first_share S b = y.leaving b * (factorial (length (lives_in n (without S b))) * all_alive (without S b))
      + y.staying b * among (without S b)

  share-of : (S : ℕ → Bool) (b : ℕ)
      → S b ≡ true → b < n → sum_over (orders (lives_in n (without S b))) (λ o. first_in S (b ∷ o)) ≡ first_share S b
  share-of S b at-b low = sum_over-ext (orders (lives_in n (without S b))) _ _ (first-step S b at-b low)
      ∙ sum_over-add (orders (lives_in n (without S b)))
      (λ o. y.leaving b * all_alive (without S b)) (λ o. y.staying b * first_in (without S b) o)
      ∙ ap (λ m. m + sum_over (orders (lives_in n (without S b))) (λ o. y.staying b * first_in (without S b) o))
      (orders-count (lives_in n (without S b)) (y.leaving b * all_alive (without S b)))
      ∙ ap (λ m. factorial (length (lives_in n (without S b))) * (y.leaving b * all_alive (without S b)) + m)
      (sum_over-scale (orders (lives_in n (without S b))) (y.staying b) (first_in (without S b)))
      ∙ ap (λ m. m + y.staying b * among (without S b))
      (turn (factorial (length (lives_in n (without S b)))) (y.leaving b) (all_alive (without S b)))
    where
      turn : (f q p : ℕ) → f * (q * p) ≡ q * (f * p)
      turn f q p = omega arith

  shares : (S : ℕ → Bool) → over_each (lives_in n S) (λ b rest. sum_over (orders rest) (λ o. first_in S (b ∷ o)))
      ≡ sum_over (numbers_from 0 n) (λ b. cond (S b) (first_share S b) 0)
  shares S = each-in S n 0 (λ b rest. sum_over (orders rest) (λ o. first_in S (b ∷ o)))
      ∙ sum_over-numbers_ext n 0 _ _ (λ b from to. one b (omega arith) (S b) refl)
    where
      one : (b : ℕ) → b < n → (c : Bool) → S b ≡ c → cond c
          (sum_over (orders (lives_in n (without S b))) (λ o. first_in S (b ∷ o))) 0 ≡ cond c (first_share S b) 0
      one b low true e = share-of S b e low
      one b low false e = refl

  -- each life of a set is the first of it in equally many orders
  pub among-step : (S : ℕ → Bool) → among S ≡ sum_over (numbers_from 0 n) (λ b. cond (S b) (first_share S b) 0)
  among-step S = orders-first-or-none (lives_in n S) (first_in S) (λ e. ap (first_leaving y (rank_in [])) e) ∙ shares S

  -- over all orders of the n lives
  pub evenly-among : (S : ℕ → Bool)
      → first_leaving_evenly n y S * factorial (length (lives_in n S)) ≡ factorial n * among S
  unfolding first_leaving_evenly
  evenly-among S = orders-restrict S (first_in S) (looks-at-set S) (numbers_from 0 n)
      ∙ ap (λ m. factorial m * among S) (length-numbers n 0)

  pub alive-with : (S : ℕ → Bool) (b : ℕ) → S b ≡ true → b < n → all_alive S ≡ y.alive b * all_alive (without S b)
  alive-with S b at-b low = (taken-out S n 0 b at-b (omega arith) (omega arith)).1 y.alive

  -- the chance of a set is at most 1
  module _ (whole : (i : ℕ) → i < n → y.leaving i + y.staying i ≤ y.alive i) where
    share-most : (S : ℕ → Bool) (b m : ℕ) → S b ≡ true → b < n → length (lives_in n (without S b)) ≡ m
        → among (without S b) ≤ factorial m * all_alive (without S b) → first_share S b ≤ factorial m * all_alive S
    share-most S b m at-b low size rest = rw (size, alive-with S b at-b low) (together (y.leaving b)
        (y.staying b) (y.alive b) (factorial m) (all_alive (without S b)) (among (without S b)) (whole b low) rest)
      where
        together : (q p d f a k : ℕ) → q + p ≤ d → k ≤ f * a → q * (f * a) + p * k ≤ f * (d * a)
        together q p d f a k h g =
            let e : p * k ≤ p * (f * a) = mul-le-mul_left p g in
            let r : (q + p) * (f * a) ≤ d * (f * a) = mul-le-mul_right (f * a) h in
            omega arith

    pub among-most : (m : ℕ) (S : ℕ → Bool) → length (lives_in n S) ≡ m → among S ≤ factorial m * all_alive S
    among-most zero S size = nobody (lives_in n S) refl size
      where
        nobody : (xs : List ℕ) → lives_in n S ≡ xs → length xs ≡ 0 → among S ≤ factorial 0 * all_alive S
        nobody [] e h = let none : among S
            ≡ 0 = ap (λ us. sum_over (orders us) (λ o. first_leaving y (rank_in o) us)) e in omega (arith, none)
        nobody (x ∷ xs) e h = absurd (omega (arith, h))
    among-most (suc m) S size = rw (among-step S)
        (let most = sum_over-kept_most S n 0
        (first_share S) (factorial m * all_alive S) (λ b at-b from to. share-most S b m at-b
        (omega arith) (smaller b at-b (omega arith)) (among-most m (without S b) (smaller b at-b (omega arith)))) in
        omega (arith, most, ap (λ k. k * (factorial m * all_alive S)) size))
      where
        smaller : (b : ℕ) → S b ≡ true → b < n → length (lives_in n (without S b)) ≡ m
        smaller b at-b low = omega (arith, size, length-with n S b at-b low)
