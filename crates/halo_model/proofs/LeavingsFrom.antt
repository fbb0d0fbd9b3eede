-- Leavings in a year, seen from an earlier time with some lives alive, and the first of a set to leave.
use Rattle.std.proofs.Common.{◌≡◌, ℕ, zero, suc, ◌*◌, ◌<◌, arith, refl, ap, sym, ◌∙◌, List, [], ◌∷◌, length, get_or, Bool, true, false, cond, nat_eq, nat_lt, pos, ◌*ℤ◌, ⊎_elim}
use Rattle.std.specs.List.{filter}
use Rattle.std.proofs.Math.Path.{fun_ext}
use Rattle.std.proofs.lemmas.Int.{ints}
use Rattle.std.proofs.lemmas.Bool.Decides.{eqb_tells}
use Rattle.halo_sums.specs.Sums.{int_sum_over, numbers_from, product_over}
use Rattle.halo_sums.specs.Sets.{in_set}
use Rattle.halo_sums.proofs.IntSums.{int_sum_over-pos}
use Rattle.halo_sums.proofs.Numbers.{int_sum_over-numbers_ext}
use Rattle.halo_sums.proofs.Sums.{sum_over-scale}
use Rattle.halo_model.specs.Life.{PlainLife, after_first, leavers_by}
use Rattle.halo_model.specs.EvenTies.{YearNumbers, first_leaving, lives_in, number_at, without}
use Rattle.halo_model.specs.Expectation.{all_there, all_there_at_leaving, looked_at, survivors_if, whole_if}
use Rattle.halo_model.specs.OrderLaws.{no_life}
use Rattle.halo_model.proofs.EvenTies.{number-itself, sum_over-kept, taken-out}
use Rattle.halo_model.proofs.LeavingsOfASet.{next, next-lives, past, before}

-- the survivors at T of the lives outside of a set that are alive then
abbrev pub survivors_outside : ℕ → (ℕ → Bool) → List PlainLife → List Bool → ℕ
survivors_outside T S [] s = 1
survivors_outside T S (x ∷ lives) [] = 1
survivors_outside T S (x ∷ lives) (true ∷ s) = survivors_outside T (after_first S) lives s
survivors_outside T S (x ∷ lives) (false ∷ s) =
    cond (S 0) (x.survivors T) 1 * survivors_outside T (after_first S) lives s

abbrev pub survivors_from : (ℕ → Bool) → List PlainLife → (ℕ → ℕ) → ℕ → ℕ
survivors_from S lives times i = cond (S i) ((get_or lives i no_life).survivors (times i)) 0

abbrev leaving_from : (ℕ → Bool) → List PlainLife → (ℕ → Bool) → ℕ → (ℕ → ℕ) → ℕ → ℕ → ℕ
leaving_from S lives causes k times a i =
    cond (nat_eq i a) (leavers_by causes (get_or lives i no_life) k) (survivors_from S lives times i)

if-there : (c : Bool) (x : PlainLife) (t : ℕ) → survivors_if c x t ≡ pos (cond c (x.survivors t) 0)
if-there true x t = refl
if-there false x t = refl

if-whole : (c : Bool) (x : PlainLife) (T : ℕ) → whole_if c x T ≡ pos (cond c (x.survivors T) 1)
if-whole true x T = refl
if-whole false x T = refl

inner : (o a p : ℕ) → a * (o * p) ≡ o * (a * p)
inner o a p = omega arith

outer : (o a p : ℕ) → a * (o * p) ≡ (a * o) * p
outer o a p = omega arith

all-there-from : (lives : List PlainLife) (s : List Bool)
    → length s ≡ length lives → (times : ℕ → ℕ) (T : ℕ) (S : ℕ → Bool)
    → all_there times T S lives s ≡ pos (survivors_outside T S lives s
    * product_over (lives_in (length lives) (in_set s)) (survivors_from S lives times))
all-there-from [] s same times T S = refl
all-there-from (x ∷ lives) [] same times T S = absurd (omega (arith, same))
all-there-from (x ∷ lives) (true ∷ s) same times T S =
    ap (λ z. z *ℤ all_there (after_first times) T (after_first S) lives s) (if-there (S 0) x (times 0))
    ∙ ap (λ z. pos (cond (S 0) (x.survivors (times 0)) 0) *ℤ z)
    (all-there-from lives s (omega (arith, same)) (after_first times) T (after_first S))
    ∙ ap pos (inner (survivors_outside T (after_first S) lives s) (cond (S 0) (x.survivors (times 0)) 0) _)
    ∙ ap (λ m. pos (survivors_outside T (after_first S) lives s * (cond (S 0) (x.survivors (times 0)) 0 * m)))
    (sym (next-lives (in_set (true ∷ s)) (length lives) 0 (survivors_from S (x ∷ lives) times)))
all-there-from (x ∷ lives) (false ∷ s) same times T S =
    ap (λ z. z *ℤ all_there (after_first times) T (after_first S) lives s) (if-whole (S 0) x T)
    ∙ ap (λ z. pos (cond (S 0) (x.survivors T) 1) *ℤ z)
    (all-there-from lives s (omega (arith, same)) (after_first times) T (after_first S))
    ∙ ap pos (outer (survivors_outside T (after_first S) lives s) (cond (S 0) (x.survivors T) 1) _)
    ∙ ap (λ m. pos (cond (S 0) (x.survivors T) 1 * survivors_outside T (after_first S) lives s * m))
    (sym (next-lives (in_set (false ∷ s)) (length lives) 0 (survivors_from S (x ∷ lives) times)))

shifted-from : (S : ℕ → Bool)
    (x : PlainLife) (lives : List PlainLife) (causes : ℕ → Bool) (k : ℕ) (times : ℕ → ℕ) (a : ℕ) (u : List Bool)
    → product_over (lives_in (length lives) (after_first (in_set u)))
    (leaving_from (after_first S) lives causes k (after_first times) a) ≡ product_over
    (filter (in_set u) (numbers_from 1 (length lives))) (leaving_from S (x ∷ lives) causes k times (suc a))
shifted-from S x lives causes k times a u = ap (product_over (lives_in (length lives) (after_first (in_set u))))
    (fun_ext (λ i. ap (λ b. cond b (leavers_by causes (get_or lives i no_life) k)
    (survivors_from (after_first S) lives (after_first times) i)) (sym (next i a))))
    ∙ sym (next-lives (in_set u) (length lives) 0 (leaving_from S (x ∷ lives) causes k times (suc a)))

at-leaving-from : (lives : List PlainLife) (s : List Bool) → length s ≡ length lives
    → (a : ℕ) → a < length lives → (causes : ℕ → Bool) (k : ℕ) (times : ℕ → ℕ) (T : ℕ) (S : ℕ → Bool)
    → all_there_at_leaving a causes k times T S lives s ≡ cond (in_set s a) (pos (survivors_outside T S lives s
    * product_over (lives_in (length lives) (in_set s)) (leaving_from S lives causes k times a))) (pos 0)
at-leaving-from [] s same a low causes k times T S = absurd (omega arith)
at-leaving-from (x ∷ lives) [] same a low causes k times T S = absurd (omega (arith, same))
at-leaving-from (x ∷ lives) (true ∷ s) same zero low causes k times T S = ap (λ z. pos (leavers_by causes x k) *ℤ z)
    (all-there-from lives s (omega (arith, same)) (after_first times) T (after_first S))
    ∙ ap pos (inner (survivors_outside T (after_first S) lives s) (leavers_by causes x k) _)
    ∙ ap (λ f. pos (survivors_outside T
    (after_first S) lives s * (leavers_by causes x k * product_over (lives_in (length lives) (in_set s)) f)))
    (fun_ext (λ i. sym (ap (λ b. cond b (leavers_by causes (get_or lives i no_life) k)
    (survivors_from (after_first S) lives (after_first times) i)) (past i))))
    ∙ ap (λ m. pos (survivors_outside T (after_first S) lives s * (leavers_by causes x k * m)))
    (sym (next-lives (in_set (true ∷ s)) (length lives) 0 (leaving_from S (x ∷ lives) causes k times 0)))
at-leaving-from (x ∷ lives) (false ∷ s) same zero low causes k times T S = omega (arith, ints)
at-leaving-from (x ∷ lives) (true ∷ s) same (suc a) low causes k times T S =
    ap (λ z. z *ℤ all_there_at_leaving a causes k (after_first times) T (after_first S) lives s)
    (if-there (S 0) x (times 0))
    ∙ ap (λ z. pos (cond (S 0) (x.survivors (times 0)) 0) *ℤ z)
    (at-leaving-from lives s (omega (arith, same)) a (omega arith) causes k (after_first times) T (after_first S))
    ∙ each
    (in_set s a) (cond (S 0) (x.survivors (times 0)) 0) (survivors_outside T (after_first S) lives s) (product_over
    (lives_in (length lives) (in_set s)) (leaving_from (after_first S) lives causes k (after_first times) a))
    ∙ ap (λ m. cond (in_set s a) (pos (survivors_outside T (after_first S) lives s * m)) (pos 0))
    (ap (λ m. m * product_over
    (lives_in (length lives) (in_set s)) (leaving_from (after_first S) lives causes k (after_first times) a))
    (sym (ap (λ b. cond b (leavers_by causes x k) (cond (S 0) (x.survivors (times 0)) 0)) (before a))) ∙ ap (λ m.
    leaving_from S (x ∷ lives) causes k times (suc a) 0 * m) (shifted-from S x lives causes k times a (true ∷ s)))
  where
    each : (b : Bool) (m o p : ℕ) → pos m *ℤ cond b (pos (o * p)) (pos 0) ≡ cond b (pos (o * (m * p))) (pos 0)
    each true m o p = ap pos (inner o m p)
    each false m o p = omega (arith, ints)
at-leaving-from (x ∷ lives) (false ∷ s) same (suc a) low causes k times T S =
    ap (λ z. z *ℤ all_there_at_leaving a causes k (after_first times) T (after_first S) lives s) (if-whole (S 0) x T)
    ∙ ap (λ z. pos (cond (S 0) (x.survivors T) 1) *ℤ z)
    (at-leaving-from lives s (omega (arith, same)) a (omega arith) causes k (after_first times) T (after_first S))
    ∙ each (in_set s a) (cond (S 0) (x.survivors T) 1) (survivors_outside T (after_first S) lives s) (product_over
    (lives_in (length lives) (in_set s)) (leaving_from (after_first S) lives causes k (after_first times) a))
    ∙ ap (λ m. cond (in_set s a) (pos (cond (S 0) (x.survivors T) 1 * survivors_outside T (after_first S) lives s * m))
    (pos 0)) (shifted-from S x lives causes k times a (false ∷ s))
  where
    each : (b : Bool) (m o p : ℕ) → pos m *ℤ cond b (pos (o * p)) (pos 0) ≡ cond b (pos (m * o * p)) (pos 0)
    each true m o p = ap pos (outer o m p)
    each false m o p = omega (arith, ints)

-- the numbers of year k of the lives alive at T, of whom those who leave by one of some causes count where the life
-- does
abbrev pub numbers_from_then : (ℕ → Bool) → (ℕ → Bool) → (ℕ → Bool) → List PlainLife → ℕ → YearNumbers
numbers_from_then S counts causes lives k = record {
  alive = λ i. survivors_from S lives (λ j. k) i;
  staying = λ i. survivors_from S lives (λ j. suc k) i;
  leaving = λ i. cond (counts i) (leavers_by causes (get_or lives i no_life) k) 0;
}

same-numbers-from : (S : ℕ → Bool) (lives : List PlainLife) (k : ℕ) (counts causes : ℕ → Bool) (rank : ℕ → ℕ) (a : ℕ)
    → counts a ≡ true → (i : ℕ) → leaving_from S lives causes k (looked_at rank a k) a i
    ≡ number_at (numbers_from_then S counts causes lives k) rank a i
same-numbers-from S lives k counts causes rank a counting i = ⊎_elim
    (λ h. rw (h.0, h.1, counting) refl)
    (λ h. rw h.0 (each (nat_lt (rank i) (rank a))))
    (eqb_tells i a)
  where
    each : (b : Bool) → cond (S i) ((get_or lives i no_life).survivors (cond b (suc k) k)) 0
        ≡ cond b (cond (S i) ((get_or lives i no_life).survivors (suc k)) 0)
        (cond (S i) ((get_or lives i no_life).survivors k) 0)
    each true = refl
    each false = refl

pub leavings-from : (lives : List PlainLife)
    (k : ℕ) (counts causes : ℕ → Bool) (rank : ℕ → ℕ) (T : ℕ) (S : ℕ → Bool) (s : List Bool) → length s ≡ length lives
    → int_sum_over (numbers_from 0 (length lives))
    (λ a. cond (counts a) (all_there_at_leaving a causes k (looked_at rank a k) T S lives s) (pos 0))
    ≡ pos (survivors_outside T S lives s
    * first_leaving (numbers_from_then S counts causes lives k) rank (lives_in (length lives) (in_set s)))
leavings-from lives k counts causes rank T S s same =
    int_sum_over-numbers_ext n 0 _ _ (λ a from to. ap (λ z. cond (counts a) z (pos 0)) (at-leaving-from lives s same a
    (omega arith) causes k (looked_at rank a k) T S) ∙ each a (omega arith) (counts a) (in_set s a) refl refl)
    ∙ int_sum_over-pos
    (numbers_from 0 n) (λ a. cond (in_set s a) (o * product_over (lives_in n (in_set s)) (number_at y rank a)) 0)
    ∙ ap pos (sym (sum_over-kept
    (in_set s) (numbers_from 0 n) (λ a. o * product_over (lives_in n (in_set s)) (number_at y rank a)))
    ∙ sum_over-scale (lives_in n (in_set s)) o (λ a. product_over (lives_in n (in_set s)) (number_at y rank a)))
  where
    n : ℕ
    n = length lives

    o : ℕ
    o = survivors_outside T S lives s

    y : YearNumbers
    y = numbers_from_then S counts causes lives k

    zeroed : (m p : ℕ) → m ≡ 0 * p → o * m ≡ 0
    zeroed m p e = rw e (omega arith)

    each : (a : ℕ) → a < n → (c b : Bool) → counts a ≡ c → in_set s a ≡ b
        → cond c (cond b
        (pos (o * product_over (lives_in n (in_set s)) (leaving_from S lives causes k (looked_at rank a k) a)))
        (pos 0)) (pos 0) ≡ pos (cond b (o * product_over (lives_in n (in_set s)) (number_at y rank a)) 0)
    each a low true true counting there = ap (λ f. pos (o * product_over (lives_in n (in_set s)) f))
        (fun_ext (same-numbers-from S lives k counts causes rank a counting))
    each a low true false counting gone = refl
    each a low false true ignored there =
        ap pos (sym (zeroed _ (product_over (filter (without (in_set s) a) (numbers_from 0 n)) (number_at y rank a))
        ((taken-out (in_set s) n 0 a there (omega arith) (omega arith)).1 (number_at y rank a)
        ∙ ap (λ m. m * product_over (filter (without (in_set s) a) (numbers_from 0 n)) (number_at y rank a))
        (number-itself n y rank a ∙ ap (λ t. cond t (leavers_by causes (get_or lives a no_life) k) 0) ignored))))
    each a low false false ignored gone = refl
