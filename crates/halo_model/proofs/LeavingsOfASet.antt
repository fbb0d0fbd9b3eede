-- Leavings in a year, as the chances of leaving ask for them, and the first of a set to leave.
use Rattle.std.proofs.Common.{◌≡◌, ℕ, zero, suc, ◌*◌, ◌<◌, arith, refl, ap, sym, ◌∙◌, List, [], ◌∷◌, length, get_or, Bool, true, false, cond, nat_eq, nat_lt, ℤ, pos, ◌*ℤ◌, ⊎_elim}
use Rattle.std.specs.List.{filter}
use Rattle.std.proofs.Math.Path.{fun_ext}
use Rattle.std.proofs.lemmas.Int.{ints}
use Rattle.std.proofs.lemmas.Bool.Decides.{eqb_tells, nat_tests}
use Rattle.halo_sums.specs.Sums.{numbers_from, product_over}
use Rattle.halo_sums.specs.Sets.{in_set}
use Rattle.halo_sums.proofs.IntSums.{int_sum_over-pos}
use Rattle.halo_sums.proofs.Numbers.{int_sum_over-numbers_ext}
use Rattle.halo_model.specs.Life.{PlainLife, after_first, leavers_by}
use Rattle.halo_model.specs.EvenTies.{YearNumbers, lives_in, number_at, without}
use Rattle.halo_model.specs.Expectation.{all_there, all_there_at_leaving, looked_at}
use Rattle.halo_model.specs.OrderLaws.{LeavingsOfASet, no_life, year_numbers}
use Rattle.halo_model.proofs.EvenTies.{number-itself, sum_over-kept, taken-out}

-- a product over the lives of a set, the first life apart
pub next-lives : (S : ℕ → Bool) (count first : ℕ) (f : ℕ → ℕ) → product_over (filter S (numbers_from (suc first) count))
    f ≡ product_over (filter (after_first S) (numbers_from first count)) (after_first f)
next-lives S zero first f = refl
next-lives S (suc count) first f = each (S (suc first)) (next-lives S count (suc first) f)
  where
    each : (b : Bool) → product_over (filter S (numbers_from (suc (suc first)) count)) f
        ≡ product_over (filter (after_first S) (numbers_from (suc first) count)) (after_first f)
        → product_over (cond b (suc first ∷ filter S (numbers_from (suc (suc first)) count))
        (filter S (numbers_from (suc (suc first)) count))) f
        ≡ product_over (cond b (first ∷ filter (after_first S) (numbers_from (suc first) count))
        (filter (after_first S) (numbers_from (suc first) count))) (after_first f)
    each true e = ap (λ m. f (suc first) * m) e
    each false e = e

-- the survivors of a life at the time at which it is looked at
abbrev survivors_at : List PlainLife → (ℕ → ℕ) → ℕ → ℕ
survivors_at lives times i = (get_or lives i no_life).survivors (times i)

all-there : (lives : List PlainLife) (s : List Bool) → length s ≡ length lives → (times : ℕ → ℕ) (T : ℕ) → all_there
    times T (in_set s) lives s ≡ pos (product_over (lives_in (length lives) (in_set s)) (survivors_at lives times))
all-there [] s same times T = refl
all-there (x ∷ lives) [] same times T = absurd (omega (arith, same))
all-there (x ∷ lives) (true ∷ s) same times T =
    ap (λ z. pos (x.survivors (times 0)) *ℤ z) (all-there lives s (omega (arith, same)) (after_first times) T)
    ∙ ap (λ m. pos (x.survivors (times 0) * m))
    (sym (next-lives (in_set (true ∷ s)) (length lives) 0 (survivors_at (x ∷ lives) times)))
all-there (x ∷ lives) (false ∷ s) same times T =
    ap (λ z. pos 1 *ℤ z) (all-there lives s (omega (arith, same)) (after_first times) T)
    ∙ ap pos (omega arith ∙ sym (next-lives (in_set (false ∷ s)) (length lives) 0 (survivors_at (x ∷ lives) times)))

-- where life a leaves: who leave for itself, and the survivors of the others
abbrev leaving_at : List PlainLife → (ℕ → Bool) → ℕ → (ℕ → ℕ) → ℕ → ℕ → ℕ
leaving_at lives causes k times a i =
    cond (nat_eq i a) (leavers_by causes (get_or lives i no_life) k) (survivors_at lives times i)

pub past : (i : ℕ) → nat_eq (suc i) 0 ≡ false
past i = grind (arith, nat_tests)

pub before : (a : ℕ) → nat_eq 0 (suc a) ≡ false
before a = grind (arith, nat_tests)

pub next : (i a : ℕ) → nat_eq (suc i) (suc a) ≡ nat_eq i a
next i a = grind (arith, nat_tests)

shifted : (x : PlainLife) (lives : List PlainLife) (causes : ℕ → Bool) (k : ℕ) (times : ℕ → ℕ) (a : ℕ) (u : List Bool)
    → product_over (lives_in (length lives) (after_first (in_set u))) (leaving_at lives causes k (after_first times) a)
    ≡ product_over (filter (in_set u) (numbers_from 1 (length lives)))
    (leaving_at (x ∷ lives) causes k times (suc a))
shifted x lives causes k times a u =
    ap (product_over (lives_in (length lives) (after_first (in_set u)))) (fun_ext (λ i. ap (λ b. cond b
    (leavers_by causes (get_or lives i no_life) k) (survivors_at lives (after_first times) i)) (sym (next i a))))
    ∙ sym (next-lives (in_set u) (length lives) 0 (leaving_at (x ∷ lives) causes k times (suc a)))

at-leaving : (lives : List PlainLife) (s : List Bool)
    → length s ≡ length lives → (a : ℕ) → a < length lives → (causes : ℕ → Bool) (k : ℕ) (times : ℕ → ℕ) (T : ℕ)
    → all_there_at_leaving a causes k times T (in_set s) lives s ≡ cond (in_set s a)
    (pos (product_over (lives_in (length lives) (in_set s)) (leaving_at lives causes k times a))) (pos 0)
at-leaving [] s same a low causes k times T = absurd (omega arith)
at-leaving (x ∷ lives) [] same a low causes k times T = absurd (omega (arith, same))
at-leaving (x ∷ lives) (true ∷ s) same zero low causes k times T =
    ap (λ z. pos (leavers_by causes x k) *ℤ z) (all-there lives s (omega (arith, same)) (after_first times) T)
    ∙ ap (λ f. pos (leavers_by causes x k * product_over (lives_in (length lives) (in_set s)) f))
    (fun_ext (λ i. sym (ap (λ b. cond b
    (leavers_by causes (get_or lives i no_life) k) (survivors_at lives (after_first times) i)) (past i))))
    ∙ ap (λ m. pos (leavers_by causes x k * m))
    (sym (next-lives (in_set (true ∷ s)) (length lives) 0 (leaving_at (x ∷ lives) causes k times 0)))
at-leaving (x ∷ lives) (false ∷ s) same zero low causes k times T = omega (arith, ints)
at-leaving (x ∷ lives) (true ∷ s) same (suc a) low causes k times T = ap (λ z. pos (x.survivors (times 0)) *ℤ z)
    (at-leaving lives s (omega (arith, same)) a (omega arith) causes k (after_first times) T)
    ∙ each (in_set s a)
    ∙ ap (λ m. cond (in_set s a) (pos m) (pos 0)) (ap
    (λ m. m * product_over (lives_in (length lives) (in_set s)) (leaving_at lives causes k (after_first times) a))
    (sym (ap (λ b. cond b (leavers_by causes x k) (x.survivors (times 0))) (before a)))
    ∙ ap (λ m. leaving_at (x ∷ lives) causes k times (suc a) 0 * m) (shifted x lives causes k times a (true ∷ s)))
  where
    each : (b : Bool) → pos (x.survivors (times 0)) *ℤ cond b (pos
        (product_over (lives_in (length lives) (in_set s)) (leaving_at lives causes k (after_first times) a))) (pos 0)
        ≡ cond b (pos (x.survivors (times 0) * product_over
        (lives_in (length lives) (in_set s)) (leaving_at lives causes k (after_first times) a))) (pos 0)
    each true = refl
    each false = omega (arith, ints)
at-leaving (x ∷ lives) (false ∷ s) same (suc a) low causes k times T =
    ap (λ z. pos 1 *ℤ z) (at-leaving lives s (omega (arith, same)) a (omega arith) causes k (after_first times) T)
    ∙ one (cond (in_set s a) (pos
    (product_over (lives_in (length lives) (in_set s)) (leaving_at lives causes k (after_first times) a))) (pos 0))
    ∙ ap (λ m. cond (in_set s a) (pos m) (pos 0)) (shifted x lives causes k times a (false ∷ s))
  where
    one : (z : ℤ) → pos 1 *ℤ z ≡ z
    one z = omega (arith, ints)

-- where the life counts, what its chance of leaving asks for is what the first to leave asks for
same-numbers : (lives : List PlainLife) (k : ℕ) (counts causes : ℕ → Bool) (rank : ℕ → ℕ) (a : ℕ)
    → counts a ≡ true → (i : ℕ)
    → leaving_at lives causes k (looked_at rank a k) a i ≡ number_at (year_numbers counts causes lives k) rank a i
same-numbers lives k counts causes rank a counting i = ⊎_elim
    (λ h. rw (h.0, h.1, counting) refl)
    (λ h. rw h.0 (each (nat_lt (rank i) (rank a))))
    (eqb_tells i a)
  where
    each : (b : Bool) → (get_or lives i no_life).survivors (cond b (suc k) k)
        ≡ cond b ((get_or lives i no_life).survivors (suc k)) ((get_or lives i no_life).survivors k)
    each true = refl
    each false = refl

pub leavings-of-a-set : LeavingsOfASet
leavings-of-a-set lives k counts causes rank s same =
    int_sum_over-numbers_ext n 0 _ _ (λ a from to. ap (λ z. cond (counts a) z (pos 0)) (at-leaving lives s same a
    (omega arith) causes k (looked_at rank a k) k) ∙ each a (omega arith) (counts a) (in_set s a) refl refl)
    ∙ int_sum_over-pos
    (numbers_from 0 n) (λ a. cond (in_set s a) (product_over (lives_in n (in_set s)) (number_at y rank a)) 0)
    ∙ ap pos (sym
    (sum_over-kept (in_set s) (numbers_from 0 n) (λ a. product_over (lives_in n (in_set s)) (number_at y rank a))))
  where
    n : ℕ
    n = length lives

    y : YearNumbers
    y = year_numbers counts causes lives k

    each : (a : ℕ) → a < n → (c b : Bool) → counts a ≡ c → in_set s a ≡ b
        → cond c (cond b (pos (product_over (lives_in n (in_set s)) (leaving_at lives causes k (looked_at rank a k) a)))
        (pos 0)) (pos 0) ≡ pos (cond b (product_over (lives_in n (in_set s)) (number_at y rank a)) 0)
    each a low true true counting there = ap (λ f. pos (product_over (lives_in n (in_set s)) f))
        (fun_ext (same-numbers lives k counts causes rank a counting))
    each a low true false counting gone = refl
    each a low false true ignored there =
        ap pos (sym ((taken-out (in_set s) n 0 a there (omega arith) (omega arith)).1 (number_at y rank a)
        ∙ ap (λ m. m * product_over (filter (without (in_set s) a) (numbers_from 0 n)) (number_at y rank a))
        (number-itself n y rank a ∙ ap (λ t. cond t (leavers_by causes (get_or lives a no_life) k) 0) ignored)
        ∙ omega arith))
    each a low false false ignored gone = refl
