-- Two readings of a life: by whether it is there at a time, and by whether it leaves in a year.
use Rattle.std.proofs.Common.{◌≡◌, ℕ, ◌-◌, ◌<◌, ◌≤◌, arith, refl, ap, ◌∙◌, List, [], ◌∷◌, Bool, true, false, cond, not, ◌&&◌, nat_eq, Option, ℤ, pos, ◌+ℤ◌, ◌*ℤ◌, ◌-ℤ◌, neg_ℤ}
use Rattle.std.proofs.lemmas.Int.{ints}
use Rattle.halo_sums.specs.Sums.{indicator, int_sum_over, numbers_from}
use Rattle.halo_sums.proofs.Integers.{mul_neg}
use Rattle.halo_sums.proofs.IntSums.{int_sum_over-ext, int_sum_over-pos, int_sum_over-scale}
use Rattle.halo_sums.proofs.Numbers.{int_sum_over-pick}
use Rattle.halo_model.specs.Life.{IsLife, PlainLife, leavers_by}
use Rattle.halo_model.specs.Outcome.{Exit, exit_weight, ways}
use Rattle.halo_model.specs.There.{there}
use Rattle.halo_model.specs.Expectation.{leaves_in}
use Rattle.halo_model.proofs.Expected.{int_sum_over-ways}
use Rattle.halo_model.proofs.OneWay.{one-life}
use Rattle.halo_model.proofs.Readings.{Reading, reading_sum}

-- in the set where it is there at time t, else outside
abbrev pub at_time : ℕ → Reading
at_time t way true = indicator (there t way)
at_time t way false = indicator (not (there t way))

-- once in the set and once less outside, where it leaves in year k by one of some causes
abbrev pub at_leaving : (ℕ → Bool) → ℕ → Reading
at_leaving causes k way true = indicator (leaves_in causes k way)
at_leaving causes k way false = neg_ℤ (indicator (leaves_in causes k way))

pub at_time-inside : (x : PlainLife) → IsLife x → (T t : ℕ) → T ≤ t → (alive : Bool)
    → reading_sum (at_time t) T alive x true ≡ cond alive (pos (x.survivors t)) (pos 0)
at_time-inside x rule T t h alive =
    one-life x rule T t h alive indicator ∙ first-of (cond alive (pos (x.survivors t)) (pos 0))
    (cond alive (pos (x.survivors T) -ℤ pos (x.survivors t)) (pos 1))
  where
    first-of : (c d : ℤ) → c *ℤ pos 1 +ℤ d *ℤ pos 0 ≡ c
    first-of c d = omega (arith, ints)

pub at_time-both : (x : PlainLife) → IsLife x → (T t : ℕ) → T ≤ t → (alive : Bool)
    → reading_sum (at_time t) T alive x true +ℤ reading_sum (at_time t) T alive x false
    ≡ cond alive (pos (x.survivors T)) (pos 1)
at_time-both x rule T t h alive =
    ap (λ z. z +ℤ reading_sum (at_time t) T alive x false) (at_time-inside x rule T t h alive)
    ∙ ap (λ z. cond alive (pos (x.survivors t)) (pos 0) +ℤ z)
    (one-life x rule T t h alive (λ b. indicator (not b))
    ∙ second-of (cond alive (pos (x.survivors t)) (pos 0))
    (cond alive (pos (x.survivors T) -ℤ pos (x.survivors t)) (pos 1)))
    ∙ together alive
  where
    second-of : (c d : ℤ) → c *ℤ pos 0 +ℤ d *ℤ pos 1 ≡ d
    second-of c d = omega (arith, ints)

    together : (alive : Bool)
        → cond alive (pos (x.survivors t)) (pos 0) +ℤ cond alive (pos (x.survivors T) -ℤ pos (x.survivors t)) (pos 1)
        ≡ cond alive (pos (x.survivors T)) (pos 1)
    together true = omega (arith, ints)
    together false = refl

pub at_leaving-inside : (x : PlainLife) (T k : ℕ) (causes : ℕ → Bool) → T ≤ k → k < x.years_left
    → reading_sum (at_leaving causes k) T true x true ≡ pos (leavers_by causes x k)
at_leaving-inside x T k causes h within =
    int_sum_over-ways T x (λ way. pos (exit_weight x way) *ℤ indicator (leaves_in causes k way))
    ∙ int_sum_over-ext (numbers_from T (x.years_left - T)) _ _
    (λ i. int_sum_over-ext (numbers_from 0 x.causes) _ _ (λ j. split (nat_eq i k) (causes j) (x.leavers i j))
    ∙ int_sum_over-scale (numbers_from 0 x.causes) (indicator (nat_eq i k))
    (λ j. pos (cond (causes j) (x.leavers i j) 0))
    ∙ ap (λ z. indicator (nat_eq i k) *ℤ z) (int_sum_over-pos (numbers_from 0 x.causes)
    (λ j. cond (causes j) (x.leavers i j) 0)))
    ∙ int_sum_over-pick (x.years_left - T) T k (λ i. pos (leavers_by causes x i)) h (omega arith)
  where
    split : (year cause : Bool) (n : ℕ) → pos n *ℤ indicator (year && cause) ≡ indicator year *ℤ pos (cond cause n 0)
    split true true n = omega (arith, ints)
    split true false n = omega (arith, ints)
    split false cause n = omega (arith, ints)

pub at_leaving-both : (x : PlainLife) (T k : ℕ) (causes : ℕ → Bool) (alive : Bool)
    → reading_sum (at_leaving causes k) T alive x true +ℤ reading_sum (at_leaving causes k) T alive x false ≡ pos 0
at_leaving-both x T k causes alive = cancel (ways T alive x)
  where
    cancel : (some_ways : List (Option Exit))
        → int_sum_over some_ways (λ way. pos (exit_weight x way) *ℤ indicator (leaves_in causes k way)) +ℤ int_sum_over
        some_ways (λ way. pos (exit_weight x way) *ℤ neg_ℤ (indicator (leaves_in causes k way))) ≡ pos 0
    cancel [] = refl
    cancel (way ∷ some_ways) =
        omega (arith, ints, cancel some_ways, mul_neg (pos (exit_weight x way)) (indicator (leaves_in causes k way)))
