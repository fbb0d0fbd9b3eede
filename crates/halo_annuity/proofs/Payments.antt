-- What a set of lives is paid at some times, by its pure endowments.
use Rattle.std.proofs.Common.{◌≡◌, ℕ, zero, suc, ◌+◌, ◌*◌, ◌-◌, ◌^◌, ◌<◌, ◌≤◌, List, [], ◌∷◌, ◌++◌, Bool, pos, arith, refl, ap, ◌∙◌}
use Rattle.std.proofs.Math.Nat.{mul-le-mul_right}
use Rattle.std.proofs.lemmas.Int.{ints}
use Rattle.halo_sums.specs.Masks.{bits}
use Rattle.halo_sums.specs.Sets.{in_set, size_of}
use Rattle.halo_sums.specs.Sums.{numbers_from, sum_over}
use Rattle.halo_sums.proofs.Numbers.{numbers_from-add}
use Rattle.halo_sums.proofs.SetMasks.{length-bits}
use Rattle.halo_sums.proofs.Sums.{sum_over-append}
use Rattle.halo_interest.specs.Powers.{IsPower}
use Rattle.halo_num.specs.Ends.{Ends, IsWithin, fine}
use Rattle.halo_num.specs.Enclosure.{Encloses}
use Rattle.halo_num.proofs.Enclosures.{encloses_at}
use Rattle.halo_status.specs.Pay.{PlainPay}
use Rattle.halo_status.specs.ValidPay.{HasValidVary}
use Rattle.halo_model.specs.Basis.{Basis, accumulated, discounted}
use Rattle.halo_model.specs.Backward.{paid_at}
use Rattle.halo_model.specs.Outcome.{joint_survivors}
use Rattle.halo_model.proofs.Discounts.{accumulated-from}
use Rattle.halo_life.specs.Lists.{nothing}
use Rattle.halo_compile.proofs.Coefficients.{size-within}
use Rattle.halo_compile.proofs.Sums.{wider}
use Rattle.halo_endowment.specs.Endowment.{EnclosesEndowment}
use Rattle.halo_along.proofs.Counting.{paid-within}
use Rattle.halo_endowment.specs.Payments.{AddsPayments}
use Rattle.halo_annuity.specs.Payments.{EnclosesPayments}
use Rattle.halo_annuity.proofs.Modest.{factor-sized}
use Rattle.halo_annuity.proofs.Passes.{none-worth}

-- the times from a first one to before the next of t are those before t, and t
times-more : (first t : ℕ) → first ≤ t
    → numbers_from first (suc t - first) ≡ numbers_from first (t - first) ++ t ∷ []
times-more first t from =
    let more : suc t - first ≡ (t - first) + 1 = omega (arith, from) in
    let here : first + (t - first) ≡ t = omega (arith, from) in
    ap (λ count. numbers_from first count) more
    ∙ numbers_from-add (t - first) 1 first
    ∙ ap (λ u. numbers_from first (t - first) ++ u ∷ []) here

sum-more : (f : ℕ → ℕ) (first t : ℕ) → first ≤ t
    → sum_over (numbers_from first (suc t - first)) f ≡ sum_over (numbers_from first (t - first)) f + f t
sum-more f first t from =
    ap (λ times. sum_over times f) (times-more first t from)
    ∙ sum_over-append (numbers_from first (t - first)) (t ∷ []) f
    ∙ omega arith

-- numbers that are each at most a bound add up to at most as many times the bound
pub sum-most : (f : ℕ → ℕ) (bound count first : ℕ) → ((t : ℕ) → first ≤ t → t < first + count → f t ≤ bound)
    → sum_over (numbers_from first count) f ≤ count * bound
sum-most f bound zero first each = omega arith
sum-most f bound (suc count) first each =
    omega (
      arith,
      each first (omega arith) (omega arith),
      sum-most f bound count (suc first) (λ t from below. each t (omega arith) (omega arith)),
    )

module _ (b : Basis) (n : ℕ) (pay : PlainPay) (last : ℕ) (s : List Bool) where
  -- before the first time nothing is paid
  pub none-paid : (first : ℕ) (i : Ends) → i ≡ nothing
      → EnclosesPayments b n pay (numbers_from first (first - first)) last s i
  none-paid first i none =
      let start : first - first ≡ 0 = omega arith in
      rw start (none-worth 0 _ _ _ i refl none)

  module _ (first t : ℕ) (from : first ≤ t) where
    abbrev paid : ℕ → ℕ
    paid u = paid_at pay 0 u * (discounted b 0 u * joint_survivors u (in_set s) b.lives)

    -- nor at a time at which the annuity does not pay
    pub no-more : (i : Ends) → paid_at pay 0 t ≡ 0
        → EnclosesPayments b n pay (numbers_from first (t - first)) last s i
        → EnclosesPayments b n pay (numbers_from first (suc t - first)) last s i
    no-more i none worth =
        let before : List ℕ = numbers_from first (t - first) in
        let through : List ℕ = numbers_from first (suc t - first) in
        let once : sum_over through (paid_at pay 0) ≡ sum_over before (paid_at pay 0) =
        omega (arith, sum-more (paid_at pay 0) first t from, none) in
        let nothing_then : paid t ≡ 0 =
        ap (λ (p : ℕ). p * (discounted b 0 t * joint_survivors t (in_set s) b.lives)) none ∙ omega arith in
        let all : sum_over through paid ≡ sum_over before paid =
        omega (arith, sum-more paid first t from, nothing_then) in
        rw (once, all) worth

-- at a time at which it pays
module _ (b : Basis) (n mask : ℕ) (pay : PlainPay) (last first t : ℕ) (from : first ≤ t) (to : t ≤ last)
    (in_time : t ≤ b.last_time) where
  abbrev s : List Bool
  s = bits n mask

  -- the pure endowment of a set, in the parts of the interest of all years
  endowed : (i : Ends) → EnclosesEndowment b n 0 t mask i
      → Encloses i (pos (discounted b 0 t * joint_survivors t (in_set s) b.lives))
      (joint_survivors 0 (in_set s) b.lives * accumulated b 0)
  endowed i of_set = encloses_at i _ _ _ _ (accumulated b t) of_set.encloses
      (ap pos (omega arith))
      (rw (accumulated-from b 0 t (omega arith) in_time) (omega arith))

  as-wide : 3 * (t - 0) + 2 * size_of s ≤ 3 * last + 2 * n
  as-wide = omega (arith, to, size-within s, length-bits n mask)

  pub paid-more : (chance before result : Ends) → EnclosesEndowment b n 0 t mask chance
      → AddsPayments (paid_at pay 0 t) chance before result
      → EnclosesPayments b n pay (numbers_from first (t - first)) last s before
      → EnclosesPayments b n pay (numbers_from first (suc t - first)) last s result
  paid-more chance before result of_set adds worth =
      let narrow = adds.narrow _ _ worth.narrow (wider chance _ _ as-wide of_set.narrow) in
      rw (
        sum-more (paid_at pay 0) first t from,
        sum-more (λ u. paid_at pay 0 u * (discounted b 0 u * joint_survivors u (in_set s) b.lives)) first t from,
      ) (record {
        encloses = λ some. adds.encloses _ _ _ (worth.encloses some) (endowed chance of_set);
        narrow = wider result _ _ (omega arith) narrow;
        within = record { low = adds.from; high = adds.bound _ worth.within.high };
      })

-- payments of an annuity of 1 up to the last time are few enough
module _ (pay : PlainPay) (one : pay.amount ≡ 1) (varies : HasValidVary pay.vary) where
  paid-few : (t : ℕ) → t ≤ 200 → paid_at pay 0 t ≤ 201
  paid-few t in_time = omega (arith, paid-within pay one 0 t 200 in_time, factor-sized pay.vary varies)

  pub all-few : (first count : ℕ) → first + count ≤ 201
      → sum_over (numbers_from first count) (paid_at pay 0) ≤ 201 * 201
  all-few first count in_time =
      let each = λ (t : ℕ) (from : first ≤ t) (below : t < first + count).
      paid-few t (omega (arith, below, in_time)) in
      omega (arith, sum-most (paid_at pay 0) 201 count first each, in_time)

  pub payments-modest : (b : Basis) (n first count last : ℕ) (s : List Bool) (i : Ends) → first + count ≤ 201
      → EnclosesPayments b n pay (numbers_from first count) last s i → IsWithin i (pos 0) (pos (10 ^ 32))
  payments-modest b n first count last s i in_time worth =
      let few = mul-le-mul_right fine (all-few first count in_time) in
      record { low = worth.within.low; high = omega (arith, ints, worth.within.high, few) }

-- the discount factor of t years from time 0, as that from a start at 0
pub from-start : (n d : ℕ → ℕ) (start t : ℕ) (i : Ends)
    → start ≡ 0 → IsPower n d 0 t i → IsPower n d start (t - start) i
from-start n d start t i e power = let years : t - 0 ≡ t = omega arith in rw (e, years) power
