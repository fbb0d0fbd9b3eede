-- How wide the sets of an annuity are together: at most its count.
use Rattle.std.proofs.Common.{◌≡◌, ℕ, zero, suc, ◌+◌, ◌*◌, ◌-◌, ◌^◌, ◌<◌, ◌≤◌, List, map, Bool, cond, false, ℤ, pos, negsuc, arith, refl, ap, sym, ◌∙◌, ⊎_elim}
use Rattle.std.proofs.Math.Nat.{mul-le-mul_right, pow-le-pow_left}
use Rattle.std.proofs.lemmas.Bool.{cases_lt}
use Rattle.std.proofs.lemmas.Nat.{mul-le}
use Rattle.std.proofs.lemmas.Bool.Decides.{nat_tests}
use Rattle.halo_sums.specs.Sums.{numbers_from, sum_over}
use Rattle.halo_sums.specs.Sets.{sets}
use Rattle.halo_sums.specs.Masks.{bits}
use Rattle.halo_sums.proofs.Integers.{pos_injective}
use Rattle.halo_sums.proofs.IntSums.{int_sum_over-pos}
use Rattle.halo_sums.proofs.Masks.{int_sum_over-masks}
use Rattle.halo_sums.proofs.Sums.{sum_over-add, sum_over-ext, sum_over-map, sum_over-none, sum_over-scale}
use Rattle.halo_status.specs.Pay.{PlainPay}
use Rattle.halo_status.specs.declared.pay.Kind.{Kind}
use Rattle.halo_status.specs.declared.pay.Kind.TheVariants.{Insurance, Due, Immediate}
use Rattle.halo_model.specs.Payment.{payment}
use Rattle.halo_model.specs.Coefficient.{form}
use Rattle.halo_model.specs.Counts.{Measures, form_weight, greatest, greatest_factor, size, width_count}
use Rattle.halo_model.specs.Segment.{coefficients_at, first_time, last_time_of_form}
use Rattle.halo_model.specs.Backward.{above_zero, below_zero, gain, loss, may_pay, paid_at, years_passed}
use Rattle.halo_along.proofs.Counting.{paid-within}
use Rattle.halo_annuity.specs.Worth.{paid_in_all, waited}

-- what is paid by two is paid by both
paid_in_all-add : (f g : ℕ → ℕ) (years t : ℕ)
    → paid_in_all (λ u. f u + g u) t years ≡ paid_in_all f t years + paid_in_all g t years
paid_in_all-add f g zero t = refl
paid_in_all-add f g (suc years) t = omega (arith, paid_in_all-add f g years (suc t))

waited-add : (f g : ℕ → ℕ) (years t : ℕ) → waited (λ u. f u + g u) t years ≡ waited f t years + waited g t years
waited-add f g zero t = refl
waited-add f g (suc years) t = omega (arith, paid_in_all-add f g years (suc t), waited-add f g years (suc t))

module _ {X : Type 0} (xs : List X) (paid : X → ℕ → ℕ) (bound : ℕ) where
  -- what is paid at each time to all together is at most a bound
  abbrev pub AtMost : ℕ → ℕ → Type 0
  AtMost t years = (u : ℕ) → t ≤ u → u < t + years → sum_over xs (λ x. paid x u) ≤ bound

  pub most-together : (years t : ℕ) → AtMost t years → sum_over xs (λ x. paid_in_all (paid x) t years) ≤ years * bound
  most-together zero t h = omega (arith, sum_over-none xs)
  most-together (suc years) t h =
      omega (
        arith,
        sum_over-add xs (λ x. paid x t) (λ x. paid_in_all (paid x) (suc t) years),
        h t
            (omega arith) (omega arith),
        most-together years (suc t) (λ u from below. h u (omega arith) (omega arith)),
      )

  -- and so carried back over the years it is at most so many times the bound, times one year less
  pub waited-together : (years t h : ℕ)
      → years ≤ suc h → AtMost t years → sum_over xs (λ x. waited (paid x) t years) ≤ years * h * bound
  waited-together zero t h few each = omega (arith, sum_over-none xs)
  waited-together (suc years) t zero few each =
      let none : years ≡ 0 = omega arith in
      rw none (omega (arith, sum_over-none xs))
  waited-together (suc years) t (suc h) few each =
      let later = waited-together years (suc t) h (omega arith) (λ u from below. each u (omega arith) (omega arith)) in
      let most = most-together years (suc t) (λ u from below. each u (omega arith) (omega arith)) in
      let twice = sum_over-scale xs 2 (λ x. paid_in_all (paid x) (suc t) years) in
      let split = sum_over-add xs (λ x. 2 * paid_in_all (paid x) (suc t) years) (λ x. waited (paid x) (suc t) years) in
      let less : years * bound ≤ (h + 1) * bound = mul-le-mul_right bound (omega arith) in
      omega (arith, later, most, twice, split, less)

-- a coefficient's two parts are its size
two-parts : (z : ℤ) → above_zero z + below_zero z ≡ size z
two-parts (pos n) = omega arith
two-parts (negsuc n) = omega arith

pub both-parts : (pay : PlainPay) (T t : ℕ) (s : List Bool)
    → gain pay T s t + loss pay T s t ≡ paid_at pay T t * size (form pay t s)
both-parts pay T t s = omega (arith, ap (λ (n : ℕ). paid_at pay T t * n) (two-parts (form pay t s)))

-- each of some numbers is at most the greatest
greatest-above : (f : ℕ → ℕ) (count first t : ℕ)
    → first ≤ t → t < first + count → f t ≤ greatest 1 (map f (numbers_from first count))
greatest-above f zero first t from below = absurd (omega arith)
greatest-above f (suc count) first t from below = ⊎_elim
    (λ (later : first < t). omega (arith, greatest-above f count (suc first) t (omega arith) (omega arith)))
    (λ (here : t ≤ first). let e : t ≡ first = omega arith in rw e (omega arith))
    (cases_lt first t)

pub sums-of-masks : (n : ℕ) (f : List Bool → ℕ)
    → sum_over (numbers_from 0 (2 ^ n)) (λ mask. f (bits n mask)) ≡ sum_over (sets n) f
sums-of-masks n f = pos_injective _ _ (sym (int_sum_over-pos (numbers_from 0 (2 ^ n)) (λ mask. f (bits n mask)))
    ∙ int_sum_over-masks n (λ s. pos (f s)) ∙ int_sum_over-pos (sets n) f)

-- the sizes of the coefficients at a time of the form
pub sizes-within : (pay : PlainPay) (n years t : ℕ) → first_time pay.kind ≤ t → t < first_time pay.kind + years
    → sum_over (numbers_from 0 (2 ^ n)) (λ mask. size (form pay t (bits n mask))) ≤ form_weight pay n years
sizes-within pay n years t from below =
    let e = sums-of-masks n (λ s. size (form pay t s)) ∙ sym (sum_over-map (form pay t) (sets n) size) in
    omega (
      arith,
      e,
      greatest-above (λ u. sum_over (coefficients_at pay n u) size) years (first_time pay.kind) t from below,
    )

-- before the first time of its form nothing is paid
pub never-before : (kind : Kind) (defer T t : ℕ) → t < first_time kind → may_pay kind defer T t ≡ false
never-before Insurance defer T t h = absurd (omega arith)
never-before Due defer T t h = absurd (omega arith)
never-before Immediate defer T t h = let e : t ≡ 0 = omega arith in rw e (grind (arith, nat_tests))

-- what the coefficients of all sets pay at a time of the form, without their signs
pub paid-together : (pay : PlainPay)
    → pay.amount ≡ 1 → (n years T t : ℕ) → 1 ≤ years → t ≤ last_time_of_form pay.kind years
    → sum_over (numbers_from 0 (2 ^ n)) (λ mask. gain pay T (bits n mask) t + loss pay T (bits n mask) t)
    ≤ greatest_factor pay.vary years * form_weight pay n years
paid-together pay one n years T t some within = ⊎_elim
    (λ (before : t < first_time pay.kind).
    let e : (s : List Bool) → gain pay T s t + loss pay T s t ≡ 0 = λ s. both-parts pay T t s
    ∙ ap (λ may. cond may (payment pay (years_passed pay.kind pay.defer t)) 0 * size (form pay t s))
    (never-before pay.kind pay.defer T t before) ∙ omega arith in
    omega (arith, sum_over-ext masks _ _ (λ mask. e (bits n mask)), sum_over-none masks))
    (λ (started : first_time pay.kind ≤ t).
    let e = sum_over-ext masks _ _ (λ mask. both-parts pay T t (bits n mask))
    ∙ sum_over-scale masks (paid_at pay T t) (λ mask. size (form pay t (bits n mask))) in
    let f = mul-le _ _ _ _ (paid-within pay one T t years (last-within pay.kind years t some within))
    (sizes-within pay n years t started (in-form pay.kind years t some within)) in
    omega (arith, e, f))
    (cases_lt t (first_time pay.kind))
  where
    masks : List ℕ
    masks = numbers_from 0 (2 ^ n)

    last-within : (kind : Kind) (years t : ℕ) → 1 ≤ years → t ≤ last_time_of_form kind years → t ≤ years
    last-within Insurance years t some h = omega arith
    last-within Due years t some h = omega arith
    last-within Immediate years t some h = omega arith

    in-form : (kind : Kind) (years t : ℕ) → 1 ≤ years → t ≤ last_time_of_form kind years → t < first_time kind + years
    in-form Insurance years t some h = omega arith
    in-form Due years t some h = omega arith
    in-form Immediate years t some h = omega arith

-- the widths of all sets of n lives, from T on to the end of the form
pub widths-together : (pay : PlainPay) → pay.amount ≡ 1 → (n years T : ℕ) → 1 ≤ years
    → sum_over (numbers_from 0 (2 ^ n))
    (λ mask. waited (gain pay T (bits n mask)) T (suc (last_time_of_form pay.kind years) - T)
    + waited (loss pay T (bits n mask)) T (suc (last_time_of_form pay.kind years) - T))
    ≤ (years + 1) * years * (greatest_factor pay.vary years * form_weight pay n years)
widths-together pay one n years T some =
    let e = sum_over-ext masks _ _
    (λ mask. sym (waited-add (gain pay T (bits n mask)) (loss pay T (bits n mask)) span T)) in
    let f = waited-together masks (λ mask u. gain pay T (bits n mask) u + loss pay T (bits n mask) u)
    bound span T years few (λ u from below. paid-together pay one n years T u some (in-span u from below)) in
    let g : span * years * bound ≤ (years + 1) * years * bound =
    mul-le-mul_right bound (mul-le-mul_right years (omega (arith, few))) in
    omega (arith, e, f, g)
  where
    masks : List ℕ
    masks = numbers_from 0 (2 ^ n)

    bound : ℕ
    bound = greatest_factor pay.vary years * form_weight pay n years

    span : ℕ
    span = suc (last_time_of_form pay.kind years) - T

    last-few : (kind : Kind) → last_time_of_form kind years ≤ years
    last-few Insurance = omega arith
    last-few Due = omega arith
    last-few Immediate = omega arith

    few : span ≤ suc years
    few = omega (arith, last-few pay.kind)

    in-span : (u : ℕ) → T ≤ u → u < T + span → u ≤ last_time_of_form pay.kind years
    in-span u from below = omega arith

-- the count of a pay has room for them, for up to twelve lives
pub count-has-room : (n : ℕ) (m : Measures) (w : ℕ) → n ≤ 12
    → 1 ≤ m.nodes → m.share ≡ 1 → w ≤ (m.horizon + 1) * m.horizon * (m.factor * m.weight) → (n + 2) * w ≤ width_count m
unfolding width_count
count-has-room n m w few some alone h =
    let two : 2 ≤ m.nodes + 1 = omega arith in
    let square : 2 ^ 2 ≤ (m.nodes + 1) ^ 2 = pow-le-pow_left two 2 in
    let rest : ℕ = (m.horizon + 1) * (m.factor * m.weight) in
    let a : (n + 2) * w ≤ 14 * w = mul-le-mul_right w (omega arith) in
    let b : 14 * w ≤ 14 * m.horizon * rest = omega (arith, h) in
    let c : 4 * (m.horizon + m.named + 3) ≤ (m.nodes + 1) ^ 2 * (m.horizon + m.named + 3) =
    mul-le-mul_right (m.horizon + m.named + 3) (omega (arith, square)) in
    let d : 14 * m.horizon * rest ≤ 6 * ((m.nodes + 1) ^ 2 * (m.horizon + m.named + 3)) * rest =
    mul-le-mul_right rest (omega (arith, c)) in
    rw alone (omega (arith, a, b, d))

-- and for the payments at the times of one segment, each by pure endowments of up to twelve lives
pub payments-have-room : (m : Measures) (n last paid times : ℕ) → n ≤ 12 → 1 ≤ m.nodes → m.share ≡ 1
    → last ≤ m.horizon → paid ≤ (m.horizon + 1) * m.factor → times ≤ m.weight
    → paid * (3 * last + 2 * n) * times ≤ width_count m
unfolding width_count
payments-have-room m n last paid times few some alone to most sized =
    let two : 2 ≤ m.nodes + 1 = omega arith in
    let square : 2 ^ 2 ≤ (m.nodes + 1) ^ 2 = pow-le-pow_left two 2 in
    let one : 3 * last + 2 * n ≤ 24 * (m.horizon + m.named + 3) = omega (arith, to, few) in
    let each : paid * (3 * last + 2 * n) ≤ (m.horizon + 1) * m.factor * (24 * (m.horizon + m.named + 3)) =
    mul-le _ _ _ _ most one in
    let all : paid * (3 * last + 2 * n) * times
    ≤ (m.horizon + 1) * m.factor * (24 * (m.horizon + m.named + 3)) * m.weight = mul-le _ _ _ _ each sized in
    let rest : ℕ = 6 * m.weight * (m.horizon + 1) * (m.horizon + m.named + 3) * m.factor in
    let room : 4 * rest ≤ (m.nodes + 1) ^ 2 * rest = mul-le-mul_right rest (omega (arith, square)) in
    rw alone (omega (arith, all, room))
