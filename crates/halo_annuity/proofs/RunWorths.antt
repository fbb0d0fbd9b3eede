-- What a set is paid at the times of a run, over the years backward.
use Rattle.std.proofs.Common.{◌≡◌, ◌≢◌, ℕ, suc, ◌+◌, ◌*◌, ◌-◌, ◌^◌, ◌<◌, ◌≤◌, List, [], ◌∷◌, length, Bool, cond, true, false, ◌&&◌, nat_le, ℤ, pos, negsuc, neg_ℤ, ◌+ℤ◌, ◌-ℤ◌, ◌*ℤ◌, arith, refl, ap, sym, ◌∙◌}
use Rattle.std.proofs.Math.Nat.{mul-le-mul_right}
use Rattle.std.proofs.lemmas.Nat.{mul-le}
use Rattle.std.proofs.lemmas.Bool.Decides.{nat_tests}
use Rattle.std.proofs.lemmas.Int.{ints}
use Rattle.halo_sums.specs.Sums.{numbers_from, sum_over}
use Rattle.halo_sums.specs.Sets.{in_set}
use Rattle.halo_sums.specs.Masks.{bits}
use Rattle.halo_sums.proofs.Integers.{mul_neg, neg_mul, sub_mul}
use Rattle.halo_sums.proofs.Numbers.{numbers_from-split, sum_over-numbers_ext, sum_over-numbers_one}
use Rattle.halo_sums.proofs.Sums.{sum_over-append, sum_over-none, sum_over-scale, sum_over-scale_right}
use Rattle.halo_num.specs.Ends.{Ends, IsSized, IsWithin, fine}
use Rattle.halo_num.specs.Enclosure.{Encloses}
use Rattle.halo_num.proofs.Enclosures.{encloses_at}
use Rattle.halo_status.specs.Pay.{PlainPay}
use Rattle.halo_status.specs.ValidPay.{HasValidVary}
use Rattle.halo_status.specs.Nodes.{nodes}
use Rattle.halo_status.specs.declared.pay.Kind.{Kind}
use Rattle.halo_status.specs.declared.pay.Kind.TheVariants.{Insurance, Due, Immediate}
use Rattle.halo_model.specs.Life.{AreLives}
use Rattle.halo_model.specs.Basis.{Basis, discounted}
use Rattle.halo_model.specs.Outcome.{joint_survivors}
use Rattle.halo_model.specs.Coefficient.{form}
use Rattle.halo_model.specs.Counts.{form_weight, greatest_factor, measures_of, most_worth, size, width_count}
use Rattle.halo_model.specs.Horizon.{horizon}
use Rattle.halo_contract.specs.Premium.{all_lives}
use Rattle.halo_model.specs.Segment.{Run, first_time, last_time_of_form}
use Rattle.halo_model.specs.Backward.{above_zero, backward, below_zero, outside, paid_at}
use Rattle.halo_model.specs.RunPart.{paid_to_set, times_of}
use Rattle.halo_model.proofs.Backward.{backward-sums}
use Rattle.halo_compile.specs.Form.{IsInForm}
use Rattle.halo_life.specs.Lists.{nothing}
use Rattle.halo_annuity.specs.RunWorth.{EnclosesDiscountedSurvival, paid_in}
use Rattle.halo_annuity.specs.declared.term.TheConstants.{MOST_PART}
use Rattle.halo_annuity.specs.Worth.{Carries, EnclosesCarried, EnclosesSet, paid_in_all, waited}
use Rattle.halo_annuity.proofs.Carried.{carried-set, paid-set}
use Rattle.halo_along.proofs.Counting.{paid-within, share-of-annuity}
use Rattle.halo_along.proofs.Whole.{most-is}
use Rattle.halo_annuity.proofs.Counting.{count-has-room, most-together, payments-have-room, sizes-within, waited-together}
use Rattle.halo_annuity.proofs.Modest.{factor-sized, most-small, small-within}
use Rattle.halo_annuity.proofs.Passes.{none-worth}
use Rattle.halo_annuity.proofs.Payments.{sum-most}
use Rattle.halo_compile.proofs.Coefficients.{parts-size}

-- whether a time is one of the run
both-true : (m t n : ℕ) → m ≤ t → t ≤ n → (nat_le m t && nat_le t n) ≡ true
both-true m t n h k = grind (arith, nat_tests)

before-false : (m t n : ℕ) → t < m → (nat_le m t && nat_le t n) ≡ false
before-false m t n h = grind (arith, nat_tests)

module _ (pay : PlainPay) (run : Run) (times : ℕ) where
  pub in-run : (t : ℕ) → run.first ≤ t → t ≤ run.last → paid_in pay run times t ≡ paid_at pay 0 t * times
  in-run t from to = rw (both-true run.first t run.last from to) refl

  pub before-run : (t : ℕ) → t < run.first → paid_in pay run times t ≡ 0
  before-run t before = rw (before-false run.first t run.last before) refl

  at-most : (is : Bool) (n : ℕ) → cond is n 0 ≤ n
  at-most true n = omega arith
  at-most false n = omega arith

  -- no more is paid than at each time
  pub paid-less : (t : ℕ) → paid_in pay run times t ≤ paid_at pay 0 t * times
  paid-less t = at-most (nat_le run.first t && nat_le t run.last) (paid_at pay 0 t * times)

  pub run-small : pay.amount ≡ 1
      → HasValidVary pay.vary → times ≤ 2 ^ 11 → (t : ℕ) → t ≤ 200 → paid_in pay run times t ≤ 201 * 2 ^ 11
  run-small one varies few t h =
      let paid : paid_at pay 0 t ≤ 201 = omega (arith, paid-within pay one 0 t 200 h, factor-sized pay.vary varies) in
      omega (arith, paid-less t, mul-le (paid_at pay 0 t) times 201 (2 ^ 11) paid few)

  pub run-most : (b : Basis) (n t years : ℕ) (s : List Bool) (i : Ends)
      → pay.amount ≡ 1 → HasValidVary pay.vary → times ≤ 2 ^ 11
      → t + years ≤ 201 → EnclosesSet b n (paid_in pay run times) s t years i
      → IsWithin i (pos 0) (pos (MOST_PART * fine))
  run-most b n t years s i one varies few h worth =
      let most = most-small (paid_in pay run times) (201 * 2 ^ 11) years t (run-small one varies few) h in
      let few_ones : paid_in_all (paid_in pay run times) t years ≤ MOST_PART = omega (arith, most, h) in
      let ones : paid_in_all (paid_in pay run times) t years * fine ≤ MOST_PART * fine =
      mul-le-mul_right fine few_ones in
      record { low = worth.within.low; high = omega (arith, ints, worth.within.high, ones) }

  -- and so a value is a small number
  pub run-within : (b : Basis) (n t years : ℕ) (s : List Bool) (i : Ends)
      → pay.amount ≡ 1 → HasValidVary pay.vary → times ≤ 2 ^ 11
      → t + years ≤ 201 → EnclosesSet b n (paid_in pay run times) s t years i → IsWithin i (pos 0) (pos (10 ^ 32))
  run-within b n t years s i one varies few h worth =
      small-within i _ years (omega (arith, h))
      (most-small (paid_in pay run times) (201 * 2 ^ 11) years t (run-small one varies few) h) worth.within

-- one year back
module _ (b : Basis) (pay : PlainPay) (run : Run) (times n : ℕ) (s : List Bool) where
  pub run-carried : AreLives b.lives → (years t : ℕ) (later chance result : Ends)
      → t < b.last_time → EnclosesSet b n (paid_in pay run times) s (suc t) years later
      → EnclosesDiscountedSurvival b n s t chance → Carries later chance result
      → EnclosesCarried b n (paid_in pay run times) s t years result
  run-carried rule years t later chance result before worth year carries =
      carried-set b rule n s (paid_in pay run times) years t
      (2 * n + 2) later chance result before worth year.encloses year.narrow (omega arith) carries

  pub run-paid : (years t paid : ℕ) (before ones result : Ends) → run.first ≤ t
      → t ≤ run.last → paid ≡ paid_at pay 0 t → EnclosesCarried b n (paid_in pay run times) s t years before
      → ones.lo ≡ pos (paid * times * fine)
      → ones.hi ≡ pos (paid * times * fine) → result.lo ≡ before.lo +ℤ ones.lo → result.hi ≡ before.hi +ℤ ones.hi
      → EnclosesSet b n (paid_in pay run times) s t (suc years) result
  run-paid years t paid before ones result from to is worth ones_lo ones_hi lo hi =
      let e : paid * times * fine ≡ paid_in pay run times t * fine =
      ap (λ (k : ℕ). k * fine) (ap (λ (p : ℕ). p * times) is ∙ sym (in-run pay run times t from to)) in
      let f = ap pos e in
      paid-set b n s (paid_in pay run times) years t before result worth
      (omega (arith, ints, lo, ones_lo, f)) (omega (arith, ints, hi, ones_hi, f))

  pub run-not-paid : (years t : ℕ) (before : Ends) → t < run.first → EnclosesCarried b n
      (paid_in pay run times) s t years before → EnclosesSet b n (paid_in pay run times) s t (suc years) before
  run-not-paid years t before early worth =
      let e : paid_in pay run times t * fine ≡ 0 = rw (before-run pay run times t early) (omega arith) in
      paid-set b n s
      (paid_in pay run times) years t before before worth (rw e (omega (arith, ints))) (rw e (omega (arith, ints)))

  -- at the last time of the run
  pub run-last : (paid : ℕ) (ones : Ends) → run.first ≤ run.last
      → paid ≡ paid_at pay 0 run.last → ones.lo ≡ pos (paid * times * fine) → ones.hi ≡ pos (paid * times * fine)
      → EnclosesSet b n (paid_in pay run times) s run.last 1 ones
  run-last paid ones some is lo hi =
      run-paid 0 run.last paid nothing ones ones some
      (omega arith) is (none-worth (b.q run.last * 0) _ _ _ nothing (omega arith) refl) lo hi
      (omega (arith, ints)) (omega (arith, ints))

-- the recursion over a run is the sum over its times
pub run-sums : (b : Basis) (pay : PlainPay) (run : Run) (times : ℕ) (s : List Bool) → run.first ≤ run.last
    → backward b s (paid_in pay run times) 0 (suc run.last) * joint_survivors 0 (outside all_lives s) b.lives
    ≡ times * sum_over (times_of run) (paid_to_set b pay s)
run-sums b pay run times s some =
    ap (λ (n : ℕ). n * others) (
    backward-sums b s (paid_in pay run times) (suc run.last) 0
    ∙ ap (λ c. sum_over (numbers_from 0 c) each) count
    ∙ ap (λ ts. sum_over ts each) (numbers_from-split run.first (suc run.last - run.first))
    ∙ sum_over-append (numbers_from 0 run.first) (times_of run) each)
    ∙ without-first (sum_over (numbers_from 0 run.first) each) (sum_over (times_of run) each) others
    (sum_over-numbers_ext run.first 0 each (λ u. 0) (λ u from below. rw (before-run pay run times u (omega arith))
    (omega arith)) ∙ sum_over-none (numbers_from 0 run.first))
    ∙ sym (sum_over-scale_right (times_of run) others each)
    ∙ sum_over-numbers_ext
    (suc run.last - run.first) run.first (λ u. each u * others) (λ u. times * paid_to_set b pay s u)
    (λ u from below. rw (in-run pay run times u from (omega arith))
    (out (paid_at pay 0 u) times (joint_survivors u (in_set s) b.lives) (discounted b 0 u) others))
    ∙ sum_over-scale (times_of run) times (paid_to_set b pay s)
  where
    others : ℕ
    others = joint_survivors 0 (outside all_lives s) b.lives

    each : ℕ → ℕ
    each u = paid_in pay run times u * (joint_survivors u (in_set s) b.lives * discounted b 0 u)

    count : suc run.last ≡ run.first + (suc run.last - run.first)
    count = omega (arith, some)

    without-first : (m n o : ℕ) → m ≡ 0 → (m + n) * o ≡ n * o
    without-first m n o e = rw e (omega arith)

    out : (p c j d o : ℕ) → p * c * (j * d) * o ≡ c * (p * (d * (j * o)))
    out p c j d o = omega arith

moved : (orders num others parts : ℕ) → parts ≡ num * others → orders * parts ≡ num * (orders * others)
moved orders num others parts e = rw e (omega arith)

-- with the sign of the coefficient, over the whole denominator
pub signed-part : (z : ℤ) (num parts others orders den whole : ℕ) (i : Ends)
    → num * others ≡ (above_zero z + below_zero z) * parts → whole ≡ den * (orders * others)
    → (below_zero z ≡ 0 → Encloses i (pos num) den) → (0 < below_zero z → Encloses i (pos 0 -ℤ pos num) den)
    → Encloses i (pos orders *ℤ (z *ℤ pos parts)) whole
signed-part (pos c) num parts others orders den whole i e f positive negative =
    let k : orders * (c * parts) ≡ num * (orders * others) = moved orders num others (c * parts) (omega (arith, e)) in
    encloses_at i (pos num)
    (pos orders *ℤ (pos c *ℤ pos parts)) den whole (orders * others) (positive refl) (omega (arith, ints, k)) f
signed-part (negsuc c) num parts others orders den whole i e f positive negative =
    let k : orders * (suc c * parts) ≡ num * (orders * others) =
    moved orders num others (suc c * parts) (omega (arith, e)) in
    encloses_at i (pos 0 -ℤ pos num) (pos orders *ℤ (negsuc c *ℤ pos parts)) den whole
    (orders * others) (negative (omega arith)) (turned orders c parts num others k) f
  where
    turned : (orders c parts num others : ℕ) → orders * (suc c * parts) ≡ num * (orders * others)
        → pos orders *ℤ (negsuc c *ℤ pos parts) ≡ (pos 0 -ℤ pos num) *ℤ pos (orders * others)
    turned orders c parts num others k =
        ap (λ z. pos orders *ℤ z) (neg_mul (pos (suc c)) (pos parts))
        ∙ mul_neg (pos orders) (pos (suc c * parts))
        ∙ below (orders * (suc c * parts)) (num * (orders * others)) (orders * others) k
        ∙ sym (sub_mul (pos 0) (pos num) (pos (orders * others)))
      where
        below : (m n k : ℕ) → m ≡ n → neg_ℤ (pos m) ≡ (pos 0 *ℤ pos k) -ℤ pos n
        below m n k e = rw e (omega (arith, ints))

pub times-sized : (z : ℤ) (n : ℕ) → IsSized z n → above_zero z + below_zero z ≤ n
times-sized (pos m) n h = omega (arith, ints, h.high)
times-sized (negsuc m) n h = omega (arith, ints, h.low)

-- the width and the size of a part
module _ (b : Basis) (pay : PlainPay) (annual : pay.kind ≢ Insurance)
    (one : pay.amount ≡ 1) (some_nodes : 1 ≤ nodes pay.body) (some_years : 1 ≤ horizon b.lives pay.body)
    (n mask : ℕ) (count : length b.lives ≡ n) (below : mask < 2 ^ n) (run : Run)
    (inside : IsInForm pay (horizon b.lives pay.body) run) (z : ℤ) (is : z ≡ form pay run.first (bits n mask)) where
  abbrev pub years : ℕ
  years = horizon b.lives pay.body

  abbrev pub times : ℕ
  times = above_zero z + below_zero z

  abbrev pub bound : ℕ
  bound = greatest_factor pay.vary years * form_weight pay n years

  last-years : (kind : Kind) (h : ℕ) → 1 ≤ h → last_time_of_form kind h ≤ h
  last-years Insurance h k = omega arith
  last-years Due h k = omega arith
  last-years Immediate h k = omega arith

  first-years : (kind : Kind) (h t : ℕ) → 1 ≤ h → t ≤ last_time_of_form kind h → t < first_time kind + h
  first-years Insurance h t some k = omega arith
  first-years Due h t some k = omega arith
  first-years Immediate h t some k = omega arith

  to-years : run.last ≤ years
  to-years = omega (arith, inside.to, last-years pay.kind years some_years)

  times-within : times ≤ form_weight pay n years
  times-within =
      let started : run.first ≤ last_time_of_form pay.kind years = omega (arith, inside.some, inside.to) in
      let all =
      sizes-within pay n years run.first inside.from (first-years pay.kind years run.first some_years started) in
      let this = sum_over-numbers_one
      (2 ^ n) 0 mask (λ k. size (form pay run.first (bits n k))) (omega arith) (omega (arith, below)) in
      omega (arith, parts-size z, ap size is, this, all)

  each : (u : ℕ) → u ≤ run.last → sum_over (0 ∷ []) (λ (k : ℕ). paid_in pay run times u) ≤ bound
  each u h = omega (
    arith,
    paid-less pay run times u,
    mul-le (paid_at pay 0 u) times (greatest_factor pay.vary years)
        (form_weight pay n years) (paid-within pay one 0 u years (omega (arith, h, to-years))) times-within,
  )

  pub part-narrow : n ≤ 12 → (n + 2) * waited (paid_in pay run times) 0 (suc run.last) ≤ width_count (measures_of b pay)
  part-narrow few =
      let w = waited-together (0 ∷ []) (λ (k : ℕ) u. paid_in pay run times u) bound
      (suc run.last) 0 years (omega (arith, to-years)) (λ u from below. each u (omega arith)) in
      let m : suc run.last * years * bound ≤ (years + 1) * years * bound =
      mul-le-mul_right bound (mul-le-mul_right years (omega (arith, to-years))) in
      let all : waited (paid_in pay run times) 0 (suc run.last)
      ≤ (years + 1) * years * (greatest_factor pay.vary years * form_weight pay (length b.lives) years) =
      rw count (omega (arith, w, m)) in
      count-has-room n (measures_of b pay)
      (waited (paid_in pay run times) 0 (suc run.last)) few some_nodes (share-of-annuity b.ties pay.kind _ annual) all

  pub part-sized : paid_in_all (paid_in pay run times) 0 (suc run.last)
      ≤ form_weight pay (length b.lives) years * most_worth pay.kind (measures_of b pay)
  part-sized =
      let w = most-together (0 ∷ [])
      (λ (k : ℕ) u. paid_in pay run times u) bound (suc run.last) 0 (λ u from below. each u (omega arith)) in
      let m : suc run.last * bound ≤ (years + 1) * bound = mul-le-mul_right bound (omega (arith, to-years)) in
      rw (most-is pay.kind annual (measures_of b pay), count) (omega (arith, w, m))

  -- the same of the payments by pure endowments
  paid-in-run : sum_over (times_of run) (paid_at pay 0) ≤ (years + 1) * greatest_factor pay.vary years
  paid-in-run =
      let each = sum-most (paid_at pay 0) (greatest_factor pay.vary years) (suc run.last - run.first) run.first
      (λ t from below. paid-within pay one 0 t years (omega (arith, below, to-years))) in
      let m : (suc run.last - run.first) * greatest_factor pay.vary years
      ≤ (years + 1) * greatest_factor pay.vary years =
      mul-le-mul_right (greatest_factor pay.vary years) (omega (arith, to-years)) in
      omega (arith, each, m)

  pub payments-narrow : n ≤ 12
      → sum_over (times_of run) (paid_at pay 0) * (3 * run.last + 2 * n) * times ≤ width_count (measures_of b pay)
  payments-narrow few =
      payments-have-room (measures_of b pay) n run.last (sum_over (times_of run) (paid_at pay 0)) times few
      some_nodes (share-of-annuity b.ties pay.kind _ annual) to-years paid-in-run (rw count times-within)

  pub payments-sized : sum_over (times_of run) (paid_at pay 0) * times
      ≤ form_weight pay (length b.lives) years * most_worth pay.kind (measures_of b pay)
  payments-sized =
      let all : sum_over (times_of run) (paid_at pay 0) * times
      ≤ (years + 1) * greatest_factor pay.vary years * form_weight pay n years =
      mul-le _ _ _ _ paid-in-run times-within in
      rw (most-is pay.kind annual (measures_of b pay), count) (omega (arith, all))
