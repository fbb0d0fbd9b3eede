-- The total over the named sets of the living lives encloses the value of the annuity, within its count.
use Rattle.std.proofs.Common.{◌≡◌, ◌≢◌, ℕ, zero, suc, ◌+◌, ◌*◌, ◌-◌, ◌^◌, ◌<◌, ◌≤◌, List, length, Bool, cond, true, false, None, ℤ, pos, negsuc, ◌-ℤ◌, ◌*ℤ◌, arith, refl, ap, sym, ◌∙◌, ⊎_elim}
use Rattle.std.proofs.lemmas.Int.{ints}
use Rattle.halo_sums.specs.Sums.{int_sum_over, numbers_from, sum_over}
use Rattle.halo_sums.specs.Sets.{in_set, sets}
use Rattle.halo_sums.specs.Masks.{bits, has_bit}
use Rattle.halo_sums.proofs.Integers.{mul_comm}
use Rattle.halo_sums.proofs.Masks.{int_sum_over-masks}
use Rattle.halo_sums.proofs.Sums.{sum_over-ext, sum_over-scale}
use Rattle.halo_num.specs.Ends.{Ends, HasWidth}
use Rattle.halo_num.specs.Enclosure.{Encloses}
use Rattle.halo_num.proofs.Enclosures.{encloses_at, encloses_sub}
use Rattle.halo_status.specs.Nodes.{HasPositiveRanks, HasShortLists, nodes}
use Rattle.halo_status.specs.Pay.{PlainPay}
use Rattle.halo_status.specs.declared.pay.Kind.TheVariants.{Insurance}
use Rattle.halo_model.specs.Life.{AreLives}
use Rattle.halo_model.specs.Outcome.{joint_survivors}
use Rattle.halo_model.specs.Basis.{Basis, accumulated, taken}
use Rattle.halo_model.specs.Coefficient.{form}
use Rattle.halo_model.specs.Counts.{form_weight, greatest_factor, measures_of, width_count}
use Rattle.halo_model.specs.Horizon.{horizon}
use Rattle.halo_model.specs.Segment.{last_time_of_form}
use Rattle.halo_model.specs.Value.{denominator, numerator}
use Rattle.halo_model.specs.Backward.{above_zero, backward, below_zero, gain, lies_in, loss, outside, paid_at, set_part}
use Rattle.halo_model.proofs.AfterHorizon.{nothing-after-horizon}
use Rattle.halo_model.proofs.Backward.{annuity-by-sets, sets-ext, survivors-split}
use Rattle.halo_life.specs.Lists.{Lists, entry, nothing}
use Rattle.halo_sums.specs.Within.{is_within}
use Rattle.halo_life.specs.Total.{share, total_of}
use Rattle.halo_along.proofs.Counting.{share-of-annuity}
use Rattle.halo_annuity.specs.Worth.{HoldValues, waited}
use Rattle.halo_annuity.proofs.Carried.{positive-both, positive-left}
use Rattle.halo_annuity.proofs.Counting.{count-has-room, widths-together}
use Rattle.halo_sums.proofs.SetMasks.{length-bits}
use Rattle.halo_compile.proofs.Sums.{sum-encloses, sum-narrow, wider}
use Rattle.halo_status.specs.Naming.{names_life}
use Rattle.halo_model.proofs.Unnamed.{unnamed-do-not-count}
use Rattle.halo_compile.specs.NamedSets.{IsNamedPart}
use Rattle.halo_compile.proofs.NamedSets.{not-in-part, part-lies, part-named}

-- years in which nothing is paid to lives that are alive do not count
module _ (b : Basis) (s : List Bool) (paid : ℕ → ℕ) where
  abbrev PaysNobody : ℕ → Type 0
  PaysNobody t = (u : ℕ) → t ≤ u → paid u * joint_survivors u (in_set s) b.lives ≡ 0

  backward-none : (years t : ℕ) → PaysNobody t → backward b s paid t years ≡ 0
  backward-none zero t h = refl
  backward-none (suc years) t h =
      let now : paid t * (joint_survivors t (in_set s) b.lives * accumulated b t)
      ≡ paid t * joint_survivors t (in_set s) b.lives * accumulated b t = omega arith in
      rw (now, h t (omega arith), backward-none years (suc t) (λ u from. h u (omega arith))) (omega arith)

  backward-cut : (years extra t : ℕ)
      → PaysNobody (t + years) → backward b s paid t (years + extra) ≡ backward b s paid t years
  backward-cut zero extra t h = let e : 0 + extra ≡ extra = omega arith in
      rw e (backward-none extra t (λ u from. h u (omega arith)))
  backward-cut (suc years) extra t h =
      let e : suc years + extra ≡ suc (years + extra) = omega arith in
      rw e (ap (λ (n : ℕ). paid t * (joint_survivors t (in_set s) b.lives * accumulated b t) + b.q t * n)
      (backward-cut years extra (suc t) (λ u from. h u (omega arith))))

no-gain : (c : ℤ) (j : ℕ) → c *ℤ pos j ≡ pos 0 → above_zero c * j ≡ 0
no-gain (pos n) j h = omega (arith, ints, h)
no-gain (negsuc n) j h = omega arith

no-loss : (c : ℤ) (j : ℕ) → c *ℤ pos j ≡ pos 0 → below_zero c * j ≡ 0
no-loss (pos n) j h = omega arith
no-loss (negsuc n) zero h = omega arith
no-loss (negsuc n) (suc j) h = absurd (omega (arith, ints, h))

times-zero : (p c j : ℕ) → c * j ≡ 0 → p * c * j ≡ 0
times-zero p c j h = let e : p * c * j ≡ p * (c * j) = omega arith in rw (e, h) (omega arith)

module _ (b : Basis) (rule : AreLives b.lives) (pay : PlainPay)
    (plain : pay.mark ≡ None) (lists : HasShortLists pay.body) (ranks : HasPositiveRanks pay.body) (T : ℕ) where
  abbrev last : ℕ
  last = last_time_of_form pay.kind (horizon b.lives pay.body)

  -- a set's part up to the last time of the form is its part up to the last time of all
  part-is : (U : ℕ → Bool) → last ≤ b.last_time → (s : List Bool)
      → length s ≡ length b.lives → set_part b pay T U (suc b.last_time - T) s ≡ set_part b pay T U (suc last - T) s
  part-is U before s long =
      let gains = cut (gain pay T s)
      (λ u from. times-zero (paid_at pay T u) (above_zero (form pay u s)) (joint_survivors u (in_set s) b.lives)
      (no-gain (form pay u s) (joint_survivors u (in_set s) b.lives) (ended u from))) in
      let losses = cut (loss pay T s)
      (λ u from. times-zero (paid_at pay T u) (below_zero (form pay u s)) (joint_survivors u (in_set s) b.lives)
      (no-loss (form pay u s) (joint_survivors u (in_set s) b.lives) (ended u from))) in
      rw (gains, losses) refl
    where
      ended : (u : ℕ) → T + (suc last - T) ≤ u → form pay u s *ℤ pos (joint_survivors u (in_set s) b.lives) ≡ pos 0
      ended u from = nothing-after-horizon b rule pay plain lists ranks u (omega arith) s long

      cut : (paid : ℕ → ℕ) → PaysNobody b s paid (T + (suc last - T))
          → backward b s paid T (suc b.last_time - T) ≡ backward b s paid T (suc last - T)
      cut paid h = let e : suc b.last_time - T ≡ (suc last - T) + (suc b.last_time - T - (suc last - T)) =
          omega arith in rw e (backward-cut b s paid (suc last - T) (suc b.last_time - T - (suc last - T)) T h)

-- where nothing is paid, nothing is worth anything
paid-nothing : (b : Basis) (s : List Bool) (paid : ℕ → ℕ) → ((u : ℕ) → paid u ≡ 0)
    → (years t : ℕ) → backward b s paid t years ≡ 0
paid-nothing b s paid none years t = backward-none b s paid years t (λ u from. rw (none u) (omega arith))

-- a set with a life that the body does not name has no part
unnamed-part : (b : Basis) (pay : PlainPay) → pay.mark ≡ None → (T : ℕ) (U : ℕ → Bool) (years : ℕ) (s : List Bool)
    (life : ℕ) → in_set s life ≡ true → names_life life pay.body ≡ false → set_part b pay T U years s ≡ pos 0
unnamed-part b pay plain T U years s life of_it unnamed = rw (
  paid-nothing b s (gain pay T s) (λ u. let e = none u in rw e (omega arith)) years T,
  paid-nothing b s (loss pay T s) (λ u. let e = none u in rw e (omega arith)) years T,
) (no-part (lies_in s U) (joint_survivors T (outside U s) b.lives))
  where
    none : (u : ℕ) → form pay u s ≡ pos 0
    none u = unnamed-do-not-count pay plain life unnamed u s of_it

    no-part : (lies : Bool) (others : ℕ) → cond lies ((pos 0 -ℤ pos 0) *ℤ pos others) (pos 0) ≡ pos 0
    no-part true others = omega (arith, ints)
    no-part false others = refl

-- what a set adds to the total encloses its part, over the survivors of all living lives
module _ (b : Basis) (pay : PlainPay) (plain : pay.mark ≡ None) (T n years : ℕ)
    (lists : Lists) (values : HoldValues b pay T n T years lists) (count : length b.lives ≡ n)
    (alive part : ℕ) (are : IsNamedPart pay.body alive part) where
  abbrev whole : ℕ
  whole = joint_survivors T (has_bit alive) b.lives * accumulated b T

  share-encloses : 0 < whole → (mask : ℕ)
      → mask < 2 ^ n → Encloses (share lists part mask) (set_part b pay T (has_bit alive) years (bits n mask)) whole
  share-encloses some mask below = by-case (is_within mask part) refl
    where
      difference : Ends
      difference = record {
        lo = (entry lists.plus mask).lo -ℤ (entry lists.minus mask).hi;
        hi = (entry lists.plus mask).hi -ℤ (entry lists.minus mask).lo;
      }

      gains : ℕ
      gains = backward b (bits n mask) (gain pay T (bits n mask)) T years

      losses : ℕ
      losses = backward b (bits n mask) (loss pay T (bits n mask)) T years

      zero-is-zero : Encloses nothing (pos 0) whole
      zero-is-zero = record { low = omega (arith, ints); high = omega (arith, ints) }

      by-case : (is : Bool) → is_within mask part ≡ is
          → Encloses (share lists part mask) (set_part b pay T (has_bit alive) years (bits n mask)) whole
      by-case false outside = rw outside (⊎_elim
          (λ (lies : lies_in (bits n mask) (has_bit alive) ≡ false). rw lies zero-is-zero)
          (λ other. rw (unnamed-part b pay plain T (has_bit alive) years (bits n mask) other.0 other.1 other.2)
          zero-is-zero)
          (not-in-part pay.body alive part are n mask below outside))
      by-case true within =
          let named = part-named pay.body alive part are n mask below within in
          let lies = part-lies pay.body alive part are n mask below within in
          let set : ℕ = joint_survivors T (in_set (bits n mask)) b.lives in
          let others : ℕ = joint_survivors T (outside (has_bit alive) (bits n mask)) b.lives in
          let split = survivors-split T (has_bit alive) b.lives (bits n mask) (length-bits n mask ∙ sym count) lies in
          let all : whole ≡ set * accumulated b T * others = rw split (omega arith) in
          let some_set : 0 < set * accumulated b T =
          positive-left (set * accumulated b T) others (omega (arith, some, all)) in
          let difference_is = encloses_sub (entry lists.plus mask)
          (entry lists.minus mask) difference (pos gains) (pos losses) (set * accumulated b T) refl refl
          ((values mask below named).0.encloses some_set) ((values mask below named).1.encloses some_set) in
          rw (within, lies) (encloses_at difference (pos gains -ℤ pos losses)
          ((pos gains -ℤ pos losses) *ℤ pos others) (set * accumulated b T) whole others difference_is refl all)

  share-narrow : (mask : ℕ) → mask < 2 ^ n → HasWidth (share lists part mask)
      ((n + 2) * waited (gain pay T (bits n mask)) T years + (n + 2) * waited (loss pay T (bits n mask)) T years)
  share-narrow mask below = by-case (is_within mask part) refl
    where
      wide : ℕ
      wide = (n + 2) * waited (gain pay T (bits n mask)) T years + (n + 2) * waited (loss pay T (bits n mask)) T years

      by-case : (is : Bool) → is_within mask part ≡ is → HasWidth (share lists part mask) wide
      by-case false outside = rw outside (record { near = omega (arith, ints) })
      by-case true within =
          let v = values mask below (part-named pay.body alive part are n mask below within) in
          rw within (record { near = omega (arith, ints, v.0.narrow.near, v.1.narrow.near) })

-- the total encloses the value of the annuity
pub total-encloses : (b : Basis) → AreLives b.lives
    → (pay : PlainPay) → pay.kind ≢ Insurance → pay.mark ≡ None → HasShortLists pay.body → HasPositiveRanks pay.body
    → (T n alive part : ℕ) → IsNamedPart pay.body alive part → (lists : Lists)
    → length b.lives ≡ n → T ≤ b.last_time → last_time_of_form pay.kind (horizon b.lives pay.body) ≤ b.last_time
    → HoldValues b pay T n T (suc (last_time_of_form pay.kind (horizon b.lives pay.body)) - T) lists
    → 0 < joint_survivors T (has_bit alive) b.lives → 0 < accumulated b T
    → Encloses
    (total_of lists (2 ^ n) part) (pos (numerator b pay T (has_bit alive))) (denominator b T (has_bit alive))
unfolding denominator
total-encloses b rule pay annual plain short ranks T n alive part are lists count in_time before values some interest =
    encloses_at (total_of lists (2 ^ n) part) parts
    (pos (numerator b pay T (has_bit alive))) (joint_survivors T (has_bit alive) b.lives * accumulated b T)
    (length (taken b) * (joint_survivors T (has_bit alive) b.lives * accumulated b T)) (length (taken b))
    (sum-encloses (share lists part) (λ mask. set_part b pay T (has_bit alive) years (bits n mask))
    (joint_survivors T (has_bit alive) b.lives * accumulated b T) (2 ^ n) 0
    (λ mask below. share-encloses b pay plain T n years lists values count alive part are
    (positive-both _ _ some interest) mask (omega arith)))
    (annuity-by-sets b rule pay annual plain T in_time (has_bit alive)
    ∙ mul_comm (pos (length (taken b))) _
    ∙ ap (λ z. z *ℤ pos (length (taken b)))
    (sets-ext (length b.lives) _ _ (λ s long. part-is b rule pay plain short ranks T (has_bit alive) before s long)
    ∙ ap (λ m. int_sum_over (sets m) (set_part b pay T (has_bit alive) years)) count
    ∙ sym (int_sum_over-masks n (set_part b pay T (has_bit alive) years))))
    (omega arith)
  where
    years : ℕ
    years = suc (last_time_of_form pay.kind (horizon b.lives pay.body)) - T

    parts : ℤ
    parts = int_sum_over (numbers_from 0 (2 ^ n)) (λ mask. set_part b pay T (has_bit alive) years (bits n mask))

-- and it is no wider than its count
pub total-narrow : (b : Basis) (pay : PlainPay)
    → pay.kind ≢ Insurance → pay.mark ≡ None → pay.amount ≡ 1 → 1 ≤ nodes pay.body → 1 ≤ horizon b.lives pay.body
    → (T n alive part : ℕ) → IsNamedPart pay.body alive part → (lists : Lists) → length b.lives ≡ n → n ≤ 12
    → HoldValues b pay T n T (suc (last_time_of_form pay.kind (horizon b.lives pay.body)) - T) lists
    → HasWidth (total_of lists (2 ^ n) part) (width_count (measures_of b pay))
total-narrow b pay annual plain one some_nodes some_years T n alive part are lists count few values =
    wider (total_of lists (2 ^ n) part) _ _
    (omega (
      arith,
      each,
      sum_over-scale masks (n + 2) (λ mask. waits mask),
      count-has-room n
          (measures_of b pay) (sum_over masks waits) few some_nodes (share-of-annuity b.ties pay.kind _ annual) within,
    ))
    (sum-narrow (share lists part) widths
    (2 ^ n) 0 (λ mask below. share-narrow b pay plain T n years lists values count alive part are mask (omega arith)))
  where
    years : ℕ
    years = suc (last_time_of_form pay.kind (horizon b.lives pay.body)) - T

    masks : List ℕ
    masks = numbers_from 0 (2 ^ n)

    waits : ℕ → ℕ
    waits mask = waited (gain pay T (bits n mask)) T years + waited (loss pay T (bits n mask)) T years

    widths : ℕ → ℕ
    widths mask =
        (n + 2) * waited (gain pay T (bits n mask)) T years + (n + 2) * waited (loss pay T (bits n mask)) T years

    each : sum_over masks widths ≡ sum_over masks (λ mask. (n + 2) * waits mask)
    each = sum_over-ext masks widths (λ mask. (n + 2) * waits mask) (λ mask. omega arith)

    within : sum_over masks waits ≤ (horizon b.lives pay.body + 1) * horizon b.lives pay.body * (greatest_factor
        pay.vary (horizon b.lives pay.body) * form_weight pay (length b.lives) (horizon b.lives pay.body))
    within = rw count (widths-together pay one n (horizon b.lives pay.body) T some_years)
