-- The total over the sets of the named lives of those alive encloses the value of an insurance, within its count.
use Rattle.std.proofs.Common.{◌≡◌, ℕ, suc, ◌+◌, ◌*◌, ◌-◌, ◌^◌, ◌<◌, ◌≤◌, arith, refl, ap, sym, ◌∙◌, List, [], ◌∷◌, length, map, flat_map, Bool, true, false, cond, ℤ, pos, ◌+ℤ◌, ◌*ℤ◌, ◌-ℤ◌, ⊎_elim}
use Rattle.std.proofs.lemmas.Int.{ints}
use Rattle.halo_sums.specs.Masks.{bits, has_bit}
use Rattle.halo_sums.specs.Sums.{int_sum_over, numbers_from, sum_over}
use Rattle.halo_sums.specs.Sets.{in_set, sets, size_of, subsets}
use Rattle.halo_sums.proofs.IntSums.{int_sum_over-ext, int_sum_over-none, int_sum_over-pos, int_sum_over-scale_right, int_sum_over-swap}
use Rattle.halo_sums.proofs.Integers.{pos_injective}
use Rattle.halo_sums.proofs.Masks.{has_bit-bits, int_sum_over-masks}
use Rattle.halo_sums.proofs.SetMasks.{length-bits}
use Rattle.halo_sums.proofs.Sets.{int_sum_over-sets, int_sum_over-subsets_with, int_sum_over-subsets_without}
use Rattle.halo_num.specs.Enclosure.{Encloses}
use Rattle.halo_num.specs.Ends.{Ends, HasWidth}
use Rattle.halo_num.proofs.Enclosures.{encloses_at, encloses_sub}
use Rattle.halo_status.specs.Pay.{PlainPay}
use Rattle.halo_model.specs.Backward.{above_zero, below_zero, lies_in, outside}
use Rattle.halo_model.specs.Basis.{Basis, accumulated, taken}
use Rattle.halo_model.specs.Chance.{IsValidInsurance}
use Rattle.halo_model.specs.Counts.{measures_of, width_count}
use Rattle.halo_model.specs.Horizon.{horizon}
use Rattle.halo_model.specs.Life.{AreLives, PlainLife, after_first}
use Rattle.halo_model.specs.Order.{rank_in}
use Rattle.halo_model.specs.Outcome.{Outcome, joint_survivors, outcomes, ways}
use Rattle.halo_model.specs.SetValue.{SomeEvents, all_events, set_value}
use Rattle.halo_model.specs.Value.{denominator, numerator}
use Rattle.halo_model.proofs.Backward.{survivors-split}
use Rattle.halo_model.proofs.InsuranceBySets.{insurance-by-sets}
use Rattle.halo_life.specs.Lists.{Lists, entry, nothing}
use Rattle.halo_sums.specs.Within.{is_within}
use Rattle.halo_life.specs.Total.{share, total_of}
use Rattle.halo_compile.proofs.Sums.{sum-encloses, sum-narrow}
use Rattle.halo_status.specs.Naming.{names_life}
use Rattle.halo_model.specs.Coefficient.{form}
use Rattle.halo_compile.specs.NamedSets.{IsNamedPart}
use Rattle.halo_compile.proofs.NamedSets.{not-in-part, part-lies, part-named}
use Rattle.halo_insure.specs.Leavings.{set_leavings, set_survivors}
use Rattle.halo_insure.proofs.OneSet.{no-worth}
use Rattle.halo_insure.proofs.Silent.{silent-form, silent-most}
use Rattle.halo_insure.specs.Dues.{due_by_both, due_of, set_worth}
use Rattle.halo_insure.specs.OneSet.{most_due}
use Rattle.halo_insure.specs.Total.{HoldDues, SetsEncloseValue}
use Rattle.halo_insure.proofs.Counted.{sets-within-count}
use Rattle.halo_insure.proofs.Signs.{set-value-is-worth}

-- only the lives that there are count
joint-agree : (T : ℕ) (lives : List PlainLife) (S U : ℕ → Bool)
    → ((i : ℕ) → i < length lives → S i ≡ U i) → joint_survivors T S lives ≡ joint_survivors T U lives
joint-agree T [] S U h = refl
joint-agree T (x ∷ lives) S U h = rw (
  h 0 (omega arith),
  joint-agree T lives (after_first S) (after_first U) (λ i below. h (suc i) (omega arith)),
) refl

pub outcomes-agree : (T : ℕ) (lives : List PlainLife) (S U : ℕ → Bool)
    → ((i : ℕ) → i < length lives → S i ≡ U i) → outcomes T S lives ≡ outcomes T U lives
outcomes-agree T [] S U h = refl
outcomes-agree T (x ∷ lives) S U h =
    ap (λ (rest : List Outcome). flat_map (λ way. map (λ o. way ∷ o) rest) (ways T (S 0) x))
    (outcomes-agree T lives (after_first S) (after_first U) (λ i below. h (suc i) (omega arith)))
    ∙ ap (λ (there : Bool). flat_map (λ way. map (λ o. way ∷ o) (outcomes T (after_first U) lives)) (ways T there x))
    (h 0 (omega arith))

lies-agree : (s : List Bool) (S U : ℕ → Bool) → ((i : ℕ) → i < length s → S i ≡ U i) → lies_in s S ≡ lies_in s U
lies-agree [] S U h = refl
lies-agree (false ∷ s) S U h = lies-agree s (after_first S) (after_first U) (λ i below. h (suc i) (omega arith))
lies-agree (true ∷ s) S U h =
    rw (h 0 (omega arith), lies-agree s (after_first S) (after_first U) (λ i below. h (suc i) (omega arith))) refl

pub numerator-agree : (b : Basis) (pay : PlainPay) (T : ℕ) (S U : ℕ → Bool)
    → ((i : ℕ) → i < length b.lives → S i ≡ U i) → numerator b pay T S ≡ numerator b pay T U
unfolding numerator
numerator-agree b pay T S U h = rw (outcomes-agree T b.lives S U h) refl

-- a sum over the subsets of a set is one over all sets of which those that lie in it count
subsets-as-sets : (u : List Bool) (f : List Bool → ℤ)
    → int_sum_over (sets (length u)) (λ s. cond (lies_in s (in_set u)) (f s) (pos 0)) ≡ int_sum_over (subsets u) f
subsets-as-sets [] f = refl
subsets-as-sets (true ∷ u) f = int_sum_over-sets (length u) (λ s. cond (lies_in s (in_set (true ∷ u))) (f s) (pos 0))
    ∙ ap (λ z. z +ℤ int_sum_over (sets (length u)) (λ s. cond (lies_in s (in_set u)) (f (true ∷ s)) (pos 0)))
    (subsets-as-sets u (λ s. f (false ∷ s)))
    ∙ ap (λ z. int_sum_over (subsets u) (λ s. f (false ∷ s)) +ℤ z) (subsets-as-sets u (λ s. f (true ∷ s)))
    ∙ sym (int_sum_over-subsets_with u f)
subsets-as-sets (false ∷ u) f = int_sum_over-sets (length u) (λ s. cond (lies_in s (in_set (false ∷ u))) (f s) (pos 0))
    ∙ ap (λ z. int_sum_over (sets (length u)) (λ s. cond (lies_in s (in_set u)) (f (false ∷ s)) (pos 0)) +ℤ z)
    (int_sum_over-none (sets (length u)))
    ∙ alone _
    ∙ subsets-as-sets u (λ s. f (false ∷ s))
    ∙ sym (int_sum_over-subsets_without u f)
  where
    alone : (z : ℤ) → z +ℤ pos 0 ≡ z
    alone z = omega (arith, ints)

module _ (b : Basis) (rule : AreLives b.lives)
    (pay : PlainPay) (is : IsValidInsurance pay) (in_time : horizon b.lives pay.body ≤ b.last_time)
    (events : SomeEvents)
    (T : ℕ) (lists : Lists) (held : HoldDues b pay events (length b.lives) T lists)
    (alive named : ℕ) (are : IsNamedPart pay.body alive named) where
  abbrev N : ℕ
  N = length b.lives

  abbrev H : ℕ
  H = horizon b.lives pay.body

  abbrev all : List Bool
  all = bits N alive

  -- what a set adds, over the survivors of all lives alive
  abbrev part : List Bool → ℤ
  part s = int_sum_over (taken b) (λ order. set_value b pay events (rank_in order) T s)
      *ℤ pos (joint_survivors T (outside (in_set all) s) b.lives)

  abbrev whole : ℕ
  whole = length (taken b) * (joint_survivors T (in_set all) b.lives * accumulated b T)

  lies-alike : (mask : ℕ) → lies_in (bits N mask) (has_bit alive) ≡ lies_in (bits N mask) (in_set all)
  lies-alike mask = lies-agree (bits N mask)
      (has_bit alive) (in_set all) (λ i inside. has_bit-bits N alive i (omega (arith, inside, length-bits N mask)))

  -- a set with a life that the body does not name adds nothing
  unnamed-part : (s : List Bool) → length s ≡ N → (life : ℕ)
      → in_set s life ≡ true → names_life life pay.body ≡ false → part s ≡ pos 0
  unnamed-part s long life of_it unnamed =
      let silent : (t : ℕ) → form pay t s ≡ pos 0 = λ t. silent-form pay t life s of_it unnamed in
      let none : (sign : ℤ → ℕ) → sign (pos 0) ≡ 0 → set_worth sign b pay events T s ≡ 0 = λ sign zero. no-worth b
      (set_leavings b pay events s) (set_survivors b s) (due_of sign pay events H s) (H - T) T
      (silent-most sign zero pay events H s silent (H - T) T) in
      let worth = set-value-is-worth b rule pay is events T in_time s long in
      ap (λ z. z *ℤ pos (joint_survivors T (outside (in_set all) s) b.lives))
      (rw (none above_zero refl, none below_zero refl) at worth) ∙ omega (arith, ints)

  abbrev both : ℕ → Ends
  both mask = record {
    lo = (entry lists.plus mask).lo -ℤ (entry lists.minus mask).hi;
    hi = (entry lists.plus mask).hi -ℤ (entry lists.minus mask).lo;
  }

  share-encloses : (mask : ℕ) → mask < 2 ^ N
      → Encloses (share lists named mask) (cond (lies_in (bits N mask) (in_set all)) (part (bits N mask)) (pos 0)) whole
  share-encloses mask below = by-case (is_within mask named) refl
    where
      zero-is-zero : Encloses nothing (pos 0) whole
      zero-is-zero = record { low = omega (arith, ints); high = omega (arith, ints) }

      no-part : (lies : Bool) (z : ℤ) → z ≡ pos 0 → cond lies z (pos 0) ≡ pos 0
      no-part true z e = e
      no-part false z e = refl

      by-case : (is : Bool) → is_within mask named ≡ is → Encloses (share lists named mask)
          (cond (lies_in (bits N mask) (in_set all)) (part (bits N mask)) (pos 0)) whole
      by-case false outside = rw outside (⊎_elim
          (λ (lies : lies_in (bits N mask) (has_bit alive) ≡ false). rw (sym (lies-alike mask) ∙ lies) zero-is-zero)
          (λ other. rw (no-part (lies_in (bits N mask) (in_set all)) (part (bits N mask)) (unnamed-part
          (bits N mask) (length-bits N mask) other.0 other.1 other.2)) zero-is-zero)
          (not-in-part pay.body alive named are N mask below outside))
      by-case true inside =
          let s : List Bool = bits N mask in
          let lies = sym (lies-alike mask) ∙ part-lies pay.body alive named are N mask below inside in
          let value = held mask below (part-named pay.body alive named are N mask below inside) in
          let others : ℕ = joint_survivors T (outside (in_set all) s) b.lives in
          let worth = set-value-is-worth b rule pay is events T in_time s (length-bits N mask) in
          let split = survivors-split T (in_set all) b.lives s (length-bits N mask) lies in
          let den : whole ≡ length (taken b) * joint_survivors T (in_set s) b.lives * accumulated b T * others =
          rw split (omega arith) in
          rw (inside, lies) (encloses_at
          (both mask) (pos (set_worth above_zero b pay events T s) -ℤ pos (set_worth below_zero b pay events T s))
          (part s) (length (taken b) * joint_survivors T (in_set s) b.lives * accumulated b T) whole others
          (encloses_sub (entry lists.plus mask) (entry lists.minus mask) (both mask) _ _ (length (taken b)
          * joint_survivors T (in_set s) b.lives * accumulated b T) refl refl value.0.encloses value.1.encloses)
          (ap (λ z. z *ℤ pos others) worth) den)

  -- the total encloses the sum of the parts of the subsets
  pub parts-enclosed : Encloses (total_of lists (2 ^ N) named) (int_sum_over (subsets all) part) whole
  parts-enclosed =
      let sum = sum-encloses
      (share lists named) (λ mask. cond (lies_in (bits N mask) (in_set all)) (part (bits N mask)) (pos 0)) whole
      (2 ^ N) 0 (λ mask below. share-encloses mask (omega arith)) in
      let e = int_sum_over-masks N (λ s. cond (lies_in s (in_set all)) (part s) (pos 0))
      ∙ ap (λ (n : ℕ). int_sum_over (sets n) (λ s. cond (lies_in s (in_set all)) (part s) (pos 0)))
      (sym (length-bits N alive)) ∙ subsets-as-sets all part in
      rw e at sum

  abbrev wide : List Bool → ℕ
  wide s = (H - T) * ((4 * size_of s + 3) * due_by_both pay events H s T (H - T))

  share-narrow : (mask : ℕ) → mask < 2 ^ N → HasWidth (share lists named mask) (wide (bits N mask))
  share-narrow mask below = by-case (is_within mask named) refl
    where
      by-case : (is : Bool) → is_within mask named ≡ is → HasWidth (share lists named mask) (wide (bits N mask))
      by-case false outside = rw outside (record { near = omega (arith, ints) })
      by-case true inside =
          let value = held mask below (part-named pay.body alive named are N mask below inside) in
          let s : List Bool = bits N mask in
          let more : ℕ = most_due (due_of above_zero pay events H s) T (H - T) in
          let less : ℕ = most_due (due_of below_zero pay events H s) T (H - T) in
          let sum : (H - T) * ((4 * size_of s + 3) * more) + (H - T) * ((4 * size_of s + 3) * less)
          ≡ wide s = omega arith in
          rw inside (record { near = omega (arith, ints, value.0.narrow.near, value.1.narrow.near, sum) })

  pub total-narrow : HasWidth (total_of lists (2 ^ N) named) (sum_over (sets N) wide)
  total-narrow =
      let sum = sum-narrow
      (share lists named) (λ mask. wide (bits N mask)) (2 ^ N) 0 (λ mask below. share-narrow mask (omega arith)) in
      let e = sym (int_sum_over-pos (numbers_from 0 (2 ^ N)) (λ mask. wide (bits N mask)))
      ∙ int_sum_over-masks N (λ s. pos (wide s)) ∙ int_sum_over-pos (sets N) wide in
      rw (pos_injective _ _ e) at sum

  -- so the total encloses what falls on the events, where that is the sum over the subsets of those alive
  pub worth-enclosed : (worth : ℤ)
      → worth ≡ int_sum_over (taken b) (λ order. int_sum_over (subsets all)
      (λ s. set_value b pay events (rank_in order) T s *ℤ pos (joint_survivors T (outside (in_set all) s) b.lives)))
      → Encloses (total_of lists (2 ^ N) named) worth (denominator b T (has_bit alive))
  unfolding denominator
  worth-enclosed worth by_sets =
      let orders : worth ≡ int_sum_over (subsets all) part =
      by_sets ∙ int_sum_over-swap (taken b) (subsets all)
      (λ order s. set_value b pay events (rank_in order) T s
      *ℤ pos (joint_survivors T (outside (in_set all) s) b.lives))
      ∙ int_sum_over-ext (subsets all) _ _
      (λ s. int_sum_over-scale_right (taken b) (pos (joint_survivors T (outside (in_set all) s) b.lives))
      (λ order. set_value b pay events (rank_in order) T s)) in
      rw (orders, joint-agree T b.lives (has_bit alive) (in_set all) (has_bit-bits N alive)) parts-enclosed

  -- and it is no wider than the count of the insurance
  pub total-within-count : pay.amount ≡ 1
      → HasWidth (total_of lists (2 ^ N) named) (width_count (measures_of b pay))
  total-within-count one =
      record { near = omega (arith, ints, total-narrow.near, sets-within-count b pay is one events T) }

pub sets-enclose-value : SetsEncloseValue
sets-enclose-value b rule end pay is one in_time T lists held alive named are =
    let all : List Bool = bits (length b.lives) alive in
    let agrees : numerator b pay T (has_bit alive) ≡ numerator b pay T (in_set all) =
    numerator-agree b pay T (has_bit alive) (in_set all) (has_bit-bits (length b.lives) alive) in
    record {
      encloses = worth-enclosed b rule pay is in_time all_events T lists held alive named are
          (pos (numerator b pay T (has_bit alive)))
          (ap pos agrees ∙ insurance-by-sets b rule end pay is T all (length-bits (length b.lives) alive));
      narrow = total-within-count b rule pay is in_time all_events T lists held alive named are one;
    }
