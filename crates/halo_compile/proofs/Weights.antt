-- The weight of a form is that of its segments: within a segment the coefficients stay the same.
use Rattle.std.proofs.Common.{◌≡◌, ℕ, zero, suc, ◌+◌, ◌-◌, ◌^◌, ◌<◌, ◌≤◌, arith, refl, ap, sym, ◌∙◌, List, [], ◌∷◌, ◌++◌, length, map, max, ℤ, pos, negsuc, unsigned_abs}
use Rattle.halo_sums.specs.Sums.{int_sum_over, numbers_from, sum_over}
use Rattle.halo_sums.specs.Sets.{sets}
use Rattle.halo_sums.specs.Masks.{bits}
use Rattle.halo_sums.proofs.IntSums.{int_sum_over-pos}
use Rattle.halo_sums.proofs.Integers.{pos_injective}
use Rattle.halo_sums.proofs.Masks.{int_sum_over-masks}
use Rattle.halo_sums.proofs.Numbers.{int_sum_over-numbers_ext, numbers_from-add, sum_over-numbers_next}
use Rattle.halo_sums.proofs.Sums.{sum_over-map}
use Rattle.halo_status.specs.Pay.{PlainPay}
use Rattle.halo_model.specs.Coefficient.{form}
use Rattle.halo_model.specs.Counts.{greatest, size}
use Rattle.halo_model.specs.Segment.{AreSegmentsFrom, Run, coefficients_at}
use Rattle.halo_poly.specs.Poly.{coefficient_at}
use Rattle.halo_sums.proofs.SetMasks.{length-bits, mask_of-bits}
use Rattle.halo_compile.specs.declared.form.Segment.{Segment}
use Rattle.halo_compile.specs.Form.{HaveCoefficients, IsPolyOf, run_of}
use Rattle.halo_compile.specs.Weight.{segment_weight, greatest_weight}

-- the greatest of two lists, of one that stays the same, and at least the first number
greatest-append : (least : ℕ) (xs ys : List ℕ) → greatest least (xs ++ ys) ≡ greatest (greatest least ys) xs
greatest-append least [] ys = refl
greatest-append least (x ∷ xs) ys = ap (max x) (greatest-append least xs ys)

greatest-same : (count first least w : ℕ) (f : ℕ → ℕ) → ((t : ℕ) → first ≤ t → t < first + suc count → f t ≡ w)
    → greatest least (map f (numbers_from first (suc count))) ≡ max w least
greatest-same zero first least w f h = ap (λ n. max n least) (h first (omega arith) (omega arith))
greatest-same (suc count) first least w f h =
    ap (λ n. max (f first) n)
    (greatest-same count (suc first) least w f (λ t low high. h t (omega arith) (omega arith)))
    ∙ omega (arith, h first (omega arith) (omega arith))

pub at_least_one : (ns : List ℕ) → 1 ≤ greatest 1 ns
at_least_one [] = omega arith
at_least_one (n ∷ ns) = omega (arith, at_least_one ns)

map-append : {X Y : Type 0} (f : X → Y) (xs ys : List X) → map f (xs ++ ys) ≡ map f xs ++ map f ys
map-append f [] ys = refl
map-append f (x ∷ xs) ys = ap (λ zs. f x ∷ zs) (map-append f xs ys)

same_size : (z : ℤ) → unsigned_abs z ≡ size z
same_size (pos n) = refl
same_size (negsuc n) = refl

-- a sum over a list, place by place
by_places : (p : List ℤ) (f : ℤ → ℕ) → sum_over p f ≡ sum_over (numbers_from 0 (length p)) (λ k. f (coefficient_at p k))
by_places [] f = refl
by_places (z ∷ p) f =
    ap (λ n. f z + n) (by_places p f ∙ sym (sum_over-numbers_next (length p) 0 (λ k. f (coefficient_at (z ∷ p) k))))

-- a polynomial that has the coefficients of a pay has their weight
pub weight_at : (pay : PlainPay) (n t : ℕ) (p : List ℤ) → IsPolyOf pay n t p
    → sum_over p unsigned_abs ≡ sum_over (coefficients_at pay n t) size
weight_at pay n t p is = pos_injective _ _ (
    ap pos (by_places p unsigned_abs)
    ∙ sym (int_sum_over-pos (numbers_from 0 (length p)) (λ k. unsigned_abs (coefficient_at p k)))
    ∙ ap (λ count. int_sum_over (numbers_from 0 count) (λ k. pos (unsigned_abs (coefficient_at p k)))) is.full
    ∙ int_sum_over-numbers_ext (2 ^ n) 0 (λ k. pos (unsigned_abs (coefficient_at p k)))
    (λ k. pos (size (form pay t (bits n k)))) (λ k from h. by_set k (omega arith))
    ∙ int_sum_over-masks n (λ u. pos (size (form pay t u)))
    ∙ int_sum_over-pos (sets n) (λ u. size (form pay t u))
    ∙ ap pos (sym (sum_over-map (form pay t) (sets n) size)))
  where
    by_set : (k : ℕ) → k < 2 ^ n → pos (unsigned_abs (coefficient_at p k)) ≡ pos (size (form pay t (bits n k)))
    by_set k h =
        ap (λ j. pos (unsigned_abs (coefficient_at p j))) (sym (mask_of-bits n k h))
        ∙ ap (λ z. pos (unsigned_abs z)) (is.coefficients (bits n k) (length-bits n k))
        ∙ ap pos (same_size (form pay t (bits n k)))

-- the segments end where they begin, or later
in_order : (pay : PlainPay) (n first last : ℕ) (runs : List Run) → AreSegmentsFrom pay n first last runs → first ≤ last
in_order pay n first last [] are = absurd are
in_order pay n first last (run ∷ []) are = are.1
in_order pay n first last (run ∷ next ∷ runs) are =
    omega (arith, are.1, in_order pay n (suc run.last) last (next ∷ runs) are.4)

abbrev weight_by_time : PlainPay → ℕ → ℕ → ℕ
weight_by_time pay n t = sum_over (coefficients_at pay n t) size

module _ {m : ℕ} (pay : PlainPay) (n : ℕ) where
  -- the times of a segment have its weight
  over_run : (s : Segment m) (least first last : ℕ) → s.from ≡ first → s.to ≡ last → first ≤ last
      → ((t : ℕ) → s.from ≤ t → t ≤ s.to → IsPolyOf pay n t s.poly)
      → greatest least (map (weight_by_time pay n) (numbers_from first (suc last - first)))
      ≡ max (segment_weight s) least
  over_run s least first last e d h each =
      let count : suc last - first ≡ suc (last - first) = omega arith in
      ap (λ c. greatest least (map (weight_by_time pay n) (numbers_from first c))) count
      ∙ greatest-same (last - first) first least (segment_weight s) (weight_by_time pay n)
      (λ t low high. sym (weight_at pay n t s.poly (each t (omega (arith, e)) (omega (arith, d)))))

  pub weights : (segments : List (Segment m)) (first last : ℕ) → AreSegmentsFrom pay n first last (map run_of segments)
      → HaveCoefficients pay n segments
      → greatest_weight segments
      ≡ greatest 1 (map (λ t. sum_over (coefficients_at pay n t) size) (numbers_from first (suc last - first)))
  weights [] first last are have = absurd are
  weights (s ∷ []) first last are have =
      sym (over_run s 1 first last (ap (λ r. r.first) are.0) (ap (λ r. r.last) are.0) are.1 have.0)
  weights (s ∷ next ∷ segments) first last are have =
      let rest = are.4 in
      let order = in_order pay n (suc s.to) last (map run_of (next ∷ segments)) rest in
      let parts : suc last - first ≡ (suc s.to - first) + (suc last - suc s.to) = omega (arith, order, are.1) in
      let place : first + (suc s.to - first) ≡ suc s.to = omega (arith, are.1) in
      ap (max (segment_weight s)) (weights (next ∷ segments) (suc s.to) last rest have.1)
      ∙ sym (over_run s (greatest 1 (map (weight_by_time pay n) (numbers_from (suc s.to) (suc last - suc s.to)))) first
      s.to are.0 refl are.1 have.0)
      ∙ sym (greatest-append 1 (map (weight_by_time pay n) (numbers_from first (suc s.to - first)))
      (map (weight_by_time pay n) (numbers_from (suc s.to) (suc last - suc s.to))))
      ∙ ap (greatest 1)
      (sym (map-append (weight_by_time pay n) (numbers_from first (suc s.to - first))
      (numbers_from (suc s.to) (suc last - suc s.to))))
      ∙ ap
      (λ from.
      greatest 1
      (map (weight_by_time pay n)
      (numbers_from first (suc s.to - first) ++ numbers_from from (suc last - suc s.to))))
      (sym place)
      ∙ ap (λ ts. greatest 1 (map (weight_by_time pay n) ts))
      (sym (numbers_from-add (suc s.to - first) (suc last - suc s.to) first))
      ∙ ap (λ c. greatest 1 (map (weight_by_time pay n) (numbers_from first c))) (sym parts)
