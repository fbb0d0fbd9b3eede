-- Each pay has a form: runs of times with equal coefficients, and the polynomial of each.
use Rattle.std.proofs.Common.{◌≡◌, ◌≢◌, ℕ, zero, suc, ◌+◌, ◌-◌, ◌^◌, ◌≤◌, arith, refl, ap, sym, ◌∙◌, List, [], ◌∷◌, length, map, subst, Bool, ℤ, pos}
use Rattle.std.specs.List.{range_with_len}
use Rattle.std.proofs.Math.Decide.{ℕ_discrete}
use Rattle.std.proofs.Math.IntN.{ℤ_discrete}
use Rattle.std.proofs.lemmas.List.FromFn.{get_or-map-range_with_len, length-map-range_with_len}
use Rattle.halo_sums.specs.Masks.{bits}
use Rattle.halo_sums.specs.SetMasks.{mask_of}
use Rattle.halo_sums.proofs.Coefficients.{coefficients-add}
use Rattle.halo_sums.proofs.SameLength.{sum-cong}
use Rattle.halo_sums.proofs.SetMasks.{bits-mask_of, mask_of-lt}
use Rattle.halo_status.specs.Pay.{PlainPay}
use Rattle.halo_model.specs.Coefficient.{existence, form}
use Rattle.halo_model.specs.Segment.{AreSegmentsFrom, IsUniform, Run, coefficients_at, first_time, last_time_of_form}
use Rattle.halo_poly.specs.Poly.{coefficient_of, value_on}
use Rattle.halo_compile.specs.Form.{HaveCoefficients, IsForm, IsPolyOf, run_of}
use Rattle.halo_compile.specs.declared.form.Segment.{Segment}
use Rattle.halo_compile.proofs.Built.{poly_of_run}

-- two lists of coefficients are equal or not
dec_list : (xs ys : List ℤ) → Dec (xs ≡ ys)
dec_list [] [] = yes refl
dec_list [] (y ∷ ys) = no (λ e. cc e)
dec_list (x ∷ xs) [] = no (λ e. cc e)
dec_list (x ∷ xs) (y ∷ ys) = elim (ℤ_discrete x y) [
  | no other ↦ no (λ e. other (cc e))
  | yes head ↦ elim (dec_list xs ys) [
    | no other ↦ no (λ e. other (cc e))
    | yes tail ↦ yes (ap (λ z. z ∷ xs) head ∙ ap (λ zs. y ∷ zs) tail)
  ]
]

module _ (pay : PlainPay) (n : ℕ) where
  -- the coefficients of a time, by masks
  poly_at : ℕ → List ℤ
  poly_at t = map (λ mask. form pay t (bits n mask)) (range_with_len 0 (2 ^ n))

  coefficient-at : (t : ℕ) (s : List Bool) → length s ≡ n → coefficient_of (poly_at t) s ≡ form pay t s
  unfolding poly_at
  coefficient-at t s l =
      get_or-map-range_with_len (λ mask. form pay t (bits n mask)) 0 (2 ^ n) (mask_of s) (mask_of s) (pos 0)
      (rw (← l) (mask_of-lt s)) (omega arith)
      ∙ ap (form pay t) (ap (λ k. bits k (mask_of s)) (sym l) ∙ bits-mask_of s)

  value-at : (t : ℕ) (s : List Bool) → length s ≡ n → value_on (poly_at t) s ≡ existence pay t s
  unfolding form
  value-at t s l =
      sum-cong s (coefficient_of (poly_at t)) (form pay t) (λ u e. coefficient-at t u (e ∙ l))
      ∙ coefficients-add (existence pay t) s

  is-poly : (t : ℕ) → IsPolyOf pay n t (poly_at t)
  unfolding poly_at
  is-poly t = record {
    full = length-map-range_with_len (λ mask. form pay t (bits n mask)) 0 (2 ^ n);
    coefficients = coefficient-at t;
    values = value-at t;
  }

  -- some segments from a time to a last one
  abbrev Segments : ℕ → ℕ → Type 0
  Segments first last = (runs : List Run) × AreSegmentsFrom pay n first last runs

  uniform-from : (first last : ℕ) → coefficients_at pay n (suc first) ≡ coefficients_at pay n first
      → ((t : ℕ) → suc first ≤ t → t ≤ last → coefficients_at pay n t ≡ coefficients_at pay n (suc first))
      → IsUniform pay n (record { first = first; last = last })
  uniform-from first last same within t low high = elim (ℕ_discrete t first) [
    | yes e ↦ ap (coefficients_at pay n) e
    | no other ↦ within t (omega (arith, low, other)) high ∙ same
  ]

  -- where the coefficients stay, the first segment begins a time earlier
  earlier : (first last : ℕ) → coefficients_at pay n (suc first) ≡ coefficients_at pay n first
      → Segments (suc first) last → Segments first last
  earlier first last same ([], are) = absurd are
  earlier first last same (run ∷ [], are) = (
    record { first = first; last = last } ∷ [],
    (refl, omega (arith, are.1), uniform-from first last same (subst (IsUniform pay n) are.0 are.2)),
  )
  earlier first last same (run ∷ next ∷ runs, are) = (
    record { first = first; last = run.last } ∷ next ∷ runs,
    (
      refl,
      omega (arith, are.1),
      uniform-from first run.last same
          (λ t low high. are.2 t (omega (arith, are.0, low)) high ∙ ap (coefficients_at pay n) are.0),
      λ e. are.3 (e ∙ sym same),
      are.4,
    ),
  )

  one-time : (first : ℕ) → IsUniform pay n (record { first = first; last = first })
  one-time first t low high =
      let e : t ≡ first = omega (arith, low, high) in
      ap (coefficients_at pay n) e

  -- and where they change, there is one more
  one-more : (first last : ℕ) → coefficients_at pay n (suc first) ≢ coefficients_at pay n first
      → Segments (suc first) last → Segments first last
  one-more first last changes ([], are) = absurd are
  one-more first last changes (run ∷ runs, are) =
      (record { first = first; last = first } ∷ run ∷ runs, (refl, omega arith, one-time first, changes, are))

  segments : (count first last : ℕ) → first + count ≡ last → Segments first last
  segments zero first last e =
      let same : first ≡ last = omega (arith, e) in
      subst (Segments first) same
      (record { first = first; last = first } ∷ [], (refl, omega arith, one-time first))
  segments (suc count) first last e =
      let rest = segments count (suc first) last (omega (arith, e)) in
      elim (dec_list (coefficients_at pay n (suc first)) (coefficients_at pay n first)) [
        | yes same ↦ earlier first last same rest
        | no changes ↦ one-more first last changes rest
      ]

  module _ (m : ℕ) where
    segment-of : Run → Segment m
    segment-of run = record { from = run.first; to = run.last; poly = poly_at run.first }

    runs-of : (runs : List Run) → map run_of (map segment-of runs) ≡ runs
    unfolding segment-of
    runs-of [] = refl
    runs-of (run ∷ runs) = ap (λ rs. run ∷ rs) (runs-of runs)

    have : (runs : List Run) (first last : ℕ) → AreSegmentsFrom pay n first last runs
        → HaveCoefficients pay n (map segment-of runs)
    unfolding segment-of
    have [] first last are = absurd are
    have (run ∷ []) first last are =
        (λ t low high. poly_of_run pay n t run.first (poly_at run.first) (is-poly run.first) (are.2 t low high), tt)
    have (run ∷ next ∷ runs) first last are = (
      λ t low high. poly_of_run pay n t run.first (poly_at run.first) (is-poly run.first) (are.2 t low high),
      have (next ∷ runs) (suc run.last) last are.4,
    )

    pub form-exists : (horizon : ℕ) → 1 ≤ horizon → (segments : List (Segment m)) × IsForm pay n horizon segments
    form-exists horizon some =
        let first = first_time pay.kind in
        let last = last_time_of_form pay.kind horizon in
        let found = segments (horizon - 1) first last (omega (arith, some)) in (
          map segment-of found.0,
          record {
            runs = subst (AreSegmentsFrom pay n first last) (sym (runs-of found.0)) found.1;
            coefficients = have found.0 first last found.1;
          },
        )
