-- The sets that are marked, and the coefficients that they make.
use Rattle.std.proofs.Common.{◌≡◌, ℕ, ◌/◌, ◌^◌, ◌<◌, ◌≤◌, arith, refl, ap, sym, ◌∙◌, ⊎_elim, List, length, Bool, true, false, ◌&&◌, bit_and}
use Rattle.std.proofs.Math.Path.{fun_ext}
use Rattle.std.proofs.Math.Nat.{div-eq_of_lt, pow-le-pow_right, lt_of_lt_of_le}
use Rattle.std.proofs.lemmas.Bool.{cases_lt, false≢true}
use Rattle.std.proofs.lemmas.List.{get_or_past}
use Rattle.std.proofs.lemmas.Int.{ints}
use Rattle.halo_sums.specs.Sums.{indicator}
use Rattle.halo_sums.specs.Sets.{in_set}
use Rattle.halo_sums.specs.Masks.{bits, has_bit}
use Rattle.halo_sums.specs.Coefficients.{coefficient}
use Rattle.halo_sums.specs.SetMasks.{mask_of}
use Rattle.halo_sums.proofs.Coefficients.{coefficients-add}
use Rattle.halo_sums.proofs.SameLength.{coefficient-cong, sum-cong}
use Rattle.halo_sums.proofs.SetMasks.{has_bit-mask_of, length-bits, mask_of-bits, mask_of-lt}
use Rattle.halo_sums.proofs.Within.{both-within, within-below}
use Rattle.halo_status.specs.Naming.{names_life}
use Rattle.halo_status.specs.Pay.{PlainPay}
use Rattle.halo_status.specs.View.{is_on}
use Rattle.halo_status.proofs.Words.{has_bit-and}
use Rattle.halo_model.specs.Coefficient.{existence, exists_by_mark, form, view_of}
use Rattle.halo_model.specs.Segment.{coefficients_at}
use Rattle.halo_poly.specs.Poly.{is_marked_within}
use Rattle.halo_poly.proofs.Masks.{two_positive}
use Rattle.halo_compile.specs.Marks.{AreNamed, MarksExistence}
use Rattle.halo_compile.proofs.Agreeing.{agree_by_mark}
use Rattle.halo_compile.proofs.SetLists.{agree_from_lists, lists_agree}

-- the bits of the mask of a set are its lives, whatever their numbers
mask_lives : (u : List Bool) → has_bit (mask_of u) ≡ in_set u
mask_lives u = fun_ext (λ i. ⊎_elim (has_bit-mask_of u i) (λ (h : length u ≤ i). above i h) (cases_lt i (length u)))
  where
    above : (i : ℕ) → length u ≤ i → has_bit (mask_of u) i ≡ in_set u i
    above i h =
        let none : mask_of u / 2 ^ i ≡ 0 =
        div-eq_of_lt (lt_of_lt_of_le (mask_of-lt u) (pow-le-pow_right two_positive h)) in
        rw (none, get_or_past u i false h) refl

module _ (pay : PlainPay) (n named : ℕ) (all : AreNamed n pay.body named) where
  -- a life that the body names is in a set where it is in the part of the set within the named lives
  part_lives : (u : List Bool) → length u ≡ n → (i : ℕ) → names_life i pay.body ≡ true
      → has_bit (bit_and (mask_of u) named) i ≡ in_set u i
  part_lives u l i e =
      has_bit-and (mask_of u) named i
      ∙ ap (λ (alive : ℕ → Bool). alive i && has_bit named i) (mask_lives u)
      ∙ ⊎_elim (λ (low : i < n). here (in_set u i) (has_bit named i) (all i low ∙ e))
      (λ (high : n ≤ i). nowhere (in_set u i) (has_bit named i) (get_or_past u i false (omega (arith, l))))
      (cases_lt i n)
    where
      here : (a b : Bool) → b ≡ true → (a && b) ≡ a
      here true b e = e
      here false b e = refl

      nowhere : (a b : Bool) → a ≡ false → (a && b) ≡ a
      nowhere true b e = absurd (false≢true (sym e))
      nowhere false b e = refl

  -- where existence is marked, the pay exists on a set exactly where its part within the named lives is marked
  pub marked_exists : (t : ℕ) (marked : List Bool) → MarksExistence pay t named marked → (u : List Bool)
      → length u ≡ n → indicator (is_marked_within marked named u) ≡ existence pay t u
  marked_exists t marked marks u l =
      ap indicator (marks (bit_and (mask_of u) named) (both-within (length u) (mask_of u) named (mask_of-lt u))
      ∙ agree_by_mark (has_bit (bit_and (mask_of u) named)) (in_set u) (is_on (view_of pay.kind) t)
      (is_on (view_of pay.kind) t) pay.mark pay.body (part_lives u l) (λ k e. refl))

  -- and the coefficients of the marks are those of the pay
  pub marked_form : (t : ℕ) (marked : List Bool) → MarksExistence pay t named marked → (u : List Bool)
      → length u ≡ n → coefficient (λ v. indicator (is_marked_within marked named v)) u ≡ form pay t u
  unfolding form
  marked_form t marked marks u l =
      coefficient-cong _ (existence pay t) u (λ v e. marked_exists t marked marks v (e ∙ l))

module _ (pay : PlainPay) (n : ℕ) where
  -- equal existence makes equal coefficients
  pub same_existence : (t since : ℕ) → ((u : List Bool) → length u ≡ n → existence pay t u ≡ existence pay since u)
      → coefficients_at pay n t ≡ coefficients_at pay n since
  unfolding form
  same_existence t since h =
      lists_agree n (form pay t) (form pay since)
      (λ u l. coefficient-cong (existence pay t) (existence pay since) u (λ v e. h v (e ∙ l)))

  pub same_marks : (t since named : ℕ) (marked : List Bool) → AreNamed n pay.body named
      → MarksExistence pay t named marked → MarksExistence pay since named marked
      → coefficients_at pay n t ≡ coefficients_at pay n since
  same_marks t since named marked all now before =
      same_existence t since
      (λ u l.
      sym (marked_exists pay n named all t marked now u l) ∙ marked_exists pay n named all since marked before u l)

  -- and equal coefficients mean equal existence
  pub existence_from : (t since : ℕ) → coefficients_at pay n t ≡ coefficients_at pay n since → (u : List Bool)
      → length u ≡ n → existence pay t u ≡ existence pay since u
  unfolding form
  existence_from t since e u l =
      sym (coefficients-add (existence pay t) u)
      ∙ sum-cong u (coefficient (existence pay t)) (coefficient (existence pay since))
      (λ v q. agree_from_lists n (form pay t) (form pay since) e v (q ∙ l))
      ∙ coefficients-add (existence pay since) u

  indicators : (a b : Bool) → indicator a ≡ indicator b → a ≡ b
  indicators true true e = refl
  indicators false false e = refl
  indicators true false e = absurd (omega (arith, ints, e))
  indicators false true e = absurd (omega (arith, ints, e))

  -- so that the marks of one time are those of the other
  pub still_marked : (t since named : ℕ) (marked : List Bool) → named < 2 ^ n
      → MarksExistence pay since named marked → coefficients_at pay n t ≡ coefficients_at pay n since
      → MarksExistence pay t named marked
  still_marked t since named marked few marks same k within =
      marks k within ∙ sym (indicators _ _ (by_mask t ∙ existence_from t since same (bits n k) (length-bits n k)
      ∙ sym (by_mask since)))
    where
      lives : in_set (bits n k) ≡ has_bit k
      lives = sym (mask_lives (bits n k)) ∙ ap has_bit (mask_of-bits n k (omega (arith, within-below k named within)))

      by_mask : (at : ℕ) → indicator (exists_by_mark pay.mark pay.body (has_bit k) (is_on (view_of pay.kind) at))
          ≡ existence pay at (bits n k)
      by_mask at = ap
          (λ (alive : ℕ → Bool). indicator (exists_by_mark pay.mark pay.body alive (is_on (view_of pay.kind) at)))
          (sym lives)
