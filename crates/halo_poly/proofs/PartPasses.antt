-- Passes over the sets within some lives make of these what passes over all sets do, and leave the others.
use Rattle.std.proofs.Common.{◌≡◌, ℕ, suc, ◌^◌, ◌<◌, ◌≤◌, arith, refl, ap, sym, ◌∙◌, List, length, set, get_or, Bool, true, false, cond, bit_and, ℤ, pos, ◌-ℤ◌, FitsSigned, w64}
use Rattle.std.proofs.Math.Path.{fun_ext}
use Rattle.std.proofs.lemmas.Int.{ints}
use Rattle.halo_sums.specs.Coefficients.{coefficient}
use Rattle.halo_sums.specs.Masks.{bits, has_bit}
use Rattle.halo_sums.specs.Sets.{in_set}
use Rattle.halo_sums.specs.SetMasks.{mask_of}
use Rattle.halo_sums.specs.Sums.{indicator}
use Rattle.halo_sums.specs.Within.{is_within}
use Rattle.halo_sums.proofs.SetMasks.{length-bits, mask_of-bits, mask_of-lt}
use Rattle.halo_sums.proofs.Within.{both-within}
use Rattle.halo_poly.specs.Poly.{IsSmall, coefficient_at, coefficient_of, is_marked_within}
use Rattle.halo_poly.specs.Transform.{without}
use Rattle.halo_poly.proofs.Parts.{less_within, others_out, part_coefficient}
use Rattle.halo_poly.proofs.Passes.{difference_passes, difference_passes-all}
use Rattle.halo_poly.proofs.Transforms.{Holds, passes_fit, test_small, without-held}

-- the passes for the lives before one
abbrev pub part_passes : ℕ → ℕ → (List Bool → ℤ) → List Bool → ℤ
part_passes all life f s = cond (is_within (mask_of s) all) (difference_passes life f s) (f s)

-- after the passes for all lives there are the coefficients
pub part_passes-all : (all n : ℕ) (f : List Bool → ℤ) (s : List Bool) → length s ≡ n
    → part_passes all n f s ≡ cond (is_within (mask_of s) all) (coefficient f s) (f s)
part_passes-all all n f s l =
    ap (λ z. cond (is_within (mask_of s) all) z (f s))
    (ap (λ k. difference_passes k f s) (sym l) ∙ difference_passes-all s f)

pub part_begins : (n all : ℕ) (values : List ℤ) → length values ≡ 2 ^ n
    → Holds n (part_passes all 0 (coefficient_of values)) values
part_begins n all values full = record {
  full = full;
  each = λ s l. either (is_within (mask_of s) all) (coefficient_of values s);
}
  where
    either : (b : Bool) (z : ℤ) → z ≡ cond b z z
    either true z = refl
    either false z = refl

module _ (n all life : ℕ) (f : List Bool → ℤ) (values : List ℤ) (h : Holds n (part_passes all life f) values) where
  inside : (s : List Bool) → is_within (mask_of s) all ≡ true → part_passes all life f s ≡ difference_passes life f s
  inside s within = rw within refl

  -- one pass more, on a set within the lives
  taken : (s : List Bool) → length s ≡ n → life < n → is_within (mask_of s) all ≡ true
      → coefficient_of values s -ℤ without values life (mask_of s) ≡ difference_passes (suc life) f s
  taken s l low within =
      ap (λ z. z -ℤ without values life (mask_of s)) (h.each s l ∙ inside s within)
      ∙ ap (λ z. difference_passes life f s -ℤ z)
      (without-held n (part_passes all life f) values life s h low l
      ∙ ap (λ z. cond (in_set s life) z (pos 0)) (inside (set s life false) (less_within s all life within)))

  pub part_fits : ((s : List Bool) → length s ≡ n → IsSmall (coefficient f s)) → life < n → n ≤ 12 → (mask : ℕ)
      → mask < length values → is_within mask all ≡ true
      → FitsSigned w64 (coefficient_at values mask -ℤ without values life mask)
  part_fits small low few mask there within =
      let s : List Bool = bits n mask in
      let e : mask_of s ≡ mask = mask_of-bits n mask (omega (arith, h.full)) in
      let l : length s ≡ n = length-bits n mask in
      let made : coefficient_at values mask -ℤ without values life mask ≡ difference_passes (suc life) f s =
      ap (λ m. coefficient_at values m -ℤ without values life m) (sym e)
      ∙ taken s l low (ap (λ m. is_within m all) e ∙ within) in
      rw made (passes_fit n (suc life) f small low few s l)

  pub part_more : (next : List ℤ) → life < n → length next ≡ length values
      → ((mask : ℕ) → coefficient_at next mask ≡ cond (is_within mask all)
      (coefficient_at values mask -ℤ without values life mask) (coefficient_at values mask))
      → Holds n (part_passes all (suc life) f) next
  part_more next low same differences = record {
    full = same ∙ h.full;
    each = λ s l. differences (mask_of s) ∙ by_test s l (is_within (mask_of s) all) refl;
  }
    where
      by_test : (s : List Bool) → length s ≡ n → (b : Bool) → is_within (mask_of s) all ≡ b
          → cond b (coefficient_of values s -ℤ without values life (mask_of s)) (coefficient_of values s)
          ≡ cond b (difference_passes (suc life) f s) (f s)
      by_test s l true within = taken s l low within
      by_test s l false out = h.each s l ∙ ap (λ b. cond b (difference_passes life f s) (f s)) out

  -- the pass for another life changes nothing
  pub part_same : has_bit all life ≡ false → Holds n (part_passes all (suc life) f) values
  part_same other = record {
    full = h.full;
    each = λ s l. h.each s l ∙ by_test s (is_within (mask_of s) all) refl;
  }
    where
      none_taken : (s : List Bool) (b : Bool) → b ≡ false → difference_passes life f s
          ≡ difference_passes life f s -ℤ cond b (difference_passes life f (set s life false)) (pos 0)
      none_taken s b e = rw e (omega (arith, ints))

      by_test : (s : List Bool) (b : Bool) → is_within (mask_of s) all ≡ b
          → cond b (difference_passes life f s) (f s) ≡ cond b (difference_passes (suc life) f s) (f s)
      by_test s true within = none_taken s (in_set s life) (others_out s all life within other)
      by_test s false out = refl

-- Where the marks of the sets within the lives are written, the coefficients are those of the marks of the parts.
module _ (old values : List ℤ) (marked : List Bool) (all : ℕ) (none : (k : ℕ) → coefficient_at old k ≡ pos 0)
    (written : (k : ℕ) → coefficient_at values k
    ≡ cond (is_within k all) (indicator (get_or marked k false)) (coefficient_at old k)) where
  marks : (k : ℕ) → coefficient_at values k ≡ cond (is_within k all) (indicator (get_or marked k false)) (pos 0)
  marks k = written k ∙ ap (λ z. cond (is_within k all) (indicator (get_or marked k false)) z) (none k)

  as_test : (b mark : Bool) → cond b (indicator mark) (pos 0) ≡ indicator (cond b mark false)
  as_test true mark = refl
  as_test false mark = refl

  pub part_small : (s : List Bool) → length s ≤ 12 → IsSmall (coefficient (coefficient_of values) s)
  part_small s few =
      let test : coefficient_of values
      ≡ (λ u. indicator (cond (is_within (mask_of u) all) (get_or marked (mask_of u) false) false)) =
      fun_ext (λ u. marks (mask_of u) ∙ as_test (is_within (mask_of u) all) (get_or marked (mask_of u) false)) in
      rw test (test_small (λ u. cond (is_within (mask_of u) all) (get_or marked (mask_of u) false) false) s few)

  part_mark : (u : List Bool)
      → coefficient_at values (bit_and (mask_of u) all) ≡ indicator (is_marked_within marked all u)
  part_mark u =
      marks (bit_and (mask_of u) all)
      ∙ ap (λ b. cond b (indicator (is_marked_within marked all u)) (pos 0))
      (both-within (length u) (mask_of u) all (mask_of-lt u))

  pub part_marks : (s : List Bool)
      → cond (is_within (mask_of s) all) (coefficient (coefficient_of values) s) (coefficient_of values s)
      ≡ coefficient (λ u. indicator (is_marked_within marked all u)) s
  part_marks s =
      outside (is_within (mask_of s) all) refl
      ∙ sym (part_coefficient s all (coefficient_at values))
      ∙ ap (λ (g : List Bool → ℤ). coefficient g s) (fun_ext part_mark)
    where
      outside : (b : Bool) → is_within (mask_of s) all ≡ b
          → cond b (coefficient (coefficient_of values) s) (coefficient_of values s)
          ≡ cond b (coefficient (coefficient_of values) s) (pos 0)
      outside true e = refl
      outside false e = marks (mask_of s) ∙ ap (λ b. cond b (indicator (get_or marked (mask_of s) false)) (pos 0)) e
