-- The terms of a polynomial, set by set.
use Rattle.std.proofs.Common.{get_or, length, map, take, ◌≡◌, ◌≢◌, ℕ, zero, suc, ◌+◌, ◌^◌, ◌<◌, List, [], ◌∷◌, ◌++◌, append-nil, ap, ◌∙◌, refl, ℤ, pos, negsuc}
use Rattle.std.proofs.lemmas.List.{map_more}
use Rattle.std.proofs.lemmas.Grind.{flat_map-append}
use Rattle.halo_sums.specs.Masks.{bits}
use Rattle.halo_sums.proofs.SetMasks.{mask_of-bits}
use Rattle.halo_poly.specs.Poly.{coefficient_at}
use Rattle.halo_report.specs.CoefficientText.{coefficient_text, set_text}
use Rattle.halo_report.specs.FormText.{term_of, term_text, terms_of}

-- a term that is written
pub term_text-some : (set : List ℕ) (z : ℤ) → z ≢ pos 0 → coefficient_text set z ≡ term_text set z
term_text-some set (pos zero) some = absurd (some refl)
term_text-some set (pos (suc n)) some = refl
term_text-some set (negsuc n) some = refl

module _ (names : List (List ℕ)) (p : List ℤ) where
  -- the term of the set of a mask
  term_of-bits : (n set : ℕ) → set < 2 ^ n
      → term_of names p (bits n set) ≡ term_text (set_text names (bits n set)) (coefficient_at p set)
  term_of-bits n set few =
      ap (λ mask. term_text (set_text names (bits n set)) (coefficient_at p mask)) (mask_of-bits n set few)

  -- the terms of some sets, and of one more
  pub one-term-more : (n : ℕ) (sets : List ℕ) (i d : ℕ) → i < length sets → get_or sets i d < 2 ^ n
      → terms_of names p (map (bits n) (take (i + 1) sets))
      ≡ terms_of names p (map (bits n) (take i sets))
      ++ term_text (set_text names (bits n (get_or sets i d))) (coefficient_at p (get_or sets i d))
  one-term-more n sets i d more few =
      let set : ℕ = get_or sets i d in
      let before = map (bits n) (take i sets) in
      ap (terms_of names p) (map_more (bits n) sets i d more)
      ∙ flat_map-append (term_of names p) before (bits n set ∷ [])
      ∙ ap (λ text. terms_of names p before ++ text)
      (append-nil (term_of names p (bits n set)) ∙ term_of-bits n set few)
