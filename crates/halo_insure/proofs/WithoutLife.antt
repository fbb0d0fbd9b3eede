-- Sets as masks, with and without one life.
use Rattle.std.proofs.Common.{◌≡◌, ◌≢◌, ℕ, suc, ◌+◌, ◌-◌, ◌^◌, arith, refl, ap, sym, ◌∙◌, Bool, true, false, not, ◌&&◌, nat_eq}
use Rattle.std.proofs.lemmas.Bool.Decides.{nat_tests}
use Rattle.halo_sums.specs.Masks.{has_bit}
use Rattle.halo_sums.specs.Within.{is_within}
use Rattle.halo_sums.proofs.Masks.{has_bit-bits}
use Rattle.halo_model.proofs.EvenTies.{nat_eq-same}
use Rattle.halo_life.proofs.Subsets.{without-bit}
use Rattle.halo_life.proofs.Within.{within-by, within-has}

-- a set that is not within another is not one that is
pub outside-other : (k set named : ℕ) → is_within set named ≡ true → is_within k named ≡ false → k ≢ set
outside-other k set named within outside same = let e : is_within set named ≡ false = rw same at outside in
    absurd (cc (sym within ∙ e))

module _ (mask a : ℕ) (there : has_bit mask a ≡ true) where
  -- who is in a set without a life
  pub bit-less : (i : ℕ) → has_bit (mask - 2 ^ a) i ≡ (has_bit mask i && not (nat_eq i a))
  bit-less i =
      let n : ℕ = suc (a + i) in
      has_bit-bits n (mask - 2 ^ a) i (omega arith)
      ∙ ap (λ S. S i) (without-bit n mask a (omega arith) there)
      ∙ ap (λ c. c && not (nat_eq i a)) (sym (has_bit-bits n mask i (omega arith)))

  pub bit-off : has_bit (mask - 2 ^ a) a ≡ false
  bit-off = bit-less a ∙ rw (nat_eq-same a) (none (has_bit mask a))
    where
      none : (c : Bool) → (c && not true) ≡ false
      none true = refl
      none false = refl

  -- a set within it without the life
  pub within-others : (part : ℕ) → has_bit part a ≡ true → is_within part mask ≡ true
      → is_within (part - 2 ^ a) (mask - 2 ^ a) ≡ true
  within-others part of-it within = within-by (part - 2 ^ a) (mask - 2 ^ a) (λ i h. bit-less i ∙ keep i h)
    where
      less : (part : ℕ) → has_bit part a ≡ true → (i : ℕ)
          → has_bit (part - 2 ^ a) i ≡ (has_bit part i && not (nat_eq i a))
      less part of-it i =
          let n : ℕ = suc (a + i) in
          has_bit-bits n (part - 2 ^ a) i (omega arith)
          ∙ ap (λ S. S i) (without-bit n part a (omega arith) of-it)
          ∙ ap (λ c. c && not (nat_eq i a)) (sym (has_bit-bits n part i (omega arith)))

      both : (c d e : Bool) → (c && e) ≡ true → (c ≡ true → d ≡ true) → (d && e) ≡ true
      both true d e h k = rw (k refl) h
      both false d e h k = absurd (cc)

      keep : (i : ℕ) → has_bit (part - 2 ^ a) i ≡ true → (has_bit mask i && not (nat_eq i a)) ≡ true
      keep i h = both (has_bit part i) (has_bit mask i) (not (nat_eq i a)) (sym (less part of-it i) ∙ h)
          (λ e. within-has part mask within i e)

  -- no set within the others has the life, and each set without it is within the others
  pub others-without : (part : ℕ) → is_within part (mask - 2 ^ a) ≡ true → has_bit part a ≡ false
  others-without part within = by-case (has_bit part a) refl
    where
      by-case : (c : Bool) → has_bit part a ≡ c → has_bit part a ≡ false
      by-case true e = absurd (cc (sym (within-has part (mask - 2 ^ a) within a e) ∙ bit-off))
      by-case false e = e

  pub without-within : (part : ℕ) → has_bit part a ≡ false → is_within part mask ≡ true
      → is_within part (mask - 2 ^ a) ≡ true
  without-within part off within = within-by part (mask - 2 ^ a) (λ i h. bit-less i ∙ keep i h)
    where
      other : (i : ℕ) → has_bit part i ≡ true → (same : Bool) → nat_eq i a ≡ same → not same ≡ true
      other i h false e = refl
      other i h true e = let s : i ≡ a = grind (arith, nat_tests, e) in
          absurd (cc (sym h ∙ ap (λ (j : ℕ). has_bit part j) s ∙ off))

      keep : (i : ℕ) → has_bit part i ≡ true → (has_bit mask i && not (nat_eq i a)) ≡ true
      keep i h = rw (within-has part mask within i h) (other i h (nat_eq i a) refl)

  -- a set with the life is not within the others
  pub with-outside : (part : ℕ) → has_bit part a ≡ true → is_within part (mask - 2 ^ a) ≡ false
  with-outside part of-it = by-case (is_within part (mask - 2 ^ a)) refl
    where
      by-case : (c : Bool) → is_within part (mask - 2 ^ a) ≡ c → is_within part (mask - 2 ^ a) ≡ false
      by-case true e = absurd (cc (sym of-it ∙ others-without part e))
      by-case false e = e
