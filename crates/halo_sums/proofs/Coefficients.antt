-- Coefficients by inclusion and exclusion.
use Rattle.std.proofs.Common.{◌≡◌, ℕ, zero, suc, ◌+◌, ◌-◌, arith, refl, ap, sym, ◌∙◌, List, [], ◌∷◌, Bool, true, false, ℤ, pos, ◌+ℤ◌, ◌*ℤ◌, ◌-ℤ◌, neg_ℤ}
use Rattle.std.proofs.lemmas.Int.{ints}
use Rattle.halo_sums.specs.Sums.{int_sum_over}
use Rattle.halo_sums.specs.Sets.{sets, size_of, subsets}
use Rattle.halo_sums.specs.Coefficients.{alternating, coefficient}
use Rattle.halo_sums.proofs.Integers.{mul_left_comm, mul_sub, sub_mul}
use Rattle.halo_sums.proofs.IntSums.{int_sum_over-ext, int_sum_over-scale, int_sum_over-sub}
use Rattle.halo_sums.proofs.Sets.{int_sum_over-sets, int_sum_over-subsets_with, int_sum_over-subsets_without}

signs-ext : (s : List Bool) (f : List Bool → ℤ) (m n : List Bool → ℕ) → ((u : List Bool) → m u ≡ n u)
    → int_sum_over (subsets s) (λ u. alternating (m u) (f u)) ≡ int_sum_over (subsets s) (λ u. alternating (n u) (f u))
signs-ext s f m n h = int_sum_over-ext (subsets s) _ _ (λ u. ap (λ k. alternating k (f u)) (h u))

-- one more in each sign turns the sum
turned : (k : ℕ) (s : List Bool) (f : List Bool → ℤ)
    → int_sum_over (subsets s) (λ u. alternating (suc k + size_of s - size_of u) (f u))
    ≡ neg_ℤ (int_sum_over (subsets s) (λ u. alternating (k + size_of s - size_of u) (f u)))
turned k [] f = one (suc k + 0 - 0) (k + 0 - 0) (omega arith)
  where
    one : (a b : ℕ) → a ≡ suc b → alternating a (f []) +ℤ pos 0 ≡ neg_ℤ (alternating b (f []) +ℤ pos 0)
    one a b e = rw e (omega (arith, ints))
turned k (false ∷ s) f = int_sum_over-subsets_without s (λ u. alternating (suc k + size_of s - size_of u) (f u))
    ∙ turned k s (λ u. f (false ∷ u))
    ∙ ap neg_ℤ (sym (int_sum_over-subsets_without s (λ u. alternating (k + size_of s - size_of u) (f u))))
turned k (true ∷ s) f = omega (
  arith,
  ints,
  int_sum_over-subsets_with s (λ u. alternating (suc k + suc (size_of s) - size_of u) (f u)),
  int_sum_over-subsets_with s (λ u. alternating (k + suc (size_of s) - size_of u) (f u)),
  without (suc k),
  without k,
  turned (suc k) s (λ u. f (false ∷ u)),
  with (suc k),
  with k,
  turned k s (λ u. f (true ∷ u)),
)
  where
    without : (k : ℕ)
        → int_sum_over (subsets s) (λ u. alternating (k + suc (size_of s) - size_of u) (f (false ∷ u)))
        ≡ int_sum_over (subsets s) (λ u. alternating (suc k + size_of s - size_of u) (f (false ∷ u)))
    without k =
        signs-ext s (λ u. f (false ∷ u)) (λ u. k + suc (size_of s) - size_of u) (λ u. suc k + size_of s - size_of u)
        (λ u. omega arith)

    with : (k : ℕ)
        → int_sum_over (subsets s) (λ u. alternating (k + suc (size_of s) - suc (size_of u)) (f (true ∷ u)))
        ≡ int_sum_over (subsets s) (λ u. alternating (k + size_of s - size_of u) (f (true ∷ u)))
    with k =
        signs-ext s (λ u. f (true ∷ u)) (λ u. k + suc (size_of s) - suc (size_of u)) (λ u. k + size_of s - size_of u)
        (λ u. omega arith)

pub coefficient-empty : (f : List Bool → ℤ) → coefficient f [] ≡ f []
unfolding coefficient
coefficient-empty f = omega (arith, ints)

pub coefficient-without : (f : List Bool → ℤ) (s : List Bool)
    → coefficient f (false ∷ s) ≡ coefficient (λ u. f (false ∷ u)) s
unfolding coefficient
coefficient-without f s = int_sum_over-subsets_without s (λ u. alternating (size_of s - size_of u) (f u))

-- the derivative in 0: with 0 less without it
pub coefficient-with : (f : List Bool → ℤ) (s : List Bool)
    → coefficient f (true ∷ s) ≡ coefficient (λ u. f (true ∷ u)) s -ℤ coefficient (λ u. f (false ∷ u)) s
unfolding coefficient
coefficient-with f s =
    omega (
      arith,
      ints,
      int_sum_over-subsets_with s (λ u. alternating (suc (size_of s) - size_of u) (f u)),
      first,
      second,
      turned 0 s (λ u. f (false ∷ u)),
      third,
    )
  where
    first : int_sum_over (subsets s) (λ u. alternating (suc (size_of s) - size_of u) (f (false ∷ u)))
        ≡ int_sum_over (subsets s) (λ u. alternating (1 + size_of s - size_of u) (f (false ∷ u)))
    first =
        signs-ext s (λ u. f (false ∷ u)) (λ u. suc (size_of s) - size_of u) (λ u. 1 + size_of s - size_of u)
        (λ u. omega arith)

    second : int_sum_over (subsets s) (λ u. alternating (suc (size_of s) - suc (size_of u)) (f (true ∷ u)))
        ≡ coefficient (λ u. f (true ∷ u)) s
    second =
        signs-ext s (λ u. f (true ∷ u)) (λ u. suc (size_of s) - suc (size_of u)) (λ u. size_of s - size_of u)
        (λ u. omega arith)

    third : int_sum_over (subsets s) (λ u. alternating (0 + size_of s - size_of u) (f (false ∷ u)))
        ≡ coefficient (λ u. f (false ∷ u)) s
    third =
        signs-ext s (λ u. f (false ∷ u)) (λ u. 0 + size_of s - size_of u) (λ u. size_of s - size_of u)
        (λ u. omega arith)

-- the coefficients over the subsets of u add up to f there
pub coefficients-add : (f : List Bool → ℤ) (u : List Bool) → int_sum_over (subsets u) (coefficient f) ≡ f u
coefficients-add f [] = omega (arith, ints, coefficient-empty f)
coefficients-add f (false ∷ u) = int_sum_over-subsets_without u (coefficient f)
    ∙ int_sum_over-ext (subsets u) _ _ (coefficient-without f)
    ∙ coefficients-add (λ v. f (false ∷ v)) u
coefficients-add f (true ∷ u) = omega (
  arith,
  ints,
  int_sum_over-subsets_with u (coefficient f),
  int_sum_over-ext (subsets u) (λ v. coefficient f (false ∷ v)) (coefficient (λ v. f (false ∷ v)))
      (coefficient-without f),
  int_sum_over-ext (subsets u) (λ v. coefficient f (true ∷ v))
      (λ v. coefficient (λ w. f (true ∷ w)) v -ℤ coefficient (λ w. f (false ∷ w)) v) (coefficient-with f),
  int_sum_over-sub (subsets u) (coefficient (λ w. f (true ∷ w))) (coefficient (λ w. f (false ∷ w))),
  coefficients-add (λ v. f (true ∷ v)) u,
)

pub alternating-sub : (n : ℕ) (y z : ℤ) → alternating n (y -ℤ z) ≡ alternating n y -ℤ alternating n z
alternating-sub zero y z = refl
alternating-sub (suc n) y z = omega (arith, ints, alternating-sub n y z)

pub coefficient-sub : (f g : List Bool → ℤ) (s : List Bool)
    → coefficient (λ u. f u -ℤ g u) s ≡ coefficient f s -ℤ coefficient g s
unfolding coefficient
coefficient-sub f g s = int_sum_over-ext (subsets s) _ _ (λ u. alternating-sub (size_of s - size_of u) (f u) (g u))
    ∙ int_sum_over-sub (subsets s) (λ u. alternating (size_of s - size_of u) (f u))
    (λ u. alternating (size_of s - size_of u) (g u))

-- and no other numbers add up to f on all sets
pub coefficients-unique : (f c : List Bool → ℤ) → ((u : List Bool) → int_sum_over (subsets u) c ≡ f u) → (s : List Bool)
    → c s ≡ coefficient f s
coefficients-unique f c h [] = omega (arith, ints, h [], coefficient-empty f)
coefficients-unique f c h (false ∷ s) =
    coefficients-unique (λ u. f (false ∷ u)) (λ u. c (false ∷ u))
    (λ u. sym (int_sum_over-subsets_without u c) ∙ h (false ∷ u)) s
    ∙ sym (coefficient-without f s)
coefficients-unique f c h (true ∷ s) =
    coefficients-unique (λ u. f (true ∷ u) -ℤ f (false ∷ u)) (λ u. c (true ∷ u))
    (λ u. omega (
      arith,
      ints,
      int_sum_over-subsets_with u c,
      int_sum_over-subsets_without u c,
      h (true ∷ u),
      h
          (false ∷ u),
    )) s
    ∙ coefficient-sub (λ u. f (true ∷ u)) (λ u. f (false ∷ u)) s
    ∙ sym (coefficient-with f s)

-- Two sums by coefficients over the sets of n numbers, as one over the sets of one number more.
-- `with` stands for those in which the added number counts, `any` for all.
pub coefficients-gather : (n : ℕ) (with any : ℤ) (rest f joined : List Bool → ℤ)
    → ((u : List Bool) → joined (true ∷ u) ≡ coefficient f (true ∷ u) *ℤ (with *ℤ rest u))
    → ((u : List Bool) → joined (false ∷ u) ≡ coefficient f (false ∷ u) *ℤ (any *ℤ rest u))
    → with *ℤ int_sum_over (sets n) (λ u. coefficient (λ v. f (true ∷ v)) u *ℤ rest u) +ℤ (any -ℤ with) *ℤ int_sum_over
    (sets n) (λ u. coefficient (λ v. f (false ∷ v)) u *ℤ rest u) ≡ int_sum_over (sets (suc n)) joined
coefficients-gather n with any rest f joined h-with h-any = omega (
  arith,
  ints,
  int_sum_over-sets n joined,
  part-any,
  part-with,
  apart,
  sub_mul any with (int_sum_over (sets n) (λ u. coefficient g u *ℤ rest u)),
  mul_sub with (int_sum_over (sets n) (λ u. coefficient f₁ u *ℤ rest u))
      (int_sum_over (sets n) (λ u. coefficient g u *ℤ rest u)),
)
  where
    f₁ : List Bool → ℤ
    f₁ v = f (true ∷ v)

    g : List Bool → ℤ
    g v = f (false ∷ v)

    part-any : int_sum_over (sets n) (λ u. joined (false ∷ u))
        ≡ any *ℤ int_sum_over (sets n) (λ u. coefficient g u *ℤ rest u)
    part-any =
        int_sum_over-ext (sets n) _ _ (λ u. h-any u ∙ ap (λ z. z *ℤ (any *ℤ rest u)) (coefficient-without f u)
        ∙ mul_left_comm (coefficient g u) any (rest u))
        ∙ int_sum_over-scale (sets n) any (λ u. coefficient g u *ℤ rest u)

    part-with : int_sum_over (sets n) (λ u. joined (true ∷ u))
        ≡ with *ℤ int_sum_over (sets n) (λ u. (coefficient f₁ u -ℤ coefficient g u) *ℤ rest u)
    part-with =
        int_sum_over-ext (sets n) _ _ (λ u. h-with u ∙ ap (λ z. z *ℤ (with *ℤ rest u)) (coefficient-with f u)
        ∙ mul_left_comm (coefficient f₁ u -ℤ coefficient g u) with (rest u))
        ∙ int_sum_over-scale (sets n) with (λ u. (coefficient f₁ u -ℤ coefficient g u) *ℤ rest u)

    apart : with *ℤ int_sum_over (sets n) (λ u. (coefficient f₁ u -ℤ coefficient g u) *ℤ rest u)
        ≡ with *ℤ (int_sum_over (sets n) (λ u. coefficient f₁ u *ℤ rest u) -ℤ int_sum_over (sets n)
        (λ u. coefficient g u *ℤ rest u))
    apart =
        ap (λ z. with *ℤ z) (int_sum_over-ext (sets n) _ _ (λ u. sub_mul (coefficient f₁ u) (coefficient g u) (rest u))
        ∙ int_sum_over-sub (sets n) (λ u. coefficient f₁ u *ℤ rest u) (λ u. coefficient g u *ℤ rest u))
