-- The sum over outcomes of a function of the lives that are there, as a sum over sets.
use Rattle.std.proofs.Common.{◌≡◌, ℕ, suc, ◌≤◌, arith, refl, ap, ◌∙◌, List, [], ◌∷◌, length, Bool, true, false, cond, ℤ, pos, ◌+ℤ◌, ◌*ℤ◌, ◌-ℤ◌}
use Rattle.std.proofs.lemmas.Int.{ints}
use Rattle.halo_sums.specs.Sums.{int_sum_over}
use Rattle.halo_sums.specs.Sets.{sets}
use Rattle.halo_sums.proofs.Integers.{mul_assoc}
use Rattle.halo_sums.proofs.IntSums.{int_sum_over-ext, int_sum_over-scale}
use Rattle.halo_sums.proofs.Sets.{int_sum_over-sets}
use Rattle.halo_model.specs.Life.{AreLives, PlainLife, after_first}
use Rattle.halo_model.specs.There.{there_at}
use Rattle.halo_model.specs.Expectation.{exactly_there, expected}
use Rattle.halo_model.proofs.Expected.{expected-cons}
use Rattle.halo_model.proofs.OneWay.{one-life}

-- two sums over the sets of n lives, as one over the sets of one life more
gather : (n : ℕ) (with without : ℤ) (rest f joined : List Bool → ℤ)
    → ((u : List Bool) → joined (true ∷ u) ≡ (with *ℤ rest u) *ℤ f (true ∷ u))
    → ((u : List Bool) → joined (false ∷ u) ≡ (without *ℤ rest u) *ℤ f (false ∷ u))
    → with *ℤ int_sum_over (sets n) (λ u. rest u *ℤ f (true ∷ u)) +ℤ without *ℤ int_sum_over (sets n)
    (λ u. rest u *ℤ f (false ∷ u)) ≡ int_sum_over (sets (suc n)) joined
gather n with without rest f joined h-with h-without =
    omega (arith, ints, int_sum_over-sets n joined, part with true h-with, part without false h-without)
  where
    part : (c : ℤ) (b : Bool) → ((u : List Bool) → joined (b ∷ u) ≡ (c *ℤ rest u) *ℤ f (b ∷ u))
        → int_sum_over (sets n) (λ u. joined (b ∷ u)) ≡ c *ℤ int_sum_over (sets n) (λ u. rest u *ℤ f (b ∷ u))
    part c b h =
        int_sum_over-ext (sets n) _ _ (λ u. h u ∙ mul_assoc c (rest u) (f (b ∷ u)))
        ∙ int_sum_over-scale (sets n) c (λ u. rest u *ℤ f (b ∷ u))

pub expected-by-sets : (times : ℕ → ℕ) (T : ℕ) → ((i : ℕ) → T ≤ times i) → (S : ℕ → Bool) (lives : List PlainLife)
    → AreLives lives → (f : List Bool → ℤ)
    → expected T S lives (λ o. f (there_at times o))
    ≡ int_sum_over (sets (length lives)) (λ u. exactly_there times T S lives u *ℤ f u)
expected-by-sets times T from S [] rule f = omega (arith, ints)
expected-by-sets times T from S (x ∷ lives) rule f =
    expected-cons T S x lives (λ o. f (there_at times o))
    ∙ one-life x rule.0 T (times 0) (from 0) (S 0)
    (λ b. expected T (after_first S) lives (λ o. f (b ∷ there_at later o)))
    ∙ ap (λ z. with *ℤ z +ℤ without *ℤ expected T (after_first S) lives (λ o. f (false ∷ there_at later o)))
    (expected-by-sets later T (λ i. from (suc i)) (after_first S) lives rule.1 (λ u. f (true ∷ u)))
    ∙ ap (λ z. with *ℤ int_sum_over (sets (length lives)) (λ u. rest u *ℤ f (true ∷ u)) +ℤ without *ℤ z)
    (expected-by-sets later T (λ i. from (suc i)) (after_first S) lives rule.1 (λ u. f (false ∷ u)))
    ∙ gather (length lives) with without rest f (λ u. exactly_there times T S (x ∷ lives) u *ℤ f u) (λ u. refl)
    (λ u. refl)
  where
    later : ℕ → ℕ
    later = after_first times

    rest : List Bool → ℤ
    rest = exactly_there later T (after_first S) lives

    with : ℤ
    with = cond (S 0) (pos (x.survivors (times 0))) (pos 0)

    without : ℤ
    without = cond (S 0) (pos (x.survivors T) -ℤ pos (x.survivors (times 0))) (pos 1)
