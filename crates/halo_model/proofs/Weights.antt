-- The weights of the outcomes add up.
use Rattle.std.proofs.Common.{◌≡◌, ℕ, zero, suc, ◌+◌, ◌*◌, ◌-◌, arith, refl, ap, sym, ◌∙◌, List, [], ◌∷◌, map, Bool, true, false, cond, Some}
use Rattle.halo_sums.specs.Sums.{numbers_from, sum_over}
use Rattle.halo_sums.proofs.Sums.{sum_over-ext, sum_over-flat_map, sum_over-map, sum_over-scale, sum_over-scale_right}
use Rattle.halo_model.specs.Life.{AreLives, IsLife, PlainLife, after_first, leavers_in}
use Rattle.halo_model.specs.Outcome.{Outcome, exit_weight, exits, joint_survivors, outcomes, ways, weight}

-- who is alive at time k leaves in one of the years that are left
leavers-add : (x : PlainLife) → IsLife x → (years k : ℕ) → years ≡ x.years_left - k
    → sum_over (numbers_from k years) (leavers_in x) ≡ x.survivors k
leavers-add x rule zero k e = sym (rule.ends k (omega arith))
leavers-add x rule (suc years) k e =
    ap (λ m. leavers_in x k + m) (leavers-add x rule years (suc k) (omega arith)) ∙ sym (rule.falls k)

exits-add : (x : PlainLife) (T : ℕ) (f : ℕ → ℕ → ℕ)
    → sum_over (exits T x) (λ e. f e.year e.cause)
    ≡ sum_over (numbers_from T (x.years_left - T)) (λ k. sum_over (numbers_from 0 x.causes) (f k))
exits-add x T f =
    sum_over-flat_map (λ k. map (λ j. record {
      year = k;
      cause = j;
    }) (numbers_from 0 x.causes)) (numbers_from T (x.years_left - T)) (λ e. f e.year e.cause)
    ∙ sum_over-ext (numbers_from T (x.years_left - T)) _ _ (λ k. sum_over-map (λ j. record {
      year = k;
      cause = j;
    }) (numbers_from 0 x.causes) (λ e. f e.year e.cause))

ways-add : (x : PlainLife) → IsLife x → (T : ℕ) (alive : Bool)
    → sum_over (ways T alive x) (exit_weight x) ≡ cond alive (x.survivors T) 1
ways-add x rule T true =
    sum_over-map (λ e. Some e) (exits T x) (exit_weight x) ∙ exits-add x T x.leavers ∙ leavers-add x rule _ T refl
ways-add x rule T false = omega arith

-- a sum over outcomes, the first life apart
outcomes-add : (T : ℕ) (S : ℕ → Bool) (x : PlainLife) (lives : List PlainLife) (f : Outcome → ℕ)
    → sum_over (outcomes T S (x ∷ lives)) f ≡ sum_over (ways T (S 0) x)
    (λ way. sum_over (outcomes T (after_first S) lives) (λ o. f (way ∷ o)))
outcomes-add T S x lives f =
    sum_over-flat_map (λ way. map (λ o. way ∷ o) (outcomes T (after_first S) lives)) (ways T (S 0) x) f
    ∙ sum_over-ext (ways T (S 0) x) _ _ (λ way. sum_over-map (λ o. way ∷ o) (outcomes T (after_first S) lives) f)

pub weights-add : (T : ℕ) (S : ℕ → Bool) (lives : List PlainLife) → AreLives lives
    → sum_over (outcomes T S lives) (λ o. weight lives o) ≡ joint_survivors T S lives
weights-add T S [] rule = refl
weights-add T S (x ∷ lives) rule = outcomes-add T S x lives (weight (x ∷ lives))
    ∙ sum_over-ext (ways T (S 0) x) _ _ (λ way. sum_over-scale rest (exit_weight x way) (weight lives))
    ∙ sum_over-scale_right (ways T (S 0) x) (sum_over rest (weight lives)) (exit_weight x)
    ∙ ap (λ n. n * sum_over rest (weight lives)) (ways-add x rule.0 T (S 0))
    ∙ ap (λ n. cond (S 0) (x.survivors T) 1 * n) (weights-add T (after_first S) lives rule.1)
  where
    rest : List Outcome
    rest = outcomes T (after_first S) lives
