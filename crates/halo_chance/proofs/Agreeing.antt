-- A weight depends only on the lives and terms that its status names.
use Rattle.std.proofs.Common.{◌≡◌, ℕ, suc, ◌+◌, ◌-◌, ◌*◌, refl, ap, ◌∙◌, Bool, true, cond, nat_eq, nat_le}
use Rattle.halo_status.specs.Tree.{Tree, Trees, life, term, joint, last, at_least, exactly, after, none, more}
use Rattle.halo_status.specs.Naming.{any_names_life, any_names_term, names_life, names_term}
use Rattle.halo_model.specs.ByTree.{weight_of, weight_of_all, weight_of_count, weight_of_none, whole_in, whole_of}
use Rattle.halo_status.proofs.Agreement.{or-left, or-right, same}

module _ (n m d : ℕ → ℕ) (on other_on : ℕ → Bool) where
  -- they agree on a life that is named, and on a term
  abbrev pub AgreeOn : (ℕ → Bool) → (ℕ → Bool) → Type 0
  AgreeOn lives terms =
      ((i : ℕ) → lives i ≡ true → n i ≡ m i) × ((k : ℕ) → terms k ≡ true → on k ≡ other_on k)

  of-first : (s : Tree) (ms : Trees) → AgreeOn (λ i. any_names_life i (more s ms)) (λ k. any_names_term k (more s ms))
      → AgreeOn (λ i. names_life i s) (λ k. names_term k s)
  of-first s ms h = (λ i e. h.0 i (or-left _ _ e), λ k e. h.1 k (or-left _ _ e))

  of-others : (s : Tree) (ms : Trees) → AgreeOn (λ i. any_names_life i (more s ms)) (λ k. any_names_term k (more s ms))
      → AgreeOn (λ i. any_names_life i ms) (λ k. any_names_term k ms)
  of-others s ms h = (λ i e. h.0 i (or-right (names_life i s) _ e), λ k e. h.1 k (or-right (names_term k s) _ e))

  mutual
    pub weight-agrees : (s : Tree) → AgreeOn (λ i. names_life i s) (λ k. names_term k s)
        → weight_of n d on s ≡ weight_of m d other_on s
    weight-agrees (life i) h = h.0 i (same i)
    weight-agrees (term k) h = ap (λ b. cond b 1 0) (h.1 k (same k))
    weight-agrees (joint ms) h = all-agree ms h
    weight-agrees (last ms) h = ap (λ z. whole_in d ms - z) (none-agree ms h)
    weight-agrees (at_least r ms) h = count-agrees (λ count. nat_le r count) ms h
    weight-agrees (exactly r ms) h = count-agrees (λ count. nat_eq count r) ms h
    weight-agrees (after s t) h =
        ap (λ z. z * (whole_of d s - weight_of n d on s))
        (weight-agrees t (λ i e. h.0 i (or-right (names_life i s) _ e), λ k e. h.1 k (or-right (names_term k s) _ e)))
        ∙ ap (λ z. weight_of m d other_on t * (whole_of d s - z))
        (weight-agrees s (λ i e. h.0 i (or-left _ _ e), λ k e. h.1 k (or-left _ _ e)))

    all-agree : (ms : Trees) → AgreeOn (λ i. any_names_life i ms) (λ k. any_names_term k ms)
        → weight_of_all n d on ms ≡ weight_of_all m d other_on ms
    all-agree none h = refl
    all-agree (more s ms) h =
        ap (λ z. z * weight_of_all n d on ms) (weight-agrees s (of-first s ms h))
        ∙ ap (λ z. weight_of m d other_on s * z) (all-agree ms (of-others s ms h))

    none-agree : (ms : Trees) → AgreeOn (λ i. any_names_life i ms) (λ k. any_names_term k ms)
        → weight_of_none n d on ms ≡ weight_of_none m d other_on ms
    none-agree none h = refl
    none-agree (more s ms) h =
        ap (λ z. (whole_of d s - z) * weight_of_none n d on ms) (weight-agrees s (of-first s ms h))
        ∙ ap (λ z. (whole_of d s - weight_of m d other_on s) * z) (none-agree ms (of-others s ms h))

    pub count-agrees : (passes : ℕ → Bool) (ms : Trees) → AgreeOn (λ i. any_names_life i ms) (λ k. any_names_term k ms)
        → weight_of_count n d on passes ms ≡ weight_of_count m d other_on passes ms
    count-agrees passes none h = refl
    count-agrees passes (more s ms) h =
        ap (λ z. z * weight_of_count n d on (λ count. passes (suc count)) ms
        + (whole_of d s - z) * weight_of_count n d on passes ms) (weight-agrees s (of-first s ms h))
        ∙ ap (λ z. weight_of m d other_on s * z
        + (whole_of d s - weight_of m d other_on s) * weight_of_count n d on passes ms)
        (count-agrees (λ count. passes (suc count)) ms (of-others s ms h))
        ∙ ap (λ z. weight_of m d other_on s * weight_of_count m d other_on (λ count. passes (suc count)) ms
        + (whole_of d s - weight_of m d other_on s) * z) (count-agrees passes ms (of-others s ms h))
