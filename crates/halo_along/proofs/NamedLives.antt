-- The lives that a body names: it has at least as many nodes.
use Rattle.std.proofs.Common.{◌≡◌, ◌⊎◌, ℕ, zero, suc, ◌+◌, ◌<◌, ◌≤◌, arith, refl, ap, ◌∙◌, Bool, true, false, cond, ◌||◌, nat_eq, inl, inr, ⊎_elim}
use Rattle.std.proofs.lemmas.Bool.Decides.{nat_tests}
use Rattle.halo_sums.specs.Sums.{numbers_from, sum_over}
use Rattle.halo_sums.proofs.Numbers.{numbers_from-split}
use Rattle.halo_sums.proofs.Sums.{sum_over-append}
use Rattle.halo_status.specs.Naming.{any_names_life, names_life}
use Rattle.halo_status.specs.Nodes.{nodes, nodes_in}
use Rattle.halo_status.specs.Tree.{Tree, Trees, life, term, joint, last, at_least, exactly, after, none, more}
use Rattle.halo_model.specs.Counts.{lives_named}

none-named : (n first : ℕ) → sum_over (numbers_from first n) (λ i. cond false 1 0) ≤ 0
none-named zero first = omega arith
none-named (suc n) first = omega (arith, none-named n (suc first))

either : (a b : Bool) → cond (a || b) 1 0 ≤ cond a 1 0 + cond b 1 0
either true b = omega arith
either false b = omega arith

either-most : (n first : ℕ) (a b : ℕ → Bool) → sum_over (numbers_from first n) (λ i. cond (a i || b i) 1 0)
    ≤ sum_over (numbers_from first n) (λ i. cond (a i) 1 0) + sum_over (numbers_from first n) (λ i. cond (b i) 1 0)
either-most zero first a b = omega arith
either-most (suc n) first a b = omega (arith, either (a first) (b first), either-most n (suc first) a b)

not-named : (n first i : ℕ) → i < first → sum_over (numbers_from first n) (λ k. cond (nat_eq k i) 1 0) ≤ 0
not-named zero first i h = omega arith
not-named (suc n) first i h = let e : nat_eq first i ≡ false = grind (arith, nat_tests) in
    rw e (omega (arith, not-named n (suc first) i (omega arith)))

one-named : (n first i : ℕ) → sum_over (numbers_from first n) (λ k. cond (nat_eq k i) 1 0) ≤ 1
one-named zero first i = omega arith
one-named (suc n) first i = ⊎_elim
    (λ same. let e : first ≡ i = same.1 in rw (same.0) (omega (arith, not-named n (suc first) i (omega arith))))
    (λ apart. rw (apart.0) (omega (arith, one-named n (suc first) i)))
    (tells (nat_eq first i) refl)
  where
    tells : (b : Bool)
        → nat_eq first i ≡ b → ((nat_eq first i ≡ true) × (first ≡ i)) ⊎ ((nat_eq first i ≡ false) × Unit {0})
    tells true e = inl (e, grind (arith, nat_tests))
    tells false e = inr (e, tt)

-- a body has at least as many nodes as it names lives
mutual
  pub named-most : (n : ℕ) (body : Tree) → (lives_named n body ≤ nodes body) × (1 ≤ nodes body)
  named-most n (life i) = (one-named n 0 i, omega arith)
  named-most n (term k) = (omega (arith, none-named n 0), omega arith)
  named-most n (joint ms) = (omega (arith, any-most n ms), omega arith)
  named-most n (last ms) = (omega (arith, any-most n ms), omega arith)
  named-most n (at_least r ms) = (omega (arith, any-most n ms), omega arith)
  named-most n (exactly r ms) = (omega (arith, any-most n ms), omega arith)
  named-most n (after s t) = (
    omega (
      arith,
      either-most n 0 (λ i. names_life i s) (λ i. names_life i t),
      (named-most n s).0,
      (named-most n t).0,
    ),
    omega arith,
  )

  any-most : (n : ℕ) (ms : Trees) → sum_over (numbers_from 0 n) (λ i. cond (any_names_life i ms) 1 0) ≤ nodes_in ms
  any-most n none = omega (arith, none-named n 0)
  any-most n (more s ms) =
      omega (arith, either-most n 0 (λ i. names_life i s) (λ i. any_names_life i ms), (named-most n s).0, any-most n ms)

-- of one life more
pub named-next : (n : ℕ) (body : Tree) → lives_named (n + 1) body ≡ lives_named n body + cond (names_life n body) 1 0
named-next n body =
    ap (λ is. sum_over is (λ i. cond (names_life i body) 1 0)) (numbers_from-split n 1)
    ∙ sum_over-append (numbers_from 0 n) (numbers_from n 1) (λ i. cond (names_life i body) 1 0)
    ∙ omega arith
