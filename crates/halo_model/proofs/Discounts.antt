-- The discount factors of some years, in the parts of all years.
use Rattle.std.proofs.Common.{◌≡◌, ℕ, ◌+◌, ◌*◌, ◌-◌, ◌≤◌, arith, ap, ◌∙◌, pos}
use Rattle.std.proofs.lemmas.Int.{ints}
use Rattle.halo_sums.specs.Sums.{numbers_from, product_over}
use Rattle.halo_sums.proofs.Numbers.{numbers_from-add}
use Rattle.halo_sums.proofs.Sums.{product_over-append}
use Rattle.halo_num.specs.Ends.{Ends}
use Rattle.halo_num.specs.Enclosure.{Encloses}
use Rattle.halo_num.proofs.Enclosures.{encloses_at}
use Rattle.halo_model.specs.Basis.{Basis, accumulated, discounted}

module _ (b : Basis) where
  -- the interest of all years from T is that of the years up to t and that of the others
  pub accumulated-from : (T t : ℕ) → T ≤ t → t ≤ b.last_time
      → accumulated b T ≡ product_over (numbers_from T (t - T)) (λ k. b.p k + b.q k) * accumulated b t
  accumulated-from T t from before =
      let split : b.last_time - T ≡ (t - T) + (b.last_time - t) = omega arith in
      let there : T + (t - T) ≡ t = omega arith in
      ap (λ (n : ℕ). product_over (numbers_from T n) (λ k. b.p k + b.q k)) split
      ∙ ap (λ ks. product_over ks (λ k. b.p k + b.q k)) (numbers_from-add (t - T) (b.last_time - t) T)
      ∙ product_over-append (numbers_from T (t - T)) (numbers_from (T + (t - T)) (b.last_time - t))
      (λ k. b.p k + b.q k)
      ∙ ap (λ (k : ℕ). product_over (numbers_from T (t - T)) (λ k. b.p k + b.q k)
      * product_over (numbers_from k (b.last_time - t)) (λ k. b.p k + b.q k)) there

  -- the interest of all years is that of the first years and that of the others
  pub accumulated-split : (t : ℕ)
      → t ≤ b.last_time → accumulated b 0 ≡ product_over (numbers_from 0 t) (λ k. b.p k + b.q k) * accumulated b t
  accumulated-split t within =
      let years : t - 0 ≡ t = omega arith in
      accumulated-from 0 t (omega arith) within
      ∙ ap (λ n. product_over (numbers_from 0 n) (λ k. b.p k + b.q k) * accumulated b t) years

  pub discounted-at_start : (t : ℕ) → discounted b 0 t ≡ product_over (numbers_from 0 t) b.q * accumulated b t
  discounted-at_start t = let years : t - 0 ≡ t = omega arith in
      ap (λ n. product_over (numbers_from 0 n) b.q * accumulated b t) years

  -- a fraction of the product of the discount factors of t years, times a count
  pub discount-encloses : (t count : ℕ) → t ≤ b.last_time → (i : Ends)
      → Encloses i
      (pos (product_over (numbers_from 0 t) b.q * count)) (product_over (numbers_from 0 t) (λ k. b.p k + b.q k))
      → Encloses i (pos (discounted b 0 t * count)) (accumulated b 0)
  discount-encloses t count within i p =
      encloses_at i _ _ _ _
      (accumulated b t) p (rw (discounted-at_start t) (omega (arith, ints))) (accumulated-split t within)
