-- The chance of a set to survive a year, as the products of its lives tell it.
use Rattle.std.proofs.Common.{◌≡◌, ℕ, suc, ◌+◌, ◌*◌, ◌<◌, List, [], ◌∷◌, length, Bool, cond, true, false, nat_lt, arith, refl, ap, sym, ◌∙◌}
use Rattle.std.proofs.lemmas.Bool.Decides.{nat_tests}
use Rattle.halo_sums.proofs.SetMasks.{length-bits}
use Rattle.halo_sums.specs.Sets.{in_set}
use Rattle.halo_sums.specs.Masks.{bits, has_bit}
use Rattle.halo_table.specs.DecrementTable.{TableFile, survivors_at}
use Rattle.halo_table.specs.declared.lives.Life.{Life}
use Rattle.halo_model.specs.Life.{after_first}
use Rattle.halo_model.specs.Outcome.{joint_survivors}
use Rattle.halo_model.specs.FromTables.{lives_of}
use Rattle.halo_model.specs.Horizon.{life_at}
use Rattle.halo_life.specs.PlainGroup.{PlainGroup, started, surviving, survivors_in}
use Rattle.halo_annuity.specs.SetProduct.{product_in}
use Rattle.halo_annuity.proofs.Carried.{positive-left, positive-right}

positive-is : (n : ℕ) → 0 < n → nat_lt 0 n ≡ true
positive-is n h = grind (arith, nat_tests)

-- the survivors of a joint life are the product of those of its lives
pub survivors-product : (file : TableFile) (lives : List Life) (t : ℕ) (s : List Bool) → length s ≡ length lives
    → joint_survivors t (in_set s) (lives_of file lives)
    ≡ product_in (λ i. survivors_at file (life_at lives i).table ((life_at lives i).age + t)) s
survivors-product file [] t [] e = refl
survivors-product file [] t (b ∷ s) e = absurd (omega arith)
survivors-product file (x ∷ lives) t [] e = absurd (omega arith)
survivors-product file (x ∷ lives) t (true ∷ s) e =
    ap (λ (n : ℕ). survivors_at file x.table (x.age + t) * n) (survivors-product file lives t s (omega arith))
survivors-product file (x ∷ lives) t (false ∷ s) e = let rest = survivors-product file lives t s (omega arith) in
    omega (arith, rest)

-- a product over members that all are 1 or more does not see which of them are told to be alive
alive-product : (alive : ℕ → Bool) (now then : ℕ → ℕ) (other : ℕ) (s : List Bool)
    → ((i : ℕ) → i < length s → alive i ≡ nat_lt 0 (now i)) → 0 < product_in now s
    → product_in (λ i. cond (alive i) (then i) other) s ≡ product_in then s
alive-product alive now then other [] tells some = refl
alive-product alive now then other (true ∷ s) tells some =
    let first : 0 < now 0 = positive-left (now 0) (product_in (after_first now) s) some in
    let is : alive 0 ≡ true = tells 0 (omega arith) ∙ positive-is (now 0) first in
    let rest = alive-product (after_first alive) (after_first now) (after_first then) other s
    (λ i h. tells (suc i) (omega arith)) (positive-right (now 0) (product_in (after_first now) s) some) in
    rw (is, rest) refl
alive-product alive now then other (false ∷ s) tells some = alive-product
    (after_first alive) (after_first now) (after_first then) other s (λ i h. tells (suc i) (omega arith)) some

-- the chance of a set to survive the year from t on, of which all are alive at t
pub year-chance : (g now : PlainGroup) (n t mask : ℕ) → length g.lives ≡ n → now.file ≡ g.file
    → now.lives ≡ g.lives → now.start ≡ t → ((i : ℕ) → i < n → has_bit now.alive i ≡ nat_lt 0 (survivors_in g t i))
    → 0 < joint_survivors t (in_set (bits n mask)) (lives_of g.file g.lives)
    → (product_in (surviving now (t + 1)) (bits n mask)
    ≡ joint_survivors (suc t) (in_set (bits n mask)) (lives_of g.file g.lives))
    × (product_in (started now) (bits n mask) ≡ joint_survivors t (in_set (bits n mask)) (lives_of g.file g.lives))
year-chance g now n t mask count file lives start tells some =
    let long : length (bits n mask) ≡ length g.lives = length-bits n mask ∙ sym count in
    let here = survivors-product g.file g.lives t (bits n mask) long in
    let next = survivors-product g.file g.lives (suc t) (bits n mask) long in
    let one_more : t + 1 ≡ suc t = omega arith in
    let each : (i : ℕ) → i < length (bits n mask)
    → has_bit now.alive i ≡ nat_lt 0 (survivors_in g t i) = λ i h. tells i (omega (arith, h, length-bits n mask)) in
    let some_product : 0 < product_in (survivors_in g t) (bits n mask) = omega (arith, here, some) in (
      rw (file, lives, one_more) (alive-product
          (has_bit now.alive) (survivors_in g t) (survivors_in g (suc t)) 0 (bits n mask) each some_product ∙ sym next),
      rw (file, lives, start) (alive-product
          (has_bit now.alive) (survivors_in g t) (survivors_in g t) 1 (bits n mask) each some_product ∙ sym here),
    )
