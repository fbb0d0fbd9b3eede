use Rattle.std.proofs.Common.{◌≡◌, ℕ, ◌<◌, Bool, true, false, ◌&&◌, nat_lt, arith, sym, ◌∙◌}
use Rattle.std.specs.Prelude.{bit_and}
use Rattle.std.proofs.lemmas.Bool.Decides.{nat_tests}
use Rattle.halo_sums.specs.Masks.{has_bit}
use Rattle.halo_status.proofs.Words.{has_bit-and}
use Rattle.halo_tests.proofs.annuities_along.living.Goals as goal

-- a life of two sets, of which the one has those that have survivors
survivors-of-both : (a b survivors i : ℕ)
    → has_bit b i ≡ nat_lt 0 survivors → has_bit (bit_and a b) i ≡ true → 0 < survivors
survivors-of-both a b survivors i is both =
    some survivors (sym is ∙ second (has_bit a i) (has_bit b i) (sym (has_bit-and a b i) ∙ both))
  where
    second : (x y : Bool) → (x && y) ≡ true → y ≡ true
    second true y e = e
    second false y e = absurd (cc)

    some : (n : ℕ) → nat_lt 0 n ≡ true → 0 < n
    some n e = grind (arith, nat_tests)

pub returns : goal.returns
returns c = λ i below both. survivors-of-both c.args.set c.alive.result _ i
    (rw c.alive.ensures.value (c.at.ensures.alive i below)) both
