-- The binomial coefficients of the numbers up to 16 are small.
use Rattle.std.proofs.Common.{◌^◌, ◌<◌, ◌≤◌, arith, rules, ⊎_elim}
use Rattle.std.proofs.Math.Nat.{pow-le-pow_right}
use Rattle.std.proofs.lemmas.Bool.{cases_lt}
use Rattle.std.proofs.lemmas.List.{get_or_past}
use Rattle.halo_poly.proofs.Masks.{two_positive}
use Rattle.halo_sums.proofs.Choices.{choose-le}
use Rattle.halo_poly.proofs.survivors.symmetric_sum.Goals as goal

pub of_counts-requires : goal.of_counts-requires
of_counts-requires g c = (
  search rules,
  (
    c.requires.sets,
    (
      c.requires.full,
      (
        (λ k. omega (arith, c.requires.few k, c.binomials-row.ensures.room)),
        (λ k. ⊎_elim
            (λ (h : k < 17).
            let low : k ≤ 16 = omega arith in
            let p : 2 ^ k ≤ 2 ^ 16 = pow-le-pow_right two_positive low in
            omega (arith, c.binomials-row.ensures.numbers k h, choose-le k c.args.j, p))
            (λ (h : 17 ≤ k).
            omega (arith, get_or_past c.binomials-row.result k 0 (omega (arith, c.binomials-row.ensures.room))))
            (cases_lt k 17)),
      ),
    ),
  ),
)
