use Rattle.std.proofs.Common.{◌≡◌, ◌<◌, true, nat_eq, w16, refl, ⊎_elim}
use Rattle.std.specs.Int.Count.{count_trailing_zeros}
use Rattle.std.proofs.lemmas.Bool.{cases_lt}
use Rattle.std.proofs.lemmas.Nat.Bits.{bit_at-trailing_zeros}
use Rattle.halo_life.proofs.sets.first_of.Goals as goal

pub returns-clause-within : goal.returns-clause-within
returns-clause-within c =
    let low = bit_at-trailing_zeros w16 c.args.set c.requires c.ranges.set.fits in
    rw (low.1) refl

pub returns-clause-first : goal.returns-clause-first
returns-clause-first c = λ i there.
    let low = bit_at-trailing_zeros w16 c.args.set c.requires c.ranges.set.fits in
    ⊎_elim
    (λ (before : i < count_trailing_zeros 16 c.args.set). absurd
    (let none = low.2 i before in let zero_is_one : nat_eq 0 1 ≡ true = rw none at there in cc))
    (λ h. h)
    (cases_lt i (count_trailing_zeros 16 c.args.set))
