-- As many bits of a mask are set as numbers are in its set.
use Rattle.std.proofs.Common.{◌≡◌, ℕ, zero, suc, ◌+◌, ◌*◌, ◌/◌, ◌%◌, ◌^◌, ◌<◌, ◌∷◌, arith, nat_eq}
use Rattle.std.specs.Int.RustNames.{count_ones}
use Rattle.std.proofs.Math.Nat.{pow-suc}
use Rattle.std.proofs.lemmas.Nat.{ones_cat, ones_le_self}
use Rattle.halo_sums.specs.Sets.{size_of}
use Rattle.halo_sums.specs.Masks.{bits}

lowest : (n r rest : ℕ) → r < 2 → count_ones r + size_of (bits n rest) ≡ size_of (nat_eq r 1 ∷ bits n rest)
unfolding count_ones
lowest n zero rest below = omega arith
lowest n (suc zero) rest below = omega arith
lowest n (suc (suc r)) rest below = absurd (omega arith)

pub ones-in-set : (n mask : ℕ) → mask < 2 ^ n → count_ones mask ≡ size_of (bits n mask)
ones-in-set zero mask below = omega (arith, ones_le_self mask)
ones-in-set (suc n) mask below =
    let half : mask / 2 < 2 ^ n = omega (arith, pow-suc 2 n) in
    let parts : mask / 2 * 2 ^ 1 + mask % 2 ≡ mask = omega arith in
    let counted = rw parts at (ones_cat 1 (mask / 2) (mask % 2) (omega arith)) in
    omega (arith, counted, ones-in-set n (mask / 2) half, lowest n (mask % 2) (mask / 2) (omega arith))
