-- A set without coefficient and value has no value a year before either.
use Rattle.std.proofs.Common.{◌≡◌, ℕ, ◌+◌, ◌*◌, arith, refl, sym, ap, ◌∙◌, Bool, true, false, cond, ℤ, pos, ◌-ℤ◌, to_z, of_z, w64}
use Rattle.std.proofs.lemmas.Int.{ints}
use Rattle.halo_num.specs.Ends.{Ends}
use Rattle.halo_life.specs.Lists.{nothing}
use Rattle.halo_insure.specs.Dues.{due_by}
use Rattle.halo_insure.specs.OneSet.{GoesBack}
use Rattle.halo_insure.proofs.Payments.{nothing-back}

none-due : (part : ℤ → ℕ) (payment : ℕ) (ends : Bool) → part (pos 0) ≡ 0
    → payment * part (pos 0) + cond ends (payment * part (pos 0 -ℤ pos 0)) 0 ≡ 0
none-due part payment true none = rw none (omega arith)
none-due part payment false none = rw none (omega arith)

pub nothing-stays : (part : ℤ → ℕ) (payment : ℕ) (ends : Bool) (leave survive discount : Ends) → part (pos 0) ≡ 0
    → GoesBack nothing leave survive discount (due_by part payment ends (pos 0) (pos 0)) nothing
nothing-stays part payment ends leave survive discount none =
    nothing-back nothing leave survive discount nothing (due_by part payment ends (pos 0) (pos 0))
    (omega (arith, ints)) (omega (arith, ints)) (omega (arith, ints)) (none-due part payment ends none) refl refl

-- a number whose 64 bits are those of 0 is 0
pub zero-of-bits : (z : ℤ) → to_z w64 (of_z w64 z) ≡ z → of_z w64 z ≡ 0 → z ≡ pos 0
zero-of-bits z back none = sym back ∙ ap (λ (bits : ℕ). to_z w64 bits) none
