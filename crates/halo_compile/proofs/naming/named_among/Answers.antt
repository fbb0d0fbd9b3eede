-- The lowest bits are kept.
use Rattle.std.proofs.Common.{◌≡◌, ℕ, ◌-◌, ◌^◌, ◌<◌, arith, refl, ap, sym, ◌∙◌, Bool, true, false, ◌&&◌, nat_eq}
use Rattle.std.proofs.lemmas.Nat.Bits.{bit_at_ones}
use Rattle.halo_sums.specs.Masks.{has_bit}
use Rattle.halo_status.proofs.Words.{has_bit-and}
use Rattle.halo_poly.proofs.Masks.{same_exponent}
use Rattle.halo_compile.proofs.naming.named_among.Goals as goal

low_bit : (m n i : ℕ) → m ≡ 2 ^ n → i < n → has_bit (m - 1) i ≡ true
low_bit m n i e h = rw e (ap (λ b. nat_eq b 1) (bit_at_ones n i h))

and_true : (a b : Bool) → b ≡ true → (a && b) ≡ a
and_true true b e = e
and_true false b e = refl

pub returns-clause-named : goal.returns-clause-named
returns-clause-named g c = λ n e i h.
    let lives : n ≡ c.requires.lives = same_exponent n c.requires.lives (sym e ∙ c.requires.is) in
    has_bit-and c.named_lives.result (g.row.M - 1) i
    ∙ and_true (has_bit c.named_lives.result i) _ (low_bit g.row.M n i e h)
    ∙ c.named_lives.ensures i (omega (arith, lives, h, c.requires.few))
