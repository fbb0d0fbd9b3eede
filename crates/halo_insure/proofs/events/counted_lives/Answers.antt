use Rattle.std.proofs.Common.{◌≡◌, ◌∙◌, ap, Bool, ◌&&◌, true, false, nat_eq, refl}
use Rattle.halo_sums.specs.Masks.{has_bit}
use Rattle.halo_status.proofs.Masks.{has_bit-shl}
use Rattle.halo_status.proofs.Words.{has_bit-and}
use Rattle.halo_insure.proofs.events.counted_lives.Goals as goal

pub overflow_shl-result : goal.overflow_shl-result
overflow_shl-result c = rw c.in-Leaving.is at c.requires.events

pub returns-in-Leaving : goal.returns-in-Leaving
returns-in-Leaving c = λ i.
    let below = (rw c.in-Leaving.is at c.requires.events) in
    rw c.in-Leaving.is (has_bit-and c.failing_lives-in-Leaving.result _ i
    ∙ ap (λ z. has_bit c.failing_lives-in-Leaving.result i && z) (has_bit-shl c.in-Leaving.life i below)
    ∙ turned (has_bit c.failing_lives-in-Leaving.result i) (nat_eq i c.in-Leaving.life)
    ∙ ap (λ z. nat_eq i c.in-Leaving.life && z) (c.failing_lives-in-Leaving.ensures i))
  where
    turned : (a b : Bool) → (a && b) ≡ (b && a)
    turned true true = refl
    turned true false = refl
    turned false true = refl
    turned false false = refl
