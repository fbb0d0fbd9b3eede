-- A later value times a chance: nothing, and a product.
use Rattle.std.proofs.Common.{◌≡◌, ℕ, zero, suc, ◌+◌, ◌*◌, ◌≤◌, ℤ, pos, ◌*ℤ◌, ◌≤ℤ◌, arith}
use Rattle.std.proofs.lemmas.Int.{ints}
use Rattle.halo_num.specs.Ends.{Ends, HasWidth, IsWithin, fine}
use Rattle.halo_num.specs.Enclosure.{Encloses}
use Rattle.halo_annuity.specs.Worth.{Carries}

zero-only : (n : ℤ) → (pos 0 *ℤ pos fine) ≤ℤ (n *ℤ pos fine) → (n *ℤ pos fine) ≤ℤ (pos 0 *ℤ pos fine) → n ≡ pos 0
zero-only n a b = omega (arith, ints, a, b)

pub nothing-carries : (later chance r : Ends)
    → pos 0 ≤ℤ later.lo → later.lo ≤ℤ later.hi → later.hi ≡ pos 0 → r.lo ≡ pos 0 → r.hi ≡ pos 0 → Carries later chance r
nothing-carries later chance r from order none lo hi = record {
  order = order;
  encloses = λ n m d e p q.
      let low : later.lo ≡ pos 0 = omega (arith, ints, from, order, none) in
      let a = rw low at p.low in
      let b = rw none at p.high in
      let z : n ≡ pos 0 = omega (arith, ints, a, b) in
      rw z (record { low = rw lo (omega (arith, ints)); high = rw hi (omega (arith, ints)) });
  from = omega (arith, ints, lo);
  bound = λ a h. omega (arith, ints, hi);
  narrow = λ a v w h p q. record { near = omega (arith, ints, lo, hi) };
}

some-ones : (a : ℕ) (v w : ℕ) → 1 ≤ a → w * 1 + v * a + 1 ≤ w + (v + 1) * a
some-ones a v w h = omega arith

pub product-carries : (later chance r : Ends)
    → pos 0 ≤ℤ later.lo → later.lo ≤ℤ later.hi → (later.hi ≡ pos 0 → ⊥) → IsWithin chance (pos 0) (pos fine)
    → ((n m : ℤ) (d e : ℕ) → Encloses later n d → Encloses chance m e → Encloses r (n *ℤ m) (d * e))
    → pos 0 ≤ℤ r.lo
    → ((a b : ℕ) → later.hi ≤ℤ pos (a * fine) → chance.hi ≤ℤ pos (b * fine) → r.hi ≤ℤ pos (a * b * fine))
    → ((v w a b : ℕ) → later.hi ≤ℤ pos (a * fine)
    → chance.hi ≤ℤ pos (b * fine) → HasWidth later v → HasWidth chance w → HasWidth r (v * b + w * a + 1))
    → Carries later chance r
product-carries later chance r from order some within encloses above bound width = record {
  order = order;
  encloses = encloses;
  from = above;
  bound = λ a h. let b = bound a 1 h (omega (arith, ints, within.high)) in
      let e : a * 1 * fine ≡ a * fine = omega arith in omega (arith, ints, b, e);
  narrow = narrow;
}
  where
    narrow : (a v w : ℕ)
        → later.hi ≤ℤ pos (a * fine) → HasWidth later w → HasWidth chance v → HasWidth r (w + (v + 1) * a)
    narrow zero v w h p q = absurd (some (omega (arith, ints, from, order, h)))
    narrow (suc a) v w h p q =
        let n = width w v (suc a) 1 h (omega (arith, ints, within.high)) p q in
        let m = some-ones (suc a) v w (omega arith) in
        record { near = omega (arith, ints, n.near, m) }
