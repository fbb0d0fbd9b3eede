-- A discount factor times a chance, rounded outward. There is such a product even where none is made, as for a set
-- whose values are nothing.
use Rattle.std.proofs.Common.{◌≡◌, ℕ, ◌+◌, ◌*◌, ◌/◌, ◌%◌, ◌<◌, ℤ, pos, negsuc, ◌*ℤ◌, ◌≤ℤ◌, arith, lit<}
use Rattle.std.proofs.lemmas.Int.{ints}
use Rattle.std.proofs.lemmas.Nat.{div-add-mod'}
use Rattle.std.proofs.Math.Nat.{mod-lt}
use Rattle.halo_num.specs.Ends.{Ends, IsWithin, fine}
use Rattle.halo_num.specs.Rounding.{IsCeiling, IsFloor}
use Rattle.halo_num.specs.Chance.{EnclosesChance}
use Rattle.halo_num.proofs.Products.{bounded_mul, encloses_mul}
use Rattle.halo_num.proofs.Widths.{width_mul}
use Rattle.halo_annuity.specs.SetSteps.{CarriesBy}
use Rattle.halo_annuity.proofs.Carrying.{nothing-carries}

record HasFloor (z : ℤ) : Type 0 where
  floor : ℤ
  from : pos 0 ≤ℤ floor
  is : IsFloor floor z (pos fine)

record HasCeiling (z : ℤ) : Type 0 where
  ceiling : ℤ
  from : pos 0 ≤ℤ ceiling
  is : IsCeiling ceiling z (pos fine)

has-floor : (x y : ℤ) → pos 0 ≤ℤ x → pos 0 ≤ℤ y → HasFloor (x *ℤ y)
has-floor (pos x) (pos y) h k =
    let parts : x * y / fine * fine + x * y % fine ≡ x * y = div-add-mod' (x * y) fine in
    let rest : x * y % fine < fine = mod-lt (x * y) (lit< tt) in
    record {
      floor = pos (x * y / fine);
      from = omega (arith, ints);
      is = record { reached = omega (arith, ints, parts); nearest = omega (arith, ints, parts, rest) };
    }
has-floor (negsuc x) y h k = absurd (omega (arith, ints, h))
has-floor (pos x) (negsuc y) h k = absurd (omega (arith, ints, k))

has-ceiling : (x y : ℤ) → pos 0 ≤ℤ x → pos 0 ≤ℤ y → HasCeiling (x *ℤ y)
has-ceiling (pos x) (pos y) h k =
    let top : ℕ = x * y + 999_999_999_999_999_999 in
    let parts : top / fine * fine + top % fine ≡ top = div-add-mod' top fine in
    let rest : top % fine < fine = mod-lt top (lit< tt) in
    record {
      ceiling = pos (top / fine);
      from = omega (arith, ints);
      is = record { reached = omega (arith, ints, parts, rest); nearest = omega (arith, ints, parts) };
    }
has-ceiling (negsuc x) y h k = absurd (omega (arith, ints, h))
has-ceiling (pos x) (negsuc y) h k = absurd (omega (arith, ints, k))

module _ (discount survival : Ends) (discounts : IsWithin discount (pos 0) (pos fine))
    (survive : IsWithin survival (pos 0) (pos fine))
    (discount_order : discount.lo ≤ℤ discount.hi) (survival_order : survival.lo ≤ℤ survival.hi) where
  below : HasFloor (discount.lo *ℤ survival.lo)
  below = has-floor discount.lo survival.lo discounts.low survive.low

  above : HasCeiling (discount.hi *ℤ survival.hi)
  above = has-ceiling discount.hi survival.hi
      (omega (arith, ints, discounts.low, discount_order)) (omega (arith, ints, survive.low, survival_order))

  discounted : Ends
  discounted = record { lo = below.floor; hi = above.ceiling }

  discounted-chance : (n m d e v w : ℕ) → EnclosesChance n d v discount → EnclosesChance m e w survival
      → EnclosesChance (n * m) (d * e) (v + w + 1) discounted
  unfolding discounted below
  discounted-chance n m d e v w p q =
      let width = width_mul discounted.lo discounted.hi discount.lo discount.hi survival.lo survival.hi v w 1 1
      below.from above.from discounts.low survive.low discount_order survival_order discounts.high survive.high
      below.is above.is p.narrow.near q.narrow.near in
      let most = bounded_mul discounted.hi discount.hi survival.hi 1 1 above.from
      (omega (arith, ints, discounts.low, discount_order)) (omega (arith, ints, survive.low, survival_order))
      discounts.high survive.high above.is in
      record {
        encloses = encloses_mul discount survival discounted (pos n) (pos m) d e discounts.low survive.low
            discount_order survival_order below.from above.from below.is above.is p.encloses q.encloses;
        narrow = record { near = omega (arith, ints, width) };
        within = record { low = below.from; high = omega (arith, ints, most) };
      }

  -- nothing later is nothing now
  pub nothing-carried : (later : Ends)
      → pos 0 ≤ℤ later.lo → later.lo ≤ℤ later.hi → later.hi ≤ℤ pos 0 → CarriesBy discount survival later later
  nothing-carried later from order none =
      let low : later.lo ≡ pos 0 = omega (arith, ints, from, order, none) in
      let high : later.hi ≡ pos 0 = omega (arith, ints, from, order, none) in
      record {
        chance = discounted;
        product = discounted-chance;
        carries = nothing-carries later discounted later from order high low high;
      }
