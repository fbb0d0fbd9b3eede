-- Products of chances, one factor more.
use Rattle.std.proofs.Common.{◌≡◌, ℕ, ◌+◌, ◌*◌, ◌-◌, ◌<◌, ◌≤◌, List, [], ◌∷◌, ◌++◌, length, pos, arith, ap, ◌∙◌}
use Rattle.std.proofs.lemmas.Int.{ints}
use Rattle.std.proofs.lemmas.List.{length-append}
use Rattle.halo_sums.specs.Sums.{product_over}
use Rattle.halo_sums.proofs.Sums.{product_over-append}
use Rattle.halo_num.specs.Ends.{Ends, HasWidth, IsWithin, fine}
use Rattle.halo_num.specs.Enclosure.{Encloses}
use Rattle.halo_num.specs.Chance.{EnclosesChance, EnclosesProduct}
use Rattle.halo_num.proofs.Enclosures.{encloses_reduced}

-- the product over a list and one more
pub product_over-push : (f : ℕ → ℕ) (xs : List ℕ) (x : ℕ) → product_over (xs ++ x ∷ []) f ≡ product_over xs f * f x
product_over-push f xs x = product_over-append xs (x ∷ []) f ∙ omega arith

pub no_chances : (n d : ℕ → ℕ) (w : ℕ) → EnclosesProduct n d w [] (record { lo = pos fine; hi = pos fine })
no_chances n d w = record {
  encloses = record { low = omega (arith, ints); high = omega (arith, ints) };
  narrow = record { near = omega (arith, ints) };
  within = record { low = omega (arith, ints); high = omega (arith, ints) };
}

pub one_chance_more : (n d : ℕ → ℕ) (w : ℕ) (xs : List ℕ) (x : ℕ) (i : Ends) → EnclosesChance (product_over xs n * n x)
    (product_over xs d * d x) (length xs * (w + 1) + w + 1) i → EnclosesProduct n d w (xs ++ x ∷ []) i
one_chance_more n d w xs x i c =
    let more : length (xs ++ x ∷ []) * (w + 1) ≡ length xs * (w + 1) + w + 1 =
    omega (arith, ap (λ (k : ℕ). k * (w + 1)) (length-append xs (x ∷ []))) in
    rw (product_over-push n xs x, product_over-push d xs x, more) c

-- what is enclosed within a width is so within a greater one
pub chance_wider : (n d v w : ℕ) (i : Ends) → v ≤ w → EnclosesChance n d v i → EnclosesChance n d w i
chance_wider n d v w i h c = record {
  encloses = c.encloses;
  narrow = record { near = let k = c.narrow.near in omega (arith, ints) };
  within = c.within;
}

-- a choice between two chances in the same parts
pub chance_mix : (s d x y e u w : ℕ) (i : Ends)
    → 0 < e → Encloses i (pos (s * x * e + (d - s) * y * e)) (d * e * e) → HasWidth i (u + w + 1)
    → IsWithin i (pos 0) (pos fine) → EnclosesChance (s * x + (d - s) * y) (d * e) (u + w + 1) i
chance_mix s d x y e u w i positive encloses narrow within = record {
  encloses =
      encloses_reduced i (pos (s * x + (d - s) * y)) (d * e) e positive (rw (parted (s * x) ((d - s) * y)) encloses);
  narrow = narrow;
  within = within;
}
  where
    parted : (a b : ℕ) → (a + b) * e ≡ a * e + b * e
    parted a b = omega arith
