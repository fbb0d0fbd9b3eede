-- Masks of lists of tests, put together test by test.
use Rattle.std.proofs.Common.{◌≡◌, ℕ, ◌+◌, ◌*◌, ◌%◌, ◌^◌, ◌<◌, List, [], ◌∷◌, ◌++◌, length, get_or, take, map, bit_or, Bool, true, false, cond, ◌||◌, arith, refl, ap, ◌∙◌, length-take}
use Rattle.std.proofs.Math.Nat.{pow-suc, mod-eq_of_lt}
use Rattle.std.proofs.Math.Pow.{pow-lt}
use Rattle.std.proofs.lemmas.List.{get_or-map, length-map, take_more}
use Rattle.std.specs.Int.Bits.{or_shifted_r}
use Rattle.std.specs.List.{list_any}
use Rattle.halo_sums.specs.SetMasks.{mask_of}
use Rattle.halo_sums.proofs.SetMasks.{mask_of-lt}

-- a test passes for some of the images where the test of an image does
pub list_any-map : {X Y : Type 0} (test : Y → Bool) (f : X → Y) (xs : List X)
    → list_any (λ x. test (f x)) xs ≡ list_any test (map f xs)
list_any-map test f [] = refl
list_any-map test f (x ∷ xs) = ap (λ b. test (f x) || b) (list_any-map test f xs)

-- one test more at the end
mask_of-push : (bs : List Bool) (b : Bool) → mask_of (bs ++ b ∷ []) ≡ mask_of bs + cond b (2 ^ length bs) 0
mask_of-push [] true = refl
mask_of-push [] false = refl
mask_of-push (true ∷ bs) true = omega (arith, pow-suc 2 (length bs), mask_of-push bs true)
mask_of-push (false ∷ bs) true = omega (arith, pow-suc 2 (length bs), mask_of-push bs true)
mask_of-push (c ∷ bs) false = omega (arith, mask_of-push bs false)

module _ (bs : List Bool) (k mask : ℕ) (here : k < length bs) (so_far : mask ≡ mask_of (take k bs)) where
  shorter : length (take k bs) ≡ k
  shorter = omega (arith, length-take k bs)

  one_more : mask_of (take (k + 1) bs) ≡ mask + cond (get_or bs k false) (2 ^ k) 0
  one_more =
      ap mask_of (take_more bs k false here) ∙ mask_of-push (take k bs) (get_or bs k false) ∙ rw (shorter, ← so_far)

  below : mask < 2 ^ k
  below = rw so_far (rw shorter at (mask_of-lt (take k bs)))

  with_bit : (width : ℕ) → k < width → get_or bs k false ≡ true
      → bit_or mask (1 * 2 ^ k % 2 ^ width) ≡ mask_of (take (k + 1) bs)
  with_bit width room passes =
      let small : 1 * 2 ^ k < 2 ^ width = omega (arith, pow-lt room) in
      rw (mod-eq_of_lt small, or_shifted_r 1 k mask below, one_more, passes) (omega arith)

  without_bit : get_or bs k false ≡ false → mask ≡ mask_of (take (k + 1) bs)
  without_bit fails = rw (one_more, fails) (omega arith)

module _ (test : List ℕ → Bool) (names : List (List ℕ)) (k mask : ℕ) (name : List ℕ) (here : k < length names)
    (is : get_or names k [] ≡ name) (so_far : mask ≡ mask_of (take k (map test names))) where
  tested : get_or (map test names) k false ≡ test name
  tested = get_or-map test names k [] false here ∙ ap test is

  among_tests : k < length (map test names)
  among_tests = omega (arith, length-map names test)

  -- a name that passes sets its bit
  pub mask_with : (width : ℕ) → k < width → test name ≡ true
      → bit_or mask (1 * 2 ^ k % 2 ^ width) ≡ mask_of (take (k + 1) (map test names))
  mask_with width room passes = with_bit (map test names) k mask among_tests so_far width room (tested ∙ passes)

  -- and one that fails does not
  pub mask_without : test name ≡ false → mask ≡ mask_of (take (k + 1) (map test names))
  mask_without fails = without_bit (map test names) k mask among_tests so_far (tested ∙ fails)
