-- The chances of a year for one set of lives, from those of one of its lives and of the others.
use Rattle.std.proofs.Common.{◌≡◌, ℕ, zero, suc, ◌+◌, ◌*◌, ◌-◌, ◌^◌, ◌<◌, ◌≤◌, List, [], ◌∷◌, length, Bool, true, false, cond, ℤ, pos, negsuc, ◌*ℤ◌, ◌≤ℤ◌, arith, refl, ap, sym, ◌∙◌}
use Rattle.std.specs.List.{filter}
use Rattle.std.specs.Int.{int_max, int_min}
use Rattle.std.proofs.lemmas.Int.{clamps, ints}
use Rattle.halo_sums.specs.Sums.{numbers_from, product_over}
use Rattle.halo_sums.specs.Sets.{in_set, size_of}
use Rattle.halo_sums.specs.Masks.{bits, has_bit}
use Rattle.halo_sums.proofs.Integers.{le_of_mul_pos, mul_le_pos}
use Rattle.halo_sums.proofs.SetMasks.{length-bits}
use Rattle.halo_num.specs.Ends.{Ends, HasWidth, IsWithin, fine}
use Rattle.halo_num.specs.Enclosure.{Encloses}
use Rattle.halo_num.specs.Chance.{EnclosesChance}
use Rattle.halo_num.specs.Rounding.{IsFloor}
use Rattle.halo_model.specs.Life.{after_first}
use Rattle.halo_model.specs.Order.{orders_taken}
use Rattle.halo_contract.specs.declared.ties.Ties.{Ties}
use Rattle.halo_model.specs.EvenTies.{YearNumbers, lives_in, without}
use Rattle.halo_model.proofs.EvenTies.{length-with, taken-out}
use Rattle.halo_life.specs.Lists.{entry}
use Rattle.halo_life.specs.YearOfLives.{EnclosesFirst, EnclosesLeaving, EnclosesSurvival, EnclosesYear, HasSmaller}
use Rattle.halo_life.specs.declared.year.YearOfLife.{YearOfLife}
use Rattle.halo_life.proofs.Subsets.{has-bit, without-bit}
use Rattle.halo_life.proofs.Within.{bit-below, less-within}

-- how many lives are in a set, and how many without one of them
size-next : (S : ℕ → Bool) (count first : ℕ)
    → length (filter S (numbers_from (suc first) count)) ≡ length (filter (after_first S) (numbers_from first count))
size-next S zero first = refl
size-next S (suc count) first = each (S (suc first)) (size-next S count (suc first))
  where
    each : (b : Bool) → length (filter S (numbers_from (suc (suc first)) count))
        ≡ length (filter (after_first S) (numbers_from (suc first) count))
        → length (cond b (suc first ∷ filter S (numbers_from (suc (suc first)) count))
        (filter S (numbers_from (suc (suc first)) count)))
        ≡ length (cond b (first ∷ filter (after_first S) (numbers_from (suc first) count))
        (filter (after_first S) (numbers_from (suc first) count)))
    each true e = ap suc e
    each false e = e

size-of-set : (s : List Bool) → length (lives_in (length s) (in_set s)) ≡ size_of s
size-of-set [] = refl
size-of-set (true ∷ s) = ap suc (size-next (in_set (true ∷ s)) (length s) 0 ∙ size-of-set s)
size-of-set (false ∷ s) = size-next (in_set (false ∷ s)) (length s) 0 ∙ size-of-set s

pub size-of-lives : (n mask : ℕ) → length (lives_in n (in_set (bits n mask))) ≡ size_of (bits n mask)
size-of-lives n mask = ap (λ k. length (lives_in k (in_set (bits n mask)))) (sym (length-bits n mask))
    ∙ size-of-set (bits n mask)

-- of a set below 2^n, one of its lives and the others
module _ (n mask b : ℕ) (below : mask < 2 ^ n) (there : has_bit mask b ≡ true) where
  abbrev S : ℕ → Bool
  S = in_set (bits n mask)

  abbrev others : ℕ → Bool
  others = in_set (bits n (mask - 2 ^ b))

  low : b < n
  low = bit-below n mask b below there

  of-it : S b ≡ true
  of-it = has-bit n mask b low true there

  are-others : others ≡ without S b
  are-others = without-bit n mask b low there

  pub size-with : size_of (bits n mask) ≡ suc (size_of (bits n (mask - 2 ^ b)))
  size-with = sym (size-of-lives n mask) ∙ length-with n S b of-it low
      ∙ ap suc (ap (λ T. length (lives_in n T)) (sym are-others) ∙ size-of-lives n (mask - 2 ^ b))

  product-with : (f : ℕ → ℕ) → product_over (lives_in n S) f ≡ f b * product_over (lives_in n others) f
  product-with f = (taken-out S n 0 b of-it (omega arith) (omega (arith, low))).1 f
      ∙ ap (λ T. f b * product_over (lives_in n T) f) (sym are-others)

  -- the chance of the others stands in a list
  pub chance-without : (IsChance : ℕ → Ends → Type 0) (list : List Ends) (part : ℕ) (rest : Ends)
      → HasSmaller IsChance mask list
      → part ≡ mask - 2 ^ b → part < mask → rest ≡ entry list part → IsChance (mask - 2 ^ b) rest
  chance-without IsChance list part rest smaller is less at =
      rw (at, ← is) (smaller part less (rw is (less-within n mask b below there)))

  module _ (y : YearNumbers) where
    -- all of a set stay where a life does and the others do
    pub survival-with : (rest life chance : Ends)
        → EnclosesSurvival n y (mask - 2 ^ b) rest → EnclosesChance (y.staying b) (y.alive b) 1 life
        → ((k m d e v w : ℕ)
        → EnclosesChance k d v rest → EnclosesChance m e w life → EnclosesChance (k * m) (d * e) (v + w + 1) chance)
        → EnclosesSurvival n y mask chance
    survival-with rest life chance all one both = rw (more y.staying, more y.alive, ← wide) (both _ _ _ _ _ _ all one)
      where
        more : (f : ℕ → ℕ) → product_over (lives_in n S) f ≡ product_over (lives_in n others) f * f b
        more f = product-with f ∙ omega arith

        wide : 2 * size_of (bits n (mask - 2 ^ b)) + 1 + 1 ≡ 2 * size_of (bits n mask)
        wide = omega (arith, size-with)

    -- a life of a set is the first of it
    pub first-with : (ties : Ties) (rest chance : Ends) (life : YearOfLife)
        → EnclosesLeaving ties n y (mask - 2 ^ b) rest
        → EnclosesYear (y.leaving b) (y.staying b) (y.alive b) life
        → ((q p d k m v : ℕ) → EnclosesChance q d 1 life.leaving → EnclosesChance p d 1 life.staying
        → EnclosesChance k m v rest → Encloses chance (pos (q * m + p * k)) (d * m))
        → ((q p d k m v : ℕ) → EnclosesChance q d 1 life.leaving
        → EnclosesChance p d 1 life.staying → EnclosesChance k m v rest → HasWidth chance (v + 3))
        → IsWithin chance (pos 0) (pos (2 * fine)) → chance.lo ≤ℤ pos fine → EnclosesFirst ties n y mask b chance
    first-with ties rest chance life leaving year encloses narrow within at_most_one = record {
      encloses = rw (← are-others, ← whole) (encloses _ _ _ _ _ _ year.leaving year.staying leaving);
      narrow = let h = narrow _ _ _ _ _ _ year.leaving year.staying leaving in rw wide at h;
      within = within;
      low = at_most_one;
    }
      where
        whole : y.alive b * (length (orders_taken ties n) * product_over (lives_in n others) y.alive)
            ≡ length (orders_taken ties n) * product_over (lives_in n S) y.alive
        whole = rw (product-with y.alive)
            (turn (y.alive b) (length (orders_taken ties n)) (product_over (lives_in n others) y.alive))
          where
            turn : (a o p : ℕ) → a * (o * p) ≡ o * (a * p)
            turn a o p = omega arith

        wide : 4 * size_of (bits n (mask - 2 ^ b)) + 3 ≡ 4 * (size_of (bits n mask) - 1) + 3
        wide = omega (arith, size-with)

-- a share of what is at most 1
pub floor-share : (r s l : ℤ) → IsFloor r (s *ℤ l) (pos fine) → pos 0 ≤ℤ s → l ≤ℤ pos fine → r ≤ℤ s
floor-share r s l floor from within =
    le_of_mul_pos r s fine (omega arith) (omega (arith, ints, floor.reached, above s l from within))
  where
    above : (s l : ℤ) → pos 0 ≤ℤ s → l ≤ℤ pos fine → (s *ℤ l) ≤ℤ (s *ℤ pos fine)
    above (pos n) l from within = let e : (l *ℤ pos n) ≤ℤ (pos fine *ℤ pos n) = mul_le_pos l (pos fine) n within in
        omega (arith, ints, e)
    above (negsuc n) l from within = absurd (omega (arith, ints, from))

-- an interval that encloses a chance, cut to what lies from 0 to 1
pub clamped-chance : (m d : ℕ) (r t : Ends) (w : ℕ) → t.lo ≡ int_max r.lo (pos 0)
    → t.hi ≡ int_min r.hi (pos fine) → pos 0 ≤ℤ r.lo → HasWidth r w → Encloses r (pos m) d → m ≤ d
    → ((m : ℤ) (d : ℕ) → Encloses r m d
    → (pos 0 *ℤ pos d) ≤ℤ (m *ℤ pos fine) → (m *ℤ pos fine) ≤ℤ (pos fine *ℤ pos d) → Encloses t m d)
    → EnclosesChance m d w t
clamped-chance m d r t w e f from wide encloses most clamp = record {
  encloses = clamp (pos m) d encloses (omega (arith, ints)) (omega (arith, ints, most));
  narrow = record { near = rw (e, f) (omega (arith, ints, clamps, wide.near)) };
  within = record { low = rw e (omega (arith, ints, clamps)); high = rw f (omega (arith, ints, clamps)) };
}
