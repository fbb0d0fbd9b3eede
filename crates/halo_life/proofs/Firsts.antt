-- The lives of a set as the first of it: the first one in the declared order, and the mean of all over all orders.
use Rattle.std.proofs.Common.{◌≡◌, ℕ, zero, suc, ◌+◌, ◌*◌, ◌-◌, ◌/◌, ◌%◌, ◌^◌, ◌<◌, ◌≤◌, [], ◌∷◌, length, Bool, true, false, cond, nat_eq, ℤ, pos, ◌+ℤ◌, ◌*ℤ◌, ◌≤ℤ◌, arith, refl, ap, sym, ◌∙◌}
use Rattle.std.specs.List.{filter}
use Rattle.std.specs.Int.{int_max, int_min}
use Rattle.std.proofs.Math.Nat.{pow-suc}
use Rattle.std.proofs.lemmas.Int.{ints}
use Rattle.std.proofs.lemmas.Bool.Decides.{nat_tests}
use Rattle.std.proofs.lemmas.List.{length-append}
use Rattle.std.proofs.lemmas.List.Elements.{filter-append}
use Rattle.halo_sums.specs.Sums.{numbers_from, product_over, sum_over}
use Rattle.halo_sums.specs.Sets.{in_set, size_of}
use Rattle.halo_sums.specs.Masks.{bits, has_bit}
use Rattle.halo_sums.proofs.Numbers.{numbers_from-split}
use Rattle.halo_num.specs.Ends.{Ends, HasWidth, fine}
use Rattle.halo_num.specs.Enclosure.{Encloses}
use Rattle.halo_num.proofs.Enclosures.{encloses_reduced}
use Rattle.halo_model.specs.Order.{orders_taken}
use Rattle.halo_contract.specs.declared.ties.Ties.{Ties}
use Rattle.halo_contract.specs.declared.ties.Ties.TheVariants.{Even, Declared}
use Rattle.halo_model.specs.EvenTies.{YearNumbers, lives_in}
use Rattle.halo_life.specs.PlainGroup.{is_even}
use Rattle.halo_life.specs.YearOfSets.{leavings_of_set}
use Rattle.halo_life.specs.YearOfLives.{EnclosesFirst, EnclosesLeaving, weight_as_first}
use Rattle.halo_life.proofs.OneSet.{clamped-chance, size-of-lives}
use Rattle.halo_life.proofs.Orders.{each-first, in-declared-order, leavings-most}
use Rattle.halo_life.proofs.Subsets.{has-bit}
use Rattle.halo_life.proofs.Sums.{sum_over-numbers_push}
use Rattle.halo_life.proofs.Within.{bit-of-set, inside}

-- the rule for ties, by whether it is the even one
pub is-even : (ties : Ties) → is_even ties ≡ true → ties ≡ Even
is-even Even e = refl
is-even Declared e = absurd (cc)

pub is-declared : (ties : Ties) → is_even ties ≡ false → ties ≡ Declared
is-declared Declared e = refl
is-declared Even e = absurd (cc)

-- a set that is not empty has a life
pub size-some : (n mask : ℕ) → 0 < mask → mask < 2 ^ n → 1 ≤ size_of (bits n mask)
size-some zero mask some below = absurd (omega arith)
size-some (suc n) mask some below = each (nat_eq (mask % 2) 1) refl (size-some n (mask / 2))
  where
    each : (b : Bool) → nat_eq (mask % 2) 1 ≡ b
        → (0 < mask / 2 → mask / 2 < 2 ^ n → 1 ≤ size_of (bits n (mask / 2))) → 1 ≤ size_of (b ∷ bits n (mask / 2))
    each true e rest = omega arith
    each false e rest =
        let even : mask % 2 ≡ 0 = odd-or-even (mask % 2) (omega arith) e in
        let twice : 2 ^ suc n ≡ 2 ^ n * 2 = pow-suc 2 n in
        rest (omega arith) (omega arith)
      where
        odd-or-even : (r : ℕ) → r < 2 → nat_eq r 1 ≡ false → r ≡ 0
        odd-or-even r few e = grind (arith, nat_tests, e)

-- an interval that is cut to what lies from 0 to 1
pub record IsCut (r t : Ends) : Type 0 where
  pub lo : t.lo ≡ int_max r.lo (pos 0)
  pub hi : t.hi ≡ int_min r.hi (pos fine)
  pub encloses : (m : ℤ) (d : ℕ)
      → Encloses r m d → (pos 0 *ℤ pos d) ≤ℤ (m *ℤ pos fine) → (m *ℤ pos fine) ≤ℤ (pos fine *ℤ pos d) → Encloses t m d

module _ (n : ℕ) (y : YearNumbers) (mask : ℕ) where
  abbrev S : ℕ → Bool
  S = in_set (bits n mask)

  -- the chance of a set is that of its first life, in the declared order
  pub in-order-enclosed : ((i : ℕ) → y.leaving i + y.staying i ≤ y.alive i)
      → (b : ℕ) → b < n → has_bit mask b ≡ true → ((i : ℕ) → has_bit mask i ≡ true → b ≤ i) → 1 ≤ size_of (bits n mask)
      → (r t : Ends) → EnclosesFirst Declared n y mask b r → IsCut r t → EnclosesLeaving Declared n y mask t
  in-order-enclosed parts b low there lowest some r t first cut =
      clamped-chance _ _ r t (4 * size_of (bits n mask)) cut.lo cut.hi first.within.low
      (record { near = omega (arith, ints, first.narrow.near) })
      (rw is first.encloses) (leavings-most n y parts Declared S (λ i h. inside n mask i h)) cut.encloses
    where
      is : leavings_of_set Declared n y S ≡ weight_as_first Declared n y S b
      is = in-declared-order n y S b (has-bit n mask b low true there) low (λ i h. lowest i (bit-of-set n mask i h))

  -- over the first `lives` of n lives, what those of the set give to the sum
  pub record IsSumTo (lives : ℕ) (sum : Ends) : Type 0 where
    pub encloses : Encloses sum
        (pos (sum_over (numbers_from 0 lives) (λ b. cond (S b) (weight_as_first Even n y S b) 0)))
        (length (orders_taken Even n) * product_over (lives_in n S) y.alive)
    pub narrow : HasWidth sum (length (filter S (numbers_from 0 lives)) * (4 * (size_of (bits n mask) - 1) + 3))

  count-next : (l : ℕ) (is : Bool)
      → S l ≡ is → length (filter S (numbers_from 0 (l + 1))) ≡ length (filter S (numbers_from 0 l)) + cond is 1 0
  count-next l is e = ap (λ xs. length (filter S xs)) (numbers_from-split l 1)
      ∙ ap length (filter-append S (numbers_from 0 l) (l ∷ []))
      ∙ length-append (filter S (numbers_from 0 l)) (filter S (l ∷ []))
      ∙ ap (λ k. length (filter S (numbers_from 0 l)) + k) (one is e)
    where
      one : (is : Bool) → S l ≡ is → length (filter S (l ∷ [])) ≡ cond is 1 0
      one true e = rw e refl
      one false e = rw e refl

  pub count-with : (l : ℕ) → l < n → (is : Bool) → has_bit mask l ≡ is
      → length (filter S (numbers_from 0 (l + 1))) ≡ length (filter S (numbers_from 0 l)) + cond is 1 0
  count-with l low is e = count-next l is (has-bit n mask l low is e)

  pub sum-of-none : (sum : Ends) → sum.lo ≡ pos 0 → sum.hi ≡ pos 0 → IsSumTo 0 sum
  sum-of-none sum e f = record {
    encloses = record { low = rw e (omega (arith, ints)); high = rw f (omega (arith, ints)) };
    narrow = record { near = rw (e, f) (omega (arith, ints)) };
  }

  next : (l : ℕ) (is : Bool)
      → S l ≡ is → sum_over (numbers_from 0 (l + 1)) (λ b. cond (S b) (weight_as_first Even n y S b) 0)
      ≡ sum_over (numbers_from 0 l) (λ b. cond (S b) (weight_as_first Even n y S b) 0)
      + cond is (weight_as_first Even n y S l) 0
  next l is e = sum_over-numbers_push l (λ b. cond (S b) (weight_as_first Even n y S b) 0)
      ∙ ap (λ t. sum_over (numbers_from 0 l) (λ b. cond (S b) (weight_as_first Even n y S b) 0)
      + cond t (weight_as_first Even n y S l) 0) e

  -- a life that is not in the set gives nothing
  pub sum-without : (l : ℕ) (sum : Ends) → l < n → has_bit mask l ≡ false → IsSumTo l sum → IsSumTo (l + 1) sum
  sum-without l sum low gone part =
      let out = has-bit n mask l low false gone in
      record {
        encloses = rw (next l false out ∙ plus _) part.encloses;
        narrow = rw (count-next l false out ∙ plus _) part.narrow;
      }
    where
      plus : (k : ℕ) → k + 0 ≡ k
      plus k = omega arith

  -- a life of the set gives its share as the first
  pub sum-with : (l : ℕ) (sum r more : Ends) → l < n → has_bit mask l ≡ true → EnclosesFirst Even n y mask l r
      → ((m k : ℤ) (d : ℕ) → Encloses sum m d → Encloses r k d → Encloses more (m +ℤ k) d)
      → ((v w : ℕ) → HasWidth sum v → HasWidth r w → HasWidth more (v + w))
      → IsSumTo l sum → IsSumTo (l + 1) more
  sum-with l sum r more low there first add width part =
      let in_it = has-bit n mask l low true there in
      record {
        encloses = rw (next l true in_it) (add _ _ _ part.encloses first.encloses);
        narrow = rw (count-next l true in_it)
            (let both = width _ _ part.narrow first.narrow in record { near = omega (arith, ints, both.near) });
      }

  -- the mean of what all lives of the set give
  pub evenly-enclosed : ((i : ℕ) → y.leaving i + y.staying i ≤ y.alive i)
      → (count : ℕ) → count ≡ length (filter S (numbers_from 0 n)) → 1 ≤ count → (sum r t : Ends) → IsSumTo n sum
      → pos 0 ≤ℤ r.lo → ((m d : ℕ) → Encloses sum (pos m) d → Encloses r (pos m) (d * count))
      → ((w : ℕ) → HasWidth sum (count * w) → HasWidth r (w + 1))
      → IsCut r t → EnclosesLeaving Even n y mask t
  evenly-enclosed parts count is some sum r t part from divided narrow cut =
      clamped-chance _ _ r t (4 * size_of (bits n mask)) cut.lo cut.hi from
      (let w = narrow (4 * (size_of (bits n mask) - 1) + 3) (rw is part.narrow) in
      record { near = omega (arith, ints, w.near, size) })
      (encloses_reduced r (pos (leavings_of_set Even n y S))
      (length (orders_taken Even n) * product_over (lives_in n S) y.alive) count (omega arith)
      (rw all at (divided _ _ part.encloses)))
      (leavings-most n y parts Even S (λ i h. inside n mask i h)) cut.encloses
    where
      size : count ≡ size_of (bits n mask)
      size = is ∙ size-of-lives n mask

      all : sum_over (numbers_from 0 n) (λ b. cond (S b) (weight_as_first Even n y S b) 0)
          ≡ leavings_of_set Even n y S * count
      all = sym (each-first n y S) ∙ ap (λ k. k * leavings_of_set Even n y S) (sym is) ∙ omega arith
