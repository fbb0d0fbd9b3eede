-- A list of the chances of all sets, from the set of nobody on.
use Rattle.std.proofs.Common.{◌≡◌, ◌≢◌, ℕ, zero, suc, ◌+◌, ◌*◌, ◌/◌, ◌%◌, ◌^◌, ◌<◌, ◌≤◌, List, [], ◌∷◌, length, Bool, true, false, cond, pos, arith, refl, ap, ◌∙◌}
use Rattle.std.proofs.lemmas.Int.{ints}
use Rattle.halo_sums.specs.Masks.{bits}
use Rattle.halo_sums.specs.Sets.{in_set, size_of}
use Rattle.halo_sums.specs.Sums.{sum_over}
use Rattle.halo_sums.proofs.Sums.{sum_over-none}
use Rattle.halo_num.specs.Ends.{Ends, fine}
use Rattle.halo_model.specs.EvenTies.{YearNumbers, first_leaving, lives_in}
use Rattle.halo_model.specs.Order.{orders_taken, rank_in}
use Rattle.halo_contract.specs.declared.ties.Ties.{Ties}
use Rattle.halo_contract.specs.declared.ties.Ties.TheVariants.{Even, Declared}
use Rattle.halo_life.specs.Lists.{entry}
use Rattle.halo_life.specs.PlainGroup.{is_even}
use Rattle.halo_sums.specs.Within.{is_within}
use Rattle.halo_life.specs.YearOfSets.{leavings_of_set, products_of_leavings}
use Rattle.halo_life.specs.YearOfLives.{EnclosesLeaving, EnclosesSurvival, HasSmaller}
use Rattle.halo_life.proofs.OneSet.{size-of-lives}
use Rattle.halo_life.proofs.Within.{before-next, up-to-next}

-- nobody is in the set of no bits
nobody-in : (n : ℕ) → size_of (bits n 0) ≡ 0
nobody-in zero = refl
nobody-in (suc n) = let q : 0 / 2 ≡ 0 = omega arith in let r : 0 % 2 ≡ 0 = omega arith in rw (r, q) (nobody-in n)

none-of : (xs : List ℕ) → length xs ≡ 0 → xs ≡ []
none-of [] e = refl
none-of (x ∷ xs) e = absurd (omega (arith, e))

nobody : (n : ℕ) → lives_in n (in_set (bits n 0)) ≡ []
nobody n = none-of (lives_in n (in_set (bits n 0))) (size-of-lives n 0 ∙ nobody-in n)

-- all of nobody stay, and nobody of them leaves
pub survival-of-nobody : (n : ℕ) (y : YearNumbers) (i : Ends)
    → i.lo ≡ pos fine → i.hi ≡ pos fine → EnclosesSurvival n y 0 i
survival-of-nobody n y i e f = rw (nobody n, nobody-in n) (record {
  encloses = record { low = rw e (omega (arith, ints)); high = rw f (omega (arith, ints)) };
  narrow = record { near = rw (e, f) (omega (arith, ints)) };
  within = record { low = rw e (omega (arith, ints)); high = rw f (omega (arith, ints)) };
})

pub leaving-of-nobody : (ties : Ties) (n : ℕ) (y : YearNumbers) (i : Ends)
    → i.lo ≡ pos 0 → i.hi ≡ pos 0 → EnclosesLeaving ties n y 0 i
leaving-of-nobody ties n y i e f = rw (none, nobody-in n) (record {
  encloses = record { low = rw e (omega (arith, ints)); high = rw f (omega (arith, ints)) };
  narrow = record { near = rw (e, f) (omega (arith, ints)) };
  within = record { low = rw e (omega (arith, ints)); high = rw f (omega (arith, ints)) };
})
  where
    none : leavings_of_set ties n y (in_set (bits n 0)) ≡ 0
    none = ap (λ xs. sum_over (orders_taken ties n) (λ order. first_leaving y (rank_in order) xs)) (nobody n)
        ∙ sum_over-none (orders_taken ties n)

-- each set within the named lives has its chance, up to a number of masks
abbrev pub AreFilled : (ℕ → Ends → Type 0) → ℕ → ℕ → List Ends → Type 0
AreFilled IsChance named count list = (mask : ℕ)
    → mask < count → is_within mask named ≡ true → IsChance mask (entry list mask)

module _ (IsChance : ℕ → Ends → Type 0) (named set next : ℕ) (later : set < next)
    (first : (mask : ℕ) → is_within mask named ≡ true → set < mask → next ≤ mask) where
  -- so it is with the next set, once it is written
  pub filled-next : (old new : List Ends) (chance : Ends)
      → AreFilled IsChance named (set + 1) old → IsChance next chance → entry new next ≡ chance
      → ((mask : ℕ) → mask ≢ next → entry new mask ≡ entry old mask) → AreFilled IsChance named (next + 1) new
  filled-next old new chance before here written others =
      up-to-next named set next later first (λ mask. IsChance mask (entry new mask))
      (λ mask low within. let other : mask ≢ next = omega (arith, low, later) in
      rw (others mask other) (before mask low within)) (rw written here)

  -- the chances of the sets within it are there before
  pub filled-before : (list : List Ends)
      → is_within next named ≡ true → AreFilled IsChance named (set + 1) list → HasSmaller IsChance next list
  filled-before list within filled part less inside =
      let is = before-next named set next later first within part less inside in filled part is.0 is.1

-- the products that all sets take, where each takes at most one, or one for each named life
pub products-for-all : (ties : Ties) (n : ℕ) → cond (is_even ties) n 1 * 2 ^ n ≡ products_of_leavings ties n
products-for-all Declared n = omega arith
products-for-all Even n = refl

pub most-for-one : (even : Bool) (size all : ℕ) → size ≤ all → cond even size 1 ≤ cond even all 1
most-for-one true size all h = h
most-for-one false size all h = omega arith
