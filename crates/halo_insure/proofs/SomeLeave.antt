-- One of a set of lives leaves in a year or all survive it, whoever is the first to leave.
use Rattle.std.proofs.Common.{◌≡◌, ℕ, zero, suc, ◌+◌, ◌*◌, ◌<◌, ◌≤◌, arith, refl, ap, sym, ◌∙◌, List, [], ◌∷◌, length, get_or, Bool, true, false, cond, None, pos, ◌-ℤ◌, ⊎_elim}
use Rattle.std.specs.Prelude.{All, filter}
use Rattle.std.proofs.lemmas.Bool.{cases_lt}
use Rattle.std.proofs.lemmas.Int.{ints}
use Rattle.std.proofs.lemmas.List.{get_or_past}
use Rattle.std.proofs.lemmas.List.Elements.{All-head, All-tail}
use Rattle.halo_sums.specs.Masks.{bits, has_bit}
use Rattle.halo_sums.specs.Sets.{in_set, size_of}
use Rattle.halo_sums.specs.Sums.{numbers_from, product_over, sum_over}
use Rattle.halo_sums.specs.Within.{is_within}
use Rattle.halo_sums.proofs.SetMasks.{length-bits}
use Rattle.halo_sums.proofs.Sums.{sum_over-ext}
use Rattle.halo_num.specs.Chance.{EnclosesChance}
use Rattle.halo_num.specs.Enclosure.{Encloses}
use Rattle.halo_num.specs.Ends.{Ends, fine}
use Rattle.halo_num.proofs.Enclosures.{encloses_sub}
use Rattle.halo_contract.specs.declared.ties.Ties.{Ties}
use Rattle.halo_model.specs.Chance.{asked}
use Rattle.halo_model.specs.EvenTies.{YearNumbers, first_leaving, lives_in, number_at}
use Rattle.halo_model.specs.Life.{AreLives, IsLife, PlainLife}
use Rattle.halo_model.specs.Order.{orders_taken, rank_in}
use Rattle.halo_model.specs.OrderLaws.{no_life, year_numbers}
use Rattle.halo_model.specs.Outcome.{joint_survivors}
use Rattle.halo_model.proofs.SomeLeaves.{some-leaves-in-each-order}
use Rattle.halo_life.specs.Complement.{complement}
use Rattle.halo_life.specs.Lists.{entry}
use Rattle.halo_life.specs.YearOfSets.{EncloseLeavings, EncloseSurvivals, leavings_of_set}
use Rattle.halo_life.proofs.Within.{bit-of-set, within-has}
use Rattle.halo_life.proofs.YearChances.{joint-is}
use Rattle.halo_insure.proofs.Carried.{chance-scaled}

-- where one of two comes, the chance of the one is 1 less that of the other
pub chance-of-other : (n m d w : ℕ) (i : Ends)
    → m + n ≡ d → EnclosesChance n d w i → EnclosesChance m d w (complement i)
chance-of-other n m d w i parts c =
    let one : Encloses (record { lo = pos fine; hi = pos fine }) (pos d) d =
    record { low = omega (arith, ints); high = omega (arith, ints) } in
    let rest : pos d -ℤ pos n ≡ pos m = omega (arith, ints, parts) in
    record {
      encloses = rw (← rest) (encloses_sub (record { lo = pos fine; hi = pos fine })
          i (complement i) (pos d) (pos n) d refl refl one c.encloses);
      narrow = record { near = omega (arith, ints, c.narrow.near) };
      within = record { low = omega (arith, ints, c.within.high); high = omega (arith, ints, c.within.low) };
    }

-- a product over those of a set looks at them alone
product-of-set : (S : ℕ → Bool) (f g : ℕ → ℕ) → ((i : ℕ) → S i ≡ true → f i ≡ g i)
    → (xs : List ℕ) → product_over (filter S xs) f ≡ product_over (filter S xs) g
product-of-set S f g same [] = refl
product-of-set S f g same (x ∷ xs) = each (S x) refl (product-of-set S f g same xs)
  where
    each : (is : Bool) → S x ≡ is → product_over (filter S xs) f ≡ product_over (filter S xs) g
        → product_over (cond is (x ∷ filter S xs) (filter S xs)) f
        ≡ product_over (cond is (x ∷ filter S xs) (filter S xs)) g
    each true e rest = rw (same x e, rest) refl
    each false e rest = rest

-- added up over some orders
sum-of-each : (f : List ℕ → ℕ) (c d : ℕ) (orders : List (List ℕ))
    → All (λ order. f order + c ≡ d) orders → sum_over orders f + length orders * c ≡ length orders * d
sum-of-each f c d [] all = omega arith
sum-of-each f c d (x ∷ xs) all = omega (
  arith,
  All-head (λ order. f order + c ≡ d) x xs all,
  sum-of-each f c d xs (All-tail (λ order. f order + c ≡ d) x xs all),
)

-- each of some lives keeps the rule of its table
life-keeps : (lives : List PlainLife) → AreLives lives → (i : ℕ) → i < length lives → IsLife (get_or lives i no_life)
life-keeps [] are i low = absurd (omega arith)
life-keeps (x ∷ lives) are zero low = are.0
life-keeps (x ∷ lives) are (suc i) low = life-keeps lives are.1 i (omega arith)

module _ (lives : List PlainLife) (are : AreLives lives) (n : ℕ) (count : length lives ≡ n) (k : ℕ) where
  -- the numbers of a year in which some count, by any cause
  abbrev numbers : (ℕ → Bool) → YearNumbers
  numbers counts = year_numbers counts (asked None) lives k

  abbrev every : ℕ → Bool
  every i = true

  leaves-or-stays : (i : ℕ)
      → i < n → (numbers every).leaving i + (numbers every).staying i ≡ (numbers every).alive i
  leaves-or-stays i low = sym ((life-keeps lives are i (omega (arith, low, count))).falls k)

  -- of a set whose lives all count
  module _ (counts : ℕ → Bool) (s : List Bool) (same : length s ≡ n)
      (all : (i : ℕ) → in_set s i ≡ true → counts i ≡ true) where
    in-order : (rank : ℕ → ℕ)
        → first_leaving (numbers counts) rank (lives_in n (in_set s))
        ≡ first_leaving (numbers every) rank (lives_in n (in_set s))
    in-order rank = sum_over-ext (lives_in n (in_set s)) _ _ (λ a. product-of-set (in_set s)
        (number_at (numbers counts) rank a) (number_at (numbers every) rank a)
        (λ i there. rw (all i there) refl) (numbers_from 0 n))

    below : (i : ℕ) → in_set s i ≡ true → i < n
    below i there = ⊎_elim
        (λ (low : i < n). low)
        (λ (high : n ≤ i). let none : in_set s i ≡ false = get_or_past s i false (omega (arith, high, same)) in
        absurd (let both : true ≡ false = sym there ∙ none in cc))
        (cases_lt i n)

    pub some-leave : (ties : Ties) → leavings_of_set ties n (numbers counts) (in_set s)
        + length (orders_taken ties n) * joint_survivors (suc k) (in_set s) lives
        ≡ length (orders_taken ties n) * joint_survivors k (in_set s) lives
    some-leave ties =
        rw (joint-is n (suc k) lives s count same, joint-is n k lives s count same)
        (ap (λ (m : ℕ). m + length (orders_taken ties n) * product_over (lives_in n (in_set s)) (numbers every).staying)
        (sum_over-ext (orders_taken ties n) _ _ (λ order. in-order (rank_in order)))
        ∙ sum-of-each (λ order. first_leaving (numbers every) (rank_in order) (lives_in n (in_set s)))
        (product_over (lives_in n (in_set s)) (numbers every).staying)
        (product_over (lives_in n (in_set s)) (numbers every).alive) (orders_taken ties n)
        (some-leaves-in-each-order n (numbers every) leaves-or-stays (in_set s) below ties))

  -- so the chances that some leave are 1 less those that all survive
  pub leavings-enclosed : (ties : Ties) (named : ℕ) (survivals leavings : List Ends)
      → EncloseSurvivals n lives k named survivals
      → ((mask : ℕ) → is_within mask named ≡ true → entry leavings mask ≡ complement (entry survivals mask))
      → EncloseLeavings ties n lives k named named (asked None) leavings
  leavings-enclosed ties named survivals leavings survive is mask below inside =
      let s : List Bool = bits n mask in
      let orders : ℕ = length (orders_taken ties n) in
      let counts : (i : ℕ) → in_set s i ≡ true → has_bit named i ≡ true = λ i there.
      within-has mask named inside i (bit-of-set n mask i there) in
      let chance = chance-of-other _ _ _ (2 * size_of s) (entry survivals mask)
      (some-leave (has_bit named) s (length-bits n mask) counts ties)
      (chance-scaled _ _ _ orders _ (survive mask below inside)) in
      rw (is mask inside) (record {
        encloses = chance.encloses;
        narrow = record { near = omega (arith, ints, chance.narrow.near) };
        within = chance.within;
      })
