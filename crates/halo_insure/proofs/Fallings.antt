-- The leavings of a set of which only those of one life count, in the declared order: the life leaves, and the others
-- are there when they are looked at.
use Rattle.std.proofs.Common.{◌≡◌, ℕ, zero, suc, ◌+◌, ◌*◌, ◌-◌, ◌^◌, ◌<◌, ◌≤◌, arith, refl, ap, sym, ◌∙◌, List, [], ◌∷◌, length, get_or, Bool, true, false, cond, nat_eq, nat_lt}
use Rattle.std.proofs.lemmas.Bool.Decides.{nat_tests}
use Rattle.std.proofs.lemmas.Int.{ints}
use Rattle.halo_sums.specs.Masks.{bits, has_bit}
use Rattle.halo_sums.specs.Sets.{in_set, size_of}
use Rattle.halo_sums.specs.Sums.{numbers_from, product_over, sum_over}
use Rattle.halo_sums.proofs.Sums.{sum_over-none}
use Rattle.halo_num.specs.Chance.{EnclosesChance}
use Rattle.halo_num.specs.Ends.{Ends}
use Rattle.halo_status.specs.Pay.{PlainPay}
use Rattle.halo_contract.specs.declared.ties.Ties.TheVariants.{Declared}
use Rattle.halo_model.specs.Basis.{Basis}
use Rattle.halo_model.specs.Chance.{asked}
use Rattle.halo_model.specs.EvenTies.{YearNumbers, first_leaving, lives_in, number_at, without}
use Rattle.halo_model.specs.FromTables.{lives_of}
use Rattle.halo_model.specs.Life.{leavers_by}
use Rattle.halo_model.specs.Order.{rank_in}
use Rattle.halo_model.specs.OrderLaws.{no_life}
use Rattle.halo_model.specs.SetValue.{can_fall_on_life, leaving_of}
use Rattle.halo_model.proofs.EvenTies.{apart, nat_eq-same, rank-behind, rank-first, sum_over-kept_ext, product_over-kept_ext, taken-out, within}
use Rattle.halo_life.specs.PlainGroup.{IsGroup, PlainGroup, leavers_of_life, leaving, started, surviving, survivors_in}
use Rattle.halo_life.proofs.AlongTree.{started-is, survivors-is}
use Rattle.halo_life.proofs.OneSet.{size-of-lives, size-with}
use Rattle.halo_life.proofs.Subsets.{has-bit, without-bit}
use Rattle.halo_life.proofs.Within.{bit-below, inside, less-within}
use Rattle.halo_life.specs.Lists.{entry}
use Rattle.halo_life.specs.YearOfLives.{HasSmaller}
use Rattle.halo_life.proofs.YearChances.{group-splits, life-is}
use Rattle.halo_insure.specs.Leavings.{counted_numbers, set_leavings}
use Rattle.halo_chance.specs.Enclosed.{entry_at}
use Rattle.halo_along.specs.Leavings.{EncloseLookedAt}
use Rattle.halo_along.proofs.LookedAt.{looked-at-each}
use Rattle.halo_insure.specs.OneLeaving.{AreThereWhenLeaving, EnclosesFalling, life_of_basis, there_when_leaving}
use Rattle.halo_endowment.specs.First.{IsByFirst}
use Rattle.halo_endowment.proofs.EndowmentsOfSets.{life-survives, size-of-nobody, survivors-fall, survivors-of-nobody, survivors-with}

-- in the declared order a life has its number as its rank
rank-from : (count first i j : ℕ) → i < count → j ≡ first + i → rank_in (numbers_from first count) j ≡ i
rank-from zero first i j below e = absurd (omega arith)
rank-from (suc count) first zero j below e =
    let here : j ≡ first = omega (arith, e) in
    ap (λ (u : ℕ). rank_in (numbers_from first (suc count)) u) here ∙ rank-first first (numbers_from (suc first) count)
rank-from (suc count) first (suc i) j below e =
    let other : nat_eq j first ≡ false = grind (arith, nat_tests) in
    omega (
      arith,
      rank-behind first (numbers_from (suc first) count) j other,
      rank-from count (suc first) i j (omega arith) (omega (arith, e)),
    )

rank-is : (n i : ℕ) → i < n → rank_in (numbers_from 0 n) i ≡ i
rank-is n i below = rank-from n 0 i i below (omega arith)

-- those of some lives, all below n, of whom those of one alone count as leaving
module _ (y : YearNumbers) (n : ℕ) (S : ℕ → Bool) (few : (i : ℕ) → S i ≡ true → i < n) where
  abbrev rank : ℕ → ℕ
  rank = rank_in (numbers_from 0 n)

  -- a life that does not leave is not the first to do so
  not-first : (i : ℕ) → S i ≡ true → y.leaving i ≡ 0 → product_over (lives_in n S) (number_at y rank i) ≡ 0
  not-first i of-it none =
      (taken-out S n 0 i of-it (omega arith) (omega (arith, few i of-it))).1 (number_at y rank i)
      ∙ rw (nat_eq-same i, none) (omega arith)

  pub nobody-leaves : ((i : ℕ) → S i ≡ true → y.leaving i ≡ 0) → first_leaving y rank (lives_in n S) ≡ 0
  nobody-leaves none =
      sum_over-kept_ext S (numbers_from 0 n) _ (λ i. 0) (λ i of-it. not-first i of-it (none i of-it))
      ∙ sum_over-none (lives_in n S)

  module _ (a : ℕ) (of-it : S a ≡ true) (alone : (i : ℕ) → nat_eq i a ≡ false → y.leaving i ≡ 0) where
    abbrev others : List ℕ
    others = lives_in n (without S a)

    others-not-first : sum_over others (λ i. product_over (lives_in n S) (number_at y rank i)) ≡ 0
    others-not-first =
        sum_over-kept_ext (without S a) (numbers_from 0 n) _ (λ i. 0)
        (λ i other. not-first i (within S a i other) (alone i (apart S a i other)))
        ∙ sum_over-none others

    pub one-leaves : first_leaving y rank (lives_in n S)
        ≡ y.leaving a * product_over others (λ i. cond (nat_lt i a) (y.staying i) (y.alive i))
    one-leaves =
        let out = taken-out S n 0 a of-it (omega arith) (omega (arith, few a of-it)) in
        out.0 (λ i. product_over (lives_in n S) (number_at y rank i))
        ∙ ap (λ m. product_over (lives_in n S) (number_at y rank a) + m) others-not-first
        ∙ omega arith
        ∙ out.1 (number_at y rank a)
        ∙ ap (λ m. m * product_over others (number_at y rank a)) itself
        ∙ ap (λ m. y.leaving a * m) (product_over-kept_ext (without S a) (numbers_from 0 n) _ _ there)
      where
        itself : number_at y rank a a ≡ y.leaving a
        itself = rw (nat_eq-same a) refl

        there : (i : ℕ) → without S a i ≡ true
            → number_at y rank a i ≡ cond (nat_lt i a) (y.staying i) (y.alive i)
        there i other =
            rw (apart S a i other, rank-is n i (few i (within S a i other)), rank-is n a (few a of-it)) refl

-- of a set below 2^n of the lives of a basis, in the declared order
module _ (b : Basis) (pay : PlainPay) (n a : ℕ) (in_order : b.ties ≡ Declared) (count : length b.lives ≡ n)
    (mask : ℕ) (below : mask < 2 ^ n) where
  abbrev S : ℕ → Bool
  S = in_set (bits n mask)

  abbrev numbers : ℕ → YearNumbers
  numbers k = counted_numbers b pay (leaving_of a) k

  few : (i : ℕ) → S i ≡ true → i < n
  few i of-it = inside n mask i of-it

  by-order : (k : ℕ) → set_leavings b pay (leaving_of a) (bits n mask) k
      ≡ first_leaving (numbers k) (rank_in (numbers_from 0 n)) (lives_in n S)
  by-order k = rw (in_order, count) (omega arith)

  not-counted : (i k : ℕ) → nat_eq i a ≡ false → (numbers k).leaving i ≡ 0
  not-counted i k other = rw other refl

  -- without the life nobody leaves who counts
  pub leavings-without : has_bit mask a ≡ false → (k : ℕ) → set_leavings b pay (leaving_of a) (bits n mask) k ≡ 0
  leavings-without off k = by-order k ∙ nobody-leaves (numbers k) n S few (λ i of-it. not-counted i k (other i of-it))
    where
      other : (i : ℕ) → S i ≡ true → nat_eq i a ≡ false
      other i of-it = by-case (nat_eq i a) refl
        where
          by-case : (same : Bool) → nat_eq i a ≡ same → nat_eq i a ≡ false
          by-case false e = e
          by-case true e =
              let s : i ≡ a = grind (arith, nat_tests, e) in
              absurd (cc (sym (has-bit n mask i (few i of-it) false
              (ap (λ (j : ℕ). has_bit mask j) s ∙ off)) ∙ of-it))

  -- with it, it leaves and the others are there
  pub leavings-with : has_bit mask a ≡ true → can_fall_on_life pay a ≡ true → (k : ℕ)
      → set_leavings b pay (leaving_of a) (bits n mask) k
      ≡ leavers_by (asked pay.causes) (life_of_basis b a) k
      * there_when_leaving b n a k (in_set (bits n (mask - 2 ^ a)))
  leavings-with on falls k =
      let low : a < n = bit-below n mask a below on in
      by-order k
      ∙ one-leaves (numbers k) n S few a (has-bit n mask a low true on) (λ i other. not-counted i k other)
      ∙ rw (nat_eq-same a, falls, without-bit n mask a low on) (there (lives_in n (without S a)))
    where
      each : (c : Bool) (i : ℕ) → cond c ((numbers k).staying i) ((numbers k).alive i)
          ≡ (life_of_basis b i).survivors (cond c (suc k) k)
      each true i = refl
      each false i = refl

      same : (xs : List ℕ) → product_over xs (λ i. cond (nat_lt i a) ((numbers k).staying i) ((numbers k).alive i))
          ≡ product_over xs (λ i. (life_of_basis b i).survivors (cond (nat_lt i a) (suc k) k))
      same [] = refl
      same (x ∷ xs) = rw (same xs, each (nat_lt x a) x) refl

      there : (xs : List ℕ) → leavers_by (asked pay.causes) (life_of_basis b a) k
          * product_over xs (λ i. cond (nat_lt i a) ((numbers k).staying i) ((numbers k).alive i))
          ≡ leavers_by (asked pay.causes) (life_of_basis b a) k
          * product_over xs (λ i. (life_of_basis b i).survivors (cond (nat_lt i a) (suc k) k))
      there xs = ap (λ m. leavers_by (asked pay.causes) (life_of_basis b a) k * m) (same xs)

-- the chance of a life to leave, told in its table alone, if it is alive that has a row
pub life-leaves : (n : ℕ) (g : PlainGroup) → IsGroup n g → (causes : ℕ → Bool) (k i : ℕ) → g.start ≤ k → i < n
    → has_bit g.alive i ≡ nat_lt 0 (survivors_in g g.start i)
    → (r : Ends) → EnclosesChance (leaving g causes k i) (started g i) 1 r
    → EnclosesChance (leavers_by causes (get_or (lives_of g.file g.lives) i no_life) k)
    ((get_or (lives_of g.file g.lives) i no_life).survivors g.start) 1 r
life-leaves n g group causes k i from low alive r c =
    rw (life-is n g group i low) (by-case (nat_lt 0 (survivors_in g g.start i)) refl)
  where
    by-case : (is : Bool) → nat_lt 0 (survivors_in g g.start i) ≡ is
        → EnclosesChance (leavers_of_life g causes k i) (survivors_in g g.start i) 1 r
    by-case true e = rw (alive ∙ e) at c
    by-case false e =
        let none : survivors_in g g.start i ≡ 0 = grind (arith, nat_tests, e) in
        let leaves : leavers_of_life g causes k i ≡ 0 =
        omega (arith, none, survivors-fall n g group k i from low, group-splits n g group causes k i low) in
        rw (none, leaves) (record {
          encloses = record { low = omega (arith, ints); high = omega (arith, ints) };
          narrow = c.narrow;
          within = c.within;
        })

-- the chances of the lives that are looked at, told in their tables alone, if those are alive that have a row
pub there-looked-at : (n : ℕ) (g : PlainGroup) → IsGroup n g → (a k : ℕ) → a < n → g.start ≤ k
    → ((i : ℕ) → i < n → has_bit g.alive i ≡ nat_lt 0 (survivors_in g g.start i))
    → (b : Basis) → b.lives ≡ lives_of g.file g.lives → (entries : List Ends)
    → EncloseLookedAt g a k n entries → AreThereWhenLeaving b n g.start a k entries
there-looked-at n g group a k low from alive b of_group entries looked i there =
    let t : ℕ = cond (nat_lt i a) (suc k) k in
    let inside : i < length g.lives = omega (arith, there, group.count) in
    let each = looked-at-each g a k n group low entries looked i there in
    let chance : EnclosesChance (surviving g t i) (started g i) 1 (entry_at entries i) =
    rw (
      ← survivors-is g.file t (has_bit g.alive) g.lives i inside,
      ← started-is g.file g.start (has_bit g.alive) g.lives i inside,
    ) each in
    rw of_group (life-survives n g group t i (later (nat_lt i a)) there (alive i there) (entry_at entries i) chance)
  where
    later : (c : Bool) → g.start ≤ cond c (suc k) k
    later true = omega (arith, from)
    later false = from

module _ (b : Basis) (causes : ℕ → Bool) (n T a k : ℕ) (count : length b.lives ≡ n) where
  -- with nobody else: the discount factor times the chance that the life leaves
  pub falling-alone : (i : Ends) → EnclosesChance
      (product_over (numbers_from T (suc k - T)) b.q * leavers_by causes (life_of_basis b a) k)
      (product_over (numbers_from T (suc k - T)) (λ j. b.p j + b.q j) * (life_of_basis b a).survivors T)
      (3 * (suc k - T) + 1 + 1) i → EnclosesFalling b causes n T a k 0 i
  falling-alone i c =
      let width : 3 * (suc k - T) + 2 + 2 * 0 ≡ 3 * (suc k - T) + 1 + 1 = omega arith in
      let once : (m : ℕ) → m * 1 ≡ m = λ m. omega arith in
      rw (
        nobody-there,
        survivors-of-nobody T n b.lives count,
        size-of-nobody n,
        width,
        once (product_over (numbers_from T (suc k - T)) b.q * leavers_by causes (life_of_basis b a) k),
        once (product_over (numbers_from T (suc k - T)) (λ j. b.p j + b.q j) * (life_of_basis b a).survivors T),
      ) c
    where
      over-none : (xs : List ℕ) (f : ℕ → ℕ) → length xs ≡ 0 → product_over xs f ≡ 1
      over-none [] f none = refl
      over-none (x ∷ xs) f none = absurd (omega (arith, none))

      nobody-there : there_when_leaving b n a k (in_set (bits n 0)) ≡ 1
      nobody-there = over-none (lives_in n (in_set (bits n 0))) _ (size-of-lives n 0 ∙ size-of-nobody n)

  -- with one more: times the chance that it is there
  module _ (mask first : ℕ) (below : mask < 2 ^ n) (there : has_bit mask first ≡ true) where
    there-with : there_when_leaving b n a k (in_set (bits n mask))
        ≡ there_when_leaving b n a k (in_set (bits n (mask - 2 ^ first)))
        * (life_of_basis b first).survivors (cond (nat_lt first a) (suc k) k)
    there-with =
        let low : first < n = bit-below n mask first below there in
        let f : ℕ → ℕ = λ i. (life_of_basis b i).survivors (cond (nat_lt i a) (suc k) k) in
        (taken-out (in_set (bits n mask)) n 0 first (has-bit n mask first low true there) (omega arith)
        (omega (arith, low))).1 f
        ∙ ap (λ W. f first * product_over (lives_in n W) f) (sym (without-bit n mask first low there))
        ∙ omega arith

    pub falling-with : (rest chance r : Ends) → EnclosesFalling b causes n T a k (mask - 2 ^ first) rest
        → EnclosesChance ((life_of_basis b first).survivors (cond (nat_lt first a) (suc k) k))
        ((life_of_basis b first).survivors T) 1 chance
        → ((l m d e v w : ℕ)
        → EnclosesChance l d v rest → EnclosesChance m e w chance → EnclosesChance (l * m) (d * e) (v + w + 1) r)
        → EnclosesFalling b causes n T a k mask r
    falling-with rest chance r others one both =
        rw (
          there-with,
          survivors-with b n T T count mask first below there T,
          more (product_over (numbers_from T (suc k - T)) b.q * leavers_by causes (life_of_basis b a) k) _ _,
          more (product_over (numbers_from T (suc k - T)) (λ j. b.p j + b.q j) * (life_of_basis b a).survivors T) _ _,
          ← wide,
        ) (both _ _ _ _ _ _ others one)
      where
        more : (d j s : ℕ) → d * (j * s) ≡ d * j * s
        more d j s = omega arith

        wide : 3 * (suc k - T) + 2 + 2 * size_of (bits n (mask - 2 ^ first)) + 1 + 1
            ≡ 3 * (suc k - T) + 2 + 2 * size_of (bits n mask)
        wide = omega (arith, size-with n mask first below there)

  -- and so by that of the others, told in lists
  pub falling-by-first : (mask : ℕ) → mask < 2 ^ n → (lives entries : List Ends) (r : Ends)
      → IsByFirst lives mask entries r → AreThereWhenLeaving b n T a k lives
      → HasSmaller (EnclosesFalling b causes n T a k) mask entries → EnclosesFalling b causes n T a k mask r
  falling-by-first mask below lives entries r by are smaller =
      falling-with mask by.first below by.there (entry entries (mask - 2 ^ by.first)) (entry_at lives by.first) r
      (smaller (mask - 2 ^ by.first) by.less (less-within n mask by.first below by.there))
      (are by.first (bit-below n mask by.first below by.there)) by.product
