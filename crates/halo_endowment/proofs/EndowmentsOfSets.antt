-- Pure endowments of sets of lives: of nobody, and of a set by that of the set without one of its lives.
use Rattle.std.proofs.Common.{◌≡◌, ◌≢◌, ℕ, zero, suc, ◌+◌, ◌*◌, ◌-◌, ◌/◌, ◌%◌, ◌^◌, ◌<◌, ◌≤◌, arith, refl, ap, sym, ◌∙◌, List, [], ◌∷◌, length, get_or, Bool, true, false, nat_lt, ⊎_elim}
use Rattle.std.proofs.lemmas.Bool.{cases_lt}
use Rattle.std.proofs.lemmas.Bool.Decides.{nat_tests}
use Rattle.std.proofs.lemmas.Int.{ints}
use Rattle.halo_sums.specs.Masks.{bits, has_bit}
use Rattle.halo_sums.specs.Sets.{in_set, size_of}
use Rattle.halo_sums.specs.Sums.{numbers_from, product_over}
use Rattle.halo_sums.proofs.SetMasks.{length-bits}
use Rattle.halo_num.specs.Chance.{EnclosesChance}
use Rattle.halo_num.specs.Ends.{Ends}
use Rattle.halo_model.specs.Basis.{Basis}
use Rattle.halo_model.specs.EvenTies.{lives_in}
use Rattle.halo_model.specs.FromTables.{lives_of}
use Rattle.halo_model.specs.Life.{PlainLife}
use Rattle.halo_model.specs.OrderLaws.{no_life}
use Rattle.halo_model.specs.Outcome.{joint_survivors}
use Rattle.halo_model.proofs.EvenTies.{taken-out}
use Rattle.halo_model.proofs.Independent.{survivors_of-le}
use Rattle.halo_chance.specs.Enclosed.{entry_at}
use Rattle.halo_life.specs.Lists.{entry}
use Rattle.halo_life.specs.PlainGroup.{IsGroup, PlainGroup, started, surviving, survivors_in}
use Rattle.halo_life.proofs.AlongTree.{started-is, survivors-is}
use Rattle.halo_life.proofs.OneSet.{size-with}
use Rattle.halo_life.proofs.Subsets.{has-bit, without-bit}
use Rattle.halo_life.proofs.Within.{bit-below, less-within}
use Rattle.halo_life.specs.YearOfLives.{HasSmaller}
use Rattle.halo_life.proofs.YearChances.{joint-is, life-is}
use Rattle.halo_compile.proofs.Tasks.{group-lives}
use Rattle.halo_along.specs.Lives.{EncloseSurvival}
use Rattle.halo_along.proofs.LivesAtTime.{survival-each}
use Rattle.halo_endowment.specs.Endowment.{AreSurvivals, EnclosesEndowment}
use Rattle.halo_endowment.specs.First.{IsByFirst}

-- all of nobody survive
pub survivors-of-nobody : (u n : ℕ) (lives : List PlainLife) → length lives ≡ n
    → joint_survivors u (in_set (bits n 0)) lives ≡ 1
survivors-of-nobody u n [] count = refl
survivors-of-nobody u zero (x ∷ lives) count = absurd (omega (arith, count))
survivors-of-nobody u (suc n) (x ∷ lives) count =
    let q : 0 / 2 ≡ 0 = omega arith in
    let r : 0 % 2 ≡ 0 = omega arith in
    let rest = survivors-of-nobody u n lives (omega (arith, count)) in
    rw (r, q) (omega (arith, rest))

pub size-of-nobody : (n : ℕ) → size_of (bits n 0) ≡ 0
size-of-nobody zero = refl
size-of-nobody (suc n) = let q : 0 / 2 ≡ 0 = omega arith in let r : 0 % 2 ≡ 0 = omega arith in
    rw (r, q) (size-of-nobody n)

module _ (b : Basis) (n T t : ℕ) (count : length b.lives ≡ n) where
  -- that of nobody is the discount factor
  pub endowment-of-nobody : (i : Ends) → EnclosesChance (product_over (numbers_from T (t - T)) b.q)
      (product_over (numbers_from T (t - T)) (λ k. b.p k + b.q k)) (3 * (t - T)) i → EnclosesEndowment b n T t 0 i
  endowment-of-nobody i c =
      let width : 3 * (t - T) + 2 * 0 ≡ 3 * (t - T) = omega arith in
      let once : (m : ℕ) → m * 1 ≡ m = λ m. omega arith in
      rw (
        survivors-of-nobody t n b.lives count,
        survivors-of-nobody T n b.lives count,
        size-of-nobody n,
        width,
        once (product_over (numbers_from T (t - T)) b.q),
        once (product_over (numbers_from T (t - T)) (λ k. b.p k + b.q k)),
      ) c

  -- of a set below 2^n, one of its lives and the others
  module _ (mask first : ℕ) (below : mask < 2 ^ n) (there : has_bit mask first ≡ true) where
    abbrev life : PlainLife
    life = get_or b.lives first no_life

    pub survivors-with : (u : ℕ) → joint_survivors u (in_set (bits n mask)) b.lives
        ≡ joint_survivors u (in_set (bits n (mask - 2 ^ first))) b.lives * life.survivors u
    survivors-with u =
        let low : first < n = bit-below n mask first below there in
        let f : ℕ → ℕ = λ i. (get_or b.lives i no_life).survivors u in
        let S : ℕ → Bool = in_set (bits n mask) in
        joint-is n u b.lives (bits n mask) count (length-bits n mask)
        ∙ (taken-out S n 0 first (has-bit n mask first low true there) (omega arith) (omega (arith, low))).1 f
        ∙ ap (λ W. f first * product_over (lives_in n W) f) (sym (without-bit n mask first low there))
        ∙ ap (λ m. f first * m) (sym
        (joint-is n u b.lives (bits n (mask - 2 ^ first)) count (length-bits n (mask - 2 ^ first))))
        ∙ omega arith

    -- that of the set is that of the others times the chance of the life
    pub endowment-with : (rest chance r : Ends) → EnclosesEndowment b n T t (mask - 2 ^ first) rest
        → EnclosesChance (life.survivors t) (life.survivors T) 1 chance
        → ((k m d e v w : ℕ)
        → EnclosesChance k d v rest → EnclosesChance m e w chance → EnclosesChance (k * m) (d * e) (v + w + 1) r)
        → EnclosesEndowment b n T t mask r
    endowment-with rest chance r others one both =
        rw (
          survivors-with t,
          survivors-with T,
          more (product_over (numbers_from T (t - T)) b.q) _ _,
          more (product_over (numbers_from T (t - T)) (λ k. b.p k + b.q k)) _ _,
          ← wide,
        ) (both _ _ _ _ _ _ others one)
      where
        more : (d j s : ℕ) → d * (j * s) ≡ d * j * s
        more d j s = omega arith

        wide : 3 * (t - T) + 2 * size_of (bits n (mask - 2 ^ first)) + 1 + 1 ≡ 3 * (t - T) + 2 * size_of (bits n mask)
        wide = omega (arith, size-with n mask first below there)

  -- and so by that of the others, told in lists
  pub endowment-by-first : (mask : ℕ) → mask < 2 ^ n → (lives entries : List Ends) (r : Ends)
      → IsByFirst lives mask entries r → AreSurvivals b n T t lives
      → HasSmaller (EnclosesEndowment b n T t) mask entries → EnclosesEndowment b n T t mask r
  endowment-by-first mask below lives entries r by are smaller =
      endowment-with mask by.first below by.there (entry entries (mask - 2 ^ by.first)) (entry_at lives by.first) r
      (smaller (mask - 2 ^ by.first) by.less (less-within n mask by.first below by.there))
      (are by.first (bit-below n mask by.first below by.there)) by.product

-- of a life that has a row, no more survive later
pub survivors-fall : (n : ℕ) (g : PlainGroup) → IsGroup n g → (t i : ℕ) → g.start ≤ t → i < n
    → survivors_in g t i ≤ survivors_in g g.start i
survivors-fall n g group t i from low =
    let inside : i < length g.lives = omega (arith, low, group.count) in
    let le = survivors_of-le (λ j. t) g.start (λ j. from) (λ j. true) (lives_of g.file g.lives)
    (group-lives n g group) i in
    omega (
      arith,
      le,
      survivors-is g.file t (λ j. true) g.lives i inside,
      started-is g.file g.start (λ j. true) g.lives i inside,
    )

-- the chance of a life to survive, told in its table alone, if it is alive that has a row
pub life-survives : (n : ℕ) (g : PlainGroup) → IsGroup n g → (t i : ℕ) → g.start ≤ t → i < n
    → has_bit g.alive i ≡ nat_lt 0 (survivors_in g g.start i) → (r : Ends)
    → EnclosesChance (surviving g t i) (started g i) 1 r
    → EnclosesChance ((get_or (lives_of g.file g.lives) i no_life).survivors t)
    ((get_or (lives_of g.file g.lives) i no_life).survivors g.start) 1 r
life-survives n g group t i from low alive r c =
    rw (life-is n g group i low) (by-case (nat_lt 0 (survivors_in g g.start i)) refl)
  where
    by-case : (is : Bool) → nat_lt 0 (survivors_in g g.start i) ≡ is
        → EnclosesChance (survivors_in g t i) (survivors_in g g.start i) 1 r
    by-case true e = rw (alive ∙ e) at c
    by-case false e =
        let none : survivors_in g g.start i ≡ 0 = grind (arith, nat_tests, e) in
        let later : survivors_in g t i ≡ 0 = omega (arith, none, survivors-fall n g group t i from low) in
        rw (none, later) (record {
          encloses = record { low = omega (arith, ints); high = omega (arith, ints) };
          narrow = c.narrow;
          within = c.within;
        })

-- the chances of all lives to survive, told in their tables alone, if those are alive that have a row
pub are-survivals : (n : ℕ) (g : PlainGroup) → IsGroup n g → (t : ℕ) → g.start ≤ t
    → ((i : ℕ) → i < n → has_bit g.alive i ≡ nat_lt 0 (survivors_in g g.start i))
    → (b : Basis) → b.lives ≡ lives_of g.file g.lives → (entries : List Ends)
    → EncloseSurvival g t n entries → AreSurvivals b n g.start t entries
are-survivals n g group t from alive b of_group entries enclosed i low =
    let inside : i < length g.lives = omega (arith, low, group.count) in
    let chance : EnclosesChance (surviving g t i) (started g i) 1 (entry_at entries i) =
    rw (
      ← survivors-is g.file t (has_bit g.alive) g.lives i inside,
      ← started-is g.file g.start (has_bit g.alive) g.lives i inside,
    ) (survival-each g t n entries enclosed i low) in
    rw of_group (life-survives n g group t i from low (alive i low) (entry_at entries i) chance)
