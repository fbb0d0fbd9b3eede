-- The chances of lives at the times at which they are looked at where one of them leaves, one life more.
use Rattle.std.proofs.Common.{◌≡◌, ◌≢◌, ℕ, zero, suc, ◌+◌, ◌<◌, ◌≤◌, List, [], ◌∷◌, length, set, get_or-set_other, get_or-set_same, Bool, false, cond, nat_eq, nat_lt, arith, refl, ap, sym, subst, ◌∙◌, ⊎_elim}
use Rattle.std.proofs.lemmas.Bool.{cases_lt}
use Rattle.std.proofs.lemmas.Bool.Decides.{nat_tests}
use Rattle.halo_sums.specs.Masks.{has_bit}
use Rattle.halo_sums.specs.Sums.{numbers_from}
use Rattle.halo_num.specs.Ends.{Ends}
use Rattle.halo_num.specs.Chance.{EnclosesChance}
use Rattle.halo_model.specs.Expectation.{looked_at}
use Rattle.halo_model.specs.FromTables.{lives_of}
use Rattle.halo_model.specs.Independent.{started_of, survivors_of}
use Rattle.halo_model.specs.Life.{PlainLife, after_first}
use Rattle.halo_model.specs.Order.{rank_in}
use Rattle.halo_model.proofs.EvenTies.{rank-behind, rank-first}
use Rattle.halo_life.specs.PlainGroup.{IsGroup, PlainGroup}
use Rattle.halo_chance.specs.Enclosed.{entry_at}
use Rattle.halo_compile.proofs.Tasks.{count-lives}
use Rattle.halo_along.specs.Leavings.{EncloseLookedAt, declared_rank}

-- in the declared order a life has its number as its rank
rank-from : (count first i j : ℕ) → i < count → j ≡ first + i → rank_in (numbers_from first count) j ≡ i
rank-from zero first i j below e = absurd (omega arith)
rank-from (suc count) first zero j below e =
    let here : j ≡ first = omega (arith, e) in
    ap (λ (u : ℕ). rank_in (numbers_from first (suc count)) u) here ∙ rank-first first (numbers_from (suc first) count)
rank-from (suc count) first (suc i) j below e =
    let other : nat_eq j first ≡ false = grind (arith, nat_tests) in
    omega (
      arith,
      rank-behind first (numbers_from (suc first) count) j other,
      rank-from count (suc first) i j (omega arith) (omega (arith, e)),
    )

declared-rank-is : (n i : ℕ) → i < n → declared_rank n i ≡ i
declared-rank-is n i below = rank-from n 0 i i below (omega arith)

-- so those that come before it are looked at a year later
looked-at-is : (n a k i : ℕ) → a < n → i < n
    → looked_at (declared_rank n) a k i ≡ cond (nat_lt i a) (suc k) k
looked-at-is n a k i low below = rw (declared-rank-is n a low, declared-rank-is n i below) refl

-- of the times at which lives are looked at, a life's own tells its survivors
survivors-at : (times : ℕ → ℕ) (S : ℕ → Bool) (lives : List PlainLife) (i : ℕ)
    → survivors_of times S lives i ≡ survivors_of (λ j. times i) S lives i
survivors-at times S [] i = refl
survivors-at times S (x ∷ lives) zero = refl
survivors-at times S (x ∷ lives) (suc i) = survivors-at (after_first times) (after_first S) lives i

module _ (group : PlainGroup) (a k : ℕ) where
  pub none-looked-at : (entries : List Ends) → EncloseLookedAt group a k 0 entries
  unfolding EncloseLookedAt
  none-looked-at entries i below = absurd (omega arith)

  pub looked-at-put : (n : ℕ) → IsGroup n group → a < n → (count t : ℕ) (entries : List Ends) (r : Ends)
      → count < n → count < length entries → t ≡ cond (nat_lt count a) (suc k) k
      → EnclosesChance (survivors_of (λ j. t) (has_bit group.alive) (lives_of group.file group.lives) count)
      (started_of group.start (has_bit group.alive) (lives_of group.file group.lives) count) 1 r
      → EncloseLookedAt group a k count entries → EncloseLookedAt group a k (count + 1) (set entries count r)
  unfolding EncloseLookedAt
  looked-at-put n is low count t entries r there room time enclosed before i below = ⊎_elim
      (λ (earlier : i < count).
      let other : i ≢ count = omega arith in rw get_or-set_other (before i earlier))
      (λ (from : count ≤ i). let here : i ≡ count = omega arith in rw (here, get_or-set_same) at-its-time)
      (cases_lt i count)
    where
      lives : List PlainLife
      lives = lives_of group.file group.lives

      rank : ℕ → ℕ
      rank = declared_rank (length lives)

      same-time : t ≡ looked_at rank a k count
      same-time = time ∙ sym (looked-at-is (length lives) a k count
          (omega (arith, low, is.count, count-lives group)) (omega (arith, there, is.count, count-lives group)))

      same : survivors_of (λ j. t) (has_bit group.alive) lives count
          ≡ survivors_of (looked_at rank a k) (has_bit group.alive) lives count
      same = ap (λ (u : ℕ). survivors_of (λ j. u) (has_bit group.alive) lives count) same-time
          ∙ sym (survivors-at (looked_at rank a k) (has_bit group.alive) lives count)

      at-its-time : EnclosesChance (survivors_of (looked_at rank a k) (has_bit group.alive) lives count)
          (started_of group.start (has_bit group.alive) lives count) 1 r
      at-its-time = subst (λ (m : ℕ). EnclosesChance m (started_of group.start (has_bit group.alive) lives count) 1 r)
          same enclosed

  -- and so each of them encloses its life's chance, told at the time at which that life is looked at
  pub looked-at-each : (n : ℕ) → IsGroup n group → a < n → (entries : List Ends) → EncloseLookedAt group a k n entries
      → (i : ℕ) → i < n → EnclosesChance
      (survivors_of (λ j. cond (nat_lt i a) (suc k) k) (has_bit group.alive) (lives_of group.file group.lives) i)
      (started_of group.start (has_bit group.alive) (lives_of group.file group.lives) i) 1 (entry_at entries i)
  unfolding EncloseLookedAt
  looked-at-each n is low entries looked i there = subst
      (λ (m : ℕ). EnclosesChance m (started_of group.start (has_bit group.alive) lives i) 1 (entry_at entries i))
      same (looked i there)
    where
      lives : List PlainLife
      lives = lives_of group.file group.lives

      rank : ℕ → ℕ
      rank = declared_rank (length lives)

      its-time : looked_at rank a k i ≡ cond (nat_lt i a) (suc k) k
      its-time = looked-at-is (length lives) a k i
          (omega (arith, low, is.count, count-lives group)) (omega (arith, there, is.count, count-lives group))

      same : survivors_of (looked_at rank a k) (has_bit group.alive) lives i
          ≡ survivors_of (λ j. cond (nat_lt i a) (suc k) k) (has_bit group.alive) lives i
      same = survivors-at (looked_at rank a k) (has_bit group.alive) lives i
          ∙ ap (λ (u : ℕ). survivors_of (λ j. u) (has_bit group.alive) lives i) its-time
