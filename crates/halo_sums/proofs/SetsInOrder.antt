-- The sets of so many lives, life by life.
use Rattle.std.proofs.Common.{◌≡◌, ℕ, zero, suc, ◌+◌, ◌-◌, ◌/◌, ◌%◌, ◌^◌, ◌<◌, ◌≤◌, flat_map, List, [], ◌∷◌, ◌++◌, append_assoc, map, Bool, true, false, arith, ap, ap₂, sym, ◌∙◌, refl}
use Rattle.std.proofs.Math.Nat.{pow-suc}
use Rattle.std.proofs.lemmas.List.{map-append}
use Rattle.std.specs.Prelude.{nat_eq, replicate}
use Rattle.halo_sums.specs.Masks.{bits}
use Rattle.halo_sums.specs.Sums.{numbers_from}
use Rattle.halo_sums.specs.SetsInOrder.{sets_of_size, sets_with}

-- a set of the first lives has none of those behind them
pub bits-more : (l k set : ℕ) → set < 2 ^ l → bits l set ++ replicate k false ≡ bits (l + k) set
bits-more zero k set few =
    let none : set ≡ 0 = omega arith in
    let all : 0 + k ≡ k = omega arith in
    rw (none, all) (empty k)
  where
    empty : (k : ℕ) → replicate k false ≡ bits k 0
    empty zero = refl
    empty (suc k) = ap (λ s. false ∷ s) (empty k)
bits-more (suc l) k set few =
    let all : suc l + k ≡ suc (l + k) = omega arith in
    rw all (ap (λ s. nat_eq (set % 2) 1 ∷ s) (bits-more l k (set / 2) (omega (arith, pow-suc 2 l))))

-- with the life behind them
pub bits-with : (l set : ℕ) → set < 2 ^ l → bits (suc l) (set + 2 ^ l) ≡ bits l set ++ true ∷ []
bits-with zero set few = let none : set ≡ 0 = omega arith in rw none refl
bits-with (suc l) set few =
    let low : (set + 2 ^ suc l) % 2 ≡ set % 2 = omega (arith, pow-suc 2 l) in
    let high : (set + 2 ^ suc l) / 2 ≡ set / 2 + 2 ^ l = omega (arith, pow-suc 2 l) in
    rw (low, high) (ap (λ s. nat_eq (set % 2) 1 ∷ s) (bits-with l (set / 2) (omega (arith, pow-suc 2 l))))

-- and without it
pub bits-without : (l set : ℕ) → set < 2 ^ l → bits (suc l) set ≡ bits l set ++ false ∷ []
bits-without l set few = let next : l + 1 ≡ suc l = omega arith in sym (rw next at (bits-more l 1 set few))

-- no set has more lives than there are
pub sets_of_size-few : (k n : ℕ) → n < k → sets_of_size k n ≡ []
sets_of_size-few zero n few = absurd (omega arith)
sets_of_size-few (suc k) zero few = refl
sets_of_size-few (suc k) (suc n) few =
    rw (sets_of_size-few k n (omega arith), sets_of_size-few (suc k) n (omega arith)) refl

-- sets that begin with nothing are all
pub sets_with-nil : (k n : ℕ) → sets_with [] k n ≡ sets_of_size k n
sets_with-nil k n = same (sets_of_size k n)
  where
    same : (sets : List (List Bool)) → map (λ s. [] ++ s) sets ≡ sets
    same [] = refl
    same (s ∷ sets) = ap (λ all. s ∷ all) (same sets)

-- one more of the lives that sets begin with
moved : (start : List Bool) (life : Bool) (sets : List (List Bool))
    → map (λ s. start ++ s) (map (λ s. life ∷ s) sets) ≡ map (λ s. (start ++ life ∷ []) ++ s) sets
moved start life [] = refl
moved start life (s ∷ sets) =
    rw (append_assoc start (life ∷ []) s) (ap (λ all. (start ++ life ∷ s) ∷ all) (moved start life sets))

-- sets with the next life, and sets without it
pub sets_with-suc : (start : List Bool) (k n : ℕ)
    → sets_with start (suc k) (suc n) ≡ sets_with (start ++ true ∷ []) k n ++ sets_with (start ++ false ∷ []) (suc k) n
sets_with-suc start k n =
    map-append (λ s. start ++ s) (map (λ s. true ∷ s) with) (map (λ s. false ∷ s) without)
    ∙ ap₂ (λ a b. a ++ b) (moved start true with) (moved start false without)
  where
    with : List (List Bool)
    with = sets_of_size k n

    without : List (List Bool)
    without = sets_of_size (suc k) n

both : (start with without : List Bool) (k n : ℕ) → with ≡ start ++ true ∷ [] → without ≡ start ++ false ∷ []
    → sets_with start (suc k) (suc n) ≡ sets_with with k n ++ sets_with without (suc k) n
both start with without k n e f = rw (e, f) (sets_with-suc start k n)

module _ (number count set : ℕ) (within : number ≤ count) (few : set < 2 ^ number) where
  -- where no number is wanted behind a set, there is the set itself
  pub sets_with-one : sets_with (bits number set) 0 (count - number) ≡ bits count set ∷ []
  sets_with-one =
      let all : number + (count - number) ≡ count = omega arith in
      ap (λ s. s ∷ []) (bits-more number (count - number) set few ∙ ap (λ m. bits m set) all)

  -- where more are wanted than there are, there is none
  pub sets_with-none : (more : ℕ) → count - number < more → sets_with (bits number set) more (count - number) ≡ []
  sets_with-none more less = rw (sets_of_size-few more (count - number) less) refl

  -- else there are those with the next number and those without it
  pub sets_with-both : (more : ℕ) → number < count → 0 < more
      → sets_with (bits number set) more (count - number)
      ≡ sets_with (bits (number + 1) (set + 2 ^ number)) (more - 1) (count - (number + 1))
      ++ sets_with (bits (number + 1) set) more (count - (number + 1))
  sets_with-both zero less some = absurd (omega arith)
  sets_with-both (suc more) less some =
      let left : count - number ≡ suc (count - suc number) = omega arith in
      let next : number + 1 ≡ suc number = omega arith in
      let fewer : suc more - 1 ≡ more = omega arith in
      rw (left, next, fewer)
      (both (bits number set) (bits (suc number) (set + 2 ^ number)) (bits (suc number) set) more (count - suc number)
      (bits-with number set few) (bits-without number set few))

-- the sets of n numbers that have so many of them or more
abbrev pub sets_from : ℕ → ℕ → List (List Bool)
sets_from n size = flat_map (λ k. sets_of_size k n) (numbers_from size (suc n - size))

-- where the sets of a size are told, those of the next sizes are left
pub next-size : (n size : ℕ) (before now all : List (List Bool)) → size < suc n
    → now ≡ before ++ sets_with [] size (n - 0) → before ++ sets_from n size ≡ all
    → now ++ sets_from n (size + 1) ≡ all
next-size n size before now all more told so_far =
    let whole : n - 0 ≡ n = omega arith in
    let left : suc n - size ≡ suc (suc n - suc size) = omega arith in
    let next : size + 1 ≡ suc size = omega arith in
    rw (told, whole, sets_with-nil size n, next, append_assoc before (sets_of_size size n) (sets_from n (suc size)))
    (rw left at so_far)
