-- Sets of the lives that a body names: how many there are, and which are within a set of lives alive.
use Rattle.std.proofs.Common.{◌≡◌, ℕ, zero, suc, ◌+◌, ◌*◌, ◌/◌, ◌%◌, ◌^◌, ◌<◌, ◌≤◌, List, [], ◌∷◌, length, Bool, cond, true, false, ◌&&◌, nat_eq, min, arith, refl, ap, sym, ◌∙◌, ◌⊎◌, inl, inr, ⊎_elim}
use Rattle.std.specs.Prelude.{bit_and}
use Rattle.std.specs.Int.{bit_at}
use Rattle.std.proofs.Math.Nat.{div-add-mod, pow-le-pow_right}
use Rattle.std.proofs.lemmas.Nat.{mod_below}
use Rattle.std.proofs.lemmas.Bool.{cases_lt}
use Rattle.std.proofs.lemmas.Bool.Decides.{nat_tests}
use Rattle.std.proofs.lemmas.Nat.Bits.{bit_at-lt, bit_at_above, bit_at_and, bit_at_cat_low, same_from_bits}
use Rattle.halo_sums.specs.Masks.{bits, has_bit}
use Rattle.halo_sums.specs.Sets.{in_set, size_of}
use Rattle.halo_sums.specs.Sums.{numbers_from, sum_over}
use Rattle.halo_sums.specs.Within.{is_within}
use Rattle.halo_sums.proofs.Masks.{has_bit-bits}
use Rattle.halo_sums.proofs.Numbers.{sum_over-numbers_ext}
use Rattle.halo_sums.proofs.SetMasks.{length-bits}
use Rattle.halo_status.specs.Naming.{NamesLivesBelow, names_life}
use Rattle.halo_status.specs.Tree.{Tree}
use Rattle.halo_model.specs.Backward.{lies_in}
use Rattle.halo_model.specs.Counts.{lives_named}
use Rattle.halo_life.proofs.Within.{all-sets-within, bit-of-set, within-by, within-has}
use Rattle.halo_sums.proofs.Within.{within-below}
use Rattle.halo_status.specs.Pay.{pay_of}
use Rattle.halo_life.specs.Lists.{Lists}
use Rattle.halo_life.specs.Total.{AreModest, AreModestAt}
use Rattle.halo_compile.specs.declared.task.Task.{Task}
use Rattle.halo_compile.specs.ValidTask.{IsTask}
use Rattle.halo_compile.specs.NamedSets.{AreNamed, IsNamedPart}
use Rattle.halo_compile.proofs.Named.{count-next, count_named}
use Rattle.halo_compile.proofs.Within.{has-other, within-is}

-- a mask has only the bits of numbers below a bound, so it is below the power of 2
below-by-bits : (n mask : ℕ) → ((i : ℕ) → has_bit mask i ≡ true → i < n) → mask < 2 ^ n
below-by-bits n mask few = omega (arith, rest, same_from_bits (mask % 2 ^ n) mask each)
  where
    rest : mask % 2 ^ n < 2 ^ n
    rest = let some : 2 ^ 0 ≤ 2 ^ n = pow-le-pow_right (omega arith) {i = 0} (omega arith) in
        mod_below mask (2 ^ n) some

    whole : mask / 2 ^ n * 2 ^ n + mask % 2 ^ n ≡ mask
    whole = omega (arith, div-add-mod mask (2 ^ n))

    no-bit : (i : ℕ) → n ≤ i → bit_at mask i ≡ 0
    no-bit i past = by-bit (bit_at mask i) refl
      where
        by-bit : (x : ℕ) → bit_at mask i ≡ x → bit_at mask i ≡ 0
        by-bit zero e = e
        by-bit (suc x) e = let one : has_bit mask i ≡ true = grind (arith, nat_tests, e, bit_at-lt mask i) in
            absurd (omega (arith, past, few i one))

    each : (i : ℕ) → bit_at (mask % 2 ^ n) i ≡ bit_at mask i
    each i = ⊎_elim
        (λ (h : i < n). sym (bit_at_cat_low (mask / 2 ^ n) n (mask % 2 ^ n) i h) ∙ ap (λ m. bit_at m i) whole)
        (λ (h : n ≤ i). bit_at_above (mask % 2 ^ n) n i rest h ∙ sym (no-bit i h))
        (cases_lt i n)

both-bits : (a b i : ℕ) → has_bit (bit_and a b) i ≡ (has_bit a i && has_bit b i)
both-bits a b i = rw (bit_at_and a b i) (tests (bit_at a i) (bit_at b i) (bit_at-lt a i) (bit_at-lt b i))
  where
    tests : (x y : ℕ) → x < 2 → y < 2 → nat_eq (min x y) 1 ≡ (nat_eq x 1 && nat_eq y 1)
    tests zero zero h k = refl
    tests zero (suc zero) h k = refl
    tests zero (suc (suc y)) h k = absurd (omega arith)
    tests (suc zero) zero h k = refl
    tests (suc zero) (suc zero) h k = refl
    tests (suc zero) (suc (suc y)) h k = absurd (omega arith)
    tests (suc (suc x)) y h k = absurd (omega arith)

-- the set of the lives that a body names
module _ (named : ℕ) (body : Tree) (are : (i : ℕ) → has_bit named i ≡ names_life i body) where
  pub named-within : (mask : ℕ) → AreNamed body mask → is_within mask named ≡ true
  named-within mask each = within-by mask named (λ i there. are i ∙ each i there)

  pub all-named : AreNamed body named
  all-named i there = sym (are i) ∙ there

  pub named-part : (alive : ℕ) → IsNamedPart body alive (bit_and alive named)
  named-part alive i = both-bits alive named i ∙ ap (λ is. has_bit alive i && is) (are i)

  -- as many lives are in it as are named
  pub named-size : (n : ℕ) → size_of (bits n named) ≡ lives_named n body
  named-size n =
      size-is (bits n named)
      ∙ ap (λ (k : ℕ). count_named (in_set (bits n named)) k) (length-bits n named)
      ∙ sum_over-numbers_ext n 0 (λ i. cond (in_set (bits n named) i) 1 0) (λ i. cond (names_life i body) 1 0)
      (λ i from below. ap (λ is. cond is 1 0) (sym (has_bit-bits n named i (omega (arith, below))) ∙ are i))
    where
      size-is : (s : List Bool) → size_of s ≡ count_named (in_set s) (length s)
      size-is [] = refl
      size-is (true ∷ s) = omega (arith, size-is s, count-next (in_set (true ∷ s)) (length s))
      size-is (false ∷ s) = omega (arith, size-is s, count-next (in_set (false ∷ s)) (length s))

  -- the sets of them
  pub named-sets : (n : ℕ)
      → sum_over (numbers_from 0 (2 ^ n)) (λ mask. cond (is_within mask named) 1 0) ≡ 2 ^ lives_named n body
  named-sets n = all-sets-within n named ∙ ap (λ (k : ℕ). 2 ^ k) (named-size n)

and-left : (a b : Bool) → (a && b) ≡ true → a ≡ true
and-left true b e = refl
and-left false b e = absurd (cc)

and-right : (a b : Bool) → (a && b) ≡ true → b ≡ true
and-right true b e = e
and-right false b e = absurd (cc)

-- the lives of a part are named
pub part-is-named : (body : Tree) (alive part : ℕ) → IsNamedPart body alive part → AreNamed body part
part-is-named body alive part is i there = and-right (has_bit alive i) (names_life i body) (sym (is i) ∙ there)

-- a set lies in those alive, and its lives are named, or it has a life that is not
module _ (body : Tree) (alive part : ℕ) (is : IsNamedPart body alive part) (n mask : ℕ) (below : mask < 2 ^ n) where
  pub part-named : is_within mask part ≡ true → AreNamed body mask
  part-named within i there = part-is-named body alive part is i (within-has mask part within i there)

  pub part-lies : is_within mask part ≡ true → lies_in (bits n mask) (has_bit alive) ≡ true
  part-lies within = sym (within-is n mask alive below) ∙ within-by mask alive
      (λ i there. and-left (has_bit alive i) (names_life i body) (sym (is i) ∙ within-has mask part within i there))

  abbrev HasUnnamed : Type 0
  HasUnnamed = (i : ℕ) × (in_set (bits n mask) i ≡ true) × (names_life i body ≡ false)

  pub not-in-part : is_within mask part ≡ false → (lies_in (bits n mask) (has_bit alive) ≡ false) ⊎ HasUnnamed
  not-in-part outside = by-case (lies_in (bits n mask) (has_bit alive)) refl
    where
      unnamed : (a b : Bool) → a ≡ true → (a && b) ≡ false → b ≡ false
      unnamed true b e none = none
      unnamed false b e none = absurd (cc)

      by-case : (lies : Bool) → lies_in (bits n mask) (has_bit alive) ≡ lies
          → (lies_in (bits n mask) (has_bit alive) ≡ false) ⊎ HasUnnamed
      by-case false e = inl e
      by-case true e =
          let other = has-other (bits n mask) (has_bit part) (sym (within-is n mask part below) ∙ outside) in
          let lives = within-has mask alive (within-is n mask alive below ∙ e) other.life
          (bit-of-set n mask other.life other.of_it) in
          inr (
            other.life,
            other.of_it,
            unnamed (has_bit alive other.life) (names_life other.life body) lives
                (sym (is other.life) ∙ other.other),
          )

-- a set of named lives of n is one of their sets
pub named-is-below : (n : ℕ) (body : Tree) → NamesLivesBelow n body → (set : ℕ) → AreNamed body set → set < 2 ^ n
named-is-below n body few set named = below-by-bits n set (λ i there. few i (named i there))

module _ {n m : ℕ} (task : Task n m) (is : IsTask task) (set : ℕ)
    (named : AreNamed (pay_of task.pay.now).body set) where
  pub set-below : set < m
  set-below = omega (arith, is.sets, named-is-below n (pay_of task.pay.now).body is.lives set named)

  -- where the values of all sets of named lives are modest, those of the sets within one are
  pub modest-within : (lists : Lists)
      → ((mask : ℕ) → mask < m → AreNamed (pay_of task.pay.now).body mask → AreModestAt mask lists)
      → AreModest set lists
  modest-within lists modest mask within = modest mask
      (omega (arith, set-below, within-below mask set within)) (λ i there. named i (within-has mask set within i there))
