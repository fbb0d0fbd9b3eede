-- Sets within a set as masks: what is left out of them, and the one that comes next.
use Rattle.std.proofs.Common.{◌≡◌, ℕ, zero, suc, ◌+◌, ◌-◌, ◌*◌, ◌/◌, ◌%◌, ◌^◌, ◌<◌, ◌≤◌, true, nat_eq, bit_and, arith, refl, sym, ◌∙◌}
use Rattle.std.proofs.Math.Nat.{pow-suc}
use Rattle.std.proofs.lemmas.Bool.Decides.{nat_tests}
use Rattle.std.proofs.lemmas.Nat.{and_block, and_le_l, and_le_r}
use Rattle.halo_sums.specs.Within.{is_within}

-- the lowest bits of two masks, and the rest
pub lowest-apart : (a b : ℕ) → bit_and a b ≡ bit_and (a / 2) (b / 2) * 2 + bit_and (a % 2) (b % 2)
lowest-apart a b =
    let p : a / 2 * 2 ^ 1 + a % 2 ≡ a = omega arith in
    let q : b / 2 * 2 ^ 1 + b % 2 ≡ b = omega arith in
    rw (p, q) at (and_block 1 (a / 2) (b / 2) (a % 2) (b % 2) (omega arith) (omega arith))

is-same : (m n : ℕ) → nat_eq m n ≡ true → m ≡ n
is-same m n e = grind (arith, nat_tests)

same-is : (m n : ℕ) → m ≡ n → nat_eq m n ≡ true
same-is m n e = grind (arith, nat_tests)

-- a mask is within another where its halves are, and its lowest bit is at most that of the other
record Halves (mask all : ℕ) : Type 0 where
  high : is_within (mask / 2) (all / 2) ≡ true
  low : mask % 2 ≤ all % 2

low-and : (x y : ℕ) → x < 2 → y < 2 → x ≤ y → bit_and x y ≡ x
low-and zero y h k l = refl
low-and (suc zero) zero h k l = absurd (omega arith)
low-and (suc zero) (suc zero) h k l = refl
low-and (suc zero) (suc (suc y)) h k l = absurd (omega arith)
low-and (suc (suc x)) y h k l = absurd (omega arith)

low-below : (x y : ℕ) → x < 2 → y < 2 → bit_and x y ≡ x → x ≤ y
low-below x y h k e = omega (arith, and_le_r x y, e)

halves : (mask all : ℕ) → is_within mask all ≡ true → Halves mask all
halves mask all within =
    let whole : bit_and mask all ≡ mask = is-same _ _ within in
    let parts = sym (lowest-apart mask all) ∙ whole in
    let low : bit_and (mask % 2) (all % 2) ≡ mask % 2 = omega (arith, parts, and_le_l (mask % 2) (all % 2)) in
    record {
      high = same-is _ _ (omega (arith, parts, and_le_l (mask % 2) (all % 2)));
      low = low-below (mask % 2) (all % 2) (omega arith) (omega arith) low;
    }

by-halves : (mask all : ℕ) → is_within (mask / 2) (all / 2) ≡ true → mask % 2 ≤ all % 2 → is_within mask all ≡ true
by-halves mask all high low = same-is _ _ (
    lowest-apart mask all
    ∙ omega (arith, is-same _ _ high, low-and (mask % 2) (all % 2) (omega arith) (omega arith) low))

-- a set within another is its first places by their masks
pub within-below : (mask all : ℕ) → is_within mask all ≡ true → mask ≤ all
within-below mask all within = omega (arith, is-same _ _ within, and_le_r mask all)

-- what both of two masks have is within each of them
pub both-within : (n mask all : ℕ) → mask < 2 ^ n → is_within (bit_and mask all) all ≡ true
both-within zero mask all below = let none : mask ≡ 0 = omega arith in rw none refl
both-within (suc n) mask all below =
    let high : ℕ = bit_and (mask / 2) (all / 2) in
    let low : ℕ = bit_and (mask % 2) (all % 2) in
    let parts = lowest-apart mask all in
    let few : low ≤ all % 2 = and_le_r (mask % 2) (all % 2) in
    let up : bit_and mask all / 2 ≡ high = omega (arith, parts, few) in
    let down : bit_and mask all % 2 ≡ low = omega (arith, parts, few) in
    by-halves (bit_and mask all) all
    (rw up (both-within n (mask / 2) (all / 2) (omega (arith, pow-suc 2 n)))) (rw down few)

-- what a set within another leaves out is within it
pub left-out-within : (n mask all : ℕ) → all < 2 ^ n → is_within mask all ≡ true → is_within (all - mask) all ≡ true
left-out-within zero mask all below within = let none : all - mask ≡ 0 = omega arith in rw none refl
left-out-within (suc n) mask all below within =
    let h = halves mask all within in
    let less = within-below (mask / 2) (all / 2) h.high in
    let up : (all - mask) / 2 ≡ all / 2 - mask / 2 = omega (arith, less, h.low) in
    let down : (all - mask) % 2 ≡ all % 2 - mask % 2 = omega (arith, less, h.low) in
    by-halves (all - mask) all
    (rw up (left-out-within n (mask / 2) (all / 2) (omega (arith, pow-suc 2 n)) h.high))
    (rw down (omega arith))

-- Of the sets within another, what the number before a set has in common with it is the last before the set.
pub last-before : (n mask set all : ℕ) → set < 2 ^ n → is_within mask all ≡ true → is_within set all ≡ true
    → mask < set → mask ≤ bit_and (set - 1) all
last-before zero mask set all below m s less = absurd (omega arith)
last-before (suc n) mask set all below m s less =
    by-low (set % 2) refl (λ smaller. last-before n (mask / 2) (set / 2) (all / 2) (omega (arith, pow-suc 2 n))
    (halves mask all m).high (halves set all s).high smaller)
  where
    Before : Type 0
    Before = mask / 2 < set / 2 → mask / 2 ≤ bit_and (set / 2 - 1) (all / 2)

    and-one : (x : ℕ) → x < 2 → bit_and 1 x ≡ x
    and-one zero h = refl
    and-one (suc zero) h = refl
    and-one (suc (suc x)) h = absurd (omega arith)

    without-lowest : set % 2 ≡ 0 → Before → mask ≤ bit_and (set - 1) all
    without-lowest even before =
        let up : (set - 1) / 2 ≡ set / 2 - 1 = omega arith in
        let down : (set - 1) % 2 ≡ 1 = omega arith in
        let parts : bit_and (set - 1) all ≡ bit_and (set / 2 - 1) (all / 2) * 2 + bit_and 1 (all % 2) =
        rw (up, down) at (lowest-apart (set - 1) all) in
        omega (arith, parts, before (omega arith), (halves mask all m).low, and-one (all % 2) (omega arith))

    with-lowest : set % 2 ≡ 1 → mask ≤ bit_and (set - 1) all
    with-lowest odd =
        let up : (set - 1) / 2 ≡ set / 2 = omega arith in
        let down : (set - 1) % 2 ≡ 0 = omega arith in
        let parts : bit_and (set - 1) all ≡ bit_and (set / 2) (all / 2) * 2 + bit_and 0 (all % 2) =
        rw (up, down) at (lowest-apart (set - 1) all) in
        omega (arith, parts, is-same (bit_and (set / 2) (all / 2)) (set / 2) (halves set all s).high)

    by-low : (r : ℕ) → set % 2 ≡ r → Before → mask ≤ bit_and (set - 1) all
    by-low zero e before = without-lowest e before
    by-low (suc zero) e before = with-lowest e
    by-low (suc (suc r)) e before = absurd (omega arith)

-- the set that comes next after one: what comes before it in what is left out
module _ (n set all : ℕ) (below : all < 2 ^ n) (within : is_within set all ≡ true) where
  pub next-within : is_within (all - bit_and (all - set - 1) all) all ≡ true
  next-within =
      left-out-within n (bit_and (all - set - 1) all) all below (both-within n (all - set - 1) all (omega arith))

  pub next-first : (mask : ℕ) → is_within mask all ≡ true → set < mask → all - bit_and (all - set - 1) all ≤ mask
  next-first mask is more =
      let less = within-below mask all is in
      let before = last-before n (all - mask) (all - set) all (omega arith)
      (left-out-within n mask all below is) (left-out-within n set all below within) (omega arith) in
      omega (arith, less, before)
