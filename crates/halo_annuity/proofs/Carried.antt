-- One year back: a later value times the chance to come to it, and what is paid before.
use Rattle.std.proofs.Common.{◌≡◌, ℕ, zero, suc, ◌+◌, ◌*◌, ◌<◌, ◌≤◌, List, [], ◌∷◌, Bool, cond, true, false, ℤ, pos, negsuc, ◌+ℤ◌, ◌*ℤ◌, ◌≤ℤ◌, arith, refl, ⊎_elim}
use Rattle.std.proofs.Math.Nat.{mul-le-mul_right}
use Rattle.std.proofs.Math.IntN.{*ℤ-zero}
use Rattle.std.proofs.lemmas.Nat.{mul-le}
use Rattle.std.proofs.lemmas.Bool.{cases_lt}
use Rattle.std.proofs.lemmas.Int.{ints}
use Rattle.halo_sums.specs.Sets.{in_set}
use Rattle.halo_sums.proofs.Integers.{mul_le_pos}
use Rattle.halo_num.specs.Ends.{Ends, HasWidth, fine}
use Rattle.halo_num.specs.Enclosure.{Encloses}
use Rattle.halo_num.proofs.Enclosures.{encloses_add, encloses_reduced}
use Rattle.halo_model.specs.Life.{AreLives, IsLife, PlainLife, after_first}
use Rattle.halo_model.specs.Outcome.{joint_survivors}
use Rattle.halo_model.specs.Basis.{Basis, accumulated}
use Rattle.halo_model.specs.Backward.{backward}
use Rattle.halo_annuity.specs.Worth.{Carries, EnclosesCarried, EnclosesSet, EnclosesSetWorth, paid_in_all, waited}
use Rattle.halo_compile.proofs.Sums.{wider}
use Rattle.halo_compile.proofs.Interest.{accumulated-year}

-- an interval encloses its own lower end
own : (i : Ends) → i.lo ≤ℤ i.hi → Encloses i i.lo fine
own i order = record { low = omega (arith, ints); high = mul_le_pos i.lo i.hi fine order }

-- what encloses 0 over one positive number does so over each
zero-low : (a : ℤ) (d e : ℕ) → 0 < d → (a *ℤ pos d) ≤ℤ (pos 0 *ℤ pos fine) → (a *ℤ pos e) ≤ℤ (pos 0 *ℤ pos fine)
zero-low (pos zero) d e some h = omega (arith, ints)
zero-low (pos (suc n)) d e some h = let p : d ≤ suc n * d = omega arith in absurd (omega (arith, ints, h, p))
zero-low (negsuc n) d e some h = omega (arith, ints)

zero-high : (a : ℤ) (d e : ℕ) → 0 < d → (pos 0 *ℤ pos fine) ≤ℤ (a *ℤ pos d) → (pos 0 *ℤ pos fine) ≤ℤ (a *ℤ pos e)
zero-high (pos n) d e some h = omega (arith, ints)
zero-high (negsuc n) d e some h = let p : d ≤ suc n * d = omega arith in absurd (omega (arith, ints, h, p))

zero-anywhere : (i : Ends) (d e : ℕ) → 0 < d → Encloses i (pos 0) d → Encloses i (pos 0) e
zero-anywhere i d e some h = record { low = zero-low i.lo d e some h.low; high = zero-high i.hi d e some h.high }

pub positive-left : (a b : ℕ) → 0 < a * b → 0 < a
positive-left zero b h = absurd (omega arith)
positive-left (suc a) b h = omega arith

pub positive-right : (a b : ℕ) → 0 < a * b → 0 < b
positive-right a zero h = absurd (omega arith)
positive-right a (suc b) h = omega arith

pub positive-both : (a b : ℕ) → 0 < a → 0 < b → 0 < a * b
positive-both a b x y = let m : 1 * 1 ≤ a * b = mul-le 1 1 a b x y in omega arith

-- a later value times the chance q j' / (r j) to come to it, where j' over a' is what 1 is then, and j over r * a' what
-- 1 is now
pub carried-encloses : (later chance result : Ends) (num j₁ a₁ q r j : ℕ)
    → (0 < j₁ * a₁ → Encloses later (pos num) (j₁ * a₁)) → (j₁ ≡ 0 → num ≡ 0)
    → (0 < j → Encloses chance (pos (q * j₁)) (r * j))
    → Carries later chance result → 0 < j * (r * a₁) → Encloses result (pos (q * num)) (j * (r * a₁))
carried-encloses later chance result num zero a₁ q r j then none c carries some =
    let z : q * num ≡ 0 = rw (none refl) (omega arith) in
    let z₁ : q * 0 ≡ 0 = omega arith in
    let product = carries.encloses later.lo
    (pos (q * 0)) fine (r * j) (own later carries.order) (c (positive-left j (r * a₁) some)) in
    let flat : Encloses result (pos 0) (fine * (r * j)) = rw (z₁, *ℤ-zero later.lo) at product in
    let rj = positive-both r j (positive-left r a₁ (positive-right j (r * a₁) some)) (positive-left j (r * a₁) some) in
    rw z (zero-anywhere result (fine * (r * j)) (j * (r * a₁)) (positive-both fine (r * j) (omega arith) rj) flat)
carried-encloses later chance result num (suc n) a₁ q r j then none c carries some =
    let a = positive-right r a₁ (positive-right j (r * a₁) some) in
    let e = then (positive-both (suc n) a₁ (omega arith) a) in
    let product =
    carries.encloses (pos num) (pos (q * suc n)) (suc n * a₁) (r * j) e (c (positive-left j (r * a₁) some)) in
    let top : num * (q * suc n) ≡ q * num * suc n = omega arith in
    let bottom : suc n * a₁ * (r * j) ≡ j * (r * a₁) * suc n = omega arith in
    encloses_reduced result (pos (q * num)) (j * (r * a₁)) (suc n) (omega arith) (rw (top, bottom) at product)

-- a value carried back
pub carried-worth : (later chance result : Ends) (num j₁ a₁ q r j most w v : ℕ)
    → EnclosesSetWorth num (j₁ * a₁) most w later → (j₁ ≡ 0 → num ≡ 0)
    → (0 < j → Encloses chance (pos (q * j₁)) (r * j)) → HasWidth chance v
    → Carries later chance result → EnclosesSetWorth (q * num) (j * (r * a₁)) most (w + (v + 1) * most) result
carried-worth later chance result num j₁ a₁ q r j most w v worth none c near carries = record {
  encloses = carried-encloses later chance result num j₁ a₁ q r j worth.encloses none c carries;
  narrow = carries.narrow most v w worth.within.high worth.narrow near;
  within = record { low = carries.from; high = carries.bound most worth.within.high };
}

-- and what is paid before
pub paid-worth : (before result : Ends) (num den most w paid : ℕ) → EnclosesSetWorth num den most w before
    → result.lo ≡ before.lo +ℤ pos (paid * fine)
    → result.hi ≡ before.hi +ℤ pos (paid * fine) → EnclosesSetWorth (paid * den + num) den (paid + most) w result
paid-worth before result num den most w paid worth lo hi = record {
  encloses = λ some.
      let one : Encloses (record { lo = pos (paid * fine); hi = pos (paid * fine) }) (pos (paid * den)) den =
      exactly paid den in
      let sum = encloses_add before (record { lo = pos (paid * fine); hi = pos (paid * fine) }) result
      (pos num) (pos (paid * den)) den lo hi (worth.encloses some) one in
      let e : num + paid * den ≡ paid * den + num = omega arith in
      rw e at sum;
  narrow = record { near = omega (arith, ints, lo, hi, worth.narrow.near) };
  within = record {
    low = omega (arith, ints, lo, worth.within.low);
    high = let e : (paid + most) * fine ≡ paid * fine + most * fine = omega arith in
        omega (arith, ints, hi, worth.within.high, e);
  };
}
  where
    exactly : (paid den : ℕ)
        → Encloses (record { lo = pos (paid * fine); hi = pos (paid * fine) }) (pos (paid * den)) den
    exactly paid den = let e : paid * fine * den ≡ paid * den * fine = omega arith in
        record { low = omega (arith, ints, e); high = omega (arith, ints, e) }

-- survivors only fall
falling : (x : PlainLife) → IsLife x → (t : ℕ) → x.survivors (suc t) ≤ x.survivors t
falling x rule t = ⊎_elim
    (λ (before : t < x.years_left). omega (arith, rule.falls t))
    (λ (after : x.years_left ≤ t). omega (arith, rule.ends (suc t) (omega arith)))
    (cases_lt t x.years_left)

cond-falls : (in_it : Bool) (m n : ℕ) → m ≤ n → cond in_it m 1 ≤ cond in_it n 1
cond-falls true m n h = h
cond-falls false m n h = omega arith

joint-falls : (t : ℕ) (U : ℕ → Bool) (lives : List PlainLife)
    → AreLives lives → joint_survivors (suc t) U lives ≤ joint_survivors t U lives
joint-falls t U [] rule = omega arith
joint-falls t U (x ∷ lives) rule =
    mul-le _ _ _ _ (cond-falls (U 0) _ _ (falling x rule.0 t)) (joint-falls t (after_first U) lives rule.1)

-- nothing is worth anything to a set that is gone
pub backward-gone : (b : Basis) → AreLives b.lives → (s : List Bool) (paid : ℕ → ℕ) (years t : ℕ)
    → joint_survivors t (in_set s) b.lives ≡ 0 → backward b s paid t years ≡ 0
backward-gone b rule s paid zero t none = refl
backward-gone b rule s paid (suc years) t none =
    let next : joint_survivors (suc t) (in_set s) b.lives ≡ 0 =
    omega (arith, none, joint-falls t (in_set s) b.lives rule) in
    rw (none, backward-gone b rule s paid years (suc t) next) (omega arith)

-- a set's value, carried back for a year
pub carried-set : (b : Basis) → AreLives b.lives
    → (n : ℕ) (s : List Bool) (paid : ℕ → ℕ) (years t v : ℕ) (later chance result : Ends) → t < b.last_time
    → EnclosesSet b n paid s (suc t) years later
    → (0 < joint_survivors t (in_set s) b.lives → Encloses chance (pos
    (b.q t * joint_survivors (suc t) (in_set s) b.lives)) ((b.p t + b.q t) * joint_survivors t (in_set s) b.lives))
    → HasWidth chance v → v ≤ 2 * n + 2 → Carries later chance result → EnclosesCarried b n paid s t years result
carried-set b rule n s paid years t v later chance result before worth c near small carries =
    let back =
    carried-worth later chance result (backward b s paid (suc t) years) (joint_survivors (suc t) (in_set s) b.lives)
    (accumulated b (suc t)) (b.q t) (b.p t + b.q t) (joint_survivors t (in_set s) b.lives)
    (paid_in_all paid (suc t) years)
    ((n + 2) * waited paid (suc t) years) v worth (backward-gone b rule s paid years (suc t)) c near carries in
    let e = accumulated-year b t before in
    record {
      encloses = rw e back.encloses;
      narrow =
          wider result _ _ (enough n v (paid_in_all paid (suc t) years) (waited paid (suc t) years) small) back.narrow;
      within = back.within;
    }
  where
    enough : (n v most w : ℕ) → v ≤ 2 * n + 2 → (n + 2) * w + (v + 1) * most ≤ (n + 2) * (2 * most + w)
    enough n v most w h = let m : v * most ≤ (2 * n + 2) * most = mul-le-mul_right most h in omega (arith, m)

-- and with what is paid before
pub paid-set : (b : Basis) (n : ℕ) (s : List Bool) (paid : ℕ → ℕ) (years t : ℕ) (before result : Ends)
    → EnclosesCarried b n paid s t years before
    → result.lo ≡ before.lo +ℤ pos (paid t * fine)
    → result.hi ≡ before.hi +ℤ pos (paid t * fine) → EnclosesSet b n paid s t (suc years) result
paid-set b n s paid years t before result worth lo hi = paid-worth before result _ _ _ _ (paid t) worth lo hi
