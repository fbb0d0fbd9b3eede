-- The value of a year back.
use Rattle.std.proofs.Common.{◌≡◌, ℕ, zero, suc, ◌+◌, ◌*◌, ◌≤◌, arith, refl, ℤ, pos, ◌+ℤ◌, ◌*ℤ◌, ◌≤ℤ◌, ⊎_elim, mul_comm}
use Rattle.std.proofs.lemmas.Bool.{cases_lt}
use Rattle.std.proofs.lemmas.Int.{ints}
use Rattle.halo_num.specs.Ends.{Ends, HasWidth, fine}
use Rattle.halo_num.specs.Enclosure.{Encloses}
use Rattle.halo_num.proofs.Enclosures.{encloses_at, encloses_reduced}
use Rattle.halo_sums.proofs.Integers.{mul_le_pos}
use Rattle.halo_compile.proofs.Sums.{wider}
use Rattle.halo_insure.specs.OneSet.{GoesBack}
use Rattle.halo_insure.specs.declared.due.Due.{Due}

-- what is worth nothing after a year that nobody survives is worth nothing, whatever came after
nothing-carried : (r later survival : Ends) (start rest : ℕ) → later.lo ≤ℤ later.hi
    → ((n m : ℤ) (d e : ℕ) → Encloses later n d → Encloses survival m e → Encloses r (n *ℤ m) (d * e))
    → Encloses survival (pos 0) start → Encloses r (pos 0) (start * rest)
nothing-carried r later survival start rest order product none =
    let whole : Encloses later later.lo fine =
    record { low = omega (arith, ints); high = mul_le_pos later.lo later.hi fine order } in
    let zero_times : later.lo *ℤ pos 0 ≡ pos 0 = omega (arith, ints) in
    let e : Encloses r (pos 0) (fine * start) = rw zero_times at (product later.lo (pos 0) fine start whole none) in
    let f : Encloses r (pos 0) start =
    encloses_reduced r (pos 0) start fine (omega arith) (rw (mul_comm start fine) e) in
    encloses_at r (pos 0) (pos 0) start (start * rest) rest f (omega (arith, ints)) refl

-- what comes later, if all survive the year
pub carried : (r later survival : Ends) (alive start x rest : ℕ) → later.lo ≤ℤ later.hi
    → ((n m : ℤ) (d e : ℕ) → Encloses later n d → Encloses survival m e → Encloses r (n *ℤ m) (d * e))
    → Encloses survival (pos alive) start
    → Encloses later (pos x) (alive * rest) → (alive ≡ 0 → x ≡ 0) → Encloses r (pos x) (start * rest)
carried r later survival zero start x rest order product survive value none =
    rw (none refl) (nothing-carried r later survival start rest order product survive)
carried r later survival (suc alive) start x rest order product survive value none =
    let e : suc alive * rest * start ≡ start * rest * suc alive = omega arith in
    encloses_reduced r (pos x) (start * rest)
    (suc alive) (omega arith) (rw e at (product (pos x) (pos (suc alive)) (suc alive * rest) start value survive))

-- a year back
pub back : (due sum r discount carry : Ends) (left start x rest q i : ℕ)
    → ((n m : ℤ) (d : ℕ) → Encloses due n d → Encloses carry m d → Encloses sum (n +ℤ m) d)
    → ((n m : ℤ) (d e : ℕ) → Encloses sum n d → Encloses discount m e → Encloses r (n *ℤ m) (d * e))
    → Encloses due (pos left) start → Encloses carry (pos x) (start * rest) → Encloses discount (pos q) i
    → Encloses r (pos (q * (left * rest + x))) (start * (i * rest))
back due sum r discount carry left start x rest q i add mul d c v =
    let e : (left * rest + x) * q ≡ q * (left * rest + x) = mul_comm (left * rest + x) q in
    let f : start * rest * i ≡ start * (i * rest) = omega arith in
    rw (e, f) at (mul (pos (left * rest + x)) (pos q) (start * rest) i (add (pos (left * rest)) (pos x)
    (start * rest) (encloses_at due (pos left) (pos (left * rest)) start (start * rest) rest d refl refl) c) v)

-- the widths of a year back: of what is due, of what is carried, and of the discount
pub back-narrow : (due b w d : ℕ)
    → 1 ≤ due + b → (due * d + (w + d * b + 1)) * 1 + 1 * (due + b) + 1 ≤ w + (d + 3) * (due + b)
back-narrow due b w d some = omega (arith, some)

-- nothing due and nothing carried is exactly nothing
nothing-narrow : (r : Ends) (w : ℕ) → pos 0 ≤ℤ r.lo → r.hi ≤ℤ pos (0 * fine) → HasWidth r w
nothing-narrow r w from bound = record { near = omega (arith, ints, from, bound) }

pub year-narrow : (r : Ends) (due b w d : ℕ) → pos 0 ≤ℤ r.lo → r.hi ≤ℤ pos ((due + b) * fine)
    → HasWidth r ((due * d + (w + d * b + 1)) * 1 + 1 * (due + b) + 1) → HasWidth r (w + (d + 3) * (due + b))
year-narrow r due b w d from bound h = ⊎_elim
    (λ none. let e : due + b ≡ 0 = omega arith in nothing-narrow r _ from (rw e at bound))
    (λ some. wider r _ _ (back-narrow due b w d some) h)
    (cases_lt (due + b) 1)

-- where nothing is due and nothing comes later, a year back it is exactly nothing
pub nothing-back : (later leave survive discount r : Ends) (due : Due)
    → pos 0 ≤ℤ later.lo → later.lo ≤ℤ later.hi → later.hi ≤ℤ pos 0 → due.on_leaving + due.at_end ≡ 0
    → r.lo ≡ pos 0 → r.hi ≡ pos 0 → GoesBack later leave survive discount due r
nothing-back later leave survive discount r due from order none nothing lo hi =
    let last : later.hi ≡ pos 0 = omega (arith, ints, from, order, none) in
    let on_leaving : due.on_leaving ≡ 0 = omega (arith, nothing) in
    let at_end : due.at_end ≡ 0 = omega (arith, nothing) in
    record {
      from = omega (arith, ints, lo);
      bound = λ m h. omega (arith, ints, hi);
      narrow = λ m u e h p q s d. record { near = omega (arith, ints, lo, hi) };
      encloses = λ left live start x rest q i l s d v ended.
          let high = rw last at v.high in
          let later_none : x ≡ 0 = omega (arith, ints, high) in
          let all : q * ((due.on_leaving * left + due.at_end * live) * rest + x) ≡ 0 =
          rw (on_leaving, at_end, later_none) (omega arith) in
          rw all (record { low = rw lo (omega (arith, ints)); high = rw hi (omega (arith, ints)) });
    }
