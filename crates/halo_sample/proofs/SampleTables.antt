-- Every table of a sample keeps what its law says.
use Rattle.std.proofs.Common.{◌≡◌, ℕ, zero, suc, ◌+◌, ◌*◌, ◌/◌, ◌^◌, ◌<◌, ◌≤◌, List, length, arith, refl}
use Rattle.std.proofs.lemmas.Nat.{mod_below}
use Rattle.std.proofs.Math.Nat.{mul-le-mul_left}
use Rattle.halo_sample.specs.declared.tables.Row.{Row}
use Rattle.halo_sample.specs.declared.tables.TheConstants.{DEATH_PARTS, LAPSE_PARTS, LAST_AGE, RADIX}
use Rattle.halo_sample.specs.Generator.{drawn, drawn_second, next_state, state_behind_two}
use Rattle.halo_sample.specs.Laws.{DrawsAreBelow, FEWEST, TablesAreSound, leavers, row_at}
use Rattle.halo_sample.specs.Tables.{drawn_row, rows_from, staying, table_rows}

-- what is drawn is below its bound
pub drawn-below : DrawsAreBelow
unfolding drawn
drawn-below n s some = mod_below (next_state s / 2 ^ 33) n some

-- before the last age fewer than one twentieth leave
few-leave : (l x s : ℕ) → x < LAST_AGE → 0 < l → leavers (drawn_row x l s) * 20 < l
few-leave l x s early some =
    let a = drawn DEATH_PARTS s in
    let b = drawn_second LAPSE_PARTS s in
    let deaths : 1 + a + 3 * x ≤ 347 = omega (arith, early, drawn-below DEATH_PARTS s (omega arith)) in
    let lapses : b ≤ 29 = omega (arith, drawn-below LAPSE_PARTS (next_state s) (omega arith)) in
    let die : l * (1 + a + 3 * x) ≤ l * 347 = mul-le-mul_left l deaths in
    let lapse : l * b ≤ l * 29 = mul-le-mul_left l lapses in
    omega (arith, die, lapse, some)

-- where more than so many are alive, and fewer than one twentieth leave in each of so many years,
-- more than the fewest are alive at the end
abbrev enough : ℕ → ℕ
enough zero = FEWEST
enough (suc years) = enough years * 20 / 19 + 1

more-than-fewest : (years : ℕ) → FEWEST ≤ enough years
more-than-fewest zero = omega arith
more-than-fewest (suc years) = omega (arith, more-than-fewest years)

-- what holds of the row at a place of rows from age x on, with so many ages before the last one,
-- where l are alive at age x
record HoldsAt (rows : List Row) (x l left i : ℕ) : Type 0 where
  age : (row_at rows i).age ≡ x + i
  most : (row_at rows i).alive ≤ l
  many : FEWEST < (row_at rows i).alive
  few : i < left → leavers (row_at rows i) * 20 < (row_at rows i).alive
  next : i < left → (row_at rows (suc i)).alive ≡ staying (row_at rows i)
  last : i ≡ left → leavers (row_at rows i) ≡ (row_at rows i).alive

first-alive : (left x l s : ℕ) → (row_at (rows_from left x l s) 0).alive ≡ l
unfolding rows_from
first-alive zero x l s = refl
first-alive (suc left) x l s = refl

pub row-count : (left x l s : ℕ) → length (rows_from left x l s) ≡ left + 1
unfolding rows_from
row-count zero x l s = refl
row-count (suc left) x l s = omega (arith, row-count left (suc x) (staying (drawn_row x l s)) (state_behind_two s))

holds-at : (left x l s i : ℕ) → i ≤ left → x + left ≡ LAST_AGE → enough left < l
    → HoldsAt (rows_from left x l s) x l left i
unfolding rows_from
holds-at zero x l s zero within sum many = record {
  age = omega (arith, sum);
  most = omega arith;
  many = many;
  few = λ more. absurd (omega (arith, more));
  next = λ more. absurd (omega (arith, more));
  last = λ here. omega arith;
}
holds-at zero x l s (suc i) within sum many = absurd (omega (arith, within))
holds-at (suc left) x l s zero within sum many =
    let early : x < LAST_AGE = omega (arith, sum) in
    let some : FEWEST < l = omega (arith, more-than-fewest left, many) in
    record {
      age = omega arith;
      most = omega arith;
      many = some;
      few = λ more. few-leave l x s early (omega (arith, some));
      next = λ more. first-alive left (suc x) (staying (drawn_row x l s)) (state_behind_two s);
      last = λ here. absurd (omega (arith, here));
    }
holds-at (suc left) x l s (suc i) within sum many =
    let early : x < LAST_AGE = omega (arith, sum) in
    let some : FEWEST < l = omega (arith, more-than-fewest left, many) in
    let few = few-leave l x s early (omega (arith, some)) in
    let stay : enough left < staying (drawn_row x l s) = omega (arith, many, few) in
    let h = holds-at left (suc x) (staying (drawn_row x l s)) (state_behind_two s) i
    (omega (arith, within)) (omega (arith, sum)) stay in
    record {
      age = omega (arith, h.age);
      most = omega (arith, h.most);
      many = h.many;
      few = λ more. h.few (omega (arith, more));
      next = λ more. h.next (omega (arith, more));
      last = λ here. h.last (omega (arith, here));
    }

pub tables-are-sound : TablesAreSound
tables-are-sound s =
    let rows = table_rows s in
    let at : (x : ℕ) → x ≤ LAST_AGE → HoldsAt rows 0 RADIX LAST_AGE x
    = λ x within. holds-at LAST_AGE 0 RADIX s x within (omega arith) (omega arith) in
    let next : (x : ℕ) → x < LAST_AGE → (row_at rows (x + 1)).alive ≡ staying (row_at rows x)
    = λ x before.
    let one : x + 1 ≡ suc x = omega arith in rw one ((at x (omega (arith, before))).next before) in
    record {
      count = row-count LAST_AGE 0 RADIX s;
      age = λ x within. omega (arith, (at x within).age);
      first = first-alive LAST_AGE 0 RADIX s;
      next = next;
      falls = λ x before. omega (arith, next x before);
      few = λ x before. (at x (omega (arith, before))).few before;
      many = λ x within. (at x within).many;
      most = λ x within. (at x within).most;
      last = (at LAST_AGE (omega arith)).last refl;
    }
