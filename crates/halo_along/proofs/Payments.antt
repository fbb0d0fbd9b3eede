-- A payment times the value of 1 encloses the value of the payment.
use Rattle.std.proofs.Common.{◌≡◌, ℕ, ◌*◌, ◌^◌, ◌≤◌, Bool, true, false, cond, ℤ, pos, negsuc, ◌*ℤ◌, ◌≤ℤ◌, arith, refl, rules, to_z, of_z, w64}
use Rattle.std.specs.Int.{int_max, int_min}
use Rattle.std.proofs.Math.IntN.{*ℤ-zero}
use Rattle.std.proofs.lemmas.Int.{ints, to_z-of_z}
use Rattle.std.proofs.lemmas.Nat.{mul-le}
use Rattle.halo_sums.specs.Masks.{has_bit}
use Rattle.halo_num.specs.Ends.{Ends, HasWidth, IsSized, IsWithin, fine}
use Rattle.halo_num.specs.Enclosure.{Encloses}
use Rattle.halo_status.specs.Pay.{pay_of}
use Rattle.halo_contract.specs.declared.ties.Ties.TheVariants.{Declared}
use Rattle.halo_model.specs.Backward.{paid_at}
use Rattle.halo_model.specs.Basis.{Basis}
use Rattle.halo_model.specs.Counts.{greatest_factor}
use Rattle.halo_model.specs.Enclosed.{of_one}
use Rattle.halo_along.specs.Along.{basis_of_tree_task}
use Rattle.halo_along.specs.Years.{EnclosesOnePaid, EnclosesPayment, EnclosesPresent, present_value_of_one}
use Rattle.halo_along.specs.declared.tree_task.TreeTask.{TreeTask}
use Rattle.halo_along.proofs.Counting.{paid-within}

-- a payment is a number, however it is written
payment-is : (z : ℤ) (paid : ℕ) → paid ≤ 201 → z ≡ pos paid → to_z w64 (of_z w64 z) ≡ pos paid
payment-is z paid few e = rw e (search (rules, to_z-of_z))

-- a part of 1 times a payment
part-times : (z : ℤ) (paid : ℕ) → pos 0 ≤ℤ z → z ≤ℤ pos fine → paid ≤ 201
    → (pos 0 ≤ℤ (z *ℤ pos paid)) × ((z *ℤ pos paid) ≤ℤ pos (201 * fine))
part-times (pos n) paid low high few =
    let bound : n * paid ≤ fine * 201 = mul-le n paid fine 201 (omega (arith, ints, high)) few in
    (omega (arith, ints), omega (arith, ints, bound))
part-times (negsuc n) paid low high few = absurd (omega (arith, ints, low))

part-sized : (z : ℤ) (paid : ℕ) → pos 0 ≤ℤ z → z ≤ℤ pos fine → paid ≤ 201 → IsSized (z *ℤ pos paid) (10 ^ 36)
part-sized z paid low high few =
    let bounds = part-times z paid low high few in
    record { low = omega (arith, ints, bounds.0); high = omega (arith, ints, bounds.1) }

part-within : (i r : Ends) (paid : ℕ) → paid ≤ 201 → i.lo ≤ℤ i.hi → IsWithin i (pos 0) (pos fine)
    → r.lo ≡ int_min (i.lo *ℤ pos paid) (i.hi *ℤ pos paid) → r.hi ≡ int_max (i.lo *ℤ pos paid) (i.hi *ℤ pos paid)
    → IsWithin r (pos 0) (pos (201 * fine))
part-within i r paid few order is low high =
    let below = part-times i.lo paid is.low (omega (arith, ints, order, is.high)) few in
    let above = part-times i.hi paid (omega (arith, ints, order, is.low)) is.high few in
    record {
      low = rw low (either (λ z. pos 0 ≤ℤ z) _ _ _ above.0 below.0);
      high = rw high (either (λ z. z ≤ℤ pos (201 * fine)) _ _ _ below.1 above.1);
    }
  where
    either : (P : ℤ → Type 0) (is : Bool) (x y : ℤ) → P x → P y → P (cond is x y)
    either P true x y a c = a
    either P false x y a c = c

-- a payment times the value of 1 encloses the value of the payment, wider by its size
module _ (b : Basis) (T : ℕ) (S : ℕ → Bool) (value : ℤ) (w : ℕ) (one : Ends) (is : EnclosesPresent b T S value w 1 one)
    (order : one.lo ≤ℤ one.hi) (written : ℤ) (paid : ℕ) (is_paid : written ≡ pos paid) (few : paid ≤ 201) where
  abbrev times : ℤ
  times = to_z w64 (of_z w64 written)

  part : IsWithin one (pos 0) (pos fine)
  part = record { low = is.within.low; high = omega (arith, ints, is.within.high) }

  -- the ends of the value of 1 have room for its payment
  pub low-has-room : IsSized (one.lo *ℤ times) (10 ^ 36)
  low-has-room = rw (payment-is written paid few is_paid)
      (part-sized one.lo paid part.low (omega (arith, ints, order, part.high)) few)

  pub high-has-room : IsSized (one.hi *ℤ times) (10 ^ 36)
  high-has-room = rw (payment-is written paid few is_paid)
      (part-sized one.hi paid (omega (arith, ints, order, part.low)) part.high few)

  pub present-times : (r : Ends) (factor : ℕ) → paid ≤ factor
      → r.lo ≡ int_min (one.lo *ℤ times) (one.hi *ℤ times) → r.hi ≡ int_max (one.lo *ℤ times) (one.hi *ℤ times)
      → ((x : ℤ) (d : ℕ) → Encloses one x d → Encloses r (x *ℤ times) d)
      → ((v m : ℕ) → HasWidth one v → IsSized times m → HasWidth r (v * m))
      → EnclosesPresent b T S (value *ℤ pos paid) (w * factor) 201 r
  present-times r factor within low high encloses narrow =
      let e = payment-is written paid few is_paid in
      record {
        encloses = rw (← e) (encloses _ _ is.encloses);
        narrow = narrow w factor is.narrow
            (rw e (record { low = omega (arith, ints); high = omega (arith, ints, within) }));
        within = part-within one r paid few order part (rw e at low) (rw e at high);
      }

module _ {n : ℕ} (along : TreeTask n) (t : ℕ) (one : Ends) (is : EnclosesOnePaid along t one)
    (order : one.lo ≤ℤ one.hi) (written : ℤ) (paid : ℕ) (is_paid : written ≡ pos paid) (few : paid ≤ 201) where
  pub low-sized : IsSized (one.lo *ℤ to_z w64 (of_z w64 written)) (10 ^ 36)
  unfolding EnclosesOnePaid
  low-sized = low-has-room _ _ _ _ _ one (is Declared) order written paid is_paid few

  pub high-sized : IsSized (one.hi *ℤ to_z w64 (of_z w64 written)) (10 ^ 36)
  unfolding EnclosesOnePaid
  high-sized = high-has-room _ _ _ _ _ one (is Declared) order written paid is_paid few

  -- so of what an annuity pays at a time
  pub payment-encloses : (r : Ends) → t ≤ along.horizon
      → paid ≡ paid_at (of_one (pay_of along.pay.now)) along.group.now.start t
      → (let times = to_z w64 (of_z w64 written) in
      r.lo ≡ int_min (one.lo *ℤ times) (one.hi *ℤ times) → r.hi ≡ int_max (one.lo *ℤ times) (one.hi *ℤ times)
      → ((x : ℤ) (d : ℕ) → Encloses one x d → Encloses r (x *ℤ times) d)
      → ((v m : ℕ) → HasWidth one v → IsSized times m → HasWidth r (v * m))
      → EnclosesPayment along t r)
  unfolding EnclosesOnePaid EnclosesPayment
  payment-encloses r to value low high encloses narrow ties =
      rw (← value) (present-times _ _ _ _ _ one (is ties) order written paid is_paid few r
      (greatest_factor along.pay.now.vary along.horizon)
      (omega (arith, value, paid-within (of_one (pay_of along.pay.now)) refl along.group.now.start t along.horizon to))
      low high encloses narrow)

-- where nothing is paid the value is 0
pub nothing-paid : {n : ℕ} (along : TreeTask n) (t paid : ℕ) (r : Ends)
    → paid ≡ paid_at (of_one (pay_of along.pay.now)) along.group.now.start t → paid ≡ 0
    → r.lo ≡ pos 0 → r.hi ≡ pos 0 → EnclosesPayment along t r
unfolding EnclosesPayment
nothing-paid along t paid r is none low high ties =
    let b = basis_of_tree_task along ties in
    let value = present_value_of_one b (of_one (pay_of along.pay.now)) along.group.now.start
    (has_bit along.group.now.alive) t in
    rw (← is, none, *ℤ-zero value) (record {
      encloses = record { low = rw low (omega (arith, ints)); high = rw high (omega (arith, ints)) };
      narrow = record { near = omega (arith, ints, low, high) };
      within = record { low = omega (arith, ints, low); high = omega (arith, ints, high) };
    })
