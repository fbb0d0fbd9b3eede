-- The value for a set, apart by the sign of its coefficients.
use Rattle.std.proofs.Common.{◌≡◌, ℕ, zero, suc, ◌+◌, ◌*◌, ◌-◌, ◌<◌, ◌≤◌, arith, refl, ap, ◌∙◌, List, [], ◌∷◌, length, Bool, true, false, cond, ◌&&◌, nat_le, nat_lt, ℤ, pos, negsuc, ◌+ℤ◌, ◌*ℤ◌, ◌-ℤ◌, ⊎_elim}
use Rattle.std.proofs.Math.Path.{fun_ext}
use Rattle.std.proofs.lemmas.Bool.Decides.{nat_tests}
use Rattle.std.proofs.lemmas.Int.{ints}
use Rattle.halo_sums.specs.Sums.{int_sum_over, sum_over}
use Rattle.halo_sums.specs.Sets.{in_set}
use Rattle.halo_sums.proofs.Integers.{mul_add, mul_sub, sub_mul}
use Rattle.halo_status.specs.Pay.{PlainPay}
use Rattle.halo_model.specs.Backward.{above_zero, below_zero}
use Rattle.halo_model.specs.Basis.{Basis, accumulated, taken}
use Rattle.halo_model.specs.Chance.{IsValidInsurance, asked}
use Rattle.halo_model.specs.Coefficient.{form}
use Rattle.halo_model.specs.EvenTies.{first_leaving, lives_in}
use Rattle.halo_model.specs.Horizon.{horizon}
use Rattle.halo_model.specs.Life.{AreLives}
use Rattle.halo_model.specs.Order.{rank_in}
use Rattle.halo_model.specs.Outcome.{joint_survivors}
use Rattle.halo_model.specs.Payment.{payment}
use Rattle.halo_model.specs.SetValue.{SomeEvents, due_for_year, ending_weight, leaving_weight, set_value, value_over}
use Rattle.halo_model.proofs.LeavingsOfASet.{leavings-of-a-set}
use Rattle.halo_insure.specs.declared.due.Due.{Due}
use Rattle.halo_insure.specs.Dues.{NothingAfter, SetValueIsWorth, coefficient_before, due_of, ends_count}
use Rattle.halo_insure.specs.Leavings.{counted_numbers, counts}
use Rattle.halo_insure.specs.OneSet.{worth_of_dues}
use Rattle.halo_insure.proofs.Horizon.{nothing-is-due-after}
use Rattle.halo_insure.proofs.Nobody.{nobody-leaves, nobody-survives}

-- an integer is its part above 0 less its part below
signs : (z : ℤ) → z ≡ pos (above_zero z) -ℤ pos (below_zero z)
signs (pos n) = omega (arith, ints)
signs (negsuc n) = omega (arith, ints)

part-signed : (p k : ℕ) (z : ℤ) → pos p *ℤ (z *ℤ pos k) ≡ pos (p * above_zero z * k) -ℤ pos (p * below_zero z * k)
part-signed p k z =
    let x : p * (above_zero z * k) ≡ p * above_zero z * k = omega arith in
    let y : p * (below_zero z * k) ≡ p * below_zero z * k = omega arith in
    ap (λ w. pos p *ℤ (w *ℤ pos k)) (signs z)
    ∙ ap (λ w. pos p *ℤ w) (sub_mul (pos (above_zero z)) (pos (below_zero z)) (pos k))
    ∙ mul_sub (pos p) (pos (above_zero z * k)) (pos (below_zero z * k))
    ∙ ap (λ (n : ℕ). pos n -ℤ pos (p * (below_zero z * k))) x
    ∙ ap (λ (n : ℕ). pos (p * above_zero z * k) -ℤ pos n) y

both-none : (x y : ℤ) → x *ℤ pos 0 ≡ y *ℤ pos 0
both-none x y = omega (arith, ints)

-- a year's due, by signs
year-signed : (due ends : Bool) (p l a : ℕ) (c d : ℤ)
    → cond due (pos p *ℤ (c *ℤ pos l +ℤ d *ℤ cond ends (pos a) (pos 0))) (pos 0)
    ≡ pos (cond due (p * above_zero c) 0 * l + cond (due && ends) (p * above_zero d) 0 * a)
    -ℤ pos (cond due (p * below_zero c) 0 * l + cond (due && ends) (p * below_zero d) 0 * a)
year-signed false ends p l a c d = omega (arith, ints)
year-signed true true p l a c d = mul_add (pos p) (c *ℤ pos l) (d *ℤ pos a) ∙ ap (λ z. z +ℤ pos p *ℤ (d *ℤ pos a))
    (part-signed p l c) ∙ ap (λ z. pos (p * above_zero c * l) -ℤ pos (p * below_zero c * l) +ℤ z) (part-signed p a d)
    ∙ together (p * above_zero c * l) (p * below_zero c * l) (p * above_zero d * a) (p * below_zero d * a)
  where
    together : (x y z w : ℕ) → pos x -ℤ pos y +ℤ (pos z -ℤ pos w) ≡ pos (x + z) -ℤ pos (y + w)
    together x y z w = omega (arith, ints)
year-signed true false p l a c d = ap (λ z. pos p *ℤ z) (alone (c *ℤ pos l) d)
    ∙ part-signed p l c ∙ same (p * above_zero c * l) (p * below_zero c * l)
  where
    alone : (z d : ℤ) → z +ℤ d *ℤ pos 0 ≡ z
    alone z d = omega (arith, ints)

    same : (x y : ℕ) → pos x -ℤ pos y ≡ pos (x + 0 * a) -ℤ pos (y + 0 * a)
    same x y = omega (arith, ints)

module _ (b : Basis) (due : ℕ → ℤ) where
  -- nothing due later adds nothing
  none-later : (years k : ℕ) → ((j : ℕ) → k ≤ j → due j ≡ pos 0) → value_over b due k years ≡ pos 0
  none-later zero k none = refl
  none-later (suc years) k none = rw (none k (omega arith), none-later years (suc k) (λ j from. none j (omega arith)))
      (nothing (pos (b.q k)) (accumulated b (suc k)))
    where
      nothing : (q : ℤ) (a : ℕ) → q *ℤ (pos 0 *ℤ pos a +ℤ pos 0) ≡ pos 0
      nothing q a = ap (λ z. q *ℤ z) (inner a) ∙ outer q
        where
          inner : (a : ℕ) → pos 0 *ℤ pos a +ℤ pos 0 ≡ pos 0
          inner a = omega (arith, ints)

          outer : (q : ℤ) → q *ℤ pos 0 ≡ pos 0
          outer q = omega (arith, ints)

  up-to : (years more k : ℕ)
      → ((j : ℕ) → k + years ≤ j → due j ≡ pos 0) → value_over b due k (years + more) ≡ value_over b due k years
  up-to zero more k none = let e : 0 + more ≡ more = omega arith in
      ap (value_over b due k) e ∙ none-later more k (λ j from. none j (omega arith))
  up-to (suc years) more k none = let e : suc years + more ≡ suc (years + more) = omega arith in
      ap (value_over b due k) e
      ∙ ap (λ z. pos (b.q k) *ℤ (due k *ℤ pos (accumulated b (suc k)) +ℤ z))
      (up-to years more (suc k) (λ j from. none j (omega arith)))

  by-signs : (leaving living : ℕ → ℕ) (plus minus : ℕ → Due) (years k : ℕ)
      → ((j : ℕ) → k ≤ j → j < k + years → due j ≡ pos ((plus j).on_leaving * leaving j + (plus j).at_end
      * living (suc j)) -ℤ pos ((minus j).on_leaving * leaving j + (minus j).at_end * living (suc j)))
      → value_over b due k years
      ≡ pos (worth_of_dues b leaving living plus k years) -ℤ pos (worth_of_dues b leaving living minus k years)
  by-signs leaving living plus minus zero k h = omega (arith, ints)
  by-signs leaving living plus minus (suc years) k h = rw (
    h k (omega arith) (omega arith),
    by-signs leaving living plus minus years (suc k) (λ j from below. h j (omega arith) (omega arith)),
  )
      (regroup (b.q k) (accumulated b (suc k)) _ _ _ _)
    where
      regroup : (q a x y w v : ℕ)
          → pos q *ℤ ((pos x -ℤ pos y) *ℤ pos a +ℤ (pos w -ℤ pos v)) ≡ pos (q * (x * a + w)) -ℤ pos (q * (y * a + v))
      regroup q a x y w v = ap (λ z. pos q *ℤ (z +ℤ (pos w -ℤ pos v))) (sub_mul (pos x) (pos y) (pos a))
          ∙ ap (λ z. pos q *ℤ z) (sums (x * a) (y * a) w v) ∙ mul_sub (pos q) (pos (x * a + w)) (pos (y * a + v))
        where
          sums : (x y w v : ℕ) → pos x -ℤ pos y +ℤ (pos w -ℤ pos v) ≡ pos (x + w) -ℤ pos (y + v)
          sums x y w v = omega (arith, ints)

module _ (b : Basis) (rule : AreLives b.lives) (pay : PlainPay)
    (is : IsValidInsurance pay) (events : SomeEvents) (s : List Bool) (len : length s ≡ length b.lives) where
  abbrev H : ℕ
  H = horizon b.lives pay.body

  abbrev living : ℕ → ℕ
  living k = joint_survivors k (in_set s) b.lives

  after : NothingAfter b pay s
  after = nothing-is-due-after b rule pay is s len

  -- a coefficient from the horizon on counts nothing
  end-lost : (k : ℕ) → (form pay k s -ℤ form pay (suc k) s) *ℤ ending_weight pay events b.lives k s
      ≡ (form pay k s -ℤ coefficient_before pay H (suc k) s) *ℤ ending_weight pay events b.lives k s
  end-lost k = each (nat_lt (suc k) H) refl (ends_count pay events (suc k))
    where
      each : (before : Bool) → nat_lt (suc k) H ≡ before
          → (ends : Bool) → (form pay k s -ℤ form pay (suc k) s) *ℤ cond ends (pos (living (suc k))) (pos 0)
          ≡ (form pay k s -ℤ cond before (form pay (suc k) s) (pos 0)) *ℤ cond ends (pos (living (suc k))) (pos 0)
      each true e ends = refl
      each false e false = both-none (form pay k s -ℤ form pay (suc k) s) (form pay k s -ℤ pos 0)
      each false e true = ⊎_elim
          (λ none. ap (λ z. (form pay k s -ℤ z) *ℤ pos (living (suc k))) none)
          (λ gone. rw gone (both-none (form pay k s -ℤ form pay (suc k) s) (form pay k s -ℤ pos 0)))
          (after (suc k) (grind (arith, nat_tests)))

  -- in one order of the lives
  module _ (rank : ℕ → ℕ) where
    abbrev leaving : ℕ → ℕ
    leaving k = first_leaving (counted_numbers b pay events k) rank (lives_in (length b.lives) (in_set s))

    leaving-weight-is : (k : ℕ) → leaving_weight pay events rank b.lives k s ≡ pos (leaving k)
    leaving-weight-is k = leavings-of-a-set b.lives k (counts pay events) (asked pay.causes) rank s len

    abbrev due : ℕ → ℤ
    due k = due_for_year pay events rank b.lives k s

    due-is : (k : ℕ) → due k ≡ pos ((due_of above_zero pay events H s k).on_leaving * leaving k
        + (due_of above_zero pay events H s k).at_end * living (suc k))
        -ℤ pos ((due_of below_zero pay events H s k).on_leaving * leaving k
        + (due_of below_zero pay events H s k).at_end * living (suc k))
    due-is k = ap (λ z. cond (nat_le pay.defer k) (pos (payment pay (k - pay.defer))
        *ℤ (form pay k s *ℤ leaving_weight pay events rank b.lives k s +ℤ z)) (pos 0)) (end-lost k)
        ∙ ap (λ z. cond (nat_le pay.defer k) (pos (payment pay (k - pay.defer)) *ℤ (form pay k s *ℤ z
        +ℤ (form pay k s -ℤ coefficient_before pay H (suc k) s) *ℤ ending_weight pay events b.lives k s)) (pos 0))
        (leaving-weight-is k)
        ∙ year-signed (nat_le pay.defer k) (ends_count pay events (suc k)) (payment pay (k - pay.defer))
        (leaving k) (living (suc k)) (form pay k s) (form pay k s -ℤ coefficient_before pay H (suc k) s)

    -- from the horizon on nothing is due
    due-after : (k : ℕ) → H ≤ k → due k ≡ pos 0
    due-after k past = ap (λ z. cond (nat_le pay.defer k) (pos (payment pay (k - pay.defer))
        *ℤ (form pay k s *ℤ leaving_weight pay events rank b.lives k s +ℤ z)) (pos 0)) (end-lost k)
        ∙ ap (λ z. cond (nat_le pay.defer k) (pos (payment pay (k - pay.defer)) *ℤ (form pay k s *ℤ z
        +ℤ (form pay k s -ℤ coefficient_before pay H (suc k) s) *ℤ ending_weight pay events b.lives k s)) (pos 0))
        (leaving-weight-is k)
        ∙ ap (λ z. cond (nat_le pay.defer k) (pos (payment pay (k - pay.defer)) *ℤ z) (pos 0)) nothing
        ∙ paid (nat_le pay.defer k) (payment pay (k - pay.defer))
      where
        paid : (due : Bool) (p : ℕ) → cond due (pos p *ℤ pos 0) (pos 0) ≡ pos 0
        paid true p = omega (arith, ints)
        paid false p = refl

        no-times : (z w : ℤ) → pos 0 *ℤ z +ℤ (pos 0 -ℤ pos 0) *ℤ w ≡ pos 0
        no-times z w = omega (arith, ints)

        times-no : (z w : ℤ) → z *ℤ pos 0 +ℤ w *ℤ pos 0 ≡ pos 0
        times-no z w = omega (arith, ints)

        ends-none : (ends : Bool) (n : ℕ) → n ≡ 0 → cond ends (pos n) (pos 0) ≡ pos 0
        ends-none true n e = ap pos e
        ends-none false n e = refl

        beyond : nat_lt (suc k) H ≡ false
        beyond = grind (arith, nat_tests, past)

        silent : form pay k s ≡ pos 0 → form pay k s *ℤ pos (leaving k)
            +ℤ (form pay k s -ℤ coefficient_before pay H (suc k) s) *ℤ ending_weight pay events b.lives k s ≡ pos 0
        silent none = rw (none, beyond) (no-times (pos (leaving k)) (ending_weight pay events b.lives k s))

        nothing : form pay k s *ℤ pos (leaving k)
            +ℤ (form pay k s -ℤ coefficient_before pay H (suc k) s) *ℤ ending_weight pay events b.lives k s ≡ pos 0
        nothing = ⊎_elim
            silent
            (λ gone.
            let l : leaving k ≡ 0 = nobody-leaves b rule pay events s len k gone rank in
            let a : living (suc k) ≡ 0 = nobody-survives b rule pay events s len k gone in
            let e : ending_weight pay events b.lives k s ≡ pos 0 =
            ends-none (ends_count pay events (suc k)) (living (suc k)) a in
            rw (l, e) (times-no (form pay k s) (form pay k s -ℤ coefficient_before pay H (suc k) s)))
            (after k past)

    -- what the set is worth in this order
    value-is : (T : ℕ) → H ≤ b.last_time → set_value b pay events rank T s
        ≡ pos (worth_of_dues b leaving living (due_of above_zero pay events H s) T (H - T))
        -ℤ pos (worth_of_dues b leaving living (due_of below_zero pay events H s) T (H - T))
    value-is T in_time =
        let years : b.last_time - T ≡ (H - T) + (b.last_time - T - (H - T)) = omega arith in
        ap (value_over b due T) years
        ∙ up-to b due (H - T) (b.last_time - T - (H - T)) T (λ j from. due-after j (omega arith))
        ∙ by-signs b due leaving living
        (due_of above_zero pay events H s) (due_of below_zero pay events H s) (H - T) T (λ j from below. due-is j)

-- the worth of what is due is a sum over parts of the leavings and the survivors
module _ (b : Basis) (due : ℕ → Due) where
  worth-none : (years k : ℕ) → worth_of_dues b (λ j. 0) (λ j. 0) due k years ≡ 0
  worth-none zero k = refl
  worth-none (suc years) k = rw (worth-none years (suc k)) (omega arith)

  worth-add : (leaving more alive others : ℕ → ℕ) (years k : ℕ)
      → worth_of_dues b leaving alive due k years + worth_of_dues b more others due k years
      ≡ worth_of_dues b (λ j. leaving j + more j) (λ j. alive j + others j) due k years
  worth-add leaving more alive others zero k = refl
  worth-add leaving more alive others (suc years) k =
      rw (← (worth-add leaving more alive others years (suc k))) (omega arith)

module _ (b : Basis) (plus minus : ℕ → Due) (leaving : List ℕ → ℕ → ℕ) (alive : ℕ → ℕ) (k years : ℕ) where
  -- over some orders
  over-orders : (orders : List (List ℕ)) (value : List ℕ → ℤ)
      → ((order : List ℕ) → value order ≡ pos (worth_of_dues b (leaving order) alive plus k years)
      -ℤ pos (worth_of_dues b (leaving order) alive minus k years))
      → int_sum_over orders value
      ≡ pos (worth_of_dues b (λ j. sum_over orders (λ order. leaving order j))
      (λ j. length orders * alive j) plus k years) -ℤ pos (worth_of_dues b
      (λ j. sum_over orders (λ order. leaving order j)) (λ j. length orders * alive j) minus k years)
  over-orders [] value each = rw (none plus, none minus) refl
    where
      none : (due : ℕ → Due) → worth_of_dues b (λ j. 0) (λ j. 0 * alive j) due k years ≡ 0
      none due = ap (λ (a : ℕ → ℕ). worth_of_dues b (λ j. 0) a due k years) (fun_ext (λ j. zero-times (alive j)))
          ∙ worth-none b due years k
        where
          zero-times : (n : ℕ) → 0 * n ≡ 0
          zero-times n = omega arith
  over-orders (order ∷ orders) value each =
      rw (each order, over-orders orders value each) (join _ _ _ _ _ _ (more plus) (more minus))
    where
      one-more : (n a : ℕ) → a + n * a ≡ suc n * a
      one-more n a = omega arith

      more : (due : ℕ → Due) → worth_of_dues b (leaving order) alive due k years
          + worth_of_dues b (λ j. sum_over orders (λ o. leaving o j)) (λ j. length orders * alive j) due k years
          ≡ worth_of_dues b (λ j. leaving order j + sum_over orders (λ o. leaving o j))
          (λ j. suc (length orders) * alive j) due k years
      more due = worth-add b due
          (leaving order) (λ j. sum_over orders (λ o. leaving o j)) alive (λ j. length orders * alive j) years k
          ∙ ap (λ (a : ℕ → ℕ). worth_of_dues b (λ j. leaving order j + sum_over orders (λ o. leaving o j))
          a due k years) (fun_ext (λ j. one-more (length orders) (alive j)))

      join : (x y u v w z : ℕ) → x + u ≡ w → y + v ≡ z → (pos x -ℤ pos y) +ℤ (pos u -ℤ pos v) ≡ pos w -ℤ pos z
      join x y u v w z e f = omega (arith, ints, e, f)

pub set-value-is-worth : SetValueIsWorth
set-value-is-worth b rule pay is events T in_time s len =
    let H : ℕ = horizon b.lives pay.body in
    over-orders b (due_of above_zero pay events H s) (due_of below_zero pay events H s)
    (λ order k. first_leaving (counted_numbers b pay events k) (rank_in order) (lives_in (length b.lives) (in_set s)))
    (λ k. joint_survivors k (in_set s) b.lives) T (H - T)
    (taken b) (λ order. set_value b pay events (rank_in order) T s)
    (λ order. value-is b rule pay is events s len (rank_in order) T in_time)
