-- Present values along the tree, over the common denominator of all values.
use Rattle.std.proofs.Common.{◌≡◌, ℕ, suc, ◌+◌, ◌-◌, ◌*◌, ◌<◌, ◌≤◌, arith, ap, ◌∙◌, Bool, true, false, cond, ◌++◌, ℤ, pos, ◌-ℤ◌, ◌*ℤ◌, nat_lt}
use Rattle.std.proofs.lemmas.Int.{ints}
use Rattle.std.proofs.Math.Nat.{mul-pos}
use Rattle.halo_sums.specs.Sums.{indicator, numbers_from, product_over}
use Rattle.halo_sums.proofs.Integers.{mul_assoc, mul_comm}
use Rattle.halo_sums.proofs.Numbers.{numbers_from-add}
use Rattle.halo_sums.proofs.Sums.{product_over-append}
use Rattle.halo_num.specs.Ends.{Ends}
use Rattle.halo_num.specs.Enclosure.{Encloses}
use Rattle.halo_num.proofs.Enclosures.{encloses_reduced, encloses_scaled}
use Rattle.halo_status.specs.Tree.{Tree}
use Rattle.halo_status.specs.View.{is_on}
use Rattle.halo_status.specs.declared.view.View.TheVariants.{Due}
use Rattle.halo_model.specs.EvenTies.{without}
use Rattle.halo_model.specs.Outcome.{joint_survivors}
use Rattle.halo_model.specs.Basis.{Basis, accumulated}
use Rattle.halo_model.specs.Event.{ends}
use Rattle.halo_model.specs.Payment.{falls_on}
use Rattle.halo_model.specs.Coefficient.{view_of}
use Rattle.halo_model.specs.Expectation.{expected, looked_at}
use Rattle.halo_model.specs.Chance.{asked, paid_on_leaving}
use Rattle.halo_model.specs.Part.{existing_weight}
use Rattle.halo_model.specs.ByTree.{weight_of, whole_of}
use Rattle.halo_model.specs.Independent.{started_of, survivors_of}
use Rattle.halo_model.specs.PartsByTree.{leavers_of, put_for, waiting}
use Rattle.halo_model.proofs.Independent.{survivors_of-le}
use Rattle.halo_model.proofs.Leaving.{HasYear-within}
use Rattle.halo_model.proofs.Losses.{pay-loss-is-not-negative}
use Rattle.halo_model.proofs.PartsByTree.{chance-on-end-by-tree, chance-on-leaving-by-tree, existing-by-tree, joint-with}
use Rattle.halo_chance.specs.Ending.{end_loss_of}
use Rattle.halo_chance.specs.Loss.{loss_of}
use Rattle.halo_chance.proofs.EndLosses.{pay-end-loss-is-not-negative}
use Rattle.halo_chance.specs.Present.{EndPresent, ExistingPresent, LeavingPresent, discount_to, discount_whole}

-- a fraction of the weights along a tree, over the common denominator
cleared : (i : Ends) (q p a num den j : ℕ) (x : ℤ) → 0 < den → pos den *ℤ x ≡ pos num *ℤ pos j
    → Encloses i (pos (q * num)) (p * den) → Encloses i (pos (q * a) *ℤ x) (j * (p * a))
cleared i q p a num den j x positive share e =
    encloses_reduced i (pos (q * a) *ℤ x) (j * (p * a)) den positive
    (rw (above, below) (encloses_scaled i (pos (q * num)) (p * den) (a * j) e))
  where
    above : (pos (q * a) *ℤ x) *ℤ pos den ≡ pos (q * num) *ℤ pos (a * j)
    above =
        mul_assoc (pos (q * a)) x (pos den)
        ∙ ap (λ z. pos (q * a) *ℤ z) (mul_comm x (pos den) ∙ share)
        ∙ ap pos (naturals q a num j)
      where
        naturals : (q a num j : ℕ) → q * a * (num * j) ≡ q * num * (a * j)
        naturals q a num j = omega arith

    below : j * (p * a) * den ≡ p * den * (a * j)
    below = omega arith

-- the years to a time, and those from there on
accumulated-to : (b : Basis) (T t : ℕ) → T ≤ t → t ≤ b.last_time
    → accumulated b T ≡ discount_whole b T t * accumulated b t
accumulated-to b T t from to =
    ap (λ n. product_over (numbers_from T n) (λ k. b.p k + b.q k)) years
    ∙ ap (λ ts. product_over ts (λ k. b.p k + b.q k)) (numbers-behind T (t - T) (b.last_time - t) t (omega arith))
    ∙ product_over-append (numbers_from T (t - T)) (numbers_from t (b.last_time - t)) (λ k. b.p k + b.q k)
  where
    years : b.last_time - T ≡ (t - T) + (b.last_time - t)
    years = omega arith

    numbers-behind : (T m n t : ℕ) → t ≡ T + m → numbers_from T (m + n) ≡ numbers_from T m ++ numbers_from t n
    numbers-behind T m n t e = rw e (numbers_from-add m n T)

pub existing-present : ExistingPresent
existing-present b rule pay once named T t from to S i positive e =
    rw (accumulated-to b T t from to)
    (cleared i (discount_to b T t) (discount_whole b T t) (accumulated b t)
    (weight_of (survivors_of (λ j. t) S b.lives) (started_of T S b.lives) (is_on (view_of pay.kind) t)
    (waiting pay.mark pay.body))
    (whole_of (started_of T S b.lives) (waiting pay.mark pay.body)) (joint_survivors T S b.lives)
    (existing_weight b pay T S t) positive
    (existing-by-tree b rule pay once named T t from S) e)

pub leaving-present : LeavingPresent
leaving-present b rule pay is once named rank T a k deferred from to marked S alive year i some positive e =
    rw (accumulated-to b T (suc k) (omega arith) to)
    (cleared i (discount_to b T (suc k)) (discount_whole b T (suc k)) (accumulated b (suc k)) (leavers * loss)
    (started a * whole) (joint_survivors T S b.lives) _ (mul-pos some positive) share e)
  where
    tree : Tree
    tree = waiting pay.mark pay.body

    there : ℕ → ℕ
    there = survivors_of (looked_at rank a k) S b.lives

    started : ℕ → ℕ
    started = started_of T S b.lives

    leavers : ℕ
    leavers = leavers_of (asked pay.causes) k b.lives a

    loss : ℕ
    loss = loss_of there started (is_on Due k) a tree

    whole : ℕ
    whole = whole_of (put_for a 1 started) tree

    looked : (c : Bool) → T ≤ cond c (suc k) k
    looked true = omega arith
    looked false = from

    not-negative : weight_of (put_for a 0 there) (put_for a 1 started) (is_on Due k) tree
        ≤ weight_of (put_for a 1 there) (put_for a 1 started) (is_on Due k) tree
    not-negative =
        pay-loss-is-not-negative pay.mark pay.body (is.valid.lasting is.kind) once there started
        (survivors_of-le (looked_at rank a k) T (λ j. looked (nat_lt (rank j) (rank a))) S b.lives rule) (is_on Due k)
        a marked

    falls : (m n : ℕ) → n ≤ m → pos m -ℤ pos n ≡ pos (m - n)
    falls m n h = omega (arith, ints)

    -- the law of the leaving, in naturals
    law : pos whole *ℤ expected T S b.lives (λ o. indicator (paid_on_leaving pay rank T a k o))
        ≡ pos (leavers * (loss * joint_survivors T (without S a) b.lives))
    law = chance-on-leaving-by-tree pay is once rank T a k deferred from marked S alive b.lives rule year named
        ∙ ap (λ z. pos leavers *ℤ (z *ℤ pos (joint_survivors T (without S a) b.lives))) (falls _ _ not-negative)

    gathered : (m l f j : ℕ) → m * (l * (f * j)) ≡ l * f * (m * j)
    gathered m l f j = omega arith

    share : pos (started a * whole) *ℤ expected T S b.lives (λ o. indicator (paid_on_leaving pay rank T a k o))
        ≡ pos (leavers * loss) *ℤ pos (joint_survivors T S b.lives)
    share = mul_assoc (pos (started a)) (pos whole) _ ∙ ap (λ z. pos (started a) *ℤ z) law
        ∙ ap pos
        (gathered (started a) leavers loss (joint_survivors T (without S a) b.lives)
        ∙ ap (λ z. leavers * loss * z) (joint-with a T S b.lives (HasYear-within a k b.lives year) alive))

pub end-present : EndPresent
end-present b rule pay is once named any_cause rank T n some deferred from to marked S i positive e =
    rw (accumulated-to b T n (omega arith) to)
    (cleared i (discount_to b T n) (discount_whole b T n) (accumulated b n) loss whole (joint_survivors T S b.lives) _
    positive share e)
  where
    tree : Tree
    tree = waiting pay.mark pay.body

    there : ℕ → ℕ
    there = survivors_of (λ j. n) S b.lives

    started : ℕ → ℕ
    started = started_of T S b.lives

    loss : ℕ
    loss = end_loss_of there started n tree

    whole : ℕ
    whole = whole_of started tree

    falls : (l m : ℕ) → m ≤ l → pos l -ℤ pos m ≡ pos (l - m)
    falls l m h = omega (arith, ints)

    share : pos whole *ℤ expected T S b.lives (λ o. indicator (falls_on pay rank T o (ends n)))
        ≡ pos loss *ℤ pos (joint_survivors T S b.lives)
    share = chance-on-end-by-tree pay is once any_cause rank T n some deferred from marked S b.lives rule named
        ∙ ap (λ z. z *ℤ pos (joint_survivors T S b.lives))
        (falls _ _
        (pay-end-loss-is-not-negative pay is there started
        (survivors_of-le (λ j. n) T (λ j. omega arith) S b.lives rule) n marked))
