-- The parts of a value of a pay whose body is read once, along the tree.
use Rattle.std.proofs.Common.{◌≡◌, ℕ, zero, suc, ◌*◌, ◌<◌, ◌≤◌, arith, refl, ap, sym, ◌∙◌, List, [], ◌∷◌, length, Bool, true, false, cond, nat_le, nat_lt, ℤ, pos, ◌+ℤ◌, ◌*ℤ◌, ◌-ℤ◌, IsTrue}
use Rattle.std.proofs.lemmas.Int.{ints}
use Rattle.halo_sums.specs.Sums.{indicator, int_sum_over, numbers_from, product_over}
use Rattle.halo_sums.specs.Sets.{in_set, sets}
use Rattle.halo_sums.specs.Coefficients.{coefficient}
use Rattle.halo_sums.proofs.Integers.{mul_add, mul_left_comm, mul_sub, sub_mul}
use Rattle.halo_sums.proofs.IntSums.{int_sum_over-ext, int_sum_over-sub}
use Rattle.halo_sums.proofs.Coefficients.{coefficients-gather}
use Rattle.halo_status.specs.Tree.{Tree}
use Rattle.halo_status.specs.Exists.{exists}
use Rattle.halo_status.specs.ReadOnce.{IsReadOnce}
use Rattle.halo_status.specs.Naming.{NamesLivesBelow}
use Rattle.halo_status.specs.View.{is_on}
use Rattle.halo_status.specs.Pay.{PlainPay}
use Rattle.halo_status.specs.declared.view.View.TheVariants.{Due}
use Rattle.halo_model.specs.EvenTies.{without}
use Rattle.halo_model.specs.Life.{AreLives, PlainLife, after_first, leavers_by}
use Rattle.halo_model.specs.Outcome.{joint_survivors}
use Rattle.halo_model.specs.Expectation.{all_there, all_there_at_leaving, looked_at, survivors_if, whole_if}
use Rattle.halo_model.specs.Chance.{asked, ending}
use Rattle.halo_model.specs.Coefficient.{existence, existence_with, form, view_of}
use Rattle.halo_model.specs.ByTree.{weight_of, whole_of}
use Rattle.halo_model.specs.ByTreeLaws.{AreChances}
use Rattle.halo_model.specs.Independent.{set_weight, started_of, survivors_of}
use Rattle.halo_model.specs.PartsByTree.{ChanceOnEndByTree, ChanceOnLeavingByTree, ExistingByTree, leavers_of, put_for, waiting}
use Rattle.halo_model.proofs.Without.{joint-without-first, joint-without-later}
use Rattle.halo_model.proofs.BySets.{expected-by-sets}
use Rattle.halo_model.proofs.Falls.{chance-on-leaving}
use Rattle.halo_model.proofs.Ends.{chance-on-end}
use Rattle.halo_model.proofs.Leaving.{HasYear-within, expected-by-coefficients}
use Rattle.halo_model.proofs.Independent.{all-started, existence-by-tree, halves, lives-by-sets, product_over-later, survivors_of-le}
use Rattle.halo_model.proofs.Waiting.{waiting-exists, waiting-named, waiting-once}

-- f of a pay is the indicator of the status on which it waits
by-waiting : (pay : PlainPay) (on : ℕ → Bool) (u : List Bool)
    → existence_with pay on u ≡ indicator (exists (in_set u) on (waiting pay.mark pay.body))
by-waiting pay on u = ap indicator (waiting-exists (in_set u) on pay.mark pay.body)

module _ (T : ℕ) (S : ℕ → Bool) (lives : List PlainLife) (rule : AreLives lives) where
  -- a sum over coefficients, as one over sets by the survivors
  coefficients-by-sets : (times : ℕ → ℕ) → ((i : ℕ) → T ≤ times i) → (f : List Bool → ℤ)
      → int_sum_over (sets (length lives)) (λ s. coefficient f s *ℤ all_there times T S lives s) ≡ int_sum_over
      (sets (length lives)) (λ u. set_weight (survivors_of times S lives) (started_of T S lives) u *ℤ f u)
  coefficients-by-sets times from f = sym (expected-by-coefficients times T from S lives rule f)
      ∙ expected-by-sets times T from S lives rule f ∙ lives-by-sets times T S lives f

  -- of a pay, along the tree of the status on which it waits
  existing : (pay : PlainPay) → IsReadOnce pay.body
      → NamesLivesBelow (length lives) pay.body → (on : ℕ → Bool) (times : ℕ → ℕ) → ((i : ℕ) → T ≤ times i)
      → pos (whole_of (started_of T S lives) (waiting pay.mark pay.body)) *ℤ int_sum_over
      (sets (length lives)) (λ s. coefficient (existence_with pay on) s *ℤ all_there times T S lives s)
      ≡ pos (weight_of (survivors_of times S lives) (started_of T S lives) on (waiting pay.mark pay.body))
      *ℤ pos (joint_survivors T S lives)
  existing pay once named on times from =
      ap (λ z. pos (whole_of (started_of T S lives) (waiting pay.mark pay.body)) *ℤ z)
      (coefficients-by-sets times from (existence_with pay on)
      ∙ int_sum_over-ext (sets (length lives)) _ _
      (λ u. ap (λ z. set_weight (survivors_of times S lives) (started_of T S lives) u *ℤ z) (by-waiting pay on u)))
      ∙ existence-by-tree (length lives) (survivors_of times S lives)
      (started_of T S lives) (survivors_of-le times T from S lives rule) on (waiting pay.mark pay.body)
      (waiting-once pay.mark pay.body once) (waiting-named (length lives) pay.mark pay.body named)
      ∙ ap (λ z. pos (weight_of (survivors_of times S lives) (started_of T S lives) on (waiting pay.mark pay.body))
      *ℤ pos z) (all-started T S lives)

pub existing-by-tree : ExistingByTree
unfolding form
existing-by-tree b rule pay once named T t h S =
    existing T S b.lives rule pay once named (is_on (view_of pay.kind) t) (λ i. t) (λ i. h)

-- the sum over sets with a life surely there, less that with it surely not
module _ (count : ℕ) (n d : ℕ → ℕ) where
  abbrev with_life : ℕ → ℕ → (List Bool → ℤ) → ℤ
  with_life a m f = int_sum_over (sets count) (λ u. set_weight (put_for a m n) (put_for a 1 d) u *ℤ f u)

-- a factor of two sums, each in two halves
leaving-halves : (l q e x y v w : ℤ)
    → e *ℤ (l *ℤ (x -ℤ y)) +ℤ q *ℤ (l *ℤ (v -ℤ w)) ≡ l *ℤ ((q *ℤ v +ℤ e *ℤ x) -ℤ (q *ℤ w +ℤ e *ℤ y))
leaving-halves l q e x y v w =
    ap (λ z. z +ℤ q *ℤ (l *ℤ (v -ℤ w))) (mul_left_comm e l (x -ℤ y))
    ∙ ap (λ z. l *ℤ (e *ℤ (x -ℤ y)) +ℤ z) (mul_left_comm q l (v -ℤ w))
    ∙ sym (mul_add l (e *ℤ (x -ℤ y)) (q *ℤ (v -ℤ w)))
    ∙ ap (λ z. l *ℤ z) (omega (arith, ints, mul_sub e x y, mul_sub q v w))

-- a life that leaves counts once with it, and once less without it
leaving-one : (l x y : ℤ) → l *ℤ x
    +ℤ (pos 0 -ℤ l) *ℤ y ≡ l *ℤ (((pos 1 -ℤ pos 1) *ℤ y +ℤ pos 1 *ℤ x) -ℤ ((pos 1 -ℤ pos 0) *ℤ y +ℤ pos 0 *ℤ x))
leaving-one l x y =
    let inner : x -ℤ y ≡ ((pos 1 -ℤ pos 1) *ℤ y +ℤ pos 1 *ℤ x) -ℤ ((pos 1 -ℤ pos 0) *ℤ y +ℤ pos 0 *ℤ x) =
    omega (arith, ints) in
    let outer : l *ℤ x +ℤ (pos 0 -ℤ l) *ℤ y ≡ l *ℤ (x -ℤ y) = omega (arith, ints, sub_mul (pos 0) l y, mul_sub l x y) in
    outer ∙ ap (λ z. l *ℤ z) inner

survivors_if-is : (alive : Bool) (x : PlainLife) (t : ℕ) → survivors_if alive x t ≡ pos (cond alive (x.survivors t) 0)
survivors_if-is true x t = refl
survivors_if-is false x t = refl

whole_if-is : (alive : Bool) (x : PlainLife) (T : ℕ) → whole_if alive x T ≡ pos (cond alive (x.survivors T) 1)
whole_if-is true x T = refl
whole_if-is false x T = refl

leaving-by-sets : (a : ℕ) (causes : ℕ → Bool) (k : ℕ) (times : ℕ → ℕ) (T : ℕ) → ((i : ℕ) → T ≤ times i)
    → (S : ℕ → Bool) (lives : List PlainLife) → AreLives lives → a < length lives → (f : List Bool → ℤ)
    → int_sum_over (sets (length lives)) (λ s. coefficient f s *ℤ all_there_at_leaving a causes k times T S lives s)
    ≡ pos (leavers_of causes k lives a) *ℤ (with_life (length lives) (survivors_of times S lives) (started_of T S lives)
    a 1 f -ℤ with_life (length lives) (survivors_of times S lives) (started_of T S lives) a 0 f)
leaving-by-sets a causes k times T from S [] rule h f = absurd (omega arith)
leaving-by-sets zero causes k times T from S (x ∷ lives) rule h f =
    sym (coefficients-gather (length lives) leavers (pos 0) (all_there (after_first times) T (after_first S) lives) f
    (λ s. coefficient f s *ℤ all_there_at_leaving zero causes k times T S (x ∷ lives) s) (λ u. refl) (λ u. refl))
    ∙ ap (λ z. leavers *ℤ z +ℤ (pos 0 -ℤ leavers) *ℤ int_sum_over (sets (length lives)) (λ s. coefficient
    (λ v. f (false ∷ v)) s *ℤ all_there (after_first times) T (after_first S) lives s)) (others true)
    ∙ ap (λ z. leavers *ℤ sum true +ℤ (pos 0 -ℤ leavers) *ℤ z) (others false)
    ∙ leaving-one leavers (sum true) (sum false)
    ∙ ap (λ z. leavers *ℤ (z -ℤ ((pos 1 -ℤ pos 0) *ℤ sum false +ℤ pos 0 *ℤ sum true)))
    (sym (halves (length lives) (put_for 0 1 there) (put_for 0 1 started) f))
    ∙ ap (λ z. leavers *ℤ (with_life (length (x ∷ lives)) there started 0 1 f -ℤ z))
    (sym (halves (length lives) (put_for 0 0 there) (put_for 0 1 started) f))
  where
    leavers : ℤ
    leavers = pos (leavers_by causes x k)

    there : ℕ → ℕ
    there = survivors_of times S (x ∷ lives)

    started : ℕ → ℕ
    started = started_of T S (x ∷ lives)

    sum : Bool → ℤ
    sum b = int_sum_over (sets (length lives)) (λ u. set_weight
        (survivors_of (after_first times) (after_first S) lives) (started_of T (after_first S) lives) u *ℤ f (b ∷ u))

    others : (b : Bool) → int_sum_over (sets (length lives))
        (λ s. coefficient (λ v. f (b ∷ v)) s *ℤ all_there (after_first times) T (after_first S) lives s) ≡ sum b
    others b =
        coefficients-by-sets T (after_first S) lives rule.1 (after_first times) (λ i. from (suc i)) (λ v. f (b ∷ v))
leaving-by-sets (suc a) causes k times T from S (x ∷ lives) rule h f =
    sym (coefficients-gather (length lives) with any rest f
    (λ s. coefficient f s *ℤ all_there_at_leaving (suc a) causes k times T S (x ∷ lives) s)
    (λ u. ap (λ z. coefficient f (true ∷ u) *ℤ (z *ℤ rest u)) (survivors_if-is (S 0) x (times 0)))
    (λ u. ap (λ z. coefficient f (false ∷ u) *ℤ (z *ℤ rest u)) (whole_if-is (S 0) x T)))
    ∙ ap (λ z. with *ℤ z +ℤ (any -ℤ with) *ℤ int_sum_over
    (sets (length lives)) (λ s. coefficient (λ v. f (false ∷ v)) s *ℤ rest s)) (leaving-by-sets a causes k
    (after_first times) T (λ i. from (suc i)) (after_first S) lives rule.1 (omega arith) (λ v. f (true ∷ v)))
    ∙ ap (λ z. with *ℤ (leavers *ℤ (sum 1 true -ℤ sum 0 true)) +ℤ (any -ℤ with) *ℤ z) (leaving-by-sets a causes k
    (after_first times) T (λ i. from (suc i)) (after_first S) lives rule.1 (omega arith) (λ v. f (false ∷ v)))
    ∙ leaving-halves leavers (any -ℤ with) with (sum 1 true) (sum 0 true) (sum 1 false) (sum 0 false)
    ∙ ap (λ z. leavers *ℤ (z -ℤ ((any -ℤ with) *ℤ sum 0 false +ℤ with *ℤ sum 0 true)))
    (sym (halves (length lives) (put_for (suc a) 1 there) (put_for (suc a) 1 started) f))
    ∙ ap (λ z. leavers *ℤ (with_life (length (x ∷ lives)) there started (suc a) 1 f -ℤ z))
    (sym (halves (length lives) (put_for (suc a) 0 there) (put_for (suc a) 1 started) f))
  where
    there : ℕ → ℕ
    there = survivors_of times S (x ∷ lives)

    started : ℕ → ℕ
    started = started_of T S (x ∷ lives)

    leavers : ℤ
    leavers = pos (leavers_of causes k lives a)

    with : ℤ
    with = pos (cond (S 0) (x.survivors (times 0)) 0)

    any : ℤ
    any = pos (cond (S 0) (x.survivors T) 1)

    rest : List Bool → ℤ
    rest = all_there_at_leaving a causes k (after_first times) T (after_first S) lives

    sum : ℕ → Bool → ℤ
    sum m b = with_life (length lives) (survivors_of (after_first times) (after_first S) lives)
        (started_of T (after_first S) lives) a m (λ u. f (b ∷ u))

-- with another chance for a life they are chances
pub put-chances : (a m : ℕ) (n d : ℕ → ℕ) → m ≤ 1 → AreChances n d → AreChances (put_for a m n) (put_for a 1 d)
put-chances zero m n d h proper zero = h
put-chances zero m n d h proper (suc i) = proper (suc i)
put-chances (suc a) m n d h proper zero = proper zero
put-chances (suc a) m n d h proper (suc i) = put-chances a m (after_first n) (after_first d) h (λ j. proper (suc j)) i

-- the joint survivors are those of one life and of the others
pub joint-with : (a T : ℕ) (S : ℕ → Bool) (lives : List PlainLife) → a < length lives → IsTrue (S a)
    → started_of T S lives a * joint_survivors T (without S a) lives ≡ joint_survivors T S lives
joint-with a T S [] h alive = absurd (omega arith)
joint-with zero T S (x ∷ lives) h alive =
    ap (λ z. cond (S 0) (x.survivors T) 1 * z) (joint-without-first T S x lives ∙ one-times _)
  where
    one-times : (n : ℕ) → 1 * n ≡ n
    one-times n = omega arith
joint-with (suc a) T S (x ∷ lives) h alive =
    ap (λ z. started_of T (after_first S) lives a * z) (joint-without-later a T S x lives)
    ∙ swapped (started_of T (after_first S) lives a)
    (cond (S 0) (x.survivors T) 1) (joint_survivors T (without (after_first S) a) lives)
    ∙ ap (λ z. cond (S 0) (x.survivors T) 1 * z) (joint-with a T (after_first S) lives (omega arith) alive)
  where
    swapped : (m n k : ℕ) → m * (n * k) ≡ n * (m * k)
    swapped m n k = omega arith

-- the joint survivors of the others
others-started : (a T : ℕ) (S : ℕ → Bool) (lives : List PlainLife) → product_over
    (numbers_from 0 (length lives)) (put_for a 1 (started_of T S lives)) ≡ joint_survivors T (without S a) lives
others-started a T S [] = refl
others-started zero T S (x ∷ lives) =
    ap (λ z. 1 * z) (product_over-later (length lives) 0 (put_for 0 1 (started_of T S (x ∷ lives)))
    ∙ all-started T (after_first S) lives)
    ∙ sym (joint-without-first T S x lives)
others-started (suc a) T S (x ∷ lives) =
    ap (λ z. cond (S 0) (x.survivors T) 1 * z)
    (product_over-later (length lives) 0 (put_for (suc a) 1 (started_of T S (x ∷ lives)))
    ∙ others-started a T (after_first S) lives)
    ∙ sym (joint-without-later a T S x lives)

-- a whole of a difference of two shares
difference : (w l x y a b p : ℤ) → w *ℤ x ≡ a *ℤ p → w *ℤ y ≡ b *ℤ p → w *ℤ (l *ℤ (x -ℤ y)) ≡ l *ℤ ((a -ℤ b) *ℤ p)
difference w l x y a b p e f = mul_left_comm w l (x -ℤ y)
    ∙ ap (λ z. l *ℤ z) (omega (arith, ints, mul_sub w x y, sub_mul a b p, e, f))

pub chance-on-leaving-by-tree : ChanceOnLeavingByTree
unfolding form
chance-on-leaving-by-tree pay is once rank T a k deferred started named S alive lives rule year below =
    ap (λ z. pos (whole_of d tree) *ℤ z)
    (chance-on-leaving pay is rank T a k deferred started named S alive lives rule year
    ∙ leaving-by-sets a (asked pay.causes) k (looked_at rank a k) T (λ i. from (nat_lt (rank i) (rank a))) S lives rule
    (omega (arith, HasYear-within a k lives year)) (existence pay k))
    ∙ difference (pos (whole_of d tree)) (pos (leavers_of (asked pay.causes) k lives a)) _ _
    (pos (weight_of (n 1) d (is_on Due k) tree)) (pos (weight_of (n 0) d (is_on Due k) tree))
    (pos (joint_survivors T (without S a) lives)) (side 1 (omega arith)) (side 0 (omega arith))
  where
    tree : Tree
    tree = waiting pay.mark pay.body

    n : ℕ → ℕ → ℕ
    n m = put_for a m (survivors_of (looked_at rank a k) S lives)

    d : ℕ → ℕ
    d = put_for a 1 (started_of T S lives)

    from : (b : Bool) → T ≤ cond b (suc k) k
    from true = omega arith
    from false = started

    side : (m : ℕ) → m ≤ 1 → pos (whole_of d tree) *ℤ with_life
        (length lives) (survivors_of (looked_at rank a k) S lives) (started_of T S lives) a m (existence pay k)
        ≡ pos (weight_of (n m) d (is_on Due k) tree) *ℤ pos (joint_survivors T (without S a) lives)
    side m small =
        ap (λ z. pos (whole_of d tree) *ℤ z)
        (int_sum_over-ext (sets (length lives)) _ _ (λ u. ap (λ z. set_weight (n m) d u *ℤ z)
        (ap (λ kind. existence_with pay (is_on (view_of kind) k) u) is.kind ∙ by-waiting pay (is_on Due k) u)))
        ∙ existence-by-tree (length lives)
        (n m) d (put-chances a m (survivors_of (looked_at rank a k) S lives) (started_of T S lives) small
        (survivors_of-le (looked_at rank a k) T (λ i. from (nat_lt (rank i) (rank a))) S lives rule)) (is_on Due k)
        tree (waiting-once pay.mark pay.body once) (waiting-named (length lives) pay.mark pay.body below)
        ∙ ap (λ z. pos (weight_of (n m) d (is_on Due k) tree) *ℤ pos z) (others-started a T S lives)

pub chance-on-end-by-tree : ChanceOnEndByTree
chance-on-end-by-tree pay is once any_cause rank T n positive deferred started named S lives rule below =
    ap (λ z. pos (whole_of d tree) *ℤ z)
    (chance-on-end pay is any_cause rank T n positive deferred started named S lives rule
    ∙ coefficients-by-sets T S lives rule (λ i. n) (λ i. omega arith) (ending pay n)
    ∙ int_sum_over-ext (sets (length lives)) _ _ (λ u. mul_sub
    (set_weight there d u) (existence_with pay (λ m. nat_le n m) u) (existence_with pay (λ m. nat_lt n m) u))
    ∙ int_sum_over-sub (sets (length lives)) (λ u. set_weight there d u *ℤ existence_with pay (λ m. nat_le n m) u)
    (λ u. set_weight there d u *ℤ existence_with pay (λ m. nat_lt n m) u))
    ∙ apart (pos (whole_of d tree)) _ _
    (pos (weight_of there d (λ m. nat_le n m) tree)) (pos (weight_of there d (λ m. nat_lt n m) tree))
    (pos (joint_survivors T S lives)) (side (λ m. nat_le n m)) (side (λ m. nat_lt n m))
  where
    tree : Tree
    tree = waiting pay.mark pay.body

    there : ℕ → ℕ
    there = survivors_of (λ i. n) S lives

    d : ℕ → ℕ
    d = started_of T S lives

    apart : (w x y a b p : ℤ) → w *ℤ x ≡ a *ℤ p → w *ℤ y ≡ b *ℤ p → w *ℤ (x -ℤ y) ≡ (a -ℤ b) *ℤ p
    apart w x y a b p e f = omega (arith, ints, mul_sub w x y, sub_mul a b p, e, f)

    side : (on : ℕ → Bool) → pos (whole_of d tree)
        *ℤ int_sum_over (sets (length lives)) (λ u. set_weight there d u *ℤ existence_with pay on u)
        ≡ pos (weight_of there d on tree) *ℤ pos (joint_survivors T S lives)
    side on =
        ap (λ z. pos (whole_of d tree) *ℤ z)
        (sym (coefficients-by-sets T S lives rule (λ i. n) (λ i. omega arith) (existence_with pay on)))
        ∙ existing T S lives rule pay once below on (λ i. n) (λ i. omega arith)
