-- Present values along the tree: what the product of a discount factor and of a chance along the
-- tree encloses, of the parts of a value.
use Rattle.std.specs.Prelude.{◌≡◌, ℕ, suc, ◌+◌, ◌-◌, ◌*◌, ◌<◌, ◌≤◌, Bool, IsTrue, None, length, pos, ◌*ℤ◌}
use Rattle.halo_sums.specs.Sums.{indicator, numbers_from, product_over}
use Rattle.halo_num.specs.Ends.{Ends}
use Rattle.halo_num.specs.Enclosure.{Encloses}
use Rattle.halo_status.specs.Naming.{NamesLivesBelow, names_life, names_term}
use Rattle.halo_status.specs.ReadOnce.{IsReadOnce}
use Rattle.halo_status.specs.View.{is_on}
use Rattle.halo_status.specs.Pay.{PlainPay}
use Rattle.halo_status.specs.declared.view.View.TheVariants.{Due}
use Rattle.halo_model.specs.Life.{AreLives}
use Rattle.halo_model.specs.Outcome.{joint_survivors}
use Rattle.halo_model.specs.Basis.{Basis, accumulated, discounted}
use Rattle.halo_model.specs.Event.{ends}
use Rattle.halo_model.specs.Payment.{falls_on}
use Rattle.halo_model.specs.Coefficient.{view_of}
use Rattle.halo_model.specs.Expectation.{HasYear, expected, looked_at}
use Rattle.halo_model.specs.Chance.{IsValidInsurance, OfMarked, asked, paid_on_leaving}
use Rattle.halo_model.specs.Part.{existing_weight}
use Rattle.halo_model.specs.ByTree.{weight_of, whole_of}
use Rattle.halo_model.specs.Independent.{started_of, survivors_of}
use Rattle.halo_model.specs.PartsByTree.{leavers_of, put_for, waiting}
use Rattle.halo_chance.specs.Ending.{end_loss_of}
use Rattle.halo_chance.specs.Loss.{loss_of}

-- the product of the discount factors of the years from T to t, and in which parts it is told:
-- v^(t-T) where all are v
abbrev pub discount_to : Basis → ℕ → ℕ → ℕ
discount_to b T t = product_over (numbers_from T (t - T)) b.q

abbrev pub discount_whole : Basis → ℕ → ℕ → ℕ
discount_whole b T t = product_over (numbers_from T (t - T)) (λ k. b.p k + b.q k)

-- the weight along the tree of the status on which a pay waits at time t, of those who were there
-- at T, and the parts in which it is told
abbrev pub weight_along : Basis → PlainPay → ℕ → (ℕ → Bool) → ℕ → ℕ
weight_along b pay T S t =
    weight_of (survivors_of (λ j. t) S b.lives) (started_of T S b.lives)
    (is_on (view_of pay.kind) t) (waiting pay.mark pay.body)

abbrev pub whole_along : Basis → PlainPay → ℕ → (ℕ → Bool) → ℕ
whole_along b pay T S = whole_of (started_of T S b.lives) (waiting pay.mark pay.body)

-- what that status loses with life a, each other life looked at in year k before or after its own
-- leaving by its rank, and the parts in which the loss is told
abbrev pub loss_along : Basis → PlainPay → (ℕ → ℕ) → ℕ → ℕ → ℕ → (ℕ → Bool) → ℕ
loss_along b pay rank T a k S =
    loss_of (survivors_of (looked_at rank a k) S b.lives) (started_of T S b.lives) (is_on Due k) a
    (waiting pay.mark pay.body)

abbrev pub whole_but_one : Basis → PlainPay → ℕ → ℕ → (ℕ → Bool) → ℕ
whole_but_one b pay T a S =
    whole_of (put_for a 1 (started_of T S b.lives)) (waiting pay.mark pay.body)

-- what that status loses at time n with the terms of n years, which end then, of those who were
-- there at T
abbrev pub end_loss_along : Basis → PlainPay → ℕ → ℕ → (ℕ → Bool) → ℕ
end_loss_along b pay T n S =
    end_loss_of (survivors_of (λ j. n) S b.lives) (started_of T S b.lives) n
    (waiting pay.mark pay.body)

-- of 1 paid at time t if the body exists then: the discount factor times the chance along the tree
-- is the value at T
abbrev pub ExistingPresent : Type 0
ExistingPresent =
    (b : Basis) → AreLives b.lives → (pay : PlainPay) → IsReadOnce pay.body
    → NamesLivesBelow (length b.lives) pay.body
    → (T t : ℕ) → T ≤ t → t ≤ b.last_time → (S : ℕ → Bool) (i : Ends)
    → 0 < whole_along b pay T S
    → Encloses i (pos (discount_to b T t * weight_along b pay T S t))
    (discount_whole b T t * whole_along b pay T S)
    → Encloses i (pos (discounted b T t) *ℤ existing_weight b pay T S t)
    (joint_survivors T S b.lives * accumulated b T)

-- of 1 paid at the end of year k if a payment falls on the leaving of life a in that year: the
-- discount factor times the chance of the leaving times the loss of the status with life a
abbrev pub LeavingPresent : Type 0
LeavingPresent =
    (b : Basis) → AreLives b.lives → (pay : PlainPay) → IsValidInsurance pay → IsReadOnce pay.body
    → NamesLivesBelow (length b.lives) pay.body
    → (rank : ℕ → ℕ) (T a k : ℕ) → pay.defer ≤ k → T ≤ k → suc k ≤ b.last_time
    → OfMarked pay.mark pay.body (λ s. IsTrue (names_life a s))
    → (S : ℕ → Bool) → IsTrue (S a) → HasYear a k b.lives → (i : Ends)
    → 0 < started_of T S b.lives a → 0 < whole_but_one b pay T a S
    → Encloses i
    (pos (discount_to b T (suc k)
    * (leavers_of (asked pay.causes) k b.lives a * loss_along b pay rank T a k S)))
    (discount_whole b T (suc k) * (started_of T S b.lives a * whole_but_one b pay T a S))
    → Encloses i
    (pos (discounted b T (suc k))
    *ℤ expected T S b.lives (λ o. indicator (paid_on_leaving pay rank T a k o)))
    (joint_survivors T S b.lives * accumulated b T)

-- of 1 paid at the end of year n - 1 if a payment falls on the end of a term of n years: the
-- discount factor times the loss of the status with the term
abbrev pub EndPresent : Type 0
EndPresent =
    (b : Basis) → AreLives b.lives → (pay : PlainPay) → IsValidInsurance pay → IsReadOnce pay.body
    → NamesLivesBelow (length b.lives) pay.body → pay.causes ≡ None
    → (rank : ℕ → ℕ) (T n : ℕ) → 0 < n → pay.defer ≤ n - 1 → T ≤ n - 1 → n ≤ b.last_time
    → OfMarked pay.mark pay.body (λ s. IsTrue (names_term n s))
    → (S : ℕ → Bool) (i : Ends)
    → 0 < whole_along b pay T S
    → Encloses i (pos (discount_to b T n * end_loss_along b pay T n S))
    (discount_whole b T n * whole_along b pay T S)
    → Encloses i
    (pos (discounted b T n)
    *ℤ expected T S b.lives (λ o. indicator (falls_on pay rank T o (ends n))))
    (joint_survivors T S b.lives * accumulated b T)
