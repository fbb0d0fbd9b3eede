-- The parts of a pay add up to its value.
use Rattle.std.specs.Prelude.{◌≡◌, ◌≢◌, ⊤, ℕ, suc, ◌+◌, ◌≤◌, Bool, List, [], ◌∷◌, length, None, pos, ◌+ℤ◌, ◌*ℤ◌}
use Rattle.halo_sums.specs.Sums.{int_sum_over, numbers_from}
use Rattle.halo_status.specs.Tree.{Tree, after, joint, more, none}
use Rattle.halo_status.specs.Pay.{PlainPay}
use Rattle.halo_status.specs.declared.pay.Kind.TheVariants.{Insurance, Due, Immediate}
use Rattle.halo_model.specs.Life.{AreLives, PlainLife}
use Rattle.halo_model.specs.Order.{rank_in}
use Rattle.halo_model.specs.Basis.{Basis, taken}
use Rattle.halo_model.specs.Value.{numerator}
use Rattle.halo_model.specs.Part.{due_part, end_part, immediate_part, leaving_part, terms_of}

-- an annuity-due, over the times at which it can pay; each order counts alike
abbrev pub DueByParts : Type 0
DueByParts = (b : Basis) → AreLives b.lives → (pay : PlainPay) → pay.kind ≡ Due → pay.mark ≡ None
    → (T : ℕ) (S : ℕ → Bool)
    → pos (numerator b pay T S)
    ≡ pos (length (taken b)) *ℤ int_sum_over (numbers_from 0 (suc b.last_time)) (due_part b pay T S)

-- an annuity-immediate
abbrev pub ImmediateByParts : Type 0
ImmediateByParts = (b : Basis) → AreLives b.lives → (pay : PlainPay) → pay.kind ≡ Immediate
    → pay.mark ≡ None → (T : ℕ) (S : ℕ → Bool)
    → pos (numerator b pay T S)
    ≡ pos (length (taken b)) *ℤ int_sum_over (numbers_from 1 b.last_time) (immediate_part b pay T S)

-- each life's table ends by a time
abbrev pub EndBy : ℕ → List PlainLife → Type 0
EndBy time [] = ⊤
EndBy time (x ∷ lives) = (x.years_left ≤ time) × EndBy time lives

-- an insurance, in each order taken over the lives and the terms
abbrev pub InsuranceByParts : Type 0
InsuranceByParts = (b : Basis) → EndBy b.last_time b.lives → (pay : PlainPay)
    → pay.kind ≡ Insurance → (T : ℕ) (S : ℕ → Bool)
    → pos (numerator b pay T S) ≡ int_sum_over (taken b) (λ order.
    int_sum_over (numbers_from 0 (length b.lives)) (leaving_part b pay (rank_in order) T S)
    +ℤ int_sum_over (terms_of b pay) (end_part b pay (rank_in order) T S))

-- a reversion, a reversionary annuity: what an annuity pays on w after u has failed, and what it
-- pays on u and w together, is what it pays on w
-- a_(u|w) = a_w - a_(u:w)
abbrev pub ReversionAddsUp : Type 0
ReversionAddsUp =
    (b : Basis) (pay : PlainPay) → pay.kind ≢ Insurance → (u w : Tree) (T : ℕ) (S : ℕ → Bool)
    → numerator b (record pay { body = after u w }) T S
    + numerator b (record pay { body = joint (more u (more w none)) }) T S
    ≡ numerator b (record pay { body = w }) T S
