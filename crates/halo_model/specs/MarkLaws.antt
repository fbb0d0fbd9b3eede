-- The marks of a list add up: contingent insurances.
use Rattle.std.specs.Prelude.{◌≡◌, ℕ, Bool, None, Some}
use Rattle.halo_sums.specs.Sums.{numbers_from, sum_over}
use Rattle.halo_status.specs.Tree.{Tree, Trees, joint, member_at, member_count}
use Rattle.halo_status.specs.Nodes.{IsLasting}
use Rattle.halo_status.specs.Pay.{PlainPay}
use Rattle.halo_status.specs.ValidPay.{AreApart}
use Rattle.halo_status.specs.declared.pay.Kind.TheVariants.{Insurance}
use Rattle.halo_model.specs.Basis.{Basis}
use Rattle.halo_model.specs.Value.{numerator}

-- the same pay with a mark on a member
abbrev pub with_mark : PlainPay → ℕ → ℕ → PlainPay
with_mark pay member rank = record pay { mark = Some (record { member = member; rank = rank }) }

-- of joint members that share nothing one fails first: an insurance on each as the first adds up to
-- the insurance on all
-- A_(x¹:y) + A_(x:y¹) = A_(x:y)
abbrev pub FirstMarksAddUp : Type 0
FirstMarksAddUp = (b : Basis) (pay : PlainPay) (members : Trees) → pay.kind ≡ Insurance
    → pay.mark ≡ None → pay.body ≡ joint members
    → IsLasting pay.body → AreApart members → (T : ℕ) (S : ℕ → Bool)
    → sum_over (numbers_from 0 (member_count members))
    (λ place. numerator b (with_mark pay place 1) T S) ≡ numerator b pay T S

-- a member fails at some rank: an insurance on it at each rank adds up to the insurance on it alone
-- A_(x¹:y) + A_(x²:y) = A_x
abbrev pub RanksAddUp : Type 0
RanksAddUp = (b : Basis) (pay : PlainPay) (members : Trees) (place : ℕ) (member : Tree)
    → pay.kind ≡ Insurance → pay.mark ≡ None → pay.body ≡ joint members
    → member_at members place ≡ Some member → (T : ℕ) (S : ℕ → Bool)
    → sum_over (numbers_from 1 (member_count members))
    (λ rank. numerator b (with_mark pay place rank) T S)
    ≡ numerator b (record pay { body = member }) T S
