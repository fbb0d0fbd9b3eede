-- On which events a payment of an insurance can fall.
use Rattle.std.specs.Prelude.{◌≡◌, ⊤, IsSomeAnd, ℕ, Bool, true, false, ◌&&◌, nat_eq, nat_le, nat_lt, List, get_or, Option, Some, None, ℤ, ◌-ℤ◌}
use Rattle.halo_sums.specs.Masks.{has_bit}
use Rattle.halo_status.specs.Tree.{Tree, member_at}
use Rattle.halo_status.specs.Pay.{PlainPay}
use Rattle.halo_status.specs.ValidPay.{IsValidPay}
use Rattle.halo_status.specs.declared.pay.Mark.{Mark}
use Rattle.halo_status.specs.declared.pay.Kind.TheVariants.{Insurance}
use Rattle.halo_model.specs.Outcome.{Exit, Outcome}
use Rattle.halo_model.specs.Event.{leaves}
use Rattle.halo_model.specs.Payment.{falls_on, members_of}
use Rattle.halo_model.specs.Coefficient.{existence_with}

-- an insurance that a contract may have
pub record IsValidInsurance (pay : PlainPay) : Type 0 where
  pub valid : IsValidPay pay
  pub kind : pay.kind ≡ Insurance

-- the causes that a pay asks for: all, where it has none
abbrev pub asked : Option ℕ → ℕ → Bool
asked None j = true
asked (Some causes) j = has_bit causes j

-- whether a life leaves in year k and a payment falls on that
abbrev pub paid_at_exit : PlainPay → (ℕ → ℕ) → ℕ → ℕ → ℕ → Outcome → Option Exit → Bool
paid_at_exit pay rank T a k o None = false
paid_at_exit pay rank T a k o (Some exit) =
    nat_eq exit.year k && falls_on pay rank T o (leaves a exit)

abbrev pub paid_on_leaving : PlainPay → (ℕ → ℕ) → ℕ → ℕ → ℕ → Outcome → Bool
paid_on_leaving pay rank T a k o = paid_at_exit pay rank T a k o (get_or o a None)

-- the marked member has a property, if there is a mark
abbrev pub OfMarked : Option Mark → Tree → (Tree → Type 0) → Type 0
OfMarked None body P = ⊤
OfMarked (Some mark) body P = IsSomeAnd (member_at (members_of body) mark.member) P

-- there is a mark, and the marked member has a property
abbrev pub IsMarkedAnd : Option Mark → Tree → (Tree → Type 0) → Type 0
IsMarkedAnd None body P = ⊥
IsMarkedAnd (Some mark) body P = IsSomeAnd (member_at (members_of body) mark.member) P

-- f just before the end of a term of n years, when the terms of at least n years are on, less f
-- just after it
abbrev pub ending : PlainPay → ℕ → List Bool → ℤ
ending pay n u = existence_with pay (λ m. nat_le n m) u -ℤ existence_with pay (λ m. nat_lt n m) u
