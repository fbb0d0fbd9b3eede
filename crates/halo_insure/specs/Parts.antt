-- Parts of what an insurance of 1 is worth: what falls on the leaving of one life, and what falls
-- on the end of the terms of one length.
use Rattle.std.specs.Prelude.{ℕ, Bool}
use Rattle.halo_num.specs.Ends.{Ends}
use Rattle.halo_status.specs.Pay.{PlainPay}
use Rattle.halo_model.specs.Basis.{Basis}
use Rattle.halo_along.specs.Parts.{EnclosesPartOfOne, worth_on_end, worth_on_leaving}

-- i encloses what falls on the leaving of a life ..
abbrev pub EnclosesLeaving : Basis → PlainPay → ℕ → (ℕ → Bool) → ℕ → Ends → Type 0
EnclosesLeaving b pay T S life i =
    EnclosesPartOfOne b pay T S (worth_on_leaving b pay T S life) i

-- .. and what falls on the end of a term of so many years
abbrev pub EnclosesEnd : Basis → PlainPay → ℕ → (ℕ → Bool) → ℕ → Ends → Type 0
EnclosesEnd b pay T S years i = EnclosesPartOfOne b pay T S (worth_on_end b pay T S years) i
