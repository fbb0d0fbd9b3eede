-- An insurance by any cause, without a mark, year by year: it pays for the year's fall of its
-- existence. So its value is told by that of the annuity-due.
use Rattle.std.specs.Prelude.{◌≡◌, IsTrue, ℕ, suc, ◌+◌, ◌*◌, ◌<◌, ◌≤◌, Bool, cond, ◌&&◌, nat_le, length, None, ℤ, pos, ◌-ℤ◌, ◌*ℤ◌}
use Rattle.halo_sums.specs.Sums.{int_sum_over, numbers_from}
use Rattle.halo_status.specs.Naming.{NamesLivesBelow, names_term}
use Rattle.halo_status.specs.Nodes.{IsLasting}
use Rattle.halo_status.specs.Pay.{PlainPay}
use Rattle.halo_status.specs.declared.pay.Kind.TheVariants.{Insurance, Due}
use Rattle.halo_status.specs.declared.pay.Vary.TheVariants.{Level}
use Rattle.halo_model.specs.Life.{AreLives}
use Rattle.halo_contract.specs.declared.ties.Ties.TheVariants.{Declared}
use Rattle.halo_model.specs.Basis.{Basis, taken}
use Rattle.halo_model.specs.Chance.{IsValidInsurance}
use Rattle.halo_model.specs.Part.{due_part, existing_weight, paid_for_year}
use Rattle.halo_model.specs.PartLaws.{EndBy}
use Rattle.halo_contract.specs.Premium.{all_lives}
use Rattle.halo_model.specs.Value.{denominator, numerator}

-- what an insurance pays for year k adds to its value at T, if it pays whenever its body fails
abbrev pub year_part : Basis → PlainPay → ℕ → (ℕ → Bool) → ℕ → ℤ
year_part b pay T S k = cond (nat_le pay.defer k && nat_le T k)
    (pos (paid_for_year b pay T k)
    *ℤ (existing_weight b pay T S k -ℤ existing_weight b pay T S (suc k))) (pos 0)

-- each order counts alike
abbrev pub InsuranceByYears : Type 0
InsuranceByYears = (b : Basis)
    → AreLives b.lives → EndBy b.last_time b.lives → (pay : PlainPay) → pay.kind ≡ Insurance
    → pay.mark ≡ None → pay.causes ≡ None → IsLasting pay.body → (T : ℕ) (S : ℕ → Bool)
    → pos (numerator b pay T S)
    ≡ pos (length (taken b)) *ℤ int_sum_over (numbers_from 0 b.last_time) (year_part b pay T S)

-- the same pay as an annuity-due, and what its value has from time t, cleared of fractions: at the
-- start with all lives, in all orders taken
abbrev pub as_due : PlainPay → PlainPay
as_due pay = record pay { kind = Due }

abbrev pub due_numerator_at : Basis → PlainPay → ℕ → ℤ
due_numerator_at b pay t = pos (length (taken b)) *ℤ due_part b (as_due pay) 0 all_lives t

-- A level insurance of 1, from the start with all lives, is worth 1 less the interest in advance on
-- what the annuity-due pays: year k takes p / (p + q) of the payment at its start, and each of
-- these quotients is whole.
-- A = 1 - d · ä, with the discount d = 1 - v = p / (p + q)
abbrev pub InsuranceFromAnnuity : Type 0
InsuranceFromAnnuity = (b : Basis)
    → AreLives b.lives → EndBy b.last_time b.lives → (pay : PlainPay) → IsValidInsurance pay
    → pay.mark ≡ None → pay.causes ≡ None → pay.vary ≡ Level → pay.defer ≡ 0 → pay.amount ≡ 1
    → NamesLivesBelow (length b.lives) pay.body
    → ((n : ℕ) → IsTrue (names_term n pay.body) → n ≤ b.last_time)
    → (quotient : ℕ → ℤ)
    × ((k : ℕ) → k < b.last_time
    → quotient k *ℤ pos (b.p k + b.q k) ≡ pos (b.p k) *ℤ due_numerator_at b pay k)
    × (pos (numerator b pay 0 all_lives)
    ≡ pos (denominator b 0 all_lives) -ℤ int_sum_over (numbers_from 0 b.last_time) quotient)

-- So whichever rule for ties holds, each order taken gives what the declared order gives.
abbrev pub TiesDoNotMatter : Type 0
TiesDoNotMatter = (b : Basis)
    → AreLives b.lives → EndBy b.last_time b.lives → (pay : PlainPay) → pay.kind ≡ Insurance
    → pay.mark ≡ None → pay.causes ≡ None → IsLasting pay.body → (T : ℕ) (S : ℕ → Bool)
    → numerator b pay T S
    ≡ length (taken b) * numerator (record b { ties = Declared }) pay T S
