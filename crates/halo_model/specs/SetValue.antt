-- The value of an insurance by sets of lives, from the last year back to the first: for each set,
-- what falls due on the lives of the set if all of them are alive, with the coefficient of the set.
use Rattle.std.specs.Prelude.{ℕ, zero, suc, ◌-◌, Bool, true, false, cond, ◌&&◌, nat_eq, nat_le, List, length, Option, Some, None, ℤ, pos, ◌+ℤ◌, ◌-ℤ◌, ◌*ℤ◌}
use Rattle.halo_sums.specs.Sums.{int_sum_over, numbers_from}
use Rattle.halo_sums.specs.Sets.{in_set}
use Rattle.halo_status.specs.Tree.{Tree, member_at}
use Rattle.halo_status.specs.Naming.{names_life, names_term}
use Rattle.halo_status.specs.Pay.{PlainPay}
use Rattle.halo_status.specs.declared.pay.Mark.{Mark}
use Rattle.halo_model.specs.Life.{PlainLife}
use Rattle.halo_model.specs.Outcome.{joint_survivors}
use Rattle.halo_model.specs.Basis.{Basis, accumulated}
use Rattle.halo_model.specs.Event.{ends}
use Rattle.halo_model.specs.Payment.{by_cause, members_of, payment}
use Rattle.halo_model.specs.Coefficient.{form}
use Rattle.halo_model.specs.Expectation.{all_there_at_leaving, looked_at}
use Rattle.halo_model.specs.Chance.{asked}

-- the part of a body whose failing an insurance pays: the marked member, or the whole body without
-- a mark
abbrev pub failing_part : Option Mark → Tree → Option Tree
failing_part None body = Some body
failing_part (Some mark) body = member_at (members_of body) mark.member

-- whether there is such a part, and a test holds of it
abbrev pub holds_of : Option Tree → (Tree → Bool) → Bool
holds_of None test = false
holds_of (Some part) test = test part

-- whether a payment can fall on the leaving of life a: the part names it
abbrev pub can_fall_on_life : PlainPay → ℕ → Bool
can_fall_on_life pay a = holds_of (failing_part pay.mark pay.body) (names_life a)

-- whether it can fall on the end of a term of n years: the part names it, and the pay does not ask
-- for causes
abbrev pub can_fall_on_term : PlainPay → ℕ → Bool
can_fall_on_term pay n =
    by_cause pay.causes (ends n) && holds_of (failing_part pay.mark pay.body) (names_term n)

-- some events: the leavings of some lives, and the ends of the terms of some lengths
pub record SomeEvents : Type 0 where
  pub lives : ℕ → Bool
  pub terms : ℕ → Bool

abbrev pub all_events : SomeEvents
all_events = record { lives = λ a. true; terms = λ n. true }

abbrev pub leaving_of : ℕ → SomeEvents
leaving_of a = record { lives = λ i. nat_eq i a; terms = λ n. false }

abbrev pub end_of_term : ℕ → SomeEvents
end_of_term n = record { lives = λ a. false; terms = λ m. nat_eq m n }

-- of a set of lives that are alive at k, the weight with which a payment can fall on one of these
-- leavings in year k: the leavers of the life, by the causes asked, times the survivors of the
-- others, at k + 1 of those that come before it and at k of those that come after it
abbrev pub leaving_weight : PlainPay → SomeEvents → (ℕ → ℕ) → List PlainLife → ℕ → List Bool → ℤ
leaving_weight pay events rank lives k s = int_sum_over (numbers_from 0 (length lives)) (λ a.
    cond (events.lives a && can_fall_on_life pay a) (all_there_at_leaving a
    (asked pay.causes) k (looked_at rank a k) k (in_set s) lives s) (pos 0))

-- and the weight with which it can fall on the end of a term in year k, after all of them have
-- survived the year
abbrev pub ending_weight : PlainPay → SomeEvents → List PlainLife → ℕ → List Bool → ℤ
ending_weight pay events lives k s =
    cond (events.terms (suc k) && can_fall_on_term pay (suc k))
    (pos (joint_survivors (suc k) (in_set s) lives)) (pos 0)

-- What is due for a set at the end of year k: on a leaving, by the coefficient of the year; on the
-- end of a term, by what the coefficient loses to the next year.
abbrev pub due_for_year : PlainPay → SomeEvents → (ℕ → ℕ) → List PlainLife → ℕ → List Bool → ℤ
due_for_year pay events rank lives k s =
    cond (nat_le pay.defer k) (pos (payment pay (k - pay.defer))
    *ℤ (form pay k s *ℤ leaving_weight pay events rank lives k s
    +ℤ (form pay k s -ℤ form pay (suc k) s) *ℤ ending_weight pay events lives k s)) (pos 0)

-- the value at k of what is due at the ends of so many years from k on, cleared of fractions: a
-- year back, what is due and what comes after are discounted together
-- A_(x+k) = v · (q_(x+k) + p_(x+k) · A_(x+k+1))
abbrev pub value_over : Basis → (ℕ → ℤ) → ℕ → ℕ → ℤ
value_over b due k zero = pos 0
value_over b due k (suc years) =
    pos (b.q k) *ℤ (due k *ℤ pos (accumulated b (suc k)) +ℤ value_over b due (suc k) years)

-- the value at T for a set, told in the parts of which its lives at T, with the interest of all
-- years, are the whole
abbrev pub set_value : Basis → PlainPay → SomeEvents → (ℕ → ℕ) → ℕ → List Bool → ℤ
set_value b pay events rank T s =
    value_over b (λ k. due_for_year pay events rank b.lives k s) T (b.last_time - T)
