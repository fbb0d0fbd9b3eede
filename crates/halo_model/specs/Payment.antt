-- What a pay pays on an outcome: the rules of annuities and insurances.
use Rattle.std.specs.Prelude.{ℕ, suc, ◌+◌, ◌-◌, ◌*◌, Bool, true, false, not, ◌&&◌, nat_eq, nat_le, nat_lt, List, get_or, length, Option, Some, None}
use Rattle.halo_sums.specs.Masks.{has_bit}
use Rattle.halo_status.specs.Tree.{Tree, Trees, joint, none}
use Rattle.halo_status.specs.Exists.{each_exists, exists}
use Rattle.halo_sums.specs.Sums.{count_true}
use Rattle.halo_status.specs.View.{is_on}
use Rattle.halo_status.specs.Pay.{PlainPay}
use Rattle.halo_status.specs.declared.pay.Mark.{Mark}
use Rattle.halo_status.specs.declared.pay.Vary.{Vary}
use Rattle.halo_status.specs.declared.pay.Vary.TheVariants.{Level, Increasing, Decreasing}
use Rattle.halo_status.specs.declared.view.View.TheVariants.{Due, Immediate}
use Rattle.halo_model.specs.Outcome.{Outcome}
use Rattle.halo_model.specs.There.{lives_at}
use Rattle.halo_model.specs.Event.{Event, leaves, ends, year_of, lives_after, lives_before, terms_after, terms_before}

-- by which factor a payment varies when so many years have passed since the deferral
abbrev pub factor : Vary → ℕ → ℕ
factor Level passed = 1
factor Increasing passed = passed + 1
factor (Decreasing n) passed = n - passed

-- a payment of a pay after so many years
abbrev pub payment : PlainPay → ℕ → ℕ
payment pay passed = pay.amount * factor pay.vary passed

-- whether an annuity-due pays at time t of an outcome from T: the body exists then
abbrev pub pays_due : PlainPay → ℕ → Outcome → ℕ → Bool
pays_due pay T o t =
    nat_le pay.defer t && nat_le T t && exists (lives_at t o) (is_on Due t) pay.body

-- whether an annuity-immediate does, which pays at the end of a year
abbrev pub pays_immediate : PlainPay → ℕ → Outcome → ℕ → Bool
pays_immediate pay T o t =
    nat_lt pay.defer t && nat_lt T t && exists (lives_at t o) (is_on Immediate t) pay.body

-- whether an event is by one of the causes of an insurance, if it has any: then it is a life's
-- leaving
abbrev pub by_cause : Option ℕ → Event → Bool
by_cause None event = true
by_cause (Some causes) (leaves i exit) = has_bit causes exit.cause
by_cause (Some causes) (ends n) = false

-- the members of a joint status
abbrev pub members_of : Tree → Trees
members_of (joint members) = members
members_of _ = none

-- whether a status fails between two states of lives and terms
abbrev pub fails : Tree → (ℕ → Bool) → (ℕ → Bool) → (ℕ → Bool) → (ℕ → Bool) → Bool
fails body alive on still_alive still_on =
    exists alive on body && not (exists still_alive still_on body)

-- whether a member fails at its rank, told by which members exist before and after: r - 1 others
-- have failed before
abbrev pub fails_at_rank : Mark → List Bool → List Bool → Bool
fails_at_rank mark before after =
    get_or before mark.member false && not (get_or after mark.member false)
    && nat_eq (suc (length before - count_true before)) mark.rank

-- whether the body of an insurance fails, or the marked member of a contingent one at its rank
abbrev pub fails_by_mark :
    Option Mark → Tree → (ℕ → Bool) → (ℕ → Bool) → (ℕ → Bool) → (ℕ → Bool) → Bool
fails_by_mark None body alive on still_alive still_on = fails body alive on still_alive still_on
fails_by_mark (Some mark) body alive on still_alive still_on =
    fails_at_rank mark (each_exists alive on (members_of body))
    (each_exists still_alive still_on (members_of body))

-- whether a payment of an insurance falls on an event of an outcome from T
abbrev pub falls_on : PlainPay → (ℕ → ℕ) → ℕ → Outcome → Event → Bool
falls_on pay rank T o event =
    nat_le pay.defer (year_of event) && nat_le T (year_of event) && by_cause pay.causes event
    && fails_by_mark pay.mark pay.body
    (lives_before rank o event) (terms_before event)
    (lives_after rank o event) (terms_after event)
