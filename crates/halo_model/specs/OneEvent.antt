-- In each year the events on which an unmarked insurance by any cause pays number 1 where its body
-- fails in the year, else 0.
use Rattle.std.specs.Prelude.{◌≡◌, ℕ, suc, ◌+◌, ◌<◌, ◌≤◌, All, Bool, cond, not, ◌&&◌, nat_eq, length, None}
use Rattle.halo_sums.specs.Sums.{sum_over}
use Rattle.halo_status.specs.Exists.{exists}
use Rattle.halo_status.specs.Nodes.{IsLasting}
use Rattle.halo_status.specs.Pay.{PlainPay}
use Rattle.halo_status.specs.View.{is_on}
use Rattle.halo_status.specs.declared.view.View.TheVariants.{Due}
use Rattle.halo_model.specs.Outcome.{Outcome}
use Rattle.halo_model.specs.There.{lives_at}
use Rattle.halo_model.specs.Event.{Event, leavings, term_ends, year_of}
use Rattle.halo_model.specs.Order.{rank_in}
use Rattle.halo_model.specs.Basis.{Basis, taken}
use Rattle.halo_model.specs.Payment.{falls_on}

-- whether a payment falls on an event, and in year k
abbrev pub falls_in_year : PlainPay → (ℕ → ℕ) → ℕ → Outcome → ℕ → Event → Bool
falls_in_year pay rank T o k event = nat_eq (year_of event) k && falls_on pay rank T o event

-- how many payments of an insurance fall on the events of year k of an outcome from T
abbrev pub payments_in_year : PlainPay → ℕ → (ℕ → ℕ) → ℕ → Outcome → ℕ → ℕ
payments_in_year pay last rank T o k =
    sum_over (leavings 0 o) (λ event. cond (falls_in_year pay rank T o k event) 1 0)
    + sum_over (term_ends last pay.body) (λ event. cond (falls_in_year pay rank T o k event) 1 0)

-- whether the body of a pay exists at time k and not at k + 1, seen as payments in advance see it
abbrev pub fails_in_year : PlainPay → Outcome → ℕ → Bool
fails_in_year pay o k = exists (lives_at k o) (is_on Due k) pay.body
    && not (exists (lives_at (suc k) o) (is_on Due (suc k)) pay.body)

-- in each order taken, for a year from the start and from the deferral on
abbrev pub OneEventAYear : Type 0
OneEventAYear = (b : Basis) (pay : PlainPay)
    → pay.mark ≡ None → pay.causes ≡ None → IsLasting pay.body
    → (T : ℕ) (o : Outcome)
    → length o ≡ length b.lives → (k : ℕ) → T ≤ k → pay.defer ≤ k → k < b.last_time
    → All (λ order. payments_in_year pay b.last_time (rank_in order) T o k
    ≡ cond (fails_in_year pay o k) 1 0) (taken b)
