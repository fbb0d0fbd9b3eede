-- The events of an insurance that count in a pass over its years.
use Rattle.std.specs.Prelude.{ℕ, ⊤, ◌<◌, ◌≤◌, Bool, ℤ, pos}
use Rattle.halo_status.specs.Pay.{PlainPay}
use Rattle.halo_interest.specs.declared.powers.TheConstants.{LAST_TIME}
use Rattle.halo_model.specs.Basis.{Basis}
use Rattle.halo_model.specs.SetValue.{SomeEvents, all_events, end_of_term, leaving_of}
use Rattle.halo_model.specs.Value.{numerator}
use Rattle.halo_insure.specs.declared.events.Events.{Events}
use Rattle.halo_insure.specs.declared.events.Events.TheVariants.{Every, Leaving, End}
use Rattle.halo_along.specs.Parts.{worth_on_end, worth_on_leaving}

-- which events they are
abbrev pub events_of : Events → SomeEvents
events_of Every = all_events
events_of (Leaving life) = leaving_of life
events_of (End years) = end_of_term years

-- the life is one of n lives, and the term is one that ends by the last time
abbrev pub AreEventsOf : ℕ → Events → Type 0
AreEventsOf n Every = ⊤
AreEventsOf n (Leaving life) = life < n
AreEventsOf n (End years) = (1 ≤ years) × (years ≤ LAST_TIME)

-- what falls on them at T with the lives of S alive, over the orders taken
abbrev pub worth_on : Events → Basis → PlainPay → ℕ → (ℕ → Bool) → ℤ
worth_on Every b pay T S = pos (numerator b pay T S)
worth_on (Leaving life) b pay T S = worth_on_leaving b pay T S life
worth_on (End years) b pay T S = worth_on_end b pay T S years
