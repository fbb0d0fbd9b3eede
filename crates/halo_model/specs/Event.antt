-- The events of an outcome: lives leave, and terms end. A term of n years ends in year n - 1, after
-- the lives of that year.
use Rattle.std.specs.Prelude.{ℕ, suc, ◌-◌, Bool, false, not, ◌&&◌, ◌||◌, nat_eq, nat_lt, nat_le, List, [], ◌∷◌, filter, get_or, map, Option, Some, None}
use Rattle.halo_sums.specs.Sums.{numbers_from}
use Rattle.halo_status.specs.Tree.{Tree}
use Rattle.halo_status.specs.Naming.{names_term}
use Rattle.halo_model.specs.Outcome.{Exit, Outcome}

-- a life leaves, or a term of so many years ends
pub data Event : Type 0 where
  leaves : ℕ → Exit → Event
  ends : ℕ → Event

-- the year of an event
abbrev pub year_of : Event → ℕ
year_of (leaves i exit) = exit.year
year_of (ends n) = n - 1

-- the leavings of an outcome, its first life having the number i
abbrev pub leavings : ℕ → Outcome → List Event
leavings i [] = []
leavings i (None ∷ o) = leavings (suc i) o
leavings i (Some exit ∷ o) = leaves i exit ∷ leavings (suc i) o

-- the ends of the terms that a status names, each length once, up to a last one
abbrev pub term_ends : ℕ → Tree → List Event
term_ends last body = map ends (filter (λ n. names_term n body) (numbers_from 1 last))

-- whether life i leaves no earlier than an event comes; the lives that leave in one year do so by
-- their ranks
abbrev pub life_not_earlier : (ℕ → ℕ) → Event → ℕ → Option Exit → Bool
life_not_earlier rank event i None = false
life_not_earlier rank (leaves a x) i (Some y) =
    nat_lt x.year y.year || (nat_eq x.year y.year && nat_le (rank a) (rank i))
life_not_earlier rank (ends n) i (Some y) = nat_lt (n - 1) y.year

-- whether a term of n years ends no earlier than an event comes
abbrev pub term_not_earlier : Event → ℕ → Bool
term_not_earlier (leaves a x) n = nat_lt x.year n
term_not_earlier (ends m) n = nat_le m n

-- whether an event is the leaving of life i
abbrev pub is_leaving_of : Event → ℕ → Bool
is_leaving_of (leaves a x) i = nat_eq a i
is_leaving_of (ends m) i = false

-- whether an event is the end of the term of n years
abbrev pub is_end_of : Event → ℕ → Bool
is_end_of (leaves a x) n = false
is_end_of (ends m) n = nat_eq m n

-- the lives that are there just before an event, and the terms that are on: those whose own event
-- is not earlier
abbrev pub lives_before : (ℕ → ℕ) → Outcome → Event → ℕ → Bool
lives_before rank o event i = life_not_earlier rank event i (get_or o i None)

abbrev pub terms_before : Event → ℕ → Bool
terms_before event n = term_not_earlier event n

-- the same just after it: without the one whose event it is
abbrev pub lives_after : (ℕ → ℕ) → Outcome → Event → ℕ → Bool
lives_after rank o event i = lives_before rank o event i && not (is_leaving_of event i)

abbrev pub terms_after : Event → ℕ → Bool
terms_after event n = terms_before event n && not (is_end_of event n)
