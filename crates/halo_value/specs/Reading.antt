-- The values of a pay at reserves, as far as a pass back over the years has come.
use Rattle.std.specs.Prelude.{◌≡◌, ℕ, ◌<◌, ◌≤◌, List, get_or, length, true}
use Rattle.halo_sums.specs.Masks.{has_bit}
use Rattle.halo_num.specs.Ends.{Ends}
use Rattle.halo_interest.specs.declared.powers.TheConstants.{LAST_TIME}
use Rattle.halo_contract.specs.declared.contract.ReserveLine.{ReserveLine}
use Rattle.halo_life.specs.Lists.{entry}
use Rattle.halo_life.specs.PlainGroup.{PlainGroup, survivors_in}
use Rattle.halo_compile.specs.declared.task.Task.{Task}
use Rattle.halo_value.specs.ByKind.{EnclosesTask}

-- a reserve at a time for which values are told, with lives of n alive that have survivors then
pub record CanBeRead (n : ℕ) (g : PlainGroup) (reserve : ReserveLine) : Type 0 where
  pub time_in : reserve.time ≤ LAST_TIME
  pub alive : (i : ℕ) → i < n → has_bit reserve.alive i ≡ true → 0 < survivors_in g reserve.time i

-- the reserve at a place
abbrev pub reserve_at : List ReserveLine → ℕ → ReserveLine
reserve_at reserves place = get_or reserves place (record { time = 0; alive = 0 })

-- at the place of each reserve whose time is a first one or later, there stands the pay's value
abbrev pub AreReadFrom : {n m : ℕ} → Task n m → List ReserveLine → ℕ → List Ends → Type 0
AreReadFrom task reserves first values = (place : ℕ) → place < length reserves
    → let reserve = reserve_at reserves place in
    first ≤ reserve.time
    → EnclosesTask task reserve.time (has_bit reserve.alive) (entry values place)
