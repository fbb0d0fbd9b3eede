-- Four lists of intervals, each with one entry for each set of lives, by the set's mask.
use Rattle.std.specs.Prelude.{◌≡◌, ℕ, List, get_or, length, pos}
use Rattle.halo_num.specs.Ends.{Ends}

-- what is worked on: the chances of a year, that all of a set survive it and that one of a set is
-- the first to leave in it and counts; and two values of each set, of which the second is taken off
pub record Lists : Type 0 where
  pub survivals : List Ends
  pub leavings : List Ends
  pub plus : List Ends
  pub minus : List Ends

-- an interval that is exactly 0
abbrev pub nothing : Ends
nothing = record { lo = pos 0; hi = pos 0 }

-- the entry of a list at a mask
abbrev pub entry : List Ends → ℕ → Ends
entry list mask = get_or list mask nothing

-- the lists have one entry for each of m sets
pub record HasEntries (m : ℕ) (lists : Lists) : Type 0 where
  pub survivals : length lists.survivals ≡ m
  pub leavings : length lists.leavings ≡ m
  pub plus : length lists.plus ≡ m
  pub minus : length lists.minus ≡ m
