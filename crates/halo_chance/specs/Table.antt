-- Tables of chances by ranks: that the number of members that exist passes the test of a rank.
use Rattle.std.specs.Prelude.{ℕ, zero, suc, ◌+◌, ◌-◌, ◌*◌, ◌<◌, ◌≤◌, Bool, true, false, nat_eq, nat_le, List}
use Rattle.halo_num.specs.Ends.{Ends}
use Rattle.halo_num.specs.Chance.{EnclosesChance}
use Rattle.halo_status.specs.Tree.{Trees}
use Rattle.halo_model.specs.ByTree.{weight_of_count}
use Rattle.halo_chance.specs.Enclosed.{EnclosesMembers, entry_at}

-- at least so many, or exactly so many; those stand one place later, after a place that no number
-- passes
abbrev pub passes_at : Bool → ℕ → ℕ → Bool
passes_at false rank count = nat_le rank count
passes_at true zero count = false
passes_at true (suc rank) count = nat_eq count rank

-- the table of some members, up to a place
unfoldable pub IsTable : List Ends → (ℕ → Bool) → Bool → ℕ → Trees → List Ends → Type 0
IsTable entries on exact top ms table =
    (place : ℕ) → place ≤ top
    → EnclosesMembers entries ms (λ n d. weight_of_count n d on (passes_at exact place) ms)
    (entry_at table place)

-- a table that grows by a member of that chance, from the place 1 up to a place
unfoldable pub Grows : Ends → ℕ → List Ends → List Ends → Type 0
Grows chance top others table =
    (place s d x y e u w : ℕ) → place < top → 0 < e → EnclosesChance s d u chance
    → EnclosesChance x e w (entry_at others place)
    → EnclosesChance y e w (entry_at others (place + 1))
    → EnclosesChance (s * x + (d - s) * y) (d * e) (u + w + 1) (entry_at table (place + 1))
