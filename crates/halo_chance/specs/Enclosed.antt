-- The chance of a status along its tree, where the chances of its lives are enclosed.
use Rattle.std.specs.Prelude.{ℕ, ◌+◌, ◌<◌, ◌≤◌, Bool, IsTrue, List, get_or, length, pos}
use Rattle.halo_num.specs.Ends.{Ends, IsWithin, fine}
use Rattle.halo_num.specs.Chance.{EnclosesChance}
use Rattle.halo_status.specs.Tree.{Tree, Trees, life, term, joint, last, at_least, exactly, after, none, more}
use Rattle.halo_status.specs.Naming.{any_names_life, names_life}
use Rattle.halo_model.specs.ByTree.{weight_of, whole_in, whole_of}

-- the entry at a place
abbrev pub entry_at : List Ends → ℕ → Ends
entry_at entries i = get_or entries i (record { lo = pos 0; hi = pos 0 })

-- each of so many entries is a chance: from 0 to 1
pub record EachIsChance (count : ℕ) (entries : List Ends) : Type 0 where
  pub room : count ≤ length entries
  pub each : (i : ℕ) → i < count → IsWithin (entry_at entries i) (pos 0) (pos fine)

-- the entry of each life that is named encloses the chance n i / d i, at most w i fine units wide
pub record AreEnclosed (n d w : ℕ → ℕ) (entries : List Ends) (names : ℕ → Bool) : Type 0 where
  pub some : (i : ℕ) → IsTrue (names i) → 0 < d i
  pub each : (i : ℕ) → IsTrue (names i) → EnclosesChance (n i) (d i) (w i) (entry_at entries i)

-- the sum of the widths of the lives of a status, each as often as it stands there
abbrev mutual
  pub life_widths : (ℕ → ℕ) → Tree → ℕ
  life_widths w (life i) = w i
  life_widths w (term m) = 0
  life_widths w (joint ms) = life_widths_in w ms
  life_widths w (last ms) = life_widths_in w ms
  life_widths w (at_least r ms) = life_widths_in w ms
  life_widths w (exactly r ms) = life_widths_in w ms
  life_widths w (after s t) = life_widths w s + life_widths w t

  pub life_widths_in : (ℕ → ℕ) → Trees → ℕ
  life_widths_in w none = 0
  life_widths_in w (more s ms) = life_widths w s + life_widths_in w ms

-- how wide the chance of a status may be: each member, and each side of one status after another,
-- adds 1 for its rounding
abbrev mutual
  pub spread : (ℕ → ℕ) → Tree → ℕ
  spread w (life i) = w i
  spread w (term m) = 0
  spread w (joint ms) = spread_in w ms
  spread w (last ms) = spread_in w ms
  spread w (at_least r ms) = spread_in w ms
  spread w (exactly r ms) = spread_in w ms
  spread w (after s t) = spread w t + spread w s + 1

  pub spread_in : (ℕ → ℕ) → Trees → ℕ
  spread_in w none = 0
  spread_in w (more s ms) = spread w s + spread_in w ms + 1

-- i encloses the chance of a status, for all chances of its lives that the entries enclose
unfoldable pub EnclosesTree : List Ends → (ℕ → Bool) → Tree → Ends → Type 0
EnclosesTree entries on s i =
    (n d w : ℕ → ℕ) → AreEnclosed n d w entries (λ a. names_life a s)
    → EnclosesChance (weight_of n d on s) (whole_of d s) (spread w s) i

-- i encloses a chance of some members, told by its weight
unfoldable pub EnclosesMembers : List Ends → Trees → ((ℕ → ℕ) → (ℕ → ℕ) → ℕ) → Ends → Type 0
EnclosesMembers entries ms weight i =
    (n d w : ℕ → ℕ) → AreEnclosed n d w entries (λ a. any_names_life a ms)
    → EnclosesChance (weight n d) (whole_in d ms) (spread_in w ms) i
