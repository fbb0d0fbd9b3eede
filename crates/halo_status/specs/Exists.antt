-- When a status exists: the rules of joint life, last survivor and symmetric statuses, and of
-- reversion.
use Rattle.std.specs.Prelude.{IsTrue, ℕ, suc, Bool, true, false, not, ◌&&◌, nat_eq, nat_le, List, [], ◌∷◌}
use Rattle.std.specs.List.{list_all, list_any}
use Rattle.halo_sums.specs.Sums.{count_true}
use Rattle.halo_status.specs.Tree.{Tree, Trees, life, term, joint, last, at_least, exactly, after, none, more}

-- whether a status exists where the lives of the set `alive` are there and the terms of the set
-- `on` are on
abbrev mutual
  pub exists : (ℕ → Bool) → (ℕ → Bool) → Tree → Bool
  exists alive on (life i) = alive i
  exists alive on (term n) = on n
  exists alive on (joint ms) = list_all (λ b. b) (each_exists alive on ms)
  exists alive on (last ms) = list_any (λ b. b) (each_exists alive on ms)
  exists alive on (at_least r ms) = nat_le r (count_true (each_exists alive on ms))
  exists alive on (exactly r ms) = nat_eq (count_true (each_exists alive on ms)) r
  exists alive on (after s t) = exists alive on t && not (exists alive on s)

  -- whether each member does, by its place: a life that is named twice is one life in both places
  pub each_exists : (ℕ → Bool) → (ℕ → Bool) → Trees → List Bool
  each_exists alive on none = []
  each_exists alive on (more s ms) = exists alive on s ∷ each_exists alive on ms

-- the first set lies within the second
abbrev pub IsSubset : (ℕ → Bool) → (ℕ → Bool) → Type 0
IsSubset some all = (i : ℕ) → IsTrue (some i) → IsTrue (all i)

-- no life, or no term
abbrev pub empty_set : ℕ → Bool
empty_set i = false
