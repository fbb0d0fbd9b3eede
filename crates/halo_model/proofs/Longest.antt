-- The longest of the years of a status: what its parts need, and what they add up to.
use Rattle.std.proofs.Common.{◌≡◌, ◌⊎◌, ℕ, ◌+◌, ◌<◌, ◌≤◌, List, length, drop, max, ap, arith, inl, inr, Some}
use Rattle.std.specs.Prelude.{slice_get}
use Rattle.std.proofs.lemmas.List.{get_or-map}
use Rattle.std.specs.declared.boxed.Box.{Box}
use Rattle.std.specs.declared.alloc.Global.{Global}
use Rattle.halo_status.specs.declared.status.Status.{Status, Life as LifeStatus, Term, After}
use Rattle.halo_status.specs.Tree.{Tree, joint, last, at_least, exactly}
use Rattle.halo_status.specs.StatusTree.{tree_of, trees_in}
use Rattle.halo_status.specs.Naming.{names_life, names_term}
use Rattle.halo_status.proofs.Lists.{HasMembers}
use Rattle.halo_status.proofs.Shapes.{tree_of-AtLeast, tree_of-Exactly, tree_of-Joint, tree_of-Last, tree_of-After, tree_of-Life, tree_of-Term}
use Rattle.halo_table.specs.DecrementTable.{TableFile, HasRow}
use Rattle.halo_table.specs.declared.lives.Life.{Life}
use Rattle.halo_model.specs.FromTables.{life_of, lives_of}
use Rattle.halo_status.proofs.Agreement.{or-left, or-right, same}
use Rattle.halo_status.proofs.NamedMembers.{names_life-at, names_term-at, split_at}
use Rattle.halo_model.specs.Horizon.{HasRows, HasShortTerms, HaveRows, HaveShortTerms, life_at, longest, longest_of, years_left_of}

-- what holds of the tree of a status with a list of members, whichever of the four it is
listed : (P : Tree → Type 0) (now : Status) (ms : List Status) → HasMembers now ms → P (tree_of now)
    → P (joint (trees_in ms)) ⊎ P (last (trees_in ms)) ⊎ ((r : ℕ) × P (at_least r (trees_in ms)))
    ⊎ ((r : ℕ) × P (exactly r (trees_in ms)))
listed P now ms (inl e) h = inl (rw (e, tree_of-Joint ms) at h)
listed P now ms (inr (inl e)) h = inr (inl (rw (e, tree_of-Last ms) at h))
listed P now ms (inr (inr (inl e))) h = inr (inr (inl (e.0, rw (e.1, tree_of-AtLeast e.0 ms) at h)))
listed P now ms (inr (inr (inr e))) h = inr (inr (inr (e.0, rw (e.1, tree_of-Exactly e.0 ms) at h)))

module _ (file : TableFile) (lives : List Life) where
  pub at_life : (now : Status) (i : ℕ) → now ≡ LifeStatus i → HasRows file lives (tree_of now)
      → (i < length lives) × HasRow file (life_at lives i).table (life_at lives i).age
  at_life now i e rows = rows i (rw (e, tree_of-Life i) (same i))

  pub at_term : (now : Status) (n : ℕ) → now ≡ Term n → HasShortTerms (tree_of now) → n ≤ 200
  at_term now n e terms = terms n (rw (e, tree_of-Term n) (same n))

  pub first_of : (now : Status) (s t : Box Status Global) → now ≡ After s t → HasRows file lives (tree_of now)
      → HasShortTerms (tree_of now) → HasRows file lives (tree_of s.value) × HasShortTerms (tree_of s.value)
  first_of now s t e rows terms = (
    λ i h. rows i (rw (e, tree_of-After s t) (or-left _ _ h)),
    λ n h. terms n (rw (e, tree_of-After s t) (or-left _ _ h)),
  )

  pub then_of : (now : Status) (s t : Box Status Global) → now ≡ After s t → HasRows file lives (tree_of now)
      → HasShortTerms (tree_of now) → HasRows file lives (tree_of t.value) × HasShortTerms (tree_of t.value)
  then_of now s t e rows terms = (
    λ i h. rows i (rw (e, tree_of-After s t) (or-right (names_life i (tree_of s.value)) _ h)),
    λ n h. terms n (rw (e, tree_of-After s t) (or-right (names_term n (tree_of s.value)) _ h)),
  )

  pub members_of_list : (now : Status) (ms : List Status) → HasMembers now ms → HasRows file lives (tree_of now)
      → HasShortTerms (tree_of now) → HaveRows file lives (trees_in ms) × HaveShortTerms (trees_in ms)
  members_of_list now ms is rows terms =
      elim (listed (λ s. HasRows file lives s × HasShortTerms s) now ms is (rows, terms))
      [ inl h ↦ h | inr (inl h) ↦ h | inr (inr (inl h)) ↦ h.1 | inr (inr (inr h)) ↦ h.1 ]

  pub member_of : (ms : List Status) (i : ℕ) (s : Status) → slice_get ms i ≡ Some s → HaveRows file lives (trees_in ms)
      → HaveShortTerms (trees_in ms) → HasRows file lives (tree_of s) × HasShortTerms (tree_of s)
  member_of ms i s h rows terms =
      (λ a e. rows a (names_life-at ms i s h a e), λ n e. terms n (names_term-at ms i s h n e))

  pub years_at : (now : Status) (i : ℕ) → now ≡ LifeStatus i → i < length lives
      → longest (years_left_of (lives_of file lives)) (tree_of now)
      ≡ (life_of file (life_at lives i).table (life_at lives i).age).years_left
  years_at now i e within =
      rw (e, tree_of-Life i) (ap (λ x. x.years_left)
      (get_or-map (λ life. life_of file life.table life.age) lives i (record { table = 0; age = 0 }) _ within))

  -- the longest so far and behind, once the member at a place is taken
  pub taken : (ms : List Status) (i : ℕ) (s : Status) → i < length ms → slice_get ms i ≡ Some s → (years so_far : ℕ)
      → so_far ≡ max (longest (years_left_of (lives_of file lives)) (tree_of s)) years
      → max years (longest_of (years_left_of (lives_of file lives)) (trees_in (drop i ms)))
      ≡ longest_of (years_left_of (lives_of file lives)) (trees_in ms)
      → max so_far (longest_of (years_left_of (lives_of file lives)) (trees_in (drop (i + 1) ms)))
      ≡ longest_of (years_left_of (lives_of file lives)) (trees_in ms)
  taken ms i s within at years so_far e h =
      let split = ap (longest_of (years_left_of (lives_of file lives))) (split_at ms i s within at) in
      turned _ years so_far _ _ _ e split h
    where
      turned : (here years so_far behind all from_here : ℕ) → so_far ≡ max here years → from_here ≡ max here behind
          → max years from_here ≡ all → max so_far behind ≡ all
      turned here years so_far behind all from_here e split h = omega arith
