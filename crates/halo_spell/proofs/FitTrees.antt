-- Trees that can be written so that they are read again: what each node of them has.
use Rattle.std.proofs.Common.{ℕ, ◌≤◌, ◌<◌}
use Rattle.std.specs.Prelude.{⊤}
use Rattle.halo_status.proofs.Agreement.{or-left, or-right, same}
use Rattle.halo_status.specs.Bounds.{IsShort}
use Rattle.halo_status.specs.Naming.{AnyNamesLivesBelow, NamesLivesBelow, names_life}
use Rattle.halo_status.specs.Nodes.{AtEachNode, AtEachNodeIn, HasShortList}
use Rattle.halo_status.specs.Tree.{Tree, Trees, life, term, joint, last, at_least, exactly, after, none, more, member_count}
use Rattle.halo_status.specs.ValidPay.{HasLength, HasRank, IsLength, IsRank}

-- a joint status of at least two members
abbrev pub IsJointOfTwo : Tree → Type 0
IsJointOfTwo (joint ms) = 2 ≤ member_count ms
IsJointOfTwo _ = ⊤

-- a life below a bound
abbrev IsLifeBelow : ℕ → Tree → Type 0
IsLifeBelow bound (life i) = i < bound
IsLifeBelow bound _ = ⊤

-- all that a node needs: its number and its list are within their limits, and a joint status has at least two members
abbrev pub IsFit : ℕ → Tree → Type 0
IsFit bound (life i) = i < bound
IsFit bound (term years) = IsLength years
IsFit bound (joint ms) = (2 ≤ member_count ms) × (member_count ms ≤ 16)
IsFit bound (last ms) = IsShort (member_count ms)
IsFit bound (at_least rank ms) = IsShort (member_count ms) × IsRank rank (member_count ms)
IsFit bound (exactly rank ms) = IsShort (member_count ms) × IsRank rank (member_count ms)
IsFit bound (after s t) = ⊤

-- two facts that hold of each node hold together
module _ (P Q R : Tree → Type 0) (both : (s : Tree) → P s → Q s → R s) where
  mutual
    pub at_each_both : (s : Tree) → AtEachNode P s → AtEachNode Q s → AtEachNode R s
    at_each_both (life i) p q = both (life i) p q
    at_each_both (term n) p q = both (term n) p q
    at_each_both (joint ms) p q = (both (joint ms) p.0 q.0, at_each_in_both ms p.1 q.1)
    at_each_both (last ms) p q = (both (last ms) p.0 q.0, at_each_in_both ms p.1 q.1)
    at_each_both (at_least r ms) p q = (both (at_least r ms) p.0 q.0, at_each_in_both ms p.1 q.1)
    at_each_both (exactly r ms) p q = (both (exactly r ms) p.0 q.0, at_each_in_both ms p.1 q.1)
    at_each_both (after s t) p q = (both (after s t) p.0 q.0, at_each_both s p.1 q.1, at_each_both t p.2 q.2)

    pub at_each_in_both : (ms : Trees) → AtEachNodeIn P ms → AtEachNodeIn Q ms → AtEachNodeIn R ms
    at_each_in_both none p q = tt
    at_each_in_both (more s ms) p q = (at_each_both s p.0 q.0, at_each_in_both ms p.1 q.1)

module _ (bound : ℕ) where
  mutual
    lives_below : (s : Tree) → NamesLivesBelow bound s → AtEachNode (IsLifeBelow bound) s
    lives_below (life i) below = below i (same i)
    lives_below (term n) below = tt
    lives_below (joint ms) below = (tt, lives_below_in ms below)
    lives_below (last ms) below = (tt, lives_below_in ms below)
    lives_below (at_least r ms) below = (tt, lives_below_in ms below)
    lives_below (exactly r ms) below = (tt, lives_below_in ms below)
    lives_below (after s t) below = (
      tt,
      lives_below s (λ i named. below i (or-left _ _ named)),
      lives_below t
          (λ i named. below i (or-right (names_life i s) _ named)),
    )

    lives_below_in : (ms : Trees) → AnyNamesLivesBelow bound ms → AtEachNodeIn (IsLifeBelow bound) ms
    lives_below_in none below = tt
    lives_below_in (more s ms) below = (
      lives_below s (λ i named. below i (or-left _ _ named)),
      lives_below_in ms
          (λ i named. below i (or-right (names_life i s) _ named)),
    )

  -- what each fact says of a node
  abbrev All4 : Tree → Type 0
  All4 s = (IsLifeBelow bound s × HasLength s) × (HasShortList s × HasRank s)

  fit_one : (s : Tree) → All4 s → IsJointOfTwo s → IsFit bound s
  fit_one (life i) p two = p.0.0
  fit_one (term n) p two = p.0.1
  fit_one (joint ms) p two = (two, p.1.0.1)
  fit_one (last ms) p two = p.1.0
  fit_one (at_least r ms) p two = p.1
  fit_one (exactly r ms) p two = p.1
  fit_one (after s t) p two = tt

  -- the members of a status with those facts are fit
  pub fit_in : (ms : Trees) → AnyNamesLivesBelow bound ms → AtEachNodeIn HasLength ms → AtEachNodeIn HasShortList ms
      → AtEachNodeIn HasRank ms → AtEachNodeIn IsJointOfTwo ms → AtEachNodeIn (IsFit bound) ms
  fit_in ms below lengths short ranks two =
      let a =
      at_each_in_both (IsLifeBelow bound) HasLength (λ s. IsLifeBelow bound s × HasLength s) (λ s p q. (p, q)) ms
      (lives_below_in ms below) lengths in
      let b = at_each_in_both HasShortList HasRank (λ s. HasShortList s × HasRank s) (λ s p q. (p, q)) ms short ranks in
      let c =
      at_each_in_both (λ s. IsLifeBelow bound s × HasLength s) (λ s. HasShortList s × HasRank s) All4
      (λ s p q. (p, q)) ms a b in
      at_each_in_both All4 IsJointOfTwo (IsFit bound) fit_one ms c two

  -- and so is a status with them
  pub fit : (s : Tree) → NamesLivesBelow bound s → AtEachNode HasLength s → AtEachNode HasShortList s
      → AtEachNode HasRank s → AtEachNode IsJointOfTwo s → AtEachNode (IsFit bound) s
  fit s below lengths short ranks two =
      let a =
      at_each_both (IsLifeBelow bound) HasLength (λ s. IsLifeBelow bound s × HasLength s) (λ s p q. (p, q)) s
      (lives_below s below) lengths in
      let b = at_each_both HasShortList HasRank (λ s. HasShortList s × HasRank s) (λ s p q. (p, q)) s short ranks in
      let c =
      at_each_both (λ s. IsLifeBelow bound s × HasLength s) (λ s. HasShortList s × HasRank s) All4 (λ s p q. (p, q))
      s a b in
      at_each_both All4 IsJointOfTwo (IsFit bound) fit_one s c two
