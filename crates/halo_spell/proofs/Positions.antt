-- The text of a status by what it is and where it stands.
use Rattle.std.proofs.Common.{◌≡◌, ◌≢◌, ℕ, List, refl}
use Rattle.halo_status.specs.Tree.{Tree, Trees, life, term, joint, last, at_least, exactly, after}
use Rattle.halo_symbol.specs.Bytes.{body_bytes, in_round, members_bytes, node_bytes}
use Rattle.halo_symbol.specs.Tree.{reversion}
use Rattle.halo_spell.specs.Canonical.{canonical_members, canonical_node, list_of}
use Rattle.halo_spell.specs.StatusText.{bytes_at}
use Rattle.halo_spell.specs.declared.status.Position.{Position}
use Rattle.halo_spell.specs.declared.status.Position.TheVariants.{Alone, Side, Member}

-- what holds at each position holds at any
at_any : (P : Position → Type 0) → P Alone → P Side → P Member → (p : Position) → P p
at_any P alone side member Alone = alone
at_any P alone side member Side = side
at_any P alone side member Member = member

module _ (names : List (List ℕ)) where
  -- a status that is neither joint nor a reversion is written the same wherever it stands
  pub bytes_at-life : (p : Position) (i : ℕ) → bytes_at p names (life i) ≡ node_bytes (canonical_node names (life i))
  bytes_at-life p i =
      at_any (λ p. bytes_at p names (life i) ≡ node_bytes (canonical_node names (life i))) refl refl refl p

  pub bytes_at-term : (p : Position) (n : ℕ) → bytes_at p names (term n) ≡ node_bytes (canonical_node names (term n))
  bytes_at-term p n =
      at_any (λ p. bytes_at p names (term n) ≡ node_bytes (canonical_node names (term n))) refl refl refl p

  pub bytes_at-last : (p : Position) (ms : Trees)
      → bytes_at p names (last ms) ≡ node_bytes (canonical_node names (last ms))
  bytes_at-last p ms =
      at_any (λ p. bytes_at p names (last ms) ≡ node_bytes (canonical_node names (last ms))) refl refl refl p

  pub bytes_at-at_least : (p : Position) (r : ℕ) (ms : Trees)
      → bytes_at p names (at_least r ms) ≡ node_bytes (canonical_node names (at_least r ms))
  bytes_at-at_least p r ms =
      at_any (λ p. bytes_at p names (at_least r ms) ≡ node_bytes (canonical_node names (at_least r ms))) refl refl
      refl p

  pub bytes_at-exactly : (p : Position) (r : ℕ) (ms : Trees)
      → bytes_at p names (exactly r ms) ≡ node_bytes (canonical_node names (exactly r ms))
  bytes_at-exactly p r ms =
      at_any (λ p. bytes_at p names (exactly r ms) ≡ node_bytes (canonical_node names (exactly r ms))) refl refl refl
      p

  -- a joint status has no brackets but as a member
  pub bytes_at-joint : (p : Position) (ms : Trees) → p ≢ Member
      → bytes_at p names (joint ms) ≡ members_bytes (canonical_members names ms)
  bytes_at-joint p ms =
      at_any (λ p. p ≢ Member → bytes_at p names (joint ms) ≡ members_bytes (canonical_members names ms)) (λ h. refl)
      (λ h. refl) (λ h. absurd (h refl)) p

  -- a reversion has brackets but by itself
  pub bytes_at-after : (p : Position) (s t : Tree) → p ≢ Alone
      → bytes_at p names (after s t) ≡ in_round
      (body_bytes (reversion (list_of (canonical_node names s)) (list_of (canonical_node names t))))
  bytes_at-after p s t =
      at_any (λ p. p ≢ Alone → bytes_at p names (after s t)
      ≡ in_round (body_bytes (reversion (list_of (canonical_node names s)) (list_of (canonical_node names t)))))
      (λ h. absurd (h refl)) (λ h. refl) (λ h. refl) p
