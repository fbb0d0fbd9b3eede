-- The chance of a whole status: what its tree gives is the chance, and its width in the words of its lives and nodes.
use Rattle.std.proofs.Common.{◌≡◌, ℕ, ◌+◌, ◌≤◌, arith, ◌∙◌, Bool, List, ℤ, pos, ◌*ℤ◌, mul_comm}
use Rattle.std.proofs.lemmas.Int.{ints}
use Rattle.halo_num.specs.Ends.{Ends}
use Rattle.halo_num.specs.Enclosure.{Encloses}
use Rattle.halo_num.specs.Chance.{EnclosesChance}
use Rattle.halo_num.proofs.Chances.{chance_wider}
use Rattle.halo_num.proofs.Enclosures.{encloses_reduced, encloses_scaled}
use Rattle.halo_sums.specs.Sums.{numbers_from, product_over}
use Rattle.halo_status.specs.Tree.{Tree, Trees, life, term, joint, last, at_least, exactly, after, none, more}
use Rattle.halo_status.specs.Naming.{NamesLivesBelow, names_life}
use Rattle.halo_status.specs.Nodes.{nodes, nodes_in}
use Rattle.halo_status.specs.ReadOnce.{IsReadOnce}
use Rattle.halo_model.specs.ByTree.{weight_of, whole_of}
use Rattle.halo_model.specs.ByTreeLaws.{AreChances}
use Rattle.halo_model.specs.Independent.{existence_weight}
use Rattle.halo_model.proofs.Independent.{existence-by-tree}
use Rattle.halo_chance.specs.Enclosed.{AreEnclosed, EnclosesTree, life_widths, life_widths_in, spread, spread_in}
use Rattle.halo_chance.proofs.Enclosing.{whole-positive}

-- the width, by lives and nodes
mutual
  spread-le : (w : ℕ → ℕ) (s : Tree) → spread w s + 1 ≤ life_widths w s + nodes s
  spread-le w (life i) = omega arith
  spread-le w (term m) = omega arith
  spread-le w (joint ms) = omega (arith, spread_in-le w ms)
  spread-le w (last ms) = omega (arith, spread_in-le w ms)
  spread-le w (at_least r ms) = omega (arith, spread_in-le w ms)
  spread-le w (exactly r ms) = omega (arith, spread_in-le w ms)
  spread-le w (after s t) = omega (arith, spread-le w s, spread-le w t)

  pub spread_in-le : (w : ℕ → ℕ) (ms : Trees) → spread_in w ms ≤ life_widths_in w ms + nodes_in ms
  spread_in-le w none = omega arith
  spread_in-le w (more s ms) = omega (arith, spread-le w s, spread_in-le w ms)

pub along-whole : (entries : List Ends) (on : ℕ → Bool) (s : Tree) (i : Ends) → EnclosesTree entries on s i
    → (n d w : ℕ → ℕ) → AreEnclosed n d w entries (λ a. names_life a s)
    → EnclosesChance (weight_of n d on s) (whole_of d s) (life_widths w s + nodes s) i
unfolding EnclosesTree
along-whole entries on s i c n d w e =
    chance_wider (weight_of n d on s) (whole_of d s) (spread w s) (life_widths w s + nodes s) i
    (omega (arith, spread-le w s)) (c n d w e)

pub independent-whole : (entries : List Ends) (on : ℕ → Bool) (s : Tree) (i : Ends) → IsReadOnce s
    → EnclosesTree entries on s i → (n d w : ℕ → ℕ) → AreChances n d → AreEnclosed n d w entries (λ a. names_life a s)
    → (count : ℕ) → NamesLivesBelow count s
    → Encloses i (existence_weight count n d on s) (product_over (numbers_from 0 count) d)
unfolding EnclosesTree
independent-whole entries on s i once c n d w proper e count named =
    let law = existence-by-tree count n d proper on s once named in
    let whole = product_over (numbers_from 0 count) d in
    let sides : existence_weight count n d on s *ℤ pos (whole_of d s) ≡ pos (weight_of n d on s) *ℤ pos whole =
    commuted (existence_weight count n d on s) (pos (whole_of d s)) ∙ law in
    encloses_reduced i (existence_weight count n d on s) whole (whole_of d s) (whole-positive n d w entries s e)
    (rw (sides, mul_comm whole (whole_of d s))
    (encloses_scaled i (pos (weight_of n d on s)) (whole_of d s) whole (c n d w e).encloses))
  where
    commuted : (a b : ℤ) → a *ℤ b ≡ b *ℤ a
    commuted a b = omega (arith, ints)
