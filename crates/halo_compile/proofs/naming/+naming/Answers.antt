-- The lives of a status are found in its parts.
use Rattle.std.proofs.Common.{◌≡◌, ℕ, ◌+◌, ◌<◌, ◌≤◌, arith, refl, ap, sym, ◌∙◌, List, length, drop, Bool, true, false, ◌||◌, Some}
use Rattle.std.specs.Prelude.{bit_or, slice_get}
use Rattle.std.specs.declared.alloc.Global.{Global}
use Rattle.std.specs.declared.boxed.Box.{Box}
use Rattle.std.proofs.Math.Bool.{or_assoc}
use Rattle.std.proofs.lemmas.List.{drop_all}
use Rattle.halo_sums.specs.Masks.{has_bit}
use Rattle.halo_status.specs.Naming.{any_names_life, names_life}
use Rattle.halo_status.specs.StatusTree.{tree_of, trees_in}
use Rattle.halo_status.specs.declared.status.Status.{After, Status}
use Rattle.halo_status.proofs.Masks.{has_bit-or}
use Rattle.halo_status.proofs.NamedMembers.{split_at}
use Rattle.halo_status.proofs.Shapes.{tree_of-After}
use Rattle.halo_status.proofs.Words.{has_bit-none}
use Rattle.halo_compile.specs.Marks.{AreNamed}
use Rattle.halo_compile.proofs.naming.+naming.Goals as goal

-- the lives of one status after another are those of both
both_named : (now : Status) (s t : Box Status Global) (first second : ℕ) → now ≡ After s t
    → AreNamed 16 (tree_of s.value) first → AreNamed 16 (tree_of t.value) second
    → AreNamed 16 (tree_of now) (bit_or first second)
both_named now s t first second is f g i h = rw (is, tree_of-After s t) (
    has_bit-or first second i
    ∙ ap (λ b. b || has_bit second i) (f i h)
    ∙ ap (λ b. names_life i (tree_of s.value) || b) (g i h))

module _ (ms : List Status) where
  -- the lives that were found, and those of the members from a place on, are all
  abbrev AreFound : ℕ → ℕ → Type 0
  AreFound named k =
      (i : ℕ) → i < 16
      → (has_bit named i || any_names_life i (trees_in (drop k ms))) ≡ any_names_life i (trees_in ms)

  -- a member more
  more_found : (named more k : ℕ) (s : Status) → k < length ms → slice_get ms k ≡ Some s → AreFound named k
      → AreNamed 16 (tree_of s) more → AreFound (bit_or named more) (k + 1)
  more_found named more k s within is found here i h =
      rw (has_bit-or named more i, here i h, or_assoc) (rw (split_at ms k s within is) at (found i h))

  -- and after all members
  all_found : (named k : ℕ) → length ms ≤ k → AreFound named k → (i : ℕ) → i < 16
      → has_bit named i ≡ any_names_life i (trees_in ms)
  all_found named k all found i h = sym (or_none (has_bit named i)) ∙ (rw (drop_all k ms all) at (found i h))
    where
      or_none : (b : Bool) → (b || false) ≡ b
      or_none true = refl
      or_none false = refl

pub lives_of_members-loop-i-init : goal.lives_of_members-loop-i-init
lives_of_members-loop-i-init t c = λ i h. rw (has_bit-none i) refl

pub lives_of_members-loop-i-preserved : goal.lives_of_members-loop-i-preserved
lives_of_members-loop-i-preserved t c =
    more_found c.args.members.now c.loop-i.named c.named_lives-named.result c.loop-i.i c.at.result.now (omega arith)
    c.at.ensures c.loop-i.invariant c.named_lives-named.ensures

pub lives_of_members-returns : goal.lives_of_members-returns
lives_of_members-returns t c =
    all_found c.args.members.now c.loop-i.named c.loop-i.i (omega arith) c.loop-i.invariant

pub named_lives-returns-in-After : goal.named_lives-returns-in-After
named_lives-returns-in-After t c =
    both_named c.args.status.now c.in-After.first c.in-After.then c.named_lives.result c.named_lives-in-After.result
    c.in-After.is (rw c.deref.ensures at c.named_lives.ensures)
    (rw c.deref-in-After.ensures at c.named_lives-in-After.ensures)
