-- The member of a status at a place.
use Rattle.std.proofs.Common.{◌≡◌, ℕ, zero, suc, ◌≤◌, arith, refl, List, [], ◌∷◌, length, Bool, true, false, ◌||◌, slice_get, Some, None}
use Rattle.halo_status.specs.declared.status.Status.{Status}
use Rattle.halo_status.specs.Naming.{any_names_life, names_life}
use Rattle.halo_status.specs.StatusTree.{tree_of, trees_in}
use Rattle.halo_status.specs.Tree.{member_at}

pub member-is : (ms : List Status) (i : ℕ) (m : Status)
    → slice_get ms i ≡ Some m → member_at (trees_in ms) i ≡ Some (tree_of m)
member-is [] i m h = absurd (cc)
member-is (s ∷ ms) zero m h = let q : s ≡ m = grind arith in rw q refl
member-is (s ∷ ms) (suc i) m h = member-is ms i m h

pub no-member : (ms : List Status) (i : ℕ) → length ms ≤ i → member_at (trees_in ms) i ≡ None
no-member [] i h = refl
no-member (s ∷ ms) zero h = absurd (omega arith)
no-member (s ∷ ms) (suc i) h = no-member ms i (omega arith)

-- the lives that a member names are lives that some member names
pub member-names : (ms : List Status) (i : ℕ) (m : Status) (a : ℕ)
    → slice_get ms i ≡ Some m → names_life a (tree_of m) ≡ true → any_names_life a (trees_in ms) ≡ true
member-names [] i m a h e = absurd (cc)
member-names (s ∷ ms) zero m a h e = let q : s ≡ m = grind arith in rw (q, e) refl
member-names (s ∷ ms) (suc i) m a h e = rw (member-names ms i m a h e) (either (names_life a (tree_of s)))
  where
    either : (b : Bool) → (b || true) ≡ true
    either true = refl
    either false = refl
