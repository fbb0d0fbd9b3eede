-- The members of a list but one, from the last one on.
use Rattle.std.proofs.Common.{◌≡◌, ◌≢◌, ℕ, zero, suc, ◌+◌, ◌-◌, ◌*◌, ◌<◌, ◌≤◌, arith, refl, subst, Bool, true, false, cond, nat_eq, nat_le, List, [], ◌∷◌, length, drop, Some, ⊎_elim}
use Rattle.std.specs.Prelude.{IsSomeAnd, slice_get}
use Rattle.std.proofs.lemmas.Bool.{cases_lt}
use Rattle.std.proofs.lemmas.Bool.Decides.{nat_tests}
use Rattle.halo_num.specs.Ends.{Ends}
use Rattle.halo_num.specs.Chance.{EnclosesChance}
use Rattle.halo_num.proofs.Chances.{chance_wider}
use Rattle.halo_status.specs.declared.status.Status.{Status}
use Rattle.halo_status.specs.declared.pay.Mark.{Mark}
use Rattle.halo_status.specs.Tree.{Tree, Trees, joint, none, more, member_at, member_count}
use Rattle.halo_status.specs.Naming.{any_names_life, names_life}
use Rattle.halo_status.specs.StatusTree.{tree_of, trees_in}
use Rattle.halo_model.specs.ByTree.{weight_of, weight_of_count, whole_in, whole_of}
use Rattle.halo_model.specs.PartsByTree.{others_of, waiting, waiting_member}
use Rattle.halo_status.proofs.Agreement.{or-left, or-right}
use Rattle.halo_chance.specs.Enclosed.{AreEnclosed, EnclosesMembers, EnclosesTree, spread, spread_in}
use Rattle.halo_chance.specs.Table.{passes_at}
use Rattle.halo_chance.proofs.Enclosing.{IsProduct, narrower}
use Rattle.halo_chance.proofs.Parts.{drop-all, split-before}

-- the members from a place on, but one
abbrev pub others_from : List Status → ℕ → ℕ → Trees
others_from ms member i = cond (nat_le i member) (others_of (trees_in (drop i ms)) (member - i)) (trees_in (drop i ms))

pub others-none : (ms : List Status) (member i : ℕ) → member < length ms → i ≡ length ms
    → others_from ms member i ≡ none
others-none ms member i within e = rw above (drop-all ms i e)
  where
    above : nat_le i member ≡ false
    above = grind (arith, nat_tests)

pub others-all : (ms : List Status) (member : ℕ) → others_from ms member 0 ≡ others_of (trees_in ms) member
others-all ms member = rw (first member, whole member) refl
  where
    first : (n : ℕ) → nat_le 0 n ≡ true
    first n = grind (arith, nat_tests)

    whole : (n : ℕ) → n - 0 ≡ n
    whole n = omega arith

tail-at : (ms : List Status) (place : ℕ) → place < length ms
    → others_of (trees_in (drop place ms)) 0 ≡ trees_in (drop (suc place) ms)
tail-at [] place h = absurd (omega arith)
tail-at (m ∷ ms) zero h = refl
tail-at (m ∷ ms) (suc place) h = tail-at ms place (omega arith)

pub others-at : (ms : List Status) (member i : ℕ) → 0 < i → i - 1 ≡ member → member < length ms
    → others_from ms member (i - 1) ≡ others_from ms member i
others-at ms member i h e within = rw (e, next, here, there, nothing, tail-at ms member within) refl
  where
    next : i ≡ suc member
    next = omega arith

    here : nat_le member member ≡ true
    here = grind (arith, nat_tests)

    there : nat_le (suc member) member ≡ false
    there = grind (arith, nat_tests)

    nothing : member - member ≡ 0
    nothing = omega arith

pub others-next : (ms : List Status) (member i : ℕ) (s : Status) → 0 < i → i - 1 ≢ member
    → slice_get ms (i - 1) ≡ Some s → others_from ms member (i - 1) ≡ more (tree_of s) (others_from ms member i)
others-next ms member i s h other at =
    ⊎_elim
    (λ (l : member < i).
    rw (above i (omega (arith, other)), above (i - 1) (omega (arith, other))) (split-before ms i s h at))
    (λ (l : i ≤ member). rw (below i l, below (i - 1) (omega arith), one-more l, split-before ms i s h at) refl)
    (cases_lt member i)
  where
    above : (n : ℕ) → member < n → nat_le n member ≡ false
    above n l = grind (arith, nat_tests)

    below : (n : ℕ) → n ≤ member → nat_le n member ≡ true
    below n l = grind (arith, nat_tests)

    one-more : i ≤ member → member - (i - 1) ≡ suc (member - i)
    one-more l = omega arith

-- the member at a place
pub member-tree : (ms : List Status) (place : ℕ) (s : Status) → slice_get ms place ≡ Some s
    → member_at (trees_in ms) place ≡ Some (tree_of s)
member-tree [] place s e = absurd (cc)
member-tree (m ∷ ms) zero s e = let q : m ≡ s = grind arith in rw q refl
member-tree (m ∷ ms) (suc place) s e = member-tree ms place s e

-- and what is told of it
pub member-has : (P : Tree → Type 0) (ms : List Status) (place : ℕ) (s : Status) → slice_get ms place ≡ Some s
    → IsSomeAnd (member_at (trees_in ms) place) P → P (tree_of s)
member-has P ms place s e h = rw (member-tree ms place s e) at h

-- the marked member and the others together
pub encloses-waiting : (entries : List Ends) (on : ℕ → Bool) (mark : Mark) (ms : Trees) (s : Tree) (i j r : Ends)
    (place : ℕ)
    → member_at ms mark.member ≡ Some s → place ≡ suc (member_count ms - mark.rank)
    → EnclosesTree entries on s i
    → EnclosesMembers entries (others_of ms mark.member)
    (λ n d. weight_of_count n d on (passes_at true place) (others_of ms mark.member)) j
    → IsProduct i j r
    → EnclosesTree entries on (waiting (Some mark) (joint ms)) r
unfolding EnclosesTree EnclosesMembers
encloses-waiting entries on mark ms s i j r place found e marked others product = rw found go
  where
    rest : Trees
    rest = others_of ms mark.member

    count : (ℕ → ℕ) → (ℕ → ℕ) → ℕ
    count n d = weight_of_count n d on (λ count. nat_eq count (member_count ms - mark.rank)) rest

    once : (n : ℕ) → n * 1 ≡ n
    once n = omega arith

    go : (n d w : ℕ → ℕ) → AreEnclosed n d w entries (λ a. names_life a (waiting_member mark ms (Some s)))
        → EnclosesChance (weight_of n d on (waiting_member mark ms (Some s)))
        (whole_of d (waiting_member mark ms (Some s))) (spread w (waiting_member mark ms (Some s))) r
    go n d w enclosed =
        rw (once (count n d), once (whole_in d rest))
        (chance_wider (weight_of n d on s * count n d) (whole_of d s * whole_in d rest)
        (spread w s + spread_in w rest + 1) (spread w (waiting_member mark ms (Some s))) r (omega arith)
        (product (weight_of n d on s) (count n d) (whole_of d s) (whole_in d rest) (spread w s) (spread_in w rest)
        (marked n d w
        (narrower n d w entries (λ a. names_life a s) (λ a. names_life a (waiting_member mark ms (Some s)))
        (λ a h. or-left _ _ h) enclosed))
        (subst
        (λ p. EnclosesChance (weight_of_count n d on (passes_at true p) rest) (whole_in d rest) (spread_in w rest) j)
        e
        (others n d w
        (narrower n d w entries (λ a. any_names_life a rest) (λ a. names_life a (waiting_member mark ms (Some s)))
        (λ a h. or-right (names_life a s) _ (or-left _ _ h)) enclosed)))))
