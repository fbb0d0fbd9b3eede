-- Names that are looked at one after the other, and the set of those so far.
use Rattle.std.proofs.Common.{◌≡◌, ◌∙◌, ◌↔◌, ◌⊎◌, ℕ, ◌+◌, ◌<◌, List, [], Bool, IsTrue, true, false, arith, get_or, inl, inr, refl, sym}
use Rattle.std.specs.Prelude.{cond, not}
use Rattle.std.specs.BTreeSet.{BTreeSet, Updates, contains, contains_by}
use Rattle.std.specs.Cmp.Lexicographic.{slice_cmp}
use Rattle.std.specs.Ordering.{nat_cmp}
use Rattle.std.specs.declared.cmp.Ordering.{Ordering}
use Rattle.std.proofs.lemmas.Map.Text.{is_eq-slice_cmp}
use Rattle.std.proofs.lemmas.Slice.Eq.{bytes_eq-Decides}
use borrow.Author.Count.{below_more}
use denote.Ref.{Bor}

-- the order of names in memory, byte by byte
abbrev pub name_order : Bor (List ℕ) → Bor (List ℕ) → Ordering
name_order x y = slice_cmp nat_cmp x.now y.now

-- a name is one of a set
abbrev pub IsIn : BTreeSet (Bor (List ℕ)) → List ℕ → Type 0
IsIn set name = IsTrue (contains_by (λ k. slice_cmp nat_cmp name k.now) set)

-- no two of the names before a place are equal, and a set has just these
pub record AreApart (names : List (List ℕ)) (place : ℕ) (set : BTreeSet (Bor (List ℕ))) : Type 0 where
  pub apart : (i j : ℕ) → i < j → j < place → get_or names i [] ≡ get_or names j [] → ⊥
  pub kept : (j : ℕ) → j < place → IsIn set (get_or names j [])
  pub found : (name : List ℕ) → IsIn set name → (j : ℕ) × (j < place) × (get_or names j [] ≡ name)

-- one of two tests passes
either : (b c d : Bool) → b ≡ cond c true d → IsTrue b ↔ (IsTrue c ⊎ IsTrue d)
either b true d e = ((λ t. inl refl), (λ h. e))
either b false d e = ((λ t. inr (sym e ∙ t)), (λ h. elim h [ inl t ↦ cc t | inr t ↦ e ∙ t ]))

-- a set to which a name is added has it and what it had before
one_more : (old new : BTreeSet (Bor (List ℕ))) (added : Bor (List ℕ)) → Updates name_order old new added true
    → (name : List ℕ) → IsIn new name ↔ ((added.now ≡ name) ⊎ IsIn old name)
one_more old new added updates name =
    let is = either _ _ _ (updates.0 (record { ref_ptr = (0, 0); now = name })) in
    let same = bytes_eq-Decides added.now name in
    let test = is_eq-slice_cmp added.now name in (
      (λ t. elim (is.0 t) [ inl s ↦ inl (same.0 (sym test ∙ s)) | inr s ↦ inr s ]),
      (λ h. is.1 (elim h [ inl e ↦ inl (test ∙ same.1 e) | inr s ↦ inr s ])),
    )

-- a name that is in the set already is equal to an earlier one
pub same_again : (names : List (List ℕ)) (place : ℕ) (set : BTreeSet (Bor (List ℕ))) (name : Bor (List ℕ))
    → AreApart names place set → name.now ≡ get_or names place []
    → false ≡ not (contains name_order set name) → ((i : ℕ) → i < place → get_or names i [] ≡ get_or names place [] → ⊥)
    → ⊥
same_again names place set name so_far is old new =
    let (j, before, same) = so_far.found name.now (grind (arith, old)) in
    new j before (same ∙ is)

-- one more name is apart from those before it
pub apart_more : (names : List (List ℕ)) (place : ℕ) (old new : BTreeSet (Bor (List ℕ))) (name : Bor (List ℕ))
    → AreApart names place old → name.now ≡ get_or names place []
    → true ≡ not (contains name_order old name) → Updates name_order old new name true → AreApart names (place + 1) new
apart_more names place old new name so_far is unread updates =
    let more = one_more old new name updates in
    record {
      apart = (λ i j before lt. below_more (λ k. (i : ℕ) → i < k → get_or names i [] ≡ get_or names k [] → ⊥) place
          (λ k here i first. so_far.apart i k first here)
          (λ i first same. absurd (cc (rw (same ∙ sym is) at (so_far.kept i first), unread))) j lt i before);
      kept =
          (λ j lt. below_more (λ k. IsIn new (get_or names k [])) place
          (λ k before. (more (get_or names k [])).1 (inr (so_far.kept k before)))
          ((more (get_or names place [])).1 (inl is)) j lt);
      found = (λ text t. elim ((more text).0 t) [
        | inl e ↦ (place, omega arith, sym is ∙ e)
        | inr s ↦ let (j, before, same) = so_far.found text s in (j, omega arith, same)
      ]);
    }
