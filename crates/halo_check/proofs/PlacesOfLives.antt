-- The places of names.
use Rattle.std.proofs.Common.{◌≡◌, ◌<◌, ◌∙◌, ℕ, List, [], Contains, ap, arith, get_or, inl, inr, length, sym}
use Rattle.std.specs.Str.{bytes_eq}
use Rattle.std.proofs.lemmas.Bool.{cases_Bool}
use Rattle.std.proofs.lemmas.List.{get_or-map, get_or_default}
use Rattle.std.proofs.lemmas.List.Sums.{position_or_len_is}
use Rattle.std.proofs.lemmas.Slice.Eq.{bytes_eq-Decides}
use Rattle.halo_check.specs.Draft.{place_of}
use Rattle.halo_contract.specs.PlainContract.{life_names}
use Rattle.halo_contract.specs.declared.contract.LifeLine.{LifeLine}

-- none of the names before a place is this one
abbrev pub NoneBefore : List (List ℕ) → ℕ → List ℕ → Type 0
NoneBefore names place name = (k : ℕ) → k < place → get_or names k [] ≡ name → ⊥

-- the name of the life at a place
pub get_or-life_names : (lives : List LifeLine) (place : ℕ) (line : LifeLine) → place < length lives
    → line ≡ get_or lives place line → get_or (life_names lives) place [] ≡ line.name
get_or-life_names lives place line lt is =
    get_or-map (λ other. other.name) lives place line [] lt ∙ ap (λ other. other.name) (sym is)

-- the first place that has the name is the name's
pub place_of-first : (names : List (List ℕ)) (place : ℕ) (name : List ℕ) → place < length names
    → get_or names place [] ≡ name → NoneBefore names place name → place_of names name ≡ place
place_of-first names place name lt is none =
    position_or_len_is (λ other. bytes_eq other name) names place [] (omega arith)
    (λ k before. elim (cases_Bool (bytes_eq (get_or names k []) name)) [
      | inl same ↦ absurd (none k before ((bytes_eq-Decides (get_or names k []) name).0 same))
      | inr differ ↦ differ
    ])
    (λ _. (bytes_eq-Decides (get_or names place []) name).1 is)

-- a name that no place has is not among the names
pub none_of_all : (names : List (List ℕ)) (name : List ℕ) → NoneBefore names (length names) name → Contains names name
    → ⊥
none_of_all names name none found = none found.0 found.1 (get_or_default names found.0 [] name found.1 ∙ found.2)
