-- The names of a set of lives, one behind the other.
use Rattle.std.proofs.Common.{◌≡◌, ◌≢◌, ℕ, zero, suc, ◌^◌, ◌<◌, ◌≤◌, List, [], ◌∷◌, ◌++◌, append-nil, length, ap, ◌∙◌, refl}
use Rattle.std.proofs.lemmas.List.{length-map}
use Rattle.std.specs.List.{join_with_byte}
use Rattle.std.specs.Prelude.{codes}
use Rattle.halo_sums.specs.Masks.{bits}
use Rattle.halo_contract.specs.PlainContract.{life_names}
use Rattle.halo_contract.specs.declared.contract.LifeLine.{LifeLine}
use Rattle.halo_spell.specs.Canonical.{chosen, names_in}
use Rattle.halo_spell.proofs.CausesLeft.{some_name}
use Rattle.halo_report.specs.CoefficientText.{joined, set_text}

-- some names, before the first of which this byte stands and before each other one `:`
abbrev pub names_behind : ℕ → List (List ℕ) → List ℕ
names_behind before [] = []
names_behind before (name ∷ names) = before ∷ (name ++ names_behind 58 names)

-- where there are some, they are joined
behind-joined : (before : ℕ) (names : List (List ℕ)) → names ≢ [] → names_behind before names ≡ before ∷ joined names
behind-joined before [] some = absurd (some refl)
behind-joined before (name ∷ names) some = ap (λ bs. before ∷ bs) (all name names)
  where
    all : (name : List ℕ) (names : List (List ℕ)) → name ++ names_behind 58 names ≡ join_with_byte 58 (name ∷ names)
    all name [] = append-nil name
    all name (next ∷ names) = ap (λ bs. name ++ 58 ∷ bs) (all next names)

-- a set that is not empty has a name
pub set_named : (lives : List LifeLine) (set : ℕ) → 1 ≤ set → set < 2 ^ length lives
    → names_behind 32 (names_in (life_names lives) set)
    ≡ codes " " ++ set_text (life_names lives) (bits (length lives) set)
set_named lives set some few =
    let names = life_names lives in
    let count : length names ≡ length lives = length-map lives (λ line. line.name) in
    behind-joined 32 (names_in names set) (some_name names set some (rw count few))
    ∙ ap (λ n. 32 ∷ joined (chosen names (bits n set))) count

-- the empty set is 1
pub empty_set : (n : ℕ) (names : List (List ℕ)) → set_text names (bits n 0) ≡ codes "1"
empty_set n names = ap joined (none n names)
  where
    none : (n : ℕ) (names : List (List ℕ)) → chosen names (bits n 0) ≡ []
    none zero [] = refl
    none zero (name ∷ names) = refl
    none (suc n) [] = refl
    none (suc n) (name ∷ names) = none n names
