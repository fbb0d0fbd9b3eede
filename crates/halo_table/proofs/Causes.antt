-- The causes of record 1, which are new where no two of them are equal.
use Rattle.std.proofs.Common.{◌≡◌, ◌∙◌, ◌↔◌, ℕ, ◌+◌, ◌-◌, ◌<◌, ◌≤◌, List, [], arith, drop, get_or, length, map, sym, ap}
use Rattle.std.proofs.lemmas.List.{get_or-drop, get_or-map, length-drop, length-map}
use denote.Ref.{Bor}
use Rattle.halo_text.specs.Name.{IsName}
use Rattle.halo_table.specs.Record.{IsNewCause, field}
use Rattle.halo_table.proofs.Apart.{AreApart}

-- the texts are those of the fields behind the third
abbrev pub AreCauses : List (List ℕ) → List (Bor (List ℕ)) → Type 0
AreCauses fields texts = map (λ (text : Bor (List ℕ)). text.now) texts ≡ drop 3 fields

-- there are as many causes as fields behind the third
count_is : (fields : List (List ℕ)) (texts : List (Bor (List ℕ))) → AreCauses fields texts
    → length texts ≡ length fields - 3
count_is fields texts are =
    sym (length-map texts (λ (text : Bor (List ℕ)). text.now))
    ∙ ap (λ (l : List (List ℕ)). length l) are ∙ length-drop 3 fields

-- a cause is the field three places on
cause_is : (fields : List (List ℕ)) (texts : List (Bor (List ℕ))) → AreCauses fields texts
    → (i : ℕ) (d : Bor (List ℕ)) → i < length texts → (get_or texts i d).now ≡ field fields (3 + i)
cause_is fields texts are i d within =
    sym (get_or-map (λ (text : Bor (List ℕ)). text.now) texts i d [] within)
    ∙ ap (λ (l : List (List ℕ)). get_or l i []) are ∙ get_or-drop 3 fields i []

-- causes that are names are new if and only if they are apart
pub new_where_apart : (fields : List (List ℕ)) (texts : List (Bor (List ℕ)))
    → AreCauses fields texts → ((j : ℕ) → 3 ≤ j → j < length fields → IsName (field fields j))
    → AreApart texts ↔ ((j : ℕ) → 3 ≤ j → j < length fields → IsNewCause fields j)
new_where_apart fields texts are named = (
  (λ apart j low within. record {
    name = named j low within;
    apart =
        (λ i least lt same. apart (i - 3) (j - 3) none (omega arith) (omega (arith, count))
        (at i least (omega arith) ∙ same ∙ sym (at j low within)));
  }),
  (λ new i j d lt within same. (new (3 + j) (omega arith) (omega (arith, count))).apart (3 + i)
      (omega arith) (omega arith)
      (sym (cause_is fields texts are i d (omega arith)) ∙ same
      ∙ cause_is fields texts are j d within)),
)
  where
    none : Bor (List ℕ)
    none = record { ref_ptr = (0, 0); now = [] }

    count : length texts ≡ length fields - 3
    count = count_is fields texts are

    at : (k : ℕ) → 3 ≤ k → k < length fields → (get_or texts (k - 3) none).now ≡ field fields k
    at k low short =
        let back : 3 + (k - 3) ≡ k = omega arith in
        cause_is fields texts are (k - 3) none (omega (arith, count))
        ∙ ap (λ (n : ℕ). field fields n) back
