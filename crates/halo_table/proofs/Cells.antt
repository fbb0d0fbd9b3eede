-- The fields of a record, and the numbers of a row, by their place.
use Rattle.std.proofs.Common.{◌≡◌, ℕ, zero, suc, ◌+◌, ◌<◌, ◌≤◌, List, [], ◌∷◌, get_or, length, None, Some, refl, arith, ◌∙◌}
use Rattle.csv.specs.Records.{field_at}
use Rattle.halo_text.specs.Number.{IsNumber, number}
use Rattle.halo_table.specs.Record.{field, greatest_at}
use Rattle.halo_table.specs.Reading.{AreNumbers}
use borrow.Author.Count.{below_more}
use Rattle.std.proofs.Math.ListN.{set}
use Rattle.std.proofs.lemmas.List.{get_or-set_other, get_or-set_same}

-- a field that is there
pub cell_some : (fields : List (List ℕ)) (i : ℕ) (f : List ℕ) → Some f ≡ field_at fields i
    → f ≡ field fields i
unfolding field_at
cell_some [] i f e = cc e
cell_some (x ∷ xs) zero f e = cc e
cell_some (x ∷ xs) (suc i) f e = cell_some xs i f e

-- a field that is not there
pub cell_none : (fields : List (List ℕ)) (i : ℕ) → None ≡ field_at fields i → [] ≡ field fields i
unfolding field_at
cell_none [] i e = refl
cell_none (x ∷ xs) zero e = cc e
cell_none (x ∷ xs) (suc i) e = cell_none xs i e

-- what is known of the number at a place
abbrev NumberIn : List (List ℕ) → List ℕ → ℕ → Type 0
NumberIn row numbers j =
    1 ≤ j
    → IsNumber (field row j) × (get_or numbers j 0 ≡ number (field row j))
    × (number (field row j) ≤ greatest_at j)

-- one more number in its place
pub numbers_more : (row : List (List ℕ)) (numbers : List ℕ) (at n : ℕ) → at < length numbers
    → IsNumber (field row at) → n ≡ number (field row at) → n ≤ greatest_at at
    → AreNumbers at row numbers → AreNumbers (at + 1) row (set numbers at n)
numbers_more row numbers at n room is value fits all =
    λ j low lt. below_more (NumberIn row (set numbers at n)) at before here j lt low
  where
    before : (j : ℕ) → j < at → NumberIn row (set numbers at n) j
    before j lt low =
        let h = all j low lt in
        (h.0, get_or-set_other numbers at j n 0 (λ e. absurd (omega arith)) ∙ h.1, h.2)

    here : NumberIn row (set numbers at n) at
    here low = (is, get_or-set_same numbers at n 0 room ∙ value, rw (← value) fits)
