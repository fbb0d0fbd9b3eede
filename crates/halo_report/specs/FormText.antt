-- The text of compiled forms: for each pay a line with its symbol, and then one for each segment,
-- with the coefficients of the sets of lives.
use Rattle.std.specs.Prelude.{ℕ, zero, ◌+◌, List, [], ◌∷◌, ◌++◌, Bool, Option, Some, None, codes, flat_map, get_or, length, ℤ, pos}
use Rattle.std.specs.Option.{option_to_list}
use Rattle.halo_sums.specs.SetsInOrder.{sets_in_order}
use Rattle.halo_status.specs.Pay.{PlainPay}
use Rattle.halo_table.specs.DecrementTable.{TableFile}
use Rattle.halo_poly.specs.Poly.{coefficient_of}
use Rattle.halo_compile.specs.declared.form.Segment.{Segment}
use Rattle.halo_contract.specs.PlainContract.{PlainContract, life_names}
use Rattle.halo_spell.specs.StatusText.{status_text}
use Rattle.halo_report.specs.CoefficientText.{coefficient_text, set_text, times_text}
use Rattle.halo_report.specs.PaysText.{pays_lines}

-- the term of a set with a coefficient: its sign, its size and the set; none where it is 0
abbrev pub term_text : List ℕ → ℤ → List ℕ
term_text set (pos zero) = []
term_text set coefficient = coefficient_text set coefficient

-- the term of a set in a polynomial
abbrev pub term_of : List (List ℕ) → List ℤ → List Bool → List ℕ
term_of names p s = term_text (set_text names s) (coefficient_of p s)

-- the terms of some sets, one behind the other
abbrev pub terms_of : List (List ℕ) → List ℤ → List (List Bool) → List ℕ
terms_of names p sets = flat_map (term_of names p) sets

-- some terms; a 0 where there are none
abbrev pub terms_or_zero : List ℕ → List ℕ
terms_or_zero [] = codes " 0"
terms_or_zero (byte ∷ terms) = byte ∷ terms

-- a polynomial of lives that have these names
abbrev pub poly_text : List (List ℕ) → List ℤ → List ℕ
poly_text names p = terms_or_zero (terms_of names p (sets_in_order (length names)))

-- the line of a segment: its first and its last time, and its polynomial
abbrev pub segment_line : {m : ℕ} → List (List ℕ) → Segment m → List ℕ
segment_line names s =
    times_text s.from s.to ++ poly_text names s.poly ++ codes "\n"

-- the lines of the segments of a form
abbrev pub segment_lines : {m : ℕ} → List (List ℕ) → List (Segment m) → List ℕ
segment_lines names form = flat_map (segment_line names) form

-- the form at a place
abbrev pub form_at : {m : ℕ} → List (List (Segment m)) → ℕ → List (Segment m)
form_at forms place = get_or forms place []

-- and its lines
abbrev pub form_lines : {m : ℕ} → List (List ℕ) → List (List (Segment m)) → ℕ → List ℕ
form_lines names forms place = segment_lines names (form_at forms place)

-- the lines of the premium, where there is one: its status, and the form of its pay
abbrev pub premium_form_lines : {m : ℕ} → List (List ℕ) → Option PlainPay → List (Segment m)
    → List ℕ
premium_form_lines lives None form = []
premium_form_lines lives (Some pay) form =
    codes "premium " ++ status_text lives pay.body ++ codes "\n" ++ segment_lines lives form

-- how many forms a contract has: one for each pay, and one for the premium, where there is one
abbrev pub form_count : PlainContract → ℕ
form_count contract = length contract.pays + length (option_to_list contract.premium)

-- the lines of the forms of a contract: those of its pays, in its order, and then of its premium
abbrev pub form_text : {m : ℕ} → TableFile → PlainContract → List (List (Segment m)) → List ℕ
form_text tables contract forms =
    pays_lines (life_names contract.lives) tables.causes
    (form_lines (life_names contract.lives) forms) 0 contract.pays
    ++ premium_form_lines (life_names contract.lives) contract.premium
    (form_at forms (length contract.pays))
