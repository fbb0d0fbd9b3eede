-- The names of the lives and the tables of a sample.
use Rattle.std.proofs.Common.{◌≡◌, ℕ, zero, suc, ◌+◌, ◌<◌, ◌^◌, List, [], ◌∷◌, ◌++◌, true, ap, arith, get_or, length, refl, sym, ◌∙◌}
use Rattle.std.specs.Prelude.{All, Contains}
use Rattle.std.specs.Fmt.{decimal}
use Rattle.std.proofs.lemmas.Fmt.{decimal_injective}
use Rattle.std.proofs.lemmas.List.{get_or_default}
use Rattle.std.proofs.lemmas.List.Elements.{All-weaker}
use Rattle.halo_text.specs.Name.{is_name_byte}
use Rattle.halo_text.specs.Number.{IsDigit}
use Rattle.halo_lex.specs.Lexeme.{IsLongName}
use Rattle.halo_symbol.specs.Proper.{IsPlainName}
use Rattle.halo_check.specs.Checks.{AreDifferent}
use Rattle.halo_check.specs.Limits.{IsShortName}
use Rattle.halo_spell.proofs.NumbersBack.{IsNumber-decimal}
use Rattle.halo_sampled.specs.DrawnLines.{life_name, table_name}
use Rattle.halo_sampled.proofs.ShortContract.{few-digits}

-- a digit may stand in a name
digit-in-name : (b : ℕ) → IsDigit b → is_name_byte b ≡ true
digit-in-name b digit = grind arith

-- so may the digits of a number
digits-in-name : (n : ℕ) → n < 2 ^ 64 → All (λ b. is_name_byte b ≡ true) (decimal n)
digits-in-name n small =
    All-weaker IsDigit (λ b. is_name_byte b ≡ true) digit-in-name (decimal n) (IsNumber-decimal n small).1

-- the first byte of a text
abbrev pub first_byte : List ℕ → ℕ
first_byte text = get_or text 0 0

-- the name of a life is a name
pub life-is-name : (n : ℕ) → n < 2 ^ 64 → IsPlainName (life_name n)
life-is-name n small = ((refl, digits-in-name n small), λ same. absurd (omega (arith, ap first_byte same)))

-- and so is that of a table
pub table-is-name : (n : ℕ) → n < 2 ^ 64 → IsLongName (table_name n)
table-is-name n small = (refl, digits-in-name n small)

-- the name of a life is short
pub life-is-short : (n : ℕ) → n < 1000000 → IsShortName (life_name n)
life-is-short n small = omega (arith, few-digits n small)

-- and so is that of a table
pub table-is-short : (n : ℕ) → n < 1000000 → IsShortName (table_name n)
table-is-short n small = omega (arith, few-digits n small)

-- the names of so many lives from a number on
unfoldable pub names_from : ℕ → ℕ → List (List ℕ)
names_from first zero = []
names_from first (suc count) = life_name first ∷ names_from (suc first) count

-- they are so many
pub count-of-names : (first count : ℕ) → length (names_from first count) ≡ count
unfolding names_from
count-of-names first zero = refl
count-of-names first (suc count) = omega (arith, count-of-names (suc first) count)

-- with one name more
pub names-push : (first count : ℕ)
    → names_from first (suc count) ≡ names_from first count ++ life_name (first + count) ∷ []
unfolding names_from
names-push first zero = let same : first ≡ first + 0 = omega arith in ap (λ n. life_name n ∷ []) same
names-push first (suc count) =
    let same : suc first + count ≡ first + suc count = omega arith in
    ap (λ names. life_name first ∷ names) (names-push (suc first) count)
    ∙ ap (λ n. life_name first ∷ names_from (suc first) count ++ life_name n ∷ []) same

-- the name at a place
name-at : (first count i : ℕ) → i < count → get_or (names_from first count) i [] ≡ life_name (first + i)
unfolding names_from
name-at first zero i lt = absurd (omega (arith, lt))
name-at first (suc count) zero lt = let same : first ≡ first + 0 = omega arith in ap life_name same
name-at first (suc count) (suc i) lt =
    let same : suc first + i ≡ first + suc i = omega arith in
    name-at (suc first) count i (omega (arith, lt)) ∙ ap life_name same

-- one name belongs to one number
one-number : (m n : ℕ) → m < 2 ^ 64 → n < 2 ^ 64 → life_name m ≡ life_name n → m ≡ n
one-number m n small_m small_n same =
    let digits : decimal m ≡ decimal n = cc in decimal_injective m n small_m small_n digits

-- so the names are different
pub names-differ : (first count : ℕ) → first + count < 2 ^ 64 → AreDifferent (names_from first count)
names-differ first count small i j before within same =
    let lt : j < count = omega (arith, within, count-of-names first count) in
    let names = sym (name-at first count i (omega (arith, lt, before))) ∙ same ∙ name-at first count j lt in
    let number = one-number (first + i) (first + j) (omega (arith, lt, before)) (omega (arith, lt)) names in
    omega (arith, before, number)

-- and the next one is new
pub name-is-new : (first count : ℕ) → first + count < 2 ^ 64
    → Contains (names_from first count) (life_name (first + count)) → ⊥
name-is-new first count small (i, within, same) =
    let names = names_from first count in
    let next = life_name (first + count) in
    let lt : i < count = omega (arith, within, count-of-names first count) in
    let at : life_name (first + i) ≡ next =
    sym (name-at first count i lt) ∙ get_or_default names i [] next within ∙ same in
    let number = one-number (first + i) (first + count) (omega (arith, lt)) small at in
    omega (arith, lt, number)
