-- The names and the numbers that stand in the symbols of a sample.
use Rattle.std.proofs.Common.{◌≡◌, ℕ, List, [], ◌∷◌, true, ap, arith, refl}
use Rattle.std.specs.Prelude.{All, Contains, codes}
use Rattle.std.specs.Fmt.{digits}
use Rattle.std.proofs.lemmas.List.Elements.{All-from_recursion}
use Rattle.halo_text.specs.Name.{is_name_byte}
use Rattle.halo_text.specs.Number.{IsNumber}
use Rattle.halo_symbol.specs.Proper.{IsPlainName}
use Rattle.halo_spell.proofs.NumbersBack.{IsNumber-decimal}
use Rattle.halo_sampled.specs.DrawnLines.{first_reserve}
use Rattle.halo_sampled.proofs.SampleNames.{first_byte, life-is-name}

-- each name of a life is a name
pub name-1 : IsPlainName (codes "p1")
unfolding digits
name-1 = life-is-name 1 (omega arith)

pub name-2 : IsPlainName (codes "p2")
unfolding digits
name-2 = life-is-name 2 (omega arith)

pub name-3 : IsPlainName (codes "p3")
unfolding digits
name-3 = life-is-name 3 (omega arith)

pub name-4 : IsPlainName (codes "p4")
unfolding digits
name-4 = life-is-name 4 (omega arith)

pub name-5 : IsPlainName (codes "p5")
unfolding digits
name-5 = life-is-name 5 (omega arith)

pub name-6 : IsPlainName (codes "p6")
unfolding digits
name-6 = life-is-name 6 (omega arith)

pub name-7 : IsPlainName (codes "p7")
unfolding digits
name-7 = life-is-name 7 (omega arith)

pub name-8 : IsPlainName (codes "p8")
unfolding digits
name-8 = life-is-name 8 (omega arith)

-- and it is one of the names in the reserve of all lives
pub known-1 : Contains first_reserve (codes "p1")
known-1 = (0, omega arith, refl)

pub known-2 : Contains first_reserve (codes "p2")
known-2 = (1, omega arith, refl)

pub known-3 : Contains first_reserve (codes "p3")
known-3 = (2, omega arith, refl)

pub known-4 : Contains first_reserve (codes "p4")
known-4 = (3, omega arith, refl)

pub known-5 : Contains first_reserve (codes "p5")
known-5 = (4, omega arith, refl)

pub known-6 : Contains first_reserve (codes "p6")
known-6 = (5, omega arith, refl)

pub known-7 : Contains first_reserve (codes "p7")
known-7 = (6, omega arith, refl)

pub known-8 : Contains first_reserve (codes "p8")
known-8 = (7, omega arith, refl)

-- the digits of each number write a number
pub digits-1 : IsNumber (codes "1")
unfolding digits
digits-1 = IsNumber-decimal 1 (omega arith)

pub digits-2 : IsNumber (codes "2")
unfolding digits
digits-2 = IsNumber-decimal 2 (omega arith)

pub digits-3 : IsNumber (codes "3")
unfolding digits
digits-3 = IsNumber-decimal 3 (omega arith)

pub digits-4 : IsNumber (codes "4")
unfolding digits
digits-4 = IsNumber-decimal 4 (omega arith)

pub digits-10 : IsNumber (codes "10")
unfolding digits
digits-10 = IsNumber-decimal 10 (omega arith)

pub digits-20 : IsNumber (codes "20")
unfolding digits
digits-20 = IsNumber-decimal 20 (omega arith)

pub digits-30 : IsNumber (codes "30")
unfolding digits
digits-30 = IsNumber-decimal 30 (omega arith)

-- these facts, for a search
pub ruleset lives_named = (name-1, name-2, name-3, name-4, name-5, name-6, name-7, name-8)

pub ruleset lives_known = (known-1, known-2, known-3, known-4, known-5, known-6, known-7, known-8)

pub ruleset written = (
  lives_named,
  lives_known,
  digits-1,
  digits-2,
  digits-3,
  digits-4,
  digits-10,
  digits-20,
  digits-30,
)

-- the causes of the tables
abbrev pub sample_causes : List (List ℕ)
sample_causes = codes "death" ∷ codes "lapse" ∷ []

-- the one that is named is a name
pub death-is-name : IsPlainName (codes "death")
death-is-name = (
  (refl, All-from_recursion (λ b. is_name_byte b ≡ true) (codes "eath") (refl, (refl, (refl, (refl, tt))))),
  λ same. absurd (omega (arith, ap first_byte same)),
)

-- and it is one of them
pub death-is-cause : All (Contains sample_causes) (codes "death" ∷ [])
death-is-cause = All-from_recursion (Contains sample_causes) (codes "death" ∷ []) ((0, omega arith, refl), tt)
