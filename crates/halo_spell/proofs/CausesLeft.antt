-- The text of the names of a set of causes from a place on.
use Rattle.std.proofs.Common.{◌≡◌, ◌≢◌, ℕ, ◌+◌, ◌/◌, ◌%◌, ◌^◌, ◌<◌, ◌≤◌, List, [], ◌∷◌, ◌++◌, append_assoc, Bool, true, false, nat_eq, drop, get_or, length, arith, ap, sym, ◌∙◌, refl, add-one, drop-cons, eq-eqb}
use Rattle.std.proofs.Math.Nat.{pow-suc, div-div-eq-div-mul}
use Rattle.std.specs.Prelude.{bit_and}
use Rattle.std.proofs.lemmas.Bool.{ne_eqb}
use Rattle.std.proofs.lemmas.List.{drop_all}
use Rattle.std.proofs.lemmas.Nat.{and_mask}
use Rattle.halo_sums.specs.Masks.{bits}
use Rattle.halo_symbol.specs.Bytes.{causes_bytes, other_names_bytes}
use Rattle.halo_symbol.specs.Characters.{brace_close, brace_open, comma}
use Rattle.halo_spell.specs.Canonical.{chosen, names_in, set_of}

-- some names, before the first of which this byte stands and before each other one `,`, and then `}`
abbrev pub set_bytes : ℕ → List (List ℕ) → List ℕ
set_bytes before [] = brace_close ∷ []
set_bytes before (name ∷ names) = before ∷ (name ++ set_bytes comma names)

-- those names from a place on whose places are in a set
abbrev pub names_from : List (List ℕ) → ℕ → ℕ → List (List ℕ)
names_from names mask place = names_in (drop place names) (mask / 2 ^ place)

-- where there is one, it is the set
pub set_of_names : (names : List (List ℕ)) → names ≢ [] → set_bytes brace_open names ≡ causes_bytes (set_of names)
set_of_names [] some = absurd (some refl)
set_of_names (name ∷ names) some = ap (λ bs. brace_open ∷ (name ++ bs)) (others names)
  where
    others : (names : List (List ℕ)) → set_bytes comma names ≡ other_names_bytes names ++ brace_close ∷ []
    others [] = refl
    others (name ∷ names) =
        ap (λ bs. comma ∷ (name ++ bs)) (others names)
        ∙ ap (λ bs. comma ∷ bs) (sym (append_assoc name (other_names_bytes names) (brace_close ∷ [])))

module _ (names : List (List ℕ)) (mask k : ℕ) (here : k < length names) where
  -- the names from a place on are the one there and those behind it
  front : drop k names ≡ get_or names k [] ∷ drop (k + 1) names
  front = rw (add-one, drop-cons names k [] here)

  halved : mask / 2 ^ k / 2 ≡ mask / 2 ^ (k + 1)
  halved = rw (add-one, pow-suc 2 k) (div-div-eq-div-mul mask (2 ^ k) 2)

  -- a name whose place is in the set comes first
  pub with_name : mask / 2 ^ k % 2 ≡ 1 → names_from names mask k ≡ get_or names k [] ∷ names_from names mask (k + 1)
  with_name is = rw (front, is, halved) refl

  -- and one whose place is not is left out
  pub without_name : mask / 2 ^ k % 2 ≢ 1 → names_from names mask k ≡ names_from names mask (k + 1)
  without_name is = rw (front, ne_eqb (mask / 2 ^ k % 2) 1 is, halved) refl

-- a set that is not empty has a name
pub some_name : (names : List (List ℕ)) (mask : ℕ) → 1 ≤ mask → mask < 2 ^ length names → names_in names mask ≢ []
some_name [] mask some few e = absurd (omega arith)
some_name (name ∷ names) mask some few e =
    go (nat_eq (mask % 2) 1) refl (λ half_some half_few. some_name names (mask / 2) half_some half_few) e
  where
    go : (b : Bool) → nat_eq (mask % 2) 1 ≡ b
        → (1 ≤ mask / 2 → mask / 2 < 2 ^ length names → names_in names (mask / 2) ≢ [])
        → chosen (name ∷ names) (b ∷ bits (length names) (mask / 2)) ≡ [] → ⊥
    go true is others none = absurd cc
    go false is others none =
        let even : mask % 2 ≢ 1 = λ one. let odd = eq-eqb (mask % 2) 1 one in cc in
        let half = pow-suc 2 (length names) in
        others (omega arith) (omega arith) none

-- the next name is written, with `,` before the one behind it
pub one_written : (a b c name : List ℕ) (sign : ℕ) (names : List (List ℕ)) → b ≡ a ++ sign ∷ [] → c ≡ b ++ name
    → c ++ set_bytes comma names ≡ a ++ set_bytes sign (name ∷ names)
one_written a b c name sign names e f = rw (f, e) (simp append_assoc)

-- the number of a place is in a set where that bit is 1
pub bit_is : (n : ℕ) → bit_and n 1 ≡ n % 2
bit_is n = and_mask n 1

-- behind the last name none is left
pub none_left : (names : List (List ℕ)) (mask k : ℕ) → length names ≤ k → names_from names mask k ≡ []
none_left names mask k past = rw (drop_all k names past) refl

-- from the first place on all names of the set are left
pub all_names_left : (names : List (List ℕ)) (mask : ℕ) → 1 ≤ mask → mask < 2 ^ length names
    → set_bytes brace_open (names_from names mask 0) ≡ causes_bytes (set_of (names_in names mask))
all_names_left names mask some few =
    let whole : mask / 2 ^ 0 ≡ mask = omega arith in
    ap (λ m. set_bytes brace_open (names_in names m)) whole
    ∙ set_of_names (names_in names mask) (some_name names mask some few)
