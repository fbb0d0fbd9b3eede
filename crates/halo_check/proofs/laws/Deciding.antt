-- Facts that can be told from their contrary: several at once, and those of lists and options.
use Rattle.std.proofs.Common.{◌≢◌, ℕ, ◌<◌, List, [], ◌∷◌, Option, Some, None, get_or, inl, inr, length, refl}
use Rattle.std.specs.Prelude.{All, IfSome}
use Rattle.std.proofs.Math.Decide.{map_dec}
use Rattle.std.proofs.Math.Logic.Dec
use Rattle.std.proofs.lemmas.List.Elements.{All-cons, All-head, All-nil, All-tail}
use Rattle.halo_table.proofs.Deciding.{dec_bytes, first_place, stable}
use Rattle.halo_check.specs.Checks.{AreDifferent}

-- three facts
pub dec_three : {P Q R : Type 0} → Dec P → Dec Q → Dec R → Dec (P × Q × R)
dec_three p q r = map_dec (λ h. (h.0, h.1.0, h.1.1)) (λ h. (h.0, (h.1, h.2))) (Dec.and p (Dec.and q r))

-- four facts
pub dec_four : {P Q R S : Type 0} → Dec P → Dec Q → Dec R → Dec S → Dec (P × Q × R × S)
dec_four p q r s =
    map_dec (λ h. (h.0, h.1.0, h.1.1.0, h.1.1.1)) (λ h. (h.0, (h.1, (h.2, h.3)))) (Dec.and p (Dec.and q (Dec.and r s)))

-- a fact of each of the first n numbers
pub dec_each : (P : ℕ → Type 0) → ((i : ℕ) → Dec (P i)) → (n : ℕ) → Dec ((i : ℕ) → i < n → P i)
dec_each P d n = elim (first_place (λ i. P i → ⊥) (λ i. Dec.not (d i)) n) [
  | inl (i, lt, fails, before) ↦ no (λ h. fails (h i lt))
  | inr none ↦ yes (λ i lt. stable (d i) (none i lt))
]

-- a fact of each of a list
pub dec_all : {X : Type 0} (P : X → Type 0) → ((x : X) → Dec (P x)) → (xs : List X) → Dec (All P xs)
dec_all P d [] = yes (All-nil P)
dec_all P d (x ∷ xs) =
    map_dec (λ h. All-cons P x xs h.0 h.1) (λ h. (All-head P x xs h, All-tail P x xs h))
    (Dec.and (d x) (dec_all P d xs))

-- a fact of what an option has
pub dec_if_some : {X : Type 0} (P : X → Type 0) → ((x : X) → Dec (P x)) → (o : Option X) → Dec (IfSome o P)
dec_if_some P d None = yes tt
dec_if_some P d (Some x) = d x

-- an option has something
pub dec_some : {X : Type 0} (o : Option X) → Dec (o ≢ None)
dec_some None = no (λ some. some refl)
dec_some (Some x) = yes (λ none. cc)

-- no two of some names are equal
pub dec_different : (names : List (List ℕ)) → Dec (AreDifferent names)
dec_different names =
    map_dec (λ each i j before within. each j within i before)
    (λ different j within i before. different i j before within)
    (dec_each (λ j. (i : ℕ) → i < j → get_or names i [] ≢ get_or names j [])
    (λ j. dec_each (λ i. get_or names i [] ≢ get_or names j [])
    (λ i. Dec.not (dec_bytes (get_or names i []) (get_or names j []))) j) (length names))
