-- Names and their places tell each other, and so do sets of names and their masks.
use Rattle.std.proofs.Common.{◌≡◌, ◌≢◌, ℕ, zero, suc, ◌^◌, ◌<◌, List, [], ◌∷◌, Bool, true, false, cond, ◌||◌, bytes_eq, inl, inr, length, map, ap, ap₂, sym, ◌∙◌, refl, subst, arith}
use Rattle.std.specs.Prelude.{All, Contains, ⊤}
use Rattle.std.specs.List.{filter}
use Rattle.std.proofs.lemmas.List.{length-map}
use Rattle.std.proofs.lemmas.List.Elements.{All-nil, All-cons, All-head, All-tail, All-get_or, All-from_get_or, All-weaker, filter_passes}
use Rattle.std.proofs.lemmas.List.Sums.{passes_at_first}
use Rattle.std.proofs.lemmas.Slice.Eq.{bytes_eq-Decides}
use Rattle.std.proofs.lemmas.Bool.{cases_lt}
use Rattle.halo_sums.specs.Masks.{bits}
use Rattle.halo_check.specs.Checks.{AreDifferent}
use Rattle.halo_sums.specs.SetMasks.{mask_of}
use Rattle.halo_sums.proofs.SetMasks.{bits-mask_of, length-bits, mask_of-bits}
use Rattle.halo_check.specs.Draft.{is_among, mask_of_names, place_of}
use Rattle.halo_check.proofs.AmongNames.{among-Contains}
use Rattle.halo_check.proofs.LivesPlaced.{place_of-lt}
use Rattle.halo_check.proofs.Places.{place_is}
use Rattle.halo_spell.specs.Canonical.{chosen, name_at, names_in}

-- the place of the name at a place is that place, where no two names are equal
pub place_back : (names : List (List ℕ)) (i : ℕ) → AreDifferent names → i < length names
    → place_of names (name_at names i) ≡ i
place_back names i different below = sym (place_is names (name_at names i) i below refl only)
  where
    only : (q : ℕ) → q < length names → name_at names q ≡ name_at names i → q ≡ i
    only q lt same = elim (cases_lt q i) [
      | inl before ↦ absurd (different q i before below same)
      | inr behind ↦
          elim (cases_lt i q) [ inl above ↦ absurd (different i q above lt (sym same)) | inr within ↦ omega arith ]
    ]

-- and the name at the place of a name is that name
pub name_back : (names : List (List ℕ)) (name : List ℕ) → Contains names name
    → name_at names (place_of names name) ≡ name
name_back names name among =
    (bytes_eq-Decides _ name).0 (passes_at_first (λ other. bytes_eq other name) names [] (place_of-lt names name among))

-- what a test chooses is what passes it
chosen-map : {X : Type 0} (test : X → Bool) (xs : List X) → chosen xs (map test xs) ≡ filter test xs
chosen-map test [] = refl
chosen-map test (x ∷ xs) = go (test x) (chosen-map test xs)
  where
    go : (b : Bool) → chosen xs (map test xs) ≡ filter test xs
        → chosen (x ∷ xs) (b ∷ map test xs) ≡ cond b (x ∷ filter test xs) (filter test xs)
    go true rest = ap (λ ys. x ∷ ys) rest
    go false rest = rest

-- what holds of all elements holds of the chosen ones
pub All-chosen : {X : Type 0} (P : X → Type 0) (xs : List X) (choices : List Bool) → All P xs
    → All P (chosen xs choices)
All-chosen P [] choices all = all
All-chosen P (x ∷ xs) [] all = All-nil P
All-chosen P (x ∷ xs) (true ∷ choices) all =
    All-cons P x (chosen xs choices) (All-head P x xs all) (All-chosen P xs choices (All-tail P x xs all))
All-chosen P (x ∷ xs) (false ∷ choices) all = All-chosen P xs choices (All-tail P x xs all)

-- no two of some names are equal, told from the front
abbrev AreApart : List (List ℕ) → Type 0
AreApart [] = ⊤
AreApart (name ∷ names) = All (λ other. name ≢ other) names × AreApart names

apart : (names : List (List ℕ)) → AreDifferent names → AreApart names
apart [] different = tt
apart (name ∷ names) different = (
  All-from_get_or (λ other. name ≢ other) names [] (λ i lt. different 0 (suc i) (omega arith) (omega arith)),
  apart names (λ i j order lt. different (suc i) (suc j) (omega arith) (omega arith)),
)

different : (names : List (List ℕ)) → AreApart names → AreDifferent names
different [] apart i j order lt = absurd (omega arith)
different (name ∷ names) apart zero (suc j) order lt =
    All-get_or (λ other. name ≢ other) names j [] (omega arith) apart.0
different (name ∷ names) apart (suc i) (suc j) order lt = different names apart.1 i j (omega arith) (omega arith)
different (name ∷ names) apart i zero order lt = absurd (omega arith)

chosen_apart : (names : List (List ℕ)) (choices : List Bool) → AreApart names → AreApart (chosen names choices)
chosen_apart [] choices apart = tt
chosen_apart (name ∷ names) [] apart = tt
chosen_apart (name ∷ names) (true ∷ choices) apart =
    (All-chosen (λ other. name ≢ other) names choices apart.0, chosen_apart names choices apart.1)
chosen_apart (name ∷ names) (false ∷ choices) apart = chosen_apart names choices apart.1

-- no two names of a set are equal
pub names_in-different : (names : List (List ℕ)) (mask : ℕ) → AreDifferent names → AreDifferent (names_in names mask)
names_in-different names mask h =
    different (names_in names mask) (chosen_apart names (bits (length names) mask) (apart names h))

-- texts that differ are told apart
differ : (xs ys : List ℕ) → xs ≢ ys → bytes_eq xs ys ≡ false
differ xs ys other = go (bytes_eq xs ys) refl
  where
    go : (b : Bool) → bytes_eq xs ys ≡ b → b ≡ false
    go false e = refl
    go true e = absurd (other ((bytes_eq-Decides xs ys).0 e))

-- a name that none of the others is
not_among : (name : List ℕ) (names : List (List ℕ)) → All (λ other. name ≢ other) names → is_among names name ≡ false
not_among name [] all = refl
not_among name (other ∷ names) all =
    let differs = All-head (λ o. name ≢ o) other names all in
    rw (differ other name (λ e. differs (sym e))) (not_among name names (All-tail (λ o. name ≢ o) other names all))

-- functions that agree at each element
map-same : {X Y : Type 0} (f g : X → Y) (xs : List X) → All (λ x. f x ≡ g x) xs → map f xs ≡ map g xs
map-same f g [] all = refl
map-same f g (x ∷ xs) all =
    ap₂ (λ y ys. y ∷ ys) (All-head (λ x. f x ≡ g x) x xs all) (map-same f g xs (All-tail (λ x. f x ≡ g x) x xs all))

-- which names are among the chosen ones tells the choices
among_chosen : (names : List (List ℕ)) (choices : List Bool) → length choices ≡ length names → AreApart names
    → map (is_among (chosen names choices)) names ≡ choices
among_chosen [] [] same apart = refl
among_chosen [] (c ∷ choices) same apart = absurd (omega arith)
among_chosen (name ∷ names) [] same apart = absurd (omega arith)
among_chosen (name ∷ names) (true ∷ choices) same apart =
    let here : bytes_eq name name ≡ true = (bytes_eq-Decides name name).1 refl in
    let others = λ (o : List ℕ) (ne : name ≢ o). ap (λ b. b || is_among (chosen names choices) o) (differ name o ne) in
    ap₂ (λ b bs. b ∷ bs) (ap (λ b. b || is_among (chosen names choices) name) here)
    (map-same (is_among (name ∷ chosen names choices)) (is_among (chosen names choices)) names
    (All-weaker (λ o. name ≢ o) _ others names apart.0) ∙ among_chosen names choices (omega arith) apart.1)
among_chosen (name ∷ names) (false ∷ choices) same apart =
    ap₂ (λ b bs. b ∷ bs) (not_among name (chosen names choices) (All-chosen (λ o. name ≢ o) names choices apart.0))
    (among_chosen names choices (omega arith) apart.1)

-- the names of a set have the mask of the set
pub mask_back : (names : List (List ℕ)) (mask : ℕ) → AreDifferent names → mask < 2 ^ length names
    → mask_of_names names (names_in names mask) ≡ mask
mask_back names mask h below =
    ap mask_of (among_chosen names (bits (length names) mask) (length-bits (length names) mask) (apart names h))
    ∙ mask_of-bits (length names) mask below

-- the names of the mask of some names are among them
pub All-names_of_mask : (P : List ℕ → Type 0) (all names : List (List ℕ)) → All P names
    → All P (names_in all (mask_of_names all names))
All-names_of_mask P all names holds =
    let test = is_among names in
    let bits_are : bits (length all) (mask_of (map test all)) ≡ map test all =
    ap (λ n. bits n (mask_of (map test all))) (sym (length-map all test)) ∙ bits-mask_of (map test all) in
    rw (bits_are, chosen-map test all) (filtered all)
  where
    one : (name : List ℕ) → is_among names name ≡ true → P name
    one name among =
        let found = (among-Contains names name).0 among in
        subst P found.2 (All-get_or P names found.0 name found.1 holds)

    filtered : (xs : List (List ℕ)) → All P (filter (is_among names) xs)
    filtered xs =
        All-weaker (λ x. is_among names x ≡ true) P one (filter (is_among names) xs) (filter_passes (is_among names) xs)
