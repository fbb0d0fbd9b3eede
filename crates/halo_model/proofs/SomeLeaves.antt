-- One of a set of lives leaves in a year or all stay, in each order.
use Rattle.std.proofs.Common.{◌≡◌, ℕ, zero, suc, ◌+◌, ◌*◌, ◌<◌, ◌≤◌, arith, refl, ap, sym, ◌∙◌, List, [], ◌∷◌, map, get_or, Bool, true, false, ◌||◌, nat_eq}
use Rattle.std.specs.List.{All, filter, flat_map}
use Rattle.std.proofs.lemmas.Bool.Decides.{nat_tests}
use Rattle.std.proofs.lemmas.List.Elements.{All-append, All-cons, All-map}
use Rattle.halo_sums.specs.Sums.{numbers_from, product_over}
use Rattle.halo_model.specs.Order.{insertions, orders, rank_in}
use Rattle.halo_contract.specs.declared.ties.Ties.TheVariants.{Even, Declared}
use Rattle.halo_model.specs.EvenTies.{YearNumbers, first_leaving, lives_in, without}
use Rattle.halo_model.specs.OrderLaws.{SomeLeavesInEachOrder}
use Rattle.halo_model.proofs.EvenTies.{alive-with, all_alive, apart, first-step, first_in, looks-at-set, nat_eq-same, taken-out, within}

-- whether a life stands in an order
abbrev stands : ℕ → List ℕ → Bool
stands i [] = false
stands i (y ∷ ys) = nat_eq i y || stands i ys

none-in : (S : ℕ → Bool) (xs : List ℕ) → ((i : ℕ) → S i ≡ false) → filter S xs ≡ []
none-in S [] none = refl
none-in S (x ∷ xs) none = rw (none x) (none-in S xs none)

is-false : (b : Bool) → (b ≡ true → ⊥) → b ≡ false
is-false true h = absurd (h refl)
is-false false h = refl

stands-behind : (c d : Bool) → c ≡ false → (c || d) ≡ true → d ≡ true
stands-behind true d e h = absurd (cc)
stands-behind false d e h = h

module _ (n : ℕ) (y : YearNumbers) (whole : (i : ℕ) → i < n → y.leaving i + y.staying i ≡ y.alive i) where
  abbrev all_stay : (ℕ → Bool) → ℕ
  all_stay S = product_over (lives_in n S) y.staying

  in-order : (o : List ℕ) (S : ℕ → Bool) → ((i : ℕ) → S i ≡ true → i < n)
      → ((i : ℕ) → S i ≡ true → stands i o ≡ true) → first_in n y S o + all_stay S ≡ all_alive n y S
  in-order [] S low there =
      nobody (lives_in n S) (none-in S (numbers_from 0 n) (λ i. is-false (S i) (λ e. absurd (let f = there i e in cc))))
    where
      nobody : (xs : List ℕ)
          → xs ≡ [] → first_leaving y (rank_in []) xs + product_over xs y.staying ≡ product_over xs y.alive
      nobody xs e = rw e refl
  in-order (b ∷ o) S low there = each (S b) refl (in-order o (without S b) (λ i at-i. low i (within S b i at-i))
      (λ i at-i. stands-behind (nat_eq i b) (stands i o) (apart S b i at-i) (there i (within S b i at-i))))
      (λ none. in-order o S low (others none))
    where
      others : S b ≡ false → (i : ℕ) → S i ≡ true → stands i o ≡ true
      others none i at-i = stands-behind
          (nat_eq i b) (stands i o) (differ (λ e. absurd (let f : S b ≡ true = rw e at at-i in cc))) (there i at-i)
        where
          differ : (i ≡ b → ⊥) → nat_eq i b ≡ false
          differ h = is-false (nat_eq i b) (λ e. h (grind (arith, nat_tests, e)))

      each : (t : Bool) → S b ≡ t → first_in n y (without S b) o + all_stay (without S b) ≡ all_alive n y (without S b)
          → (S b ≡ false → first_in n y S o + all_stay S ≡ all_alive n y S)
          → first_in n y S (b ∷ o) + all_stay S ≡ all_alive n y S
      each true e rest same =
          rw (first-step n y S b e (low b e) o, alive-with n y S b e (low b e), staying-with e)
          (together (y.leaving b) (y.staying b) (y.alive b) (all_alive n y (without S b))
          (first_in n y (without S b) o) (all_stay (without S b)) (whole b (low b e)) rest)
        where
          staying-with : S b ≡ true → all_stay S ≡ y.staying b * all_stay (without S b)
          staying-with e = (taken-out S n 0 b e (omega arith) (omega (arith, low b e))).1 y.staying

          together : (q p d a f s : ℕ) → q + p ≡ d → f + s ≡ a → q * a + p * f + p * s ≡ d * a
          together q p d a f s e h = let r : (q + p) * a ≡ d * a = ap (λ m. m * a) e in
              let t : p * (f + s) ≡ p * a = ap (λ m. p * m) h in omega arith
      each false e rest same =
          ap (λ m. m + all_stay S) (sym (looks-at-set n y S (b ∷ o)) ∙ rw e (looks-at-set n y S o)) ∙ same e

-- each order of some lives has each of them
All-flat_map : {X : Type 0} (P Q : X → Type 0) (f : X → List X)
    → ((x : X) → Q x → All P (f x)) → (xs : List X) → All Q xs → All P (flat_map f xs)
All-flat_map P Q f each [] all = λ k d l. absurd (omega arith)
All-flat_map P Q f each (x ∷ xs) all = All-append P (f x)
    (flat_map f xs) (each x (all 0 x (omega arith))) (All-flat_map P Q f each xs (λ k d l. all (suc k) d (omega arith)))

stands-kept : (i x : ℕ) (o : List ℕ) → stands i o ≡ true → All (λ r. stands i r ≡ true) (insertions x o)
stands-kept i x [] e = absurd (cc)
stands-kept i x (z ∷ zs) e =
    All-cons (λ r. stands i r ≡ true) (x ∷ z ∷ zs) (map (λ r. z ∷ r) (insertions x zs)) (or-right (nat_eq i x) e)
    (All-map (λ r. stands i r ≡ true) (λ r. z ∷ r) (insertions x zs) (each (nat_eq i z) e (stands-kept i x zs)))
  where
    or-right : (c : Bool) {d : Bool} → d ≡ true → (c || d) ≡ true
    or-right true f = refl
    or-right false f = f

    each : (c : Bool)
        → (c || stands i zs) ≡ true → (stands i zs ≡ true → All (λ r. stands i r ≡ true) (insertions x zs))
        → All (λ r. (c || stands i r) ≡ true) (insertions x zs)
    each true f rest = λ k d l. refl
    each false f rest = rest f

stands-new : (x : ℕ) (o : List ℕ) → All (λ r. stands x r ≡ true) (insertions x o)
stands-new x [] = All-cons (λ r. stands x r ≡ true) (x ∷ []) [] (here x []) (λ k d l. absurd (omega arith))
  where
    here : (x : ℕ) (o : List ℕ) → stands x (x ∷ o) ≡ true
    here x o = rw (nat_eq-same x) refl
stands-new x (z ∷ zs) =
    All-cons (λ r. stands x r ≡ true) (x ∷ z ∷ zs) (map (λ r. z ∷ r) (insertions x zs)) (here x (z ∷ zs))
    (All-map (λ r. stands x r ≡ true)
    (λ r. z ∷ r) (insertions x zs) (λ k d l. or-right (nat_eq x z) (stands-new x zs k d l)))
  where
    here : (x : ℕ) (o : List ℕ) → stands x (x ∷ o) ≡ true
    here x o = rw (nat_eq-same x) refl

    or-right : (c : Bool) {d : Bool} → d ≡ true → (c || d) ≡ true
    or-right true f = refl
    or-right false f = f

all-stand : (i : ℕ) (xs : List ℕ) → stands i xs ≡ true → All (λ o. stands i o ≡ true) (orders xs)
all-stand i [] e = absurd (cc)
all-stand i (x ∷ xs) e = each (nat_eq i x) refl e (all-stand i xs)
  where
    each : (c : Bool)
        → nat_eq i x ≡ c → (c || stands i xs) ≡ true → (stands i xs ≡ true → All (λ o. stands i o ≡ true) (orders xs))
        → All (λ o. stands i o ≡ true) (orders (x ∷ xs))
    each true e f rest = let same : i ≡ x = grind (arith, nat_tests, e) in
        rw same (All-flat_map
        (λ o. stands x o ≡ true) (λ o. Unit {0}) (insertions x) (λ o u. stands-new x o) (orders xs) (λ k d l. tt))
    each false e f rest = All-flat_map (λ o. stands i o ≡ true)
        (λ o. stands i o ≡ true) (insertions x) (λ o h. stands-kept i x o h) (orders xs) (rest f)

stands-among : (count first i : ℕ) → first ≤ i → i < first + count → stands i (numbers_from first count) ≡ true
stands-among zero first i low high = absurd (omega arith)
stands-among (suc count) first i low high =
    each (nat_eq i first) refl (λ later. stands-among count (suc first) i (omega arith) (omega arith))
  where
    each : (c : Bool) → nat_eq i first ≡ c → (first < i → stands i (numbers_from (suc first) count) ≡ true)
        → (c || stands i (numbers_from (suc first) count)) ≡ true
    each true e rest = refl
    each false e rest = rest (grind (arith, nat_tests, e, low))

pub some-leaves-in-each-order : SomeLeavesInEachOrder
some-leaves-in-each-order n y whole S low Declared = λ k d l. one k d l
  where
    one : (k : ℕ) (d : List ℕ)
        → k < 1 → first_in n y S (get_or (numbers_from 0 n ∷ []) k d) + all_stay n y whole S ≡ all_alive n y S
    one zero d l = in-order n y whole
        (numbers_from 0 n) S low (λ i at-i. stands-among n 0 i (omega arith) (omega (arith, low i at-i)))
    one (suc k) d l = absurd (omega arith)
some-leaves-in-each-order n y whole S low Even = λ k d l. in-order n y whole _ S low
    (λ i at-i. all-stand i (numbers_from 0 n) (stands-among n 0 i (omega arith) (omega (arith, low i at-i))) k d l)
