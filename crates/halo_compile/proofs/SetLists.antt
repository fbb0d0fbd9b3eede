-- Two functions of sets agree where their lists over all sets of n lives do.
use Rattle.std.proofs.Common.{◌≡◌, ℕ, zero, suc, arith, refl, ap, sym, ◌∙◌, List, [], ◌∷◌, ◌++◌, length, map, take, drop, Bool, true, false, ℤ}
use Rattle.std.proofs.Math.Seq.{take-append_seam, drop-append_seam}
use Rattle.halo_sums.specs.Sets.{sets}

map-append : {X Y : Type 0} (f : X → Y) (xs ys : List X) → map f (xs ++ ys) ≡ map f xs ++ map f ys
map-append f [] ys = refl
map-append f (x ∷ xs) ys = ap (λ zs. f x ∷ zs) (map-append f xs ys)

map-map : {X Y Z : Type 0} (f : Y → Z) (g : X → Y) (xs : List X) → map f (map g xs) ≡ map (λ x. f (g x)) xs
map-map f g [] = refl
map-map f g (x ∷ xs) = ap (λ zs. f (g x) ∷ zs) (map-map f g xs)

length-map : {X Y : Type 0} (f : X → Y) (xs : List X) → length (map f xs) ≡ length xs
length-map f [] = refl
length-map f (x ∷ xs) = ap suc (length-map f xs)

-- first the sets without life 0, and then those with it
both_parts : (n : ℕ) (f : List Bool → ℤ)
    → map f (sets (suc n)) ≡ map (λ u. f (false ∷ u)) (sets n) ++ map (λ u. f (true ∷ u)) (sets n)
both_parts n f = map-append f (map (λ u. false ∷ u) (sets n)) (map (λ u. true ∷ u) (sets n))
    ∙ ap (λ zs. zs ++ map f (map (λ u. true ∷ u) (sets n))) (map-map f (λ u. false ∷ u) (sets n))
    ∙ ap (λ zs. map (λ u. f (false ∷ u)) (sets n) ++ zs) (map-map f (λ u. true ∷ u) (sets n))

pub lists_agree : (n : ℕ) (f g : List Bool → ℤ) → ((u : List Bool) → length u ≡ n → f u ≡ g u)
    → map f (sets n) ≡ map g (sets n)
lists_agree zero f g h = ap (λ z. z ∷ []) (h [] refl)
lists_agree (suc n) f g h = both_parts n f
    ∙ ap (λ zs. zs ++ map (λ u. f (true ∷ u)) (sets n))
    (lists_agree n (λ u. f (false ∷ u)) (λ u. g (false ∷ u)) (λ u e. h (false ∷ u) (ap suc e)))
    ∙ ap (λ zs. map (λ u. g (false ∷ u)) (sets n) ++ zs)
    (lists_agree n (λ u. f (true ∷ u)) (λ u. g (true ∷ u)) (λ u e. h (true ∷ u) (ap suc e)))
    ∙ sym (both_parts n g)

-- two pairs of lists that are joined to one list each
front_same : (xs ys us vs : List ℤ) → length xs ≡ length us → xs ++ ys ≡ us ++ vs → xs ≡ us
front_same xs ys us vs l e =
    sym (take-append_seam xs ys) ∙ ap (take (length xs)) e ∙ ap (λ k. take k (us ++ vs)) l ∙ take-append_seam us vs

back_same : (xs ys us vs : List ℤ) → length xs ≡ length us → xs ++ ys ≡ us ++ vs → ys ≡ vs
back_same xs ys us vs l e =
    sym (drop-append_seam xs ys) ∙ ap (drop (length xs)) e ∙ ap (λ k. drop k (us ++ vs)) l ∙ drop-append_seam us vs

same_head : (y z : ℤ) (ys zs : List ℤ) → y ∷ ys ≡ z ∷ zs → y ≡ z
same_head y z ys zs e = cc

pub agree_from_lists : (n : ℕ) (f g : List Bool → ℤ) → map f (sets n) ≡ map g (sets n) → (u : List Bool) → length u ≡ n
    → f u ≡ g u
agree_from_lists zero f g e [] l = same_head (f []) (g []) [] [] e
agree_from_lists zero f g e (b ∷ u) l = absurd (omega arith)
agree_from_lists (suc n) f g e [] l = absurd (omega arith)
agree_from_lists (suc n) f g e (false ∷ u) l =
    agree_from_lists n (λ v. f (false ∷ v)) (λ v. g (false ∷ v))
    (front_same _ (map (λ v. f (true ∷ v)) (sets n)) _ (map (λ v. g (true ∷ v)) (sets n))
    (length-map _ (sets n) ∙ sym (length-map _ (sets n))) (sym (both_parts n f) ∙ e ∙ both_parts n g))
    u (omega arith)
agree_from_lists (suc n) f g e (true ∷ u) l =
    agree_from_lists n (λ v. f (true ∷ v)) (λ v. g (true ∷ v))
    (back_same (map (λ v. f (false ∷ v)) (sets n)) _ (map (λ v. g (false ∷ v)) (sets n)) _
    (length-map _ (sets n) ∙ sym (length-map _ (sets n))) (sym (both_parts n f) ∙ e ∙ both_parts n g))
    u (omega arith)
