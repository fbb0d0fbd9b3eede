-- Sums over all orders of some lives.
use Rattle.std.proofs.Common.{◌≡◌, ℕ, suc, ◌+◌, ◌*◌, arith, refl, ap, sym, ◌∙◌, List, [], ◌∷◌, ◌++◌, append_assoc, length, Bool, true, false, cond}
use Rattle.std.proofs.lemmas.List.{length-append}
use Rattle.std.proofs.Math.Path.{fun_ext}
use Rattle.std.specs.List.{filter}
use Rattle.halo_sums.specs.Sums.{sum_over}
use Rattle.halo_sums.proofs.Sums.{sum_over-add, sum_over-ext, sum_over-flat_map, sum_over-map}
use Rattle.halo_model.specs.Order.{insertions, orders}
use Rattle.halo_model.specs.EvenTies.{factorial}

-- the first life is put in at each place of each order of the others
pub orders-cons : (x : ℕ) (xs : List ℕ) (f : List ℕ → ℕ)
    → sum_over (orders (x ∷ xs)) f ≡ sum_over (orders xs) (λ o. sum_over (insertions x o) f)
orders-cons x xs f = sum_over-flat_map (insertions x) (orders xs) f

pub insertions-cons : (x y : ℕ) (ys : List ℕ) (f : List ℕ → ℕ)
    → sum_over (insertions x (y ∷ ys)) f ≡ f (x ∷ y ∷ ys) + sum_over (insertions x ys) (λ r. f (y ∷ r))
insertions-cons x y ys f = ap (λ n. f (x ∷ y ∷ ys) + n) (sum_over-map (λ zs. y ∷ zs) (insertions x ys) f)

-- two lives are put in one after the other, whichever comes first
insertions-swap : (x y : ℕ) (o : List ℕ) (f : List ℕ → ℕ) → sum_over (insertions y o) (λ r. sum_over (insertions x r) f)
    ≡ sum_over (insertions x o) (λ r. sum_over (insertions y r) f)
insertions-swap x y [] f = omega arith
insertions-swap x y (z ∷ zs) f = omega (arith, both x y, both y x, insertions-swap x y zs (λ r. f (z ∷ r)))
  where
    both : (x y : ℕ) → sum_over (insertions y (z ∷ zs)) (λ r. sum_over (insertions x r) f)
        ≡ f (x ∷ y ∷ z ∷ zs) + f (y ∷ x ∷ z ∷ zs)
        + sum_over (insertions x zs) (λ r. f (y ∷ z ∷ r)) + sum_over (insertions y zs) (λ r. f (x ∷ z ∷ r))
        + sum_over (insertions y zs) (λ r. sum_over (insertions x r) (λ q. f (z ∷ q)))
    both x y = omega (
      arith,
      insertions-cons y z zs (λ r. sum_over (insertions x r) f),
      insertions-cons x y (z ∷ zs) f,
      insertions-cons x z zs (λ r. f (y ∷ r)),
      sum_over-ext (insertions y zs) (λ r. sum_over (insertions x (z ∷ r)) f)
          (λ r. f (x ∷ z ∷ r) + sum_over (insertions x r) (λ q. f (z ∷ q))) (λ r. insertions-cons x z r f),
      sum_over-add (insertions y zs) (λ r. f (x ∷ z ∷ r)) (λ r. sum_over (insertions x r) (λ q. f (z ∷ q))),
    )

-- a life that stands behind others is as good as before them
pub orders-move : (us : List ℕ) (x : ℕ) (vs : List ℕ) (f : List ℕ → ℕ)
    → sum_over (orders (us ++ x ∷ vs)) f ≡ sum_over (orders (x ∷ us ++ vs)) f
orders-move [] x vs f = refl
orders-move (u ∷ us) x vs f = orders-cons u (us ++ x ∷ vs) f
    ∙ orders-move us x vs (λ o. sum_over (insertions u o) f)
    ∙ orders-cons x (us ++ vs) (λ o. sum_over (insertions u o) f)
    ∙ sum_over-ext (orders (us ++ vs)) _ _ (λ o. insertions-swap u x o f)
    ∙ sym (orders-cons x (u ∷ us ++ vs) f ∙ orders-cons u (us ++ vs) (λ o. sum_over (insertions x o) f))

-- what a sum weighs by the length of an order it weighs by the number of the lives
insertions-length : (x : ℕ) (o : List ℕ) (f : List ℕ → ℕ) (h : ℕ → ℕ)
    → sum_over (insertions x o) (λ r. f r * h (length r)) ≡ sum_over (insertions x o) f * h (suc (length o))
insertions-length x [] f h = omega arith
insertions-length x (y ∷ ys) f h = insertions-cons x y ys (λ r. f r * h (length r))
    ∙ ap (λ n. f (x ∷ y ∷ ys) * h (suc (suc (length ys))) + n)
    (insertions-length x ys (λ r. f (y ∷ r)) (λ n. h (suc n)))
    ∙ gather (f (x ∷ y ∷ ys)) (sum_over (insertions x ys) (λ r. f (y ∷ r))) (h (suc (suc (length ys))))
    ∙ ap (λ n. n * h (suc (suc (length ys)))) (sym (insertions-cons x y ys f))
  where
    gather : (a b c : ℕ) → a * c + b * c ≡ (a + b) * c
    gather a b c = omega arith

pub orders-length : (xs : List ℕ) (f : List ℕ → ℕ) (h : ℕ → ℕ)
    → sum_over (orders xs) (λ o. f o * h (length o)) ≡ sum_over (orders xs) f * h (length xs)
orders-length [] f h = omega arith
orders-length (x ∷ xs) f h = orders-cons x xs (λ o. f o * h (length o))
    ∙ sum_over-ext (orders xs) _ _ (λ o. insertions-length x o f h)
    ∙ orders-length xs (λ o. sum_over (insertions x o) f) (λ n. h (suc n))
    ∙ ap (λ n. n * h (suc (length xs))) (sym (orders-cons x xs f))

-- f looks only at lives of a kind, in the order in which they stand
abbrev pub LooksOnlyAt : (ℕ → Bool) → (List ℕ → ℕ) → Type 0
LooksOnlyAt keep f = (o : List ℕ) → f (filter keep o) ≡ f o

-- a life of another kind can be put in anywhere
places-alike : (keep : ℕ → Bool) (x : ℕ) → keep x ≡ false → (o : List ℕ) (f : List ℕ → ℕ)
    → sum_over (insertions x o) (λ r. f (filter keep r)) ≡ suc (length o) * f (filter keep o)
places-alike keep x other [] f = rw other (omega arith)
places-alike keep x other (y ∷ ys) f = insertions-cons x y ys (λ r. f (filter keep r))
    ∙ rw other (rest (keep y) (places-alike keep x other ys (λ r. f (y ∷ r))) (places-alike keep x other ys f))
  where
    rest : (b : Bool)
        → sum_over (insertions x ys) (λ r. f (y ∷ filter keep r)) ≡ suc (length ys) * f (y ∷ filter keep ys)
        → sum_over (insertions x ys) (λ r. f (filter keep r)) ≡ suc (length ys) * f (filter keep ys)
        → f (cond b (y ∷ filter keep ys) (filter keep ys))
        + sum_over (insertions x ys) (λ r. f (cond b (y ∷ filter keep r) (filter keep r)))
        ≡ suc (suc (length ys)) * f (cond b (y ∷ filter keep ys) (filter keep ys))
    rest true with without = omega (arith, with)
    rest false with without = omega (arith, without)

one-more : (keep : ℕ → Bool) (x : ℕ) → keep x ≡ false → (f : List ℕ → ℕ)
    → LooksOnlyAt keep f → (xs : List ℕ) → sum_over (orders (x ∷ xs)) f ≡ suc (length xs) * sum_over (orders xs) f
one-more keep x other f looks xs = orders-cons x xs f
    ∙ sum_over-ext (orders xs) _ _ (λ o. sym (sum_over-ext (insertions x o) _ _ looks)
    ∙ places-alike keep x other o f ∙ ap (λ n. suc (length o) * n) (looks o) ∙ turn (suc (length o)) (f o))
    ∙ orders-length xs f (λ n. suc n)
    ∙ turn (sum_over (orders xs) f) (suc (length xs))
  where
    turn : (m n : ℕ) → m * n ≡ n * m
    turn m n = omega arith

-- a sum over all orders that looks only at some of the lives is as many times the sum over their orders as there are
-- places for the others
orders-among : (keep : ℕ → Bool) (f : List ℕ → ℕ) → LooksOnlyAt keep f → (us vs : List ℕ)
    → sum_over (orders (us ++ vs)) f * factorial (length (us ++ filter keep vs))
    ≡ factorial (length (us ++ vs)) * sum_over (orders (us ++ filter keep vs)) f
orders-among keep f looks us [] = omega arith
orders-among keep f looks us (x ∷ vs) =
    each (keep x) refl (orders-among keep f looks (us ++ x ∷ []) vs) (orders-among keep f looks us vs)
  where
    behind : (ws : List ℕ) → (us ++ x ∷ []) ++ ws ≡ us ++ x ∷ ws
    behind ws = append_assoc us (x ∷ []) ws

    swapped : (a b c d m k t : ℕ) → a ≡ suc m * b → k ≡ suc m * c → b * d ≡ c * t → a * d ≡ k * t
    swapped a b c d m k t e g h =
        rw (e, g) (let s : suc m * (b * d) ≡ suc m * (c * t) = ap (λ z. suc m * z) h in omega arith)

    longer : (n m : ℕ) → n ≡ suc m → factorial n ≡ suc m * factorial m
    longer n m e = rw e refl

    each : (b : Bool) → keep x ≡ b
        → sum_over (orders ((us ++ x ∷ []) ++ vs)) f * factorial (length ((us ++ x ∷ []) ++ filter keep vs))
        ≡ factorial (length ((us ++ x ∷ []) ++ vs)) * sum_over (orders ((us ++ x ∷ []) ++ filter keep vs)) f
        → sum_over (orders (us ++ vs)) f * factorial (length (us ++ filter keep vs))
        ≡ factorial (length (us ++ vs)) * sum_over (orders (us ++ filter keep vs)) f
        → sum_over (orders (us ++ x ∷ vs)) f * factorial (length (us ++ cond b (x ∷ filter keep vs) (filter keep vs)))
        ≡ factorial (length (us ++ x ∷ vs))
        * sum_over (orders (us ++ cond b (x ∷ filter keep vs) (filter keep vs))) f
    each true e kept dropped = rw (← behind vs, ← behind (filter keep vs)) kept
    each false e kept dropped = swapped _ _ _ (factorial (length (us ++ filter keep vs))) (length (us ++ vs)) _ _
        (orders-move us x vs f ∙ one-more keep x e f looks (us ++ vs))
        (longer
        (length (us ++ x ∷ vs)) (length (us ++ vs)) (omega (arith, length-append us (x ∷ vs), length-append us vs)))
        dropped

pub orders-restrict : (keep : ℕ → Bool) (f : List ℕ → ℕ) → LooksOnlyAt keep f → (xs : List ℕ)
    → sum_over (orders xs) f * factorial (length (filter keep xs))
    ≡ factorial (length xs) * sum_over (orders (filter keep xs)) f
orders-restrict keep f looks xs = orders-among keep f looks [] xs

-- how many orders there are
pub orders-count : (xs : List ℕ) (c : ℕ) → sum_over (orders xs) (λ o. c) ≡ factorial (length xs) * c
orders-count [] c = omega arith
orders-count (x ∷ xs) c = orders-cons x xs (λ o. c)
    ∙ sum_over-ext (orders xs) _ _ (λ o. places-alike (λ i. false) x refl o (λ r. c) ∙ turn (suc (length o)))
    ∙ orders-length xs (λ o. c) (λ n. suc n)
    ∙ ap (λ n. n * suc (length xs)) (orders-count xs c)
    ∙ omega arith
  where
    turn : (n : ℕ) → n * c ≡ c * n
    turn n = omega arith

-- the sum over some lives of what a life and the others give
abbrev pub over_each : List ℕ → (ℕ → List ℕ → ℕ) → ℕ
over_each [] h = 0
over_each (x ∷ xs) h = h x xs + over_each xs (λ b rest. h b (x ∷ rest))

pub over_each-scale : (xs : List ℕ) (c : ℕ) (h : ℕ → List ℕ → ℕ)
    → over_each xs (λ b rest. c * h b rest) ≡ c * over_each xs h
over_each-scale [] c h = omega arith
over_each-scale (x ∷ xs) c h = omega (arith, over_each-scale xs c (λ b rest. h b (x ∷ rest)))

pub over_each-add : (xs : List ℕ) (g h : ℕ → List ℕ → ℕ)
    → over_each xs (λ b rest. g b rest + h b rest) ≡ over_each xs g + over_each xs h
over_each-add [] g h = omega arith
over_each-add (x ∷ xs) g h = omega (arith, over_each-add xs (λ b rest. g b (x ∷ rest)) (λ b rest. h b (x ∷ rest)))

pub over_each-ext : (xs : List ℕ) (g h : ℕ → List ℕ → ℕ)
    → ((b : ℕ) (rest : List ℕ) → g b rest ≡ h b rest) → over_each xs g ≡ over_each xs h
over_each-ext xs g h e = ap (over_each xs) (fun_ext (λ b. fun_ext (e b)))

over_each-none : (xs : List ℕ) → over_each xs (λ b rest. 0) ≡ 0
over_each-none [] = refl
over_each-none (x ∷ xs) = omega (arith, over_each-none xs)

pub over_each-sum : (xs js : List ℕ) (h : ℕ → List ℕ → ℕ → ℕ)
    → over_each xs (λ b rest. sum_over js (h b rest)) ≡ sum_over js (λ j. over_each xs (λ b rest. h b rest j))
over_each-sum xs [] h = over_each-none xs
over_each-sum xs (j ∷ js) h = over_each-add xs (λ b rest. h b rest j) (λ b rest. sum_over js (h b rest))
    ∙ ap (λ m. over_each xs (λ b rest. h b rest j) + m) (over_each-sum xs js h)

-- each life stands first, and behind it the others in all their orders
pub orders-first : (x : ℕ) (xs : List ℕ) (f : List ℕ → ℕ)
    → sum_over (orders (x ∷ xs)) f ≡ over_each (x ∷ xs) (λ b rest. sum_over (orders rest) (λ o. f (b ∷ o)))
orders-first x [] f = omega arith
orders-first x (y ∷ ys) f = orders-cons x (y ∷ ys) f
    ∙ orders-first y ys (λ o. sum_over (insertions x o) f)
    ∙ over_each-ext (y ∷ ys) _ _ (λ b rest. sum_over-ext (orders rest) _ _ (λ o. insertions-cons x b o f)
    ∙ sum_over-add (orders rest) (λ o. f (x ∷ b ∷ o)) (λ o. sum_over (insertions x o) (λ r. f (b ∷ r))))
    ∙ over_each-add (y ∷ ys) (λ b rest. sum_over (orders rest) (λ o. f (x ∷ b ∷ o)))
    (λ b rest. sum_over (orders rest) (λ o. sum_over (insertions x o) (λ r. f (b ∷ r))))
    ∙ ap (λ n. n
    + over_each (y ∷ ys) (λ b rest. sum_over (orders rest) (λ o. sum_over (insertions x o) (λ r. f (b ∷ r)))))
    (sym (orders-first y ys (λ o. f (x ∷ o))))
    ∙ ap (λ n. sum_over (orders (y ∷ ys)) (λ o. f (x ∷ o)) + n)
    (over_each-ext (y ∷ ys) _ _ (λ b rest. sym (orders-cons x rest (λ o. f (b ∷ o)))))

pub orders-first-or-none : (xs : List ℕ) (f : List ℕ → ℕ)
    → (xs ≡ [] → f [] ≡ 0) → sum_over (orders xs) f ≡ over_each xs (λ b rest. sum_over (orders rest) (λ o. f (b ∷ o)))
orders-first-or-none [] f none = omega (arith, none refl)
orders-first-or-none (x ∷ xs) f none = orders-first x xs f
