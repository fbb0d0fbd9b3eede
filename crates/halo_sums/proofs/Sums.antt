-- Sums of natural numbers over lists.
use Rattle.std.proofs.Common.{◌≡◌, ℕ, ◌+◌, ◌*◌, arith, refl, ap, sym, ◌∙◌, List, [], ◌∷◌, ◌++◌, length, map}
use Rattle.std.proofs.Math.Path.{fun_ext}
use Rattle.std.specs.List.{flat_map}
use Rattle.halo_sums.specs.Sums.{product_over, sum_over}

module _ {X : Type 0} where
  pub sum_over-ext : (xs : List X) (f g : X → ℕ) → ((x : X) → f x ≡ g x) → sum_over xs f ≡ sum_over xs g
  sum_over-ext xs f g h = ap (sum_over xs) (fun_ext h)

  pub sum_over-append : (xs ys : List X) (f : X → ℕ) → sum_over (xs ++ ys) f ≡ sum_over xs f + sum_over ys f
  sum_over-append [] ys f = omega arith
  sum_over-append (x ∷ xs) ys f = omega (arith, sum_over-append xs ys f)

  pub sum_over-add : (xs : List X) (f g : X → ℕ) → sum_over xs (λ x. f x + g x) ≡ sum_over xs f + sum_over xs g
  sum_over-add [] f g = omega arith
  sum_over-add (x ∷ xs) f g = omega (arith, sum_over-add xs f g)

  pub sum_over-scale : (xs : List X) (c : ℕ) (f : X → ℕ) → sum_over xs (λ x. c * f x) ≡ c * sum_over xs f
  sum_over-scale [] c f = omega arith
  sum_over-scale (x ∷ xs) c f = omega (arith, sum_over-scale xs c f)

  pub sum_over-scale_right : (xs : List X) (c : ℕ) (f : X → ℕ) → sum_over xs (λ x. f x * c) ≡ sum_over xs f * c
  sum_over-scale_right [] c f = omega arith
  sum_over-scale_right (x ∷ xs) c f = omega (arith, sum_over-scale_right xs c f)

-- the product over two lists, one behind the other
pub product_over-append : {X : Type 0} → (xs ys : List X) (f : X → ℕ)
    → product_over (xs ++ ys) f ≡ product_over xs f * product_over ys f
product_over-append [] ys f = omega arith
product_over-append (x ∷ xs) ys f = rw (product_over-append xs ys f) (omega arith)

module _ {X Y : Type 0} where
  pub sum_over-map : (h : X → Y) (xs : List X) (f : Y → ℕ) → sum_over (map h xs) f ≡ sum_over xs (λ x. f (h x))
  sum_over-map h [] f = refl
  sum_over-map h (x ∷ xs) f = ap (λ n. f (h x) + n) (sum_over-map h xs f)

  pub sum_over-flat_map : (h : X → List Y) (xs : List X) (f : Y → ℕ)
      → sum_over (flat_map h xs) f ≡ sum_over xs (λ x. sum_over (h x) f)
  sum_over-flat_map h [] f = refl
  sum_over-flat_map h (x ∷ xs) f =
      sum_over-append (h x) (flat_map h xs) f ∙ ap (λ n. sum_over (h x) f + n) (sum_over-flat_map h xs f)

pub sum_over-const : {X : Type 0} (xs : List X) (c : ℕ) → sum_over xs (λ x. c) ≡ length xs * c
sum_over-const [] c = omega arith
sum_over-const (x ∷ xs) c = omega (arith, sum_over-const xs c)

pub sum_over-none : {X : Type 0} (xs : List X) → sum_over xs (λ x. 0) ≡ 0
sum_over-none [] = refl
sum_over-none (x ∷ xs) = omega (arith, sum_over-none xs)

-- two sums change places
pub sum_over-swap : {X Y : Type 0} (xs : List X) (ys : List Y) (f : X → Y → ℕ)
    → sum_over xs (λ x. sum_over ys (f x)) ≡ sum_over ys (λ y. sum_over xs (λ x. f x y))
sum_over-swap [] ys f = sym (sum_over-none ys)
sum_over-swap (x ∷ xs) ys f =
    ap (λ n. sum_over ys (f x) + n) (sum_over-swap xs ys f)
    ∙ sym (sum_over-add ys (f x) (λ y. sum_over xs (λ x. f x y)))
