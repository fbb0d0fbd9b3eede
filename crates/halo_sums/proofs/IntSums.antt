-- Sums of integers over lists.
use Rattle.std.proofs.Common.{◌≡◌, ℕ, arith, refl, ap, sym, ◌∙◌, List, [], ◌∷◌, ◌++◌, map, ℤ, pos, ◌+ℤ◌, ◌*ℤ◌, ◌-ℤ◌}
use Rattle.std.proofs.Math.Path.{fun_ext}
use Rattle.std.proofs.lemmas.Int.{ints}
use Rattle.std.specs.List.{flat_map}
use Rattle.halo_sums.specs.Sums.{int_sum_over, sum_over}
use Rattle.halo_sums.proofs.Integers.{add_mul, mul_add}

module _ {X : Type 0} where
  pub int_sum_over-ext : (xs : List X) (f g : X → ℤ) → ((x : X) → f x ≡ g x) → int_sum_over xs f ≡ int_sum_over xs g
  int_sum_over-ext xs f g h = ap (int_sum_over xs) (fun_ext h)

  pub int_sum_over-append : (xs ys : List X) (f : X → ℤ)
      → int_sum_over (xs ++ ys) f ≡ int_sum_over xs f +ℤ int_sum_over ys f
  int_sum_over-append [] ys f = omega (arith, ints)
  int_sum_over-append (x ∷ xs) ys f = omega (arith, ints, int_sum_over-append xs ys f)

  pub int_sum_over-add : (xs : List X) (f g : X → ℤ)
      → int_sum_over xs (λ x. f x +ℤ g x) ≡ int_sum_over xs f +ℤ int_sum_over xs g
  int_sum_over-add [] f g = omega (arith, ints)
  int_sum_over-add (x ∷ xs) f g = omega (arith, ints, int_sum_over-add xs f g)

  pub int_sum_over-sub : (xs : List X) (f g : X → ℤ)
      → int_sum_over xs (λ x. f x -ℤ g x) ≡ int_sum_over xs f -ℤ int_sum_over xs g
  int_sum_over-sub [] f g = omega (arith, ints)
  int_sum_over-sub (x ∷ xs) f g = omega (arith, ints, int_sum_over-sub xs f g)

  pub int_sum_over-scale : (xs : List X) (c : ℤ) (f : X → ℤ) → int_sum_over xs (λ x. c *ℤ f x) ≡ c *ℤ int_sum_over xs f
  int_sum_over-scale [] c f = omega (arith, ints)
  int_sum_over-scale (x ∷ xs) c f = omega (arith, ints, int_sum_over-scale xs c f, mul_add c (f x) (int_sum_over xs f))

  pub int_sum_over-scale_right : (xs : List X) (c : ℤ) (f : X → ℤ)
      → int_sum_over xs (λ x. f x *ℤ c) ≡ int_sum_over xs f *ℤ c
  int_sum_over-scale_right [] c f = omega (arith, ints)
  int_sum_over-scale_right (x ∷ xs) c f =
      omega (arith, ints, int_sum_over-scale_right xs c f, add_mul (f x) (int_sum_over xs f) c)

  -- a sum of naturals, read as one of integers
  pub int_sum_over-pos : (xs : List X) (f : X → ℕ) → int_sum_over xs (λ x. pos (f x)) ≡ pos (sum_over xs f)
  int_sum_over-pos [] f = refl
  int_sum_over-pos (x ∷ xs) f = omega (arith, ints, int_sum_over-pos xs f)

  pub int_sum_over-none : (xs : List X) → int_sum_over xs (λ x. pos 0) ≡ pos 0
  int_sum_over-none [] = refl
  int_sum_over-none (x ∷ xs) = omega (arith, ints, int_sum_over-none xs)

module _ {X Y : Type 0} where
  pub int_sum_over-map : (h : X → Y) (xs : List X) (f : Y → ℤ)
      → int_sum_over (map h xs) f ≡ int_sum_over xs (λ x. f (h x))
  int_sum_over-map h [] f = refl
  int_sum_over-map h (x ∷ xs) f = ap (λ n. f (h x) +ℤ n) (int_sum_over-map h xs f)

  pub int_sum_over-flat_map : (h : X → List Y) (xs : List X) (f : Y → ℤ)
      → int_sum_over (flat_map h xs) f ≡ int_sum_over xs (λ x. int_sum_over (h x) f)
  int_sum_over-flat_map h [] f = refl
  int_sum_over-flat_map h (x ∷ xs) f =
      int_sum_over-append (h x) (flat_map h xs) f ∙ ap (λ n. int_sum_over (h x) f +ℤ n) (int_sum_over-flat_map h xs f)

  -- two sums change places
  pub int_sum_over-swap : (xs : List X) (ys : List Y) (f : X → Y → ℤ)
      → int_sum_over xs (λ x. int_sum_over ys (f x)) ≡ int_sum_over ys (λ y. int_sum_over xs (λ x. f x y))
  int_sum_over-swap [] ys f = sym (int_sum_over-none ys)
  int_sum_over-swap (x ∷ xs) ys f =
      ap (λ z. int_sum_over ys (f x) +ℤ z) (int_sum_over-swap xs ys f)
      ∙ sym (int_sum_over-add ys (f x) (λ y. int_sum_over xs (λ x. f x y)))
