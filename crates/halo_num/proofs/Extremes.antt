-- The least and the greatest blend stand at ends of the three intervals.
use Rattle.std.proofs.Common.{◌≡◌, ℕ, ◌+◌, ◌*◌, ◌-◌, ◌≤◌, ℤ, pos, negsuc, ◌≤ℤ◌, arith, subst, sym, ap, ◌⊎◌, inl, inr, ⊎_elim}
use Rattle.std.proofs.lemmas.Int.{ints}
use Rattle.std.specs.Int.{int_min, int_max}
use Rattle.std.proofs.Math.Nat.{mul-le-mul_right}
use Rattle.halo_num.specs.Ends.{Ends, fine, IsWithin}
use Rattle.halo_num.specs.Blend.{blend, IsIn, IsLeastBlend, IsGreatestBlend}
use Rattle.halo_sums.proofs.Integers.{le_trans}
use Rattle.halo_num.proofs.Multiples.{least_of, greatest_of}
use Rattle.halo_num.proofs.Parts.{int_min_cases, int_max_cases}
use Rattle.halo_num.proofs.Blends.{by_order, blend_pos, blend_mono}

-- a blend goes up in the chance of the greater value
slope : (p q s t v c u : ℕ) → p + q ≡ u → s + t ≡ u → p ≤ s → p * (v + c) + q * v ≤ s * (v + c) + t * v
slope p q s t v c u e f l =
    let m : p * c ≤ s * c = mul-le-mul_right c l
    in let o : (p + q) * v ≡ u * v = ap (λ (z : ℕ). z * v) e
    in let w : (s + t) * v ≡ u * v = ap (λ (z : ℕ). z * v) f
    in omega arith

-- so a chance between two gives no less than one of them
above_one : (pl ql s t ph qh x y u : ℕ) → pl + ql ≡ u → s + t ≡ u → ph + qh ≡ u → pl ≤ s → s ≤ ph
    → (pl * x + ql * y ≤ s * x + t * y) ⊎ (ph * x + qh * y ≤ s * x + t * y)
above_one pl ql s t ph qh x y u e f g l m =
    by_order x y
    (λ (c : ℕ) (h : x ≡ y + c). inl (rw h (slope pl ql s t y c u e f l)))
    (λ (c : ℕ) (h : y ≡ x + c). inr (rw h (let k = slope qh ph t s x c u (omega arith) (omega arith) (omega arith) in
    omega (arith, k))))

-- and no more than one of them
below_one : (pl ql s t ph qh x y u : ℕ) → pl + ql ≡ u → s + t ≡ u → ph + qh ≡ u → pl ≤ s → s ≤ ph
    → (s * x + t * y ≤ pl * x + ql * y) ⊎ (s * x + t * y ≤ ph * x + qh * y)
below_one pl ql s t ph qh x y u e f g l m =
    by_order x y
    (λ (c : ℕ) (h : x ≡ y + c). inr (rw h (slope s t ph qh y c u f g m)))
    (λ (c : ℕ) (h : y ≡ x + c). inl (rw h (let k = slope t s ql pl x c u (omega arith) (omega arith) (omega arith) in
    omega (arith, k))))

-- an order of blends, from naturals
blend_order : (p s x y : ℕ) → p ≤ fine → s ≤ fine → p * x + (fine - p) * y ≤ s * x + (fine - s) * y
    → blend (pos p) (pos x) (pos y) ≤ℤ blend (pos s) (pos x) (pos y)
blend_order p s x y i j h =
    let P : ℤ → Type 0 = λ z. z ≤ℤ blend (pos s) (pos x) (pos y)
    in let Q : ℤ → Type 0 = λ z. pos (p * x + (fine - p) * y) ≤ℤ z
    in subst P (sym (blend_pos p x y i)) (subst Q (sym (blend_pos s x y j)) (omega (arith, ints)))

-- a chance between two blends to no less than the lesser of their blends
blend_least : (pl s ph x y : ℤ) → pos 0 ≤ℤ pl → pl ≤ℤ s → s ≤ℤ ph → ph ≤ℤ pos fine → pos 0 ≤ℤ x → pos 0 ≤ℤ y
    → int_min (blend pl x y) (blend ph x y) ≤ℤ blend s x y
blend_least (pos pl) (pos s) (pos ph) (pos x) (pos y) i l m j k n =
    let a = blend (pos pl) (pos x) (pos y)
    in let b = blend (pos ph) (pos x) (pos y)
    in let z = blend (pos s) (pos x) (pos y)
    in let il : pl ≤ fine = omega (arith, ints)
    in let is : s ≤ fine = omega (arith, ints)
    in let ih : ph ≤ fine = omega (arith, ints)
    in ⊎_elim
    (λ (h : pl * x + (fine - pl) * y ≤ s * x + (fine - s) * y). le_trans (int_min a b) a z (least_of a b).0
    (blend_order pl s x y il is h))
    (λ (h : ph * x + (fine - ph) * y ≤ s * x + (fine - s) * y). le_trans (int_min a b) b z (least_of a b).1
    (blend_order ph s x y ih is h))
    (above_one pl (fine - pl) s (fine - s) ph (fine - ph) x y fine (omega arith) (omega arith) (omega arith)
    (omega (arith, ints)) (omega (arith, ints)))
blend_least (negsuc pl) s ph x y i l m j k n = absurd (omega (arith, ints))
blend_least (pos pl) (negsuc s) ph x y i l m j k n = absurd (omega (arith, ints))
blend_least pl (pos s) (negsuc ph) x y i l m j k n = absurd (omega (arith, ints))
blend_least pl s ph (negsuc x) y i l m j k n = absurd (omega (arith, ints))
blend_least pl s ph x (negsuc y) i l m j k n = absurd (omega (arith, ints))

-- and to no more than the greater
blend_greatest : (pl s ph x y : ℤ) → pos 0 ≤ℤ pl → pl ≤ℤ s → s ≤ℤ ph → ph ≤ℤ pos fine → pos 0 ≤ℤ x → pos 0 ≤ℤ y
    → blend s x y ≤ℤ int_max (blend pl x y) (blend ph x y)
blend_greatest (pos pl) (pos s) (pos ph) (pos x) (pos y) i l m j k n =
    let a = blend (pos pl) (pos x) (pos y)
    in let b = blend (pos ph) (pos x) (pos y)
    in let z = blend (pos s) (pos x) (pos y)
    in let il : pl ≤ fine = omega (arith, ints)
    in let is : s ≤ fine = omega (arith, ints)
    in let ih : ph ≤ fine = omega (arith, ints)
    in ⊎_elim
    (λ (h : s * x + (fine - s) * y ≤ pl * x + (fine - pl) * y). le_trans z a (int_max a b)
    (blend_order s pl x y is il h) (greatest_of a b).0)
    (λ (h : s * x + (fine - s) * y ≤ ph * x + (fine - ph) * y). le_trans z b (int_max a b)
    (blend_order s ph x y is ih h) (greatest_of a b).1)
    (below_one pl (fine - pl) s (fine - s) ph (fine - ph) x y fine (omega arith) (omega arith) (omega arith)
    (omega (arith, ints)) (omega (arith, ints)))
blend_greatest (negsuc pl) s ph x y i l m j k n = absurd (omega (arith, ints))
blend_greatest (pos pl) (negsuc s) ph x y i l m j k n = absurd (omega (arith, ints))
blend_greatest pl (pos s) (negsuc ph) x y i l m j k n = absurd (omega (arith, ints))
blend_greatest pl s ph (negsuc x) y i l m j k n = absurd (omega (arith, ints))
blend_greatest pl s ph x (negsuc y) i l m j k n = absurd (omega (arith, ints))

-- the least blend is that of the values' lower ends, at one end of the chance
pub least_at_ends : (p a b : Ends) → IsWithin p (pos 0) (pos fine) → p.lo ≤ℤ p.hi → pos 0 ≤ℤ a.lo → a.lo ≤ℤ a.hi
    → pos 0 ≤ℤ b.lo → b.lo ≤ℤ b.hi → IsLeastBlend p a b (int_min (blend p.lo a.lo b.lo) (blend p.hi a.lo b.lo))
least_at_ends p a b w po al ao bl bo =
    let u = blend p.lo a.lo b.lo
    in let v = blend p.hi a.lo b.lo
    in let a_in : IsIn a.lo a = record { low = omega (arith, ints); high = ao }
    in let b_in : IsIn b.lo b = record { low = omega (arith, ints); high = bo }
    in record {
      reached = ⊎_elim
          (λ (e : int_min u v ≡ u). record {
            s = p.lo;
            x = a.lo;
            y = b.lo;
            s_in = record { low = omega (arith, ints); high = po };
            x_in = a_in;
            y_in = b_in;
            same = sym e;
          })
          (λ (e : int_min u v ≡ v). record {
            s = p.hi;
            x = a.lo;
            y = b.lo;
            s_in = record { low = po; high = omega (arith, ints) };
            x_in = a_in;
            y_in = b_in;
            same = sym e;
          })
          (int_min_cases u v);
      least = λ s x y ps ax by.
          le_trans (int_min u v) (blend s a.lo b.lo) (blend s x y)
          (blend_least p.lo s p.hi a.lo b.lo w.low ps.low ps.high w.high al bl)
          (blend_mono s a.lo b.lo x y (le_trans (pos 0) p.lo s w.low ps.low) (le_trans s p.hi (pos fine) ps.high w.high)
          al bl ax.low by.low);
    }

-- the greatest blend is that of the values' upper ends, at one end of the chance
pub greatest_at_ends : (p a b : Ends) → IsWithin p (pos 0) (pos fine) → p.lo ≤ℤ p.hi → pos 0 ≤ℤ a.lo → a.lo ≤ℤ a.hi
    → pos 0 ≤ℤ b.lo → b.lo ≤ℤ b.hi → IsGreatestBlend p a b (int_max (blend p.lo a.hi b.hi) (blend p.hi a.hi b.hi))
greatest_at_ends p a b w po al ao bl bo =
    let u = blend p.lo a.hi b.hi
    in let v = blend p.hi a.hi b.hi
    in let a_in : IsIn a.hi a = record { low = ao; high = omega (arith, ints) }
    in let b_in : IsIn b.hi b = record { low = bo; high = omega (arith, ints) }
    in record {
      reached = ⊎_elim
          (λ (e : int_max u v ≡ u). record {
            s = p.lo;
            x = a.hi;
            y = b.hi;
            s_in = record { low = omega (arith, ints); high = po };
            x_in = a_in;
            y_in = b_in;
            same = sym e;
          })
          (λ (e : int_max u v ≡ v). record {
            s = p.hi;
            x = a.hi;
            y = b.hi;
            s_in = record { low = po; high = omega (arith, ints) };
            x_in = a_in;
            y_in = b_in;
            same = sym e;
          })
          (int_max_cases u v);
      greatest = λ s x y ps ax by.
          le_trans (blend s x y) (blend s a.hi b.hi) (int_max u v)
          (blend_mono s x y a.hi b.hi (le_trans (pos 0) p.lo s w.low ps.low) (le_trans s p.hi (pos fine) ps.high w.high)
          (le_trans (pos 0) a.lo x al ax.low) (le_trans (pos 0) b.lo y bl by.low) ax.high by.high)
          (blend_greatest p.lo s p.hi a.hi b.hi w.low ps.low ps.high w.high (le_trans (pos 0) a.lo a.hi al ao)
          (le_trans (pos 0) b.lo b.hi bl bo));
    }
