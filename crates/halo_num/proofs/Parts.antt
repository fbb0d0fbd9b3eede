-- The part of an interval within two bounds.
use Rattle.std.proofs.Common.{◌≡◌, ℕ, ℤ, pos, ◌*ℤ◌, ◌≤ℤ◌, refl, arith, Bool, true, false, cond, ◌⊎◌, inl, inr, ⊎_elim, int_lt}
use Rattle.std.proofs.lemmas.Int.{ints, clamps}
use Rattle.std.specs.Int.{int_min, int_max}
use Rattle.halo_num.specs.Ends.{Ends, fine}
use Rattle.halo_num.specs.Enclosure.{Encloses}

-- a choice is one of the two
cond_cases : (c : Bool) (x y : ℤ) → (cond c x y ≡ x) ⊎ (cond c x y ≡ y)
cond_cases true x y = inl refl
cond_cases false x y = inr refl

-- the greater of two is one of them
pub int_max_cases : (x y : ℤ) → (int_max x y ≡ x) ⊎ (int_max x y ≡ y)
int_max_cases x y = cond_cases (int_lt y x) x y

-- the lesser of two is one of them
pub int_min_cases : (x y : ℤ) → (int_min x y ≡ x) ⊎ (int_min x y ≡ y)
int_min_cases x y = ⊎_elim inr inl (cond_cases (int_lt y x) y x)

-- a lower end raised to what is still below
clamp_low : (a l n : ℤ) (d : ℕ) → (a *ℤ pos d) ≤ℤ (n *ℤ pos fine) → (l *ℤ pos d) ≤ℤ (n *ℤ pos fine)
    → (int_max a l *ℤ pos d) ≤ℤ (n *ℤ pos fine)
clamp_low a l n d p q = ⊎_elim (λ (e : int_max a l ≡ a). rw e p) (λ (e : int_max a l ≡ l). rw e q) (int_max_cases a l)

-- an upper end lowered to what is still above
clamp_high : (a h n : ℤ) (d : ℕ) → (n *ℤ pos fine) ≤ℤ (a *ℤ pos d) → (n *ℤ pos fine) ≤ℤ (h *ℤ pos d)
    → (n *ℤ pos fine) ≤ℤ (int_min a h *ℤ pos d)
clamp_high a h n d p q = ⊎_elim (λ (e : int_min a h ≡ a). rw e p) (λ (e : int_min a h ≡ h). rw e q) (int_min_cases a h)

-- the part of an interval that a fraction lies in
pub encloses_clamp : (a r : Ends) (l h n : ℤ) (d : ℕ) → r.lo ≡ int_max a.lo l → r.hi ≡ int_min a.hi h → Encloses a n d
    → (l *ℤ pos d) ≤ℤ (n *ℤ pos fine) → (n *ℤ pos fine) ≤ℤ (h *ℤ pos d) → Encloses r n d
encloses_clamp a r l h n d e f p q s =
    record { low = rw e (clamp_low a.lo l n d p.low q); high = rw f (clamp_high a.hi h n d p.high s) }

-- a part that both bounds meet has its ends in order
pub part_ordered : (a b l h r s : ℤ) → r ≡ int_max a l → s ≡ int_min b h → a ≤ℤ b → l ≤ℤ h → a ≤ℤ h → l ≤ℤ b → r ≤ℤ s
part_ordered a b l h r s e f i j k m = rw (e, f) (omega (arith, ints, clamps))
