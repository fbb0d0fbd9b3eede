-- A set with a life that the body does not name has the coefficient 0, and nothing is due for it.
use Rattle.std.proofs.Common.{◌≡◌, ◌⊎◌, ℕ, zero, suc, ◌+◌, ◌*◌, ◌-◌, ◌≤◌, ◌&&◌, nat_le, nat_lt, arith, refl, ap, sym, ◌∙◌, List, [], ◌∷◌, length, set, get_or-set_other, Bool, true, false, cond, Option, Some, None, ℤ, pos, ◌-ℤ◌, inl, inr, ⊎_elim}
use Rattle.std.proofs.Math.Path.{fun_ext}
use Rattle.std.proofs.lemmas.Int.{ints}
use Rattle.halo_sums.specs.Sums.{indicator}
use Rattle.halo_sums.specs.Sets.{in_set, size_of}
use Rattle.halo_sums.specs.Coefficients.{coefficient}
use Rattle.halo_sums.proofs.Coefficients.{coefficient-with, coefficient-without}
use Rattle.halo_status.specs.Tree.{Tree, life, term, joint, last, at_least, exactly, after}
use Rattle.halo_status.specs.Naming.{any_names_life, names_life}
use Rattle.halo_status.specs.Pay.{PlainPay}
use Rattle.halo_status.specs.declared.pay.Mark.{Mark}
use Rattle.halo_model.specs.Coefficient.{existence, exists_by_mark, form, waits_at_rank}
use Rattle.halo_model.specs.Payment.{members_of}
use Rattle.halo_model.specs.Counts.{lives_named}
use Rattle.halo_status.proofs.Agreement.{agree, each-agree}
use Rattle.halo_model.specs.Payment.{payment}
use Rattle.halo_model.specs.SetValue.{SomeEvents}
use Rattle.halo_compile.proofs.Named.{count-next, count_named}
use Rattle.halo_insure.specs.Dues.{due_of, ends_count}
use Rattle.halo_insure.specs.OneSet.{most_due}

difference-none : (y z : ℤ) → y ≡ z → y -ℤ z ≡ pos 0
difference-none y z e = rw e (omega (arith, ints))

-- a function that does not depend on a number has the coefficient 0 for each set with it
silent-coefficient : (f : List Bool → ℤ) (a : ℕ) (s : List Bool)
    → in_set s a ≡ true → ((u : List Bool) → f (set u a true) ≡ f (set u a false)) → coefficient f s ≡ pos 0
silent-coefficient f a [] e h = absurd (cc)
silent-coefficient f zero (false ∷ s) e h = absurd (cc)
silent-coefficient f zero (true ∷ s) e h = coefficient-with f s
    ∙ difference-none _ _ (ap (λ (g : List Bool → ℤ). coefficient g s) (fun_ext (λ u. h (true ∷ u))))
silent-coefficient f (suc a) (true ∷ s) e h = coefficient-with f s
    ∙ difference-none _ _ (silent-coefficient (λ u. f (true ∷ u)) a s e (λ u. h (true ∷ u))
    ∙ sym (silent-coefficient (λ u. f (false ∷ u)) a s e (λ u. h (false ∷ u))))
silent-coefficient f (suc a) (false ∷ s) e h = coefficient-without f s
    ∙ silent-coefficient (λ u. f (false ∷ u)) a s e (λ u. h (false ∷ u))

members-unnamed : (body : Tree) (i : ℕ) → names_life i body ≡ false → any_names_life i (members_of body) ≡ false
members-unnamed (joint ms) i e = e
members-unnamed (life j) i e = refl
members-unnamed (term k) i e = refl
members-unnamed (last ms) i e = refl
members-unnamed (at_least r ms) i e = refl
members-unnamed (exactly r ms) i e = refl
members-unnamed (after s t) i e = refl

module _ (body : Tree) (a : ℕ) (silent : names_life a body ≡ false) (on : ℕ → Bool) (u : List Bool) where
  other : (i : ℕ) (name : ℕ → Bool)
      → name a ≡ false → name i ≡ true → in_set (set u a true) i ≡ in_set (set u a false) i
  other i name unnamed named =
      let apart : i ≡ a → ⊥ = λ same. let e : name i ≡ false = rw same unnamed in cc in
      get_or-set_other u a i true false apart ∙ sym (get_or-set_other u a i false false apart)

  -- a body exists with a life that it does not name as without it, and so do its members
  exists-silent : (mark : Option Mark)
      → exists_by_mark mark body (in_set (set u a true)) on ≡ exists_by_mark mark body (in_set (set u a false)) on
  exists-silent None = agree (in_set (set u a true))
      (in_set (set u a false)) on on body (λ i e. other i (λ j. names_life j body) silent e) (λ n e. refl)
  exists-silent (Some mark) =
      ap (waits_at_rank mark) (each-agree (in_set (set u a true)) (in_set (set u a false)) on on (members_of body)
      (λ i e. other i (λ j. any_names_life j (members_of body)) (members-unnamed body a silent) e) (λ n e. refl))

pub silent-form : (pay : PlainPay) (t a : ℕ) (s : List Bool)
    → in_set s a ≡ true → names_life a pay.body ≡ false → form pay t s ≡ pos 0
unfolding form
silent-form pay t a s e silent =
    silent-coefficient (existence pay t) a s e (λ u. ap indicator (exists-silent pay.body a silent _ u pay.mark))

abbrev one_if : Bool → ℕ
one_if b = cond b 1 0

-- a set has at most as many lives as are named, or it has one that is not
named-or-not : (name : ℕ → Bool) (s : List Bool)
    → (size_of s ≤ count_named name (length s)) ⊎ ((a : ℕ) × (in_set s a ≡ true) × (name a ≡ false))
named-or-not name [] = inl (omega arith)
named-or-not name (false ∷ s) = ⊎_elim
    (λ few. inl (omega (arith, few, count-next name (length s))))
    (λ other. inr (suc other.0, other.1, other.2))
    (named-or-not (λ i. name (suc i)) s)
named-or-not name (true ∷ s) = first (name 0) refl (named-or-not (λ i. name (suc i)) s)
  where
    first : (here : Bool) → name 0 ≡ here → (size_of s ≤ count_named (λ i. name (suc i)) (length s))
        ⊎ ((a : ℕ) × (in_set s a ≡ true) × (name (suc a) ≡ false))
        → (size_of (true ∷ s) ≤ count_named name (length (true ∷ s)))
        ⊎ ((a : ℕ) × (in_set (true ∷ s) a ≡ true) × (name a ≡ false))
    first false e rest = inr (0, refl, e)
    first true e rest = ⊎_elim
        (λ few. inl (omega (arith, few, count-next name (length s), ap one_if e)))
        (λ found. inr (suc found.0, found.1, found.2))
        rest

-- a coefficient that is not 0 is of a set of named lives alone
pub few-or-none : (pay : PlainPay) (t n : ℕ) (s : List Bool)
    → length s ≡ n → (size_of s ≤ lives_named n pay.body) ⊎ (form pay t s ≡ pos 0)
few-or-none pay t n s len = ⊎_elim
    (λ few. inl (rw len at few))
    (λ found. inr (silent-form pay t found.0 s found.1 found.2))
    (named-or-not (λ i. names_life i pay.body) s)

-- where a form has no coefficient nothing is due
module _ (part : ℤ → ℕ) (none : part (pos 0) ≡ 0)
    (pay : PlainPay) (events : SomeEvents) (years : ℕ) (s : List Bool) (silent : (t : ℕ) → form pay t s ≡ pos 0) where
  silent-year : (k : ℕ) → (due_of part pay events years s k).on_leaving + (due_of part pay events years s k).at_end ≡ 0
  silent-year k = rw (silent k, lost (nat_lt (suc k) years), none)
      (both (nat_le pay.defer k) (nat_le pay.defer k && ends_count pay events (suc k)) (payment pay (k - pay.defer)))
    where
      lost : (b : Bool) → pos 0 -ℤ cond b (form pay (suc k) s) (pos 0) ≡ pos 0
      lost true = rw (silent (suc k)) (omega (arith, ints))
      lost false = omega (arith, ints)

      both : (b c : Bool) (p : ℕ) → cond b (p * 0) 0 + cond c (p * 0) 0 ≡ 0
      both true true p = omega arith
      both true false p = omega arith
      both false true p = omega arith
      both false false p = omega arith

  pub silent-most : (more k : ℕ) → most_due (due_of part pay events years s) k more ≡ 0
  silent-most zero k = refl
  silent-most (suc more) k = omega (arith, silent-year k, silent-most more (suc k))
