-- Of two events of an outcome one comes before the other, and what is there before the later one is there after the
-- earlier one.
use Rattle.std.proofs.Common.{◌≡◌, ◌≢◌, ◌⊎◌, ℕ, ◌-◌, ◌<◌, ◌≤◌, arith, refl, ap, sym, ◌∙◌, get_or, inl, inr, Bool, true, false, not, ◌&&◌, ◌||◌, nat_eq, nat_lt, nat_le, Option, Some, None, ⊎_elim}
use Rattle.std.proofs.lemmas.Bool.{cases_lt}
use Rattle.std.proofs.lemmas.Bool.Decides.{nat_tests}
use Rattle.halo_status.specs.Exists.{IsSubset}
use Rattle.halo_model.specs.Outcome.{Exit, Outcome}
use Rattle.halo_model.specs.Event.{Event, ends, is_leaving_of, leaves, life_not_earlier, lives_after, lives_before, terms_after, terms_before}

-- an event comes on an outcome: a life leaves as the outcome tells, or a term of at least a year ends
abbrev pub IsOn : Outcome → Event → Type 0
IsOn o (leaves a x) = get_or o a None ≡ Some x
IsOn o (ends n) = 1 ≤ n

-- one event comes before another
abbrev pub IsEarlier : (ℕ → ℕ) → Event → Event → Type 0
IsEarlier rank (leaves a x) (leaves c y) = (x.year < y.year) ⊎ ((x.year ≡ y.year) × (rank a < rank c))
IsEarlier rank (leaves a x) (ends n) = x.year ≤ n - 1
IsEarlier rank (ends n) (leaves c y) = n - 1 < y.year
IsEarlier rank (ends m) (ends n) = m < n

some-is : (x y : Exit) → Some x ≡ Some y → x ≡ y
some-is x y e = grind arith

other : (a i : ℕ) → i ≢ a → nat_eq a i ≡ false
other a i h = grind (arith, nat_tests)

still : (x y z ra rc ri : ℕ) → (x < y) ⊎ ((x ≡ y) × (ra < rc))
    → (nat_lt y z || (nat_eq y z && nat_le rc ri)) ≡ true → (nat_lt x z || (nat_eq x z && nat_le ra ri)) ≡ true
still x y z ra rc ri (inl before) h = grind (arith, nat_tests)
still x y z ra rc ri (inr tie) h = grind (arith, nat_tests)

-- whoever leaves no earlier than the later event is not the one who leaves at the earlier one
not-itself : (x y ra rc : ℕ) → (x < y) ⊎ ((x ≡ y) × (ra < rc)) → (nat_lt y x || (nat_eq y x && nat_le rc ra)) ≡ true → ⊥
not-itself x y ra rc (inl before) h = absurd (grind (arith, nat_tests))
not-itself x y ra rc (inr tie) h = absurd (grind (arith, nat_tests))

still-before : (x n z : ℕ) (tie : Bool) → x ≤ n → nat_lt n z ≡ true → (nat_lt x z || tie) ≡ true
still-before x n z tie before h = grind (arith, nat_tests)

not-itself-before : (x n : ℕ) → x ≤ n → nat_lt n x ≡ true → ⊥
not-itself-before x n before h = absurd (grind (arith, nat_tests))

still-after : (n y z : ℕ) (tie : Bool) → n < y → (nat_lt y z || (nat_eq y z && tie)) ≡ true → nat_lt n z ≡ true
still-after n y z tie before h = grind (arith, nat_tests)

still-end : (m n z : ℕ) → m < n → nat_lt (n - 1) z ≡ true → nat_lt (m - 1) z ≡ true
still-end m n z before h = grind (arith, nat_tests)

kept : (b : Bool) → b ≡ true → (b && not false) ≡ true
kept true e = refl
kept false e = absurd (cc)

both : (b c : Bool) → b ≡ true → c ≡ false → (b && not c) ≡ true
both true c e q = rw q refl
both false c e q = absurd (cc)

module _ (rank : ℕ → ℕ) (o : Outcome) where
  lives-by : (e f : Event) → IsOn o e → IsEarlier rank e f → (i : ℕ) (way : Option Exit) → get_or o i None ≡ way
      → life_not_earlier rank f i way ≡ true → (life_not_earlier rank e i way && not (is_leaving_of e i)) ≡ true
  lives-by e f on earlier i None at h = absurd (cc)
  lives-by (leaves a x) (leaves c y) on earlier i (Some z) at h =
      both _ _ (still x.year y.year z.year (rank a) (rank c) (rank i) earlier h)
      (other a i (λ q. not-itself x.year y.year (rank a) (rank c) earlier
      (let same : z ≡ x = some-is z x (sym at ∙ ap (λ n. get_or o n None) q ∙ on) in rw (← same, ← q) h)))
  lives-by (leaves a x) (ends n) on earlier i (Some z) at h =
      both _ _ (still-before x.year (n - 1) z.year (nat_eq x.year z.year && nat_le (rank a) (rank i)) earlier h)
      (other a i (λ q. not-itself-before x.year
      (n - 1) earlier (let same : z ≡ x = some-is z x (sym at ∙ ap (λ n. get_or o n None) q ∙ on) in rw (← same) h)))
  lives-by (ends n) (leaves c y) on earlier i (Some z) at h =
      kept _ (still-after (n - 1) y.year z.year (nat_le (rank c) (rank i)) earlier h)
  lives-by (ends m) (ends n) on earlier i (Some z) at h = kept _ (still-end m n z.year earlier h)

  -- what is there just before the later event is there just after the earlier one
  pub lives-stay : (e f : Event)
      → IsOn o e → IsEarlier rank e f → IsSubset (lives_before rank o f) (lives_after rank o e)
  lives-stay e f on earlier i h = lives-by e f on earlier i (get_or o i None) refl h

  on-leaving : (x y m : ℕ) → x ≤ y → nat_lt y m ≡ true → (nat_lt x m && not false) ≡ true
  on-leaving x y m before h = grind (arith, nat_tests)

  on-end : (x n m : ℕ) → 1 ≤ n → x ≤ n - 1 → nat_le n m ≡ true → (nat_lt x m && not false) ≡ true
  on-end x n m from before h = grind (arith, nat_tests)

  off-leaving : (n y m : ℕ) → n - 1 < y → nat_lt y m ≡ true → (nat_le n m && not (nat_eq n m)) ≡ true
  off-leaving n y m before h = grind (arith, nat_tests)

  off-end : (n k m : ℕ) → n < k → nat_le k m ≡ true → (nat_le n m && not (nat_eq n m)) ≡ true
  off-end n k m before h = grind (arith, nat_tests)

  no-later : (x y ra rc : ℕ) → (x < y) ⊎ ((x ≡ y) × (ra < rc)) → x ≤ y
  no-later x y ra rc (inl before) = omega arith
  no-later x y ra rc (inr tie) = omega (arith, tie.0)

  pub terms-stay : (e f : Event) → IsOn o f → IsEarlier rank e f → IsSubset (terms_before f) (terms_after e)
  terms-stay (leaves a x) (leaves c y) on earlier m h =
      on-leaving x.year y.year m (no-later x.year y.year (rank a) (rank c) earlier) h
  terms-stay (leaves a x) (ends n) on earlier m h = on-end x.year n m on earlier h
  terms-stay (ends n) (leaves c y) on earlier m h = off-leaving n y.year m earlier h
  terms-stay (ends n) (ends k) on earlier m h = off-end n k m earlier h

-- of two different events one is earlier, where each life has a rank of its own
pub leaving-first : (rank : ℕ → ℕ) (a c : ℕ) (x y : Exit)
    → rank a ≢ rank c → IsEarlier rank (leaves a x) (leaves c y) ⊎ IsEarlier rank (leaves c y) (leaves a x)
leaving-first rank a c x y differ = ⊎_elim
    (λ before. inl (inl before))
    (λ later. ⊎_elim (λ after. inr (inl after)) (λ tie. in-year (omega arith)) (cases_lt y.year x.year))
    (cases_lt x.year y.year)
  where
    in-year : x.year ≡ y.year → IsEarlier rank (leaves a x) (leaves c y) ⊎ IsEarlier rank (leaves c y) (leaves a x)
    in-year same = ⊎_elim (λ before. inl (inr (same, before)))
        (λ later. inr (inr (sym same, strictly later))) (cases_lt (rank a) (rank c))
      where
        strictly : rank c ≤ rank a → rank c < rank a
        strictly h = ⊎_elim (λ before. before) (λ past. absurd (differ (omega arith))) (cases_lt (rank c) (rank a))

pub leaving-or-end : (rank : ℕ → ℕ) (a n : ℕ) (x : Exit)
    → IsEarlier rank (leaves a x) (ends n) ⊎ IsEarlier rank (ends n) (leaves a x)
leaving-or-end rank a n x = ⊎_elim (λ before. inr before) (λ after. inl after) (cases_lt (n - 1) x.year)
