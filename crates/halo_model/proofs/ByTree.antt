-- What is expected of a status in which no life stands twice goes along its tree, for any expectation by which each
-- life is independent of the others.
use Rattle.std.proofs.Common.{◌≡◌, ℕ, suc, ◌+◌, ◌-◌, ◌*◌, ◌<◌, ◌≤◌, arith, refl, ap, sym, ◌∙◌, List, ◌∷◌, Bool, true, false, cond, not, ◌&&◌, ◌||◌, nat_eq, nat_le, ℤ, pos, ◌+ℤ◌, ◌*ℤ◌, ◌-ℤ◌}
use Rattle.std.specs.List.{list_all, list_any}
use Rattle.std.proofs.Math.Path.{fun_ext}
use Rattle.std.proofs.lemmas.Int.{ints}
use Rattle.std.proofs.lemmas.Nat.{mul-le}
use Rattle.halo_sums.specs.Sums.{count_true, indicator}
use Rattle.halo_sums.proofs.Integers.{add_mul, mul_add, mul_assoc, mul_comm, mul_left_comm, sub_mul}
use Rattle.halo_status.specs.Tree.{Tree, Trees, life, term, joint, last, at_least, exactly, after, none, more}
use Rattle.halo_status.specs.Exists.{each_exists, exists}
use Rattle.halo_status.specs.Naming.{AnyNamesLivesBelow, NamesLivesBelow, any_names_life, names_life}
use Rattle.halo_status.specs.ReadOnce.{AreReadOnce, IsReadOnce, standings, standings_in}
use Rattle.halo_model.specs.ByTree.{weight_of, weight_of_all, weight_of_count, weight_of_none, whole_in, whole_of}
use Rattle.halo_model.specs.ByTreeLaws.{AreChances}
use Rattle.halo_status.proofs.Agreement.{agree, each-agree, or-left, or-right, same}

either-stands : (b c : Bool) (m n : ℕ) → (b ≡ true → 1 ≤ m) → (c ≡ true → 1 ≤ n) → (b || c) ≡ true → 1 ≤ m + n
either-stands true c m n f g e = omega (arith, f refl)
either-stands false c m n f g e = omega (arith, g e)

-- a life that is named stands there
mutual
  pub named-stands : (i : ℕ) (s : Tree) → names_life i s ≡ true → 1 ≤ standings i s
  named-stands i (life j) e = rw e (omega arith)
  named-stands i (term n) e = absurd (cc)
  named-stands i (joint ms) e = named-stands_in i ms e
  named-stands i (last ms) e = named-stands_in i ms e
  named-stands i (at_least r ms) e = named-stands_in i ms e
  named-stands i (exactly r ms) e = named-stands_in i ms e
  named-stands i (after s t) e = either-stands
      (names_life i s) (names_life i t) (standings i s) (standings i t) (named-stands i s) (named-stands i t) e

  pub named-stands_in : (i : ℕ) (ms : Trees) → any_names_life i ms ≡ true → 1 ≤ standings_in i ms
  named-stands_in i none e = absurd (cc)
  named-stands_in i (more s ms) e = either-stands (names_life i s)
      (any_names_life i ms) (standings i s) (standings_in i ms) (named-stands i s) (named-stands_in i ms) e

-- a function of the lives that are there, which does not look at those that stand somewhere
abbrev pub Ignores : (ℕ → ℕ) → ((ℕ → Bool) → ℤ) → Type 0
Ignores stands h = (u v : ℕ → Bool) → ((i : ℕ) → stands i ≡ 0 → u i ≡ v i) → h u ≡ h v

-- a status looks at the lives that stand in it
exists-stands : (on : ℕ → Bool) (s : Tree) (u v : ℕ → Bool)
    → ((i : ℕ) → 1 ≤ standings i s → u i ≡ v i) → exists u on s ≡ exists v on s
exists-stands on s u v a = agree u v on on s (λ i e. a i (named-stands i s e)) (λ m e. refl)

each-stands : (on : ℕ → Bool) (ms : Trees) (u v : ℕ → Bool)
    → ((i : ℕ) → 1 ≤ standings_in i ms → u i ≡ v i) → each_exists u on ms ≡ each_exists v on ms
each-stands on ms u v a = each-agree u v on on ms (λ i e. a i (named-stands_in i ms e)) (λ m e. refl)

-- a test of lives that stand elsewhere, times a function that ignores those lives too
tested-ignores : (test : (ℕ → Bool) → Bool) (value : Bool → ℤ) (here elsewhere : ℕ → ℕ)
    → ((i : ℕ) → here i + elsewhere i ≤ 1)
    → ((u v : ℕ → Bool) → ((i : ℕ) → 1 ≤ elsewhere i → u i ≡ v i) → test u ≡ test v)
    → (h : (ℕ → Bool) → ℤ) → Ignores (λ i. here i + elsewhere i) h → Ignores here (λ v. value (test v) *ℤ h v)
tested-ignores test value here elsewhere once depends h ignores u v a =
    ap (λ b. value b *ℤ h u) (depends u v (λ i stands. a i (omega (arith, once i))))
    ∙ ap (λ z. value (test v) *ℤ z) (ignores u v (λ i z. a i (omega arith)))

one-times : (z : ℤ) → pos 1 *ℤ z ≡ z
one-times z = omega (arith, ints)

-- of a chance a / w and one that is x / y, as parts of a value
part : (a w x y : ℕ) → a ≤ w → x ≤ y → a * x ≤ w * y
part a w x y h k = mul-le a x w y h k

mix-le : (a w x y z : ℕ) → a ≤ w → x ≤ z → y ≤ z → a * x + (w - a) * y ≤ w * z
mix-le a w x y z h k l =
    let p = mul-le a x a z (omega arith) k in
    let q = mul-le (w - a) y (w - a) z (omega arith) l in
    let r : a * z + (w - a) * z ≡ w * z = whole (w - a) (omega arith) in
    omega arith
  where
    whole : (b : ℕ) → a + b ≡ w → a * z + b * z ≡ w * z
    whole b e = rw (sym e) (omega arith)

one_or_none-le : (b : Bool) → cond b 1 0 ≤ 1
one_or_none-le true = omega arith
one_or_none-le false = omega arith

-- the weight of a chance is at most the whole
module _ (n d : ℕ → ℕ) (proper : AreChances n d) (on : ℕ → Bool) where
  mutual
    pub weight-le : (s : Tree) → weight_of n d on s ≤ whole_of d s
    weight-le (life i) = proper i
    weight-le (term m) = one_or_none-le (on m)
    weight-le (joint ms) = all-le ms
    weight-le (last ms) = omega arith
    weight-le (at_least r ms) = count-le (λ count. nat_le r count) ms
    weight-le (exactly r ms) = count-le (λ count. nat_eq count r) ms
    weight-le (after s t) = part (weight_of n d on t)
        (whole_of d t) (whole_of d s - weight_of n d on s) (whole_of d s) (weight-le t) (omega arith)

    pub all-le : (ms : Trees) → weight_of_all n d on ms ≤ whole_in d ms
    all-le none = omega arith
    all-le (more s ms) =
        part (weight_of n d on s) (whole_of d s) (weight_of_all n d on ms) (whole_in d ms) (weight-le s) (all-le ms)

    pub count-le : (passes : ℕ → Bool) (ms : Trees) → weight_of_count n d on passes ms ≤ whole_in d ms
    count-le passes none = one_or_none-le (passes 0)
    count-le passes (more s ms) = mix-le (weight_of n d on s)
        (whole_of d s) (weight_of_count n d on (λ count. passes (suc count)) ms) (weight_of_count n d on passes ms)
        (whole_in d ms) (weight-le s) (count-le (λ count. passes (suc count)) ms) (count-le passes ms)

  pub none-le : (ms : Trees) → weight_of_none n d on ms ≤ whole_in d ms
  none-le none = omega arith
  none-le (more s ms) = part (whole_of d s - weight_of n d on s)
      (whole_of d s) (weight_of_none n d on ms) (whole_in d ms) (omega arith) (none-le ms)

-- two expectations one after the other
chained : (v w a b e f g : ℤ) → v *ℤ e ≡ a *ℤ f → w *ℤ f ≡ b *ℤ g → (v *ℤ w) *ℤ e ≡ (a *ℤ b) *ℤ g
chained v w a b e f g p q =
    ap (λ z. z *ℤ e) (mul_comm v w)
    ∙ mul_assoc w v e ∙ ap (λ z. w *ℤ z) p ∙ mul_left_comm w a f ∙ ap (λ z. a *ℤ z) q ∙ sym (mul_assoc a b g)

indicator-and : (b c : Bool) (z : ℤ) → indicator (b && c) *ℤ z ≡ indicator b *ℤ (indicator c *ℤ z)
indicator-and true c z = omega (arith, ints)
indicator-and false c z = omega (arith, ints)

indicator-neither : (b c : Bool) (z : ℤ) → indicator (not (b || c)) *ℤ z ≡ indicator (not b) *ℤ (indicator (not c) *ℤ z)
indicator-neither true c z = omega (arith, ints)
indicator-neither false c z = omega (arith, ints)

indicator-either : (b : Bool) (z : ℤ) → z ≡ indicator b *ℤ z +ℤ indicator (not b) *ℤ z
indicator-either true z = omega (arith, ints)
indicator-either false z = omega (arith, ints)

indicator-count : (passes : ℕ → Bool) (b : Bool) (bs : List Bool) (z : ℤ)
    → indicator (passes (count_true (b ∷ bs))) *ℤ z
    ≡ indicator b *ℤ (indicator (passes (suc (count_true bs))) *ℤ z)
    +ℤ indicator (not b) *ℤ (indicator (passes (count_true bs)) *ℤ z)
indicator-count passes true bs z = omega (arith, ints)
indicator-count passes false bs z = omega (arith, ints)

indicator-not-not : (b : Bool) → indicator (not (not b)) ≡ indicator b
indicator-not-not true = refl
indicator-not-not false = refl

-- two expectations together
added : (w a b e f g : ℤ) → w *ℤ e ≡ a *ℤ g → w *ℤ f ≡ b *ℤ g → w *ℤ (e +ℤ f) ≡ (a +ℤ b) *ℤ g
added w a b e f g p q = mul_add w e f ∙ ap (λ z. z +ℤ w *ℤ f) p ∙ ap (λ z. a *ℤ g +ℤ z) q ∙ sym (add_mul a b g)

-- what is left of a whole
rest : (a w : ℕ) → a ≤ w → pos (w - a) ≡ pos w -ℤ pos a
rest a w h = omega (arith, ints)

indicator-cond : (b : Bool) → indicator b ≡ pos (cond b 1 0)
indicator-cond true = refl
indicator-cond false = refl

-- An expectation E, and each life independent of what does not look at it.
module _
    (E : ((ℕ → Bool) → ℤ) → ℤ)
    (adds : (f g : (ℕ → Bool) → ℤ) → E (λ v. f v +ℤ g v) ≡ E f +ℤ E g)
    (scales : (c : ℤ) (f : (ℕ → Bool) → ℤ) → E (λ v. c *ℤ f v) ≡ c *ℤ E f)
    (n d : ℕ → ℕ)
    (proper : AreChances n d)
    (below : ℕ)
    (one : (i : ℕ) → i < below → (h : (ℕ → Bool) → ℤ)
    → Ignores (λ j. cond (nat_eq j i) 1 0) h → pos (d i) *ℤ E (λ v. indicator (v i) *ℤ h v) ≡ pos (n i) *ℤ E h)
    (on : ℕ → Bool) where
  equal : (f g : (ℕ → Bool) → ℤ) → ((v : ℕ → Bool) → f v ≡ g v) → E f ≡ E g
  equal f g h = ap E (fun_ext h)

  -- the chance of a test, and of its contrary
  contrary : (test : (ℕ → Bool) → Bool) (a w : ℕ) (h : (ℕ → Bool) → ℤ)
      → a ≤ w → pos w *ℤ E (λ v. indicator (test v) *ℤ h v) ≡ pos a *ℤ E h
      → pos w *ℤ E (λ v. indicator (not (test v)) *ℤ h v) ≡ pos (w - a) *ℤ E h
  contrary test a w h small e =
      let both : E h ≡ E (λ v. indicator (test v) *ℤ h v) +ℤ E (λ v. indicator (not (test v)) *ℤ h v) =
      equal h _ (λ v. indicator-either (test v) (h v)) ∙ adds _ _ in
      let spread = ap (λ z. pos w *ℤ z) both
      ∙ mul_add (pos w) (E (λ v. indicator (test v) *ℤ h v)) (E (λ v. indicator (not (test v)) *ℤ h v)) in
      rw (rest a w small, sub_mul (pos w) (pos a) (E h)) (omega (arith, ints, spread, e))

  -- a test of all sets alike
  constant : (b : Bool) (h : (ℕ → Bool) → ℤ) → pos 1 *ℤ E (λ v. indicator b *ℤ h v) ≡ pos (cond b 1 0) *ℤ E h
  constant b h = one-times (E (λ v. indicator b *ℤ h v))
      ∙ scales (indicator b) h ∙ ap (λ z. z *ℤ E h) (indicator-cond b)

  -- the number of members that exist: the first one and the others
  count-step : (passes : ℕ → Bool) (s : Tree) (ms : Trees)
      → AreReadOnce (more s ms) → (h : (ℕ → Bool) → ℤ) → Ignores (λ i. standings_in i (more s ms)) h
      → ((g : (ℕ → Bool) → ℤ) → Ignores (λ i. standings i s) g
      → pos (whole_of d s) *ℤ E (λ v. indicator (exists v on s) *ℤ g v) ≡ pos (weight_of n d on s) *ℤ E g)
      → ((tests : ℕ → Bool) → pos (whole_in d ms) *ℤ E (λ v. indicator (tests (count_true (each_exists v on ms)))
      *ℤ h v) ≡ pos (weight_of_count n d on tests ms) *ℤ E h)
      → pos (whole_in d (more s ms)) *ℤ E (λ v. indicator (passes (count_true (each_exists v on (more s ms)))) *ℤ h v)
      ≡ pos (weight_of_count n d on passes (more s ms)) *ℤ E h
  count-step passes s ms once h ignores first others =
      ap (λ z. pos (whole_of d s * whole_in d ms) *ℤ z)
      (equal _ _ (λ v. indicator-count passes (exists v on s) (each_exists v on ms) (h v)) ∙ adds _ _)
      ∙ added (pos (whole_of d s) *ℤ pos (whole_in d ms))
      (pos (weight_of n d on s) *ℤ pos (weight_of_count n d on (λ count. passes (suc count)) ms))
      (pos (whole_of d s - weight_of n d on s) *ℤ pos (weight_of_count n d on passes ms)) _ _ (E h)
      (chained (pos (whole_of d s)) (pos (whole_in d ms)) (pos (weight_of n d on s))
      (pos (weight_of_count n d on (λ count. passes (suc count)) ms)) _ (E (passing (λ count. passes (suc count))))
      (E h) (first (passing (λ count. passes (suc count))) (passing-ignores (λ count. passes (suc count))))
      (others (λ count. passes (suc count))))
      (chained (pos (whole_of d s))
      (pos (whole_in d ms)) (pos (whole_of d s - weight_of n d on s)) (pos (weight_of_count n d on passes ms)) _
      (E (passing passes)) (E h) (contrary (λ v. exists v on s) (weight_of n d on s) (whole_of d s) (passing passes)
      (weight-le n d proper on s) (first (passing passes) (passing-ignores passes))) (others passes))
    where
      passing : (ℕ → Bool) → (ℕ → Bool) → ℤ
      passing tests v = indicator (tests (count_true (each_exists v on ms))) *ℤ h v

      passing-ignores : (tests : ℕ → Bool) → Ignores (λ i. standings i s) (passing tests)
      passing-ignores tests =
          tested-ignores (λ v. tests (count_true (each_exists v on ms))) indicator (λ i. standings i s)
          (λ i. standings_in i ms) once (λ u v a. ap (λ bs. tests (count_true bs)) (each-stands on ms u v a)) h ignores

  mutual
    pub tree-expected : (s : Tree)
        → IsReadOnce s → NamesLivesBelow below s → (h : (ℕ → Bool) → ℤ) → Ignores (λ i. standings i s) h
        → pos (whole_of d s) *ℤ E (λ v. indicator (exists v on s) *ℤ h v) ≡ pos (weight_of n d on s) *ℤ E h
    tree-expected (life i) once named h ignores = one i (named i (same i)) h ignores
    tree-expected (term m) once named h ignores = constant (on m) h
    tree-expected (joint ms) once named h ignores = all-expected ms once named h ignores
    tree-expected (last ms) once named h ignores =
        ap (λ z. pos (whole_in d ms) *ℤ z)
        (equal _ _ (λ v. ap (λ z. z *ℤ h v) (sym (indicator-not-not (list_any (λ b. b) (each_exists v on ms))))))
        ∙ contrary (λ v. not (list_any (λ b. b) (each_exists v on ms))) (weight_of_none n d on ms)
        (whole_in d ms) h (none-le n d proper on ms) (none-expected ms once named h ignores)
    tree-expected (at_least r ms) once named h ignores =
        count-expected (λ count. nat_le r count) ms once named h ignores
    tree-expected (exactly r ms) once named h ignores = count-expected (λ count. nat_eq count r) ms once named h ignores
    tree-expected (after s t) once named h ignores =
        ap (λ z. pos (whole_of d t * whole_of d s) *ℤ z)
        (equal _ _ (λ v. indicator-and (exists v on t) (not (exists v on s)) (h v)))
        ∙ chained (pos (whole_of d t)) (pos (whole_of d s)) (pos (weight_of n d on t))
        (pos (whole_of d s - weight_of n d on s)) _ (E (λ v. indicator (not (exists v on s)) *ℤ h v)) (E h)
        (tree-expected t (λ i. omega (arith, once i))
        (λ i e. named i (or-right (names_life i s) _ e)) (λ v. indicator (not (exists v on s)) *ℤ h v)
        (tested-ignores (λ v. exists v on s) (λ b. indicator (not b)) (λ i. standings i t) (λ i. standings i s)
        (λ i. omega (arith, once i)) (exists-stands on s) h (λ u v a. ignores u v (λ i z. a i (omega arith)))))
        (contrary (λ v. exists v on s) (weight_of n d on s) (whole_of d s) h (weight-le n d proper on s)
        (tree-expected s (λ i. omega (arith, once i))
        (λ i e. named i (or-left _ _ e)) h (λ u v a. ignores u v (λ i z. a i (omega arith)))))

    all-expected : (ms : Trees)
        → AreReadOnce ms → AnyNamesLivesBelow below ms → (h : (ℕ → Bool) → ℤ) → Ignores (λ i. standings_in i ms) h
        → pos (whole_in d ms) *ℤ E (λ v. indicator (list_all (λ b. b) (each_exists v on ms)) *ℤ h v)
        ≡ pos (weight_of_all n d on ms) *ℤ E h
    all-expected none once named h ignores = constant true h
    all-expected (more s ms) once named h ignores =
        ap (λ z. pos (whole_of d s * whole_in d ms) *ℤ z)
        (equal _ _ (λ v. indicator-and (exists v on s) (list_all (λ b. b) (each_exists v on ms)) (h v)))
        ∙ chained (pos (whole_of d s)) (pos (whole_in d ms)) (pos (weight_of n d on s)) (pos (weight_of_all n d on ms))
        _ (E (λ v. indicator (list_all (λ b. b) (each_exists v on ms)) *ℤ h v)) (E h)
        (tree-expected s (λ i. omega (arith, once i))
        (λ i e. named i (or-left _ _ e)) (λ v. indicator (list_all (λ b. b) (each_exists v on ms)) *ℤ h v)
        (tested-ignores (λ v. list_all (λ b. b) (each_exists v on ms)) indicator (λ i. standings i s)
        (λ i. standings_in i ms) once (λ u v a. ap (list_all (λ b. b)) (each-stands on ms u v a)) h ignores))
        (all-expected ms (λ i. omega (arith, once i))
        (λ i e. named i (or-right (names_life i s) _ e)) h (λ u v a. ignores u v (λ i z. a i (omega arith))))

    none-expected : (ms : Trees)
        → AreReadOnce ms → AnyNamesLivesBelow below ms → (h : (ℕ → Bool) → ℤ) → Ignores (λ i. standings_in i ms) h
        → pos (whole_in d ms) *ℤ E (λ v. indicator (not (list_any (λ b. b) (each_exists v on ms))) *ℤ h v)
        ≡ pos (weight_of_none n d on ms) *ℤ E h
    none-expected none once named h ignores = constant true h
    none-expected (more s ms) once named h ignores =
        ap (λ z. pos (whole_of d s * whole_in d ms) *ℤ z)
        (equal _ _ (λ v. indicator-neither (exists v on s) (list_any (λ b. b) (each_exists v on ms)) (h v)))
        ∙ chained (pos (whole_of d s))
        (pos (whole_in d ms)) (pos (whole_of d s - weight_of n d on s)) (pos (weight_of_none n d on ms)) _
        (E (λ v. indicator (not (list_any (λ b. b) (each_exists v on ms))) *ℤ h v)) (E h)
        (contrary (λ v. exists v on s) (weight_of n d on s) (whole_of d s)
        (λ v. indicator (not (list_any (λ b. b) (each_exists v on ms))) *ℤ h v) (weight-le n d proper on s)
        (tree-expected s (λ i. omega (arith, once i))
        (λ i e. named i (or-left _ _ e)) (λ v. indicator (not (list_any (λ b. b) (each_exists v on ms))) *ℤ h v)
        (tested-ignores (λ v. list_any (λ b. b) (each_exists v on ms)) (λ b. indicator (not b)) (λ i. standings i s)
        (λ i. standings_in i ms) once (λ u v a. ap (list_any (λ b. b)) (each-stands on ms u v a)) h ignores)))
        (none-expected ms (λ i. omega (arith, once i))
        (λ i e. named i (or-right (names_life i s) _ e)) h (λ u v a. ignores u v (λ i z. a i (omega arith))))

    count-expected : (passes : ℕ → Bool) (ms : Trees)
        → AreReadOnce ms → AnyNamesLivesBelow below ms → (h : (ℕ → Bool) → ℤ) → Ignores (λ i. standings_in i ms) h
        → pos (whole_in d ms) *ℤ E (λ v. indicator (passes (count_true (each_exists v on ms))) *ℤ h v)
        ≡ pos (weight_of_count n d on passes ms) *ℤ E h
    count-expected passes none once named h ignores = constant (passes 0) h
    count-expected passes (more s ms) once named h ignores =
        count-step passes s ms once h ignores
        (λ g k. tree-expected s (λ i. omega (arith, once i)) (λ i e. named i (or-left _ _ e)) g k)
        (λ tests. count-expected tests ms (λ i. omega (arith, once i))
        (λ i e. named i (or-right (names_life i s) _ e)) h (λ u v a. ignores u v (λ i z. a i (omega arith))))
