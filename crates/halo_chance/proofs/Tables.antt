-- A table grows by a member, and no number of members passes a rank above it.
use Rattle.std.proofs.Common.{◌≡◌, ◌≢◌, ℕ, zero, suc, ◌+◌, ◌-◌, ◌*◌, ◌<◌, ◌≤◌, arith, refl, ap, sym, ◌∙◌, Bool, true, false, cond, List, length, set, pos, nat_eq, nat_le, mul_comm, get_or, get_or-set_other, get_or-set_same, length-set, ⊎_elim}
use Rattle.std.proofs.Math.Path.{fun_ext}
use Rattle.std.proofs.lemmas.Int.{ints}
use Rattle.std.proofs.lemmas.Bool.{cases_eq, cases_lt}
use Rattle.std.proofs.lemmas.Bool.Decides.{nat_tests}
use Rattle.std.proofs.lemmas.List.{get_or_default}
use Rattle.halo_num.specs.Ends.{Ends, IsWithin, fine}
use Rattle.halo_num.specs.Chance.{EnclosesChance}
use Rattle.halo_num.proofs.Chances.{chance_wider}
use Rattle.halo_num.proofs.Enclosures.{encloses_scaled}
use Rattle.halo_status.specs.Tree.{Tree, Trees, none, more, member_count}
use Rattle.halo_status.specs.Naming.{any_names_life}
use Rattle.halo_model.specs.ByTree.{weight_of, weight_of_count, whole_in, whole_of}
use Rattle.halo_chance.specs.Enclosed.{AreEnclosed, EachIsChance, EnclosesMembers, EnclosesTree, entry_at, spread, spread_in}
use Rattle.halo_chance.specs.Table.{Grows, IsTable, passes_at}
use Rattle.halo_chance.proofs.Enclosing.{of-first, of-others, proper, whole-positive, wholes-positive}

nat_le-suc : (m n : ℕ) → nat_le (suc m) (suc n) ≡ nat_le m n
nat_le-suc m n = grind (arith, nat_tests)

nat_eq-suc : (m n : ℕ) → nat_eq (suc m) (suc n) ≡ nat_eq m n
nat_eq-suc m n = grind (arith, nat_tests)

nat_le-zero : (n : ℕ) → nat_le 0 n ≡ true
nat_le-zero n = grind (arith, nat_tests)

nat_eq-zero : (n : ℕ) → nat_eq (suc n) 0 ≡ false
nat_eq-zero n = grind (arith, nat_tests)

-- one more member counts at the place before
passes-with : (exact : Bool) (place count : ℕ) → passes_at exact (suc place) (suc count) ≡ passes_at exact place count
passes-with false place count = nat_le-suc place count
passes-with true zero count = nat_eq-zero count
passes-with true (suc place) count = nat_eq-suc count place

-- the first place is passed by all numbers or by none
passes-first : (exact : Bool) (count : ℕ) → passes_at exact 0 (suc count) ≡ passes_at exact 0 count
passes-first false count = nat_le-zero (suc count) ∙ sym (nat_le-zero count)
passes-first true count = refl

-- a chance in more parts
scaled : (n d w v k : ℕ) (i : Ends) → w ≤ v → EnclosesChance n d w i → EnclosesChance (k * n) (k * d) v i
scaled n d w v k i h c =
    chance_wider (k * n) (k * d) w v i h
    (record {
      encloses =
          rw (mul_comm k n, mul_comm k d) (encloses_scaled i (pos n) d k c.encloses);
      narrow =
          c.narrow;
      within =
          c.within;
    })

whole-share : (a w x : ℕ) → a ≤ w → a * x + (w - a) * x ≡ w * x
whole-share a w x h = parts (w - a) (omega arith)
  where
    parts : (b : ℕ) → a + b ≡ w → a * x + b * x ≡ w * x
    parts b e = rw (sym e) (omega arith)

-- an entry that was read
pub entry-read : (entries : List Ends) (i : ℕ) (r : Ends) → i < length entries → entry_at entries i ≡ get_or entries i r
entry-read entries i r h = get_or_default entries i (record { lo = pos 0; hi = pos 0 }) r h

-- a table that has grown nowhere, and one that has grown at one place more
pub grows-none : (chance : Ends) (others : List Ends) → Grows chance 0 others others
unfolding Grows
grows-none chance others place s d x y e u w h = absurd (omega arith)

pub grows-more : (chance : Ends) (top : ℕ) (others table : List Ends) (r : Ends) → top + 1 < length table
    → Grows chance top others table
    → ((s d x y e u w : ℕ) → 0 < e → EnclosesChance s d u chance → EnclosesChance x e w (entry_at others top)
    → EnclosesChance y e w (entry_at others (top + 1)) → EnclosesChance (s * x + (d - s) * y) (d * e) (u + w + 1) r)
    → Grows chance (top + 1) others (set table (top + 1) r)
unfolding Grows
grows-more chance top others table r room grown mixed place s d x y e u w h positive a b c =
    ⊎_elim
    (λ (l : place < top).
    rw (get_or-set_other table (top + 1) (place + 1) r (record { lo = pos 0; hi = pos 0 })
    (λ q. absurd (omega (arith, q))))
    (grown place s d x y e u w l positive a b c))
    (λ (l : top ≤ place). let q : place ≡ top =
    omega arith in rw (q, get_or-set_same table (top + 1) r (record { lo = pos 0; hi = pos 0 }) room)
    (mixed s d x y e u w positive a (rw q at b) (rw q at c)))
    (cases_lt place top)

-- the first place is left as it is, and a part of 1 is written to a place
pub first-stays : (table : List Ends) (top : ℕ) (r : Ends) → entry_at (set table (top + 1) r) 0 ≡ entry_at table 0
first-stays table top r =
    get_or-set_other table (top + 1) 0 r (record { lo = pos 0; hi = pos 0 }) (λ q. absurd (omega (arith, q)))

pub chances-more : (count : ℕ) (table : List Ends) (top : ℕ) (r : Ends) → EachIsChance count table → top + 1 < count
    → IsWithin r (pos 0) (pos fine) → EachIsChance count (set table (top + 1) r)
chances-more count table top r a room w = record {
  room = rw (length-set table (top + 1) r) a.room;
  each = λ k l.
      ⊎_elim
      (λ (e : k ≡ top + 1).
      rw (e, get_or-set_same table (top + 1) r (record { lo = pos 0; hi = pos 0 }) (omega (arith, a.room))) w)
      (λ (e : k ≢ top + 1).
      rw (get_or-set_other table (top + 1) k r (record { lo = pos 0; hi = pos 0 }) e) (a.each k l))
      (cases_eq k (top + 1));
}

module _ (entries : List Ends) (on : ℕ → Bool) (exact : Bool) (top : ℕ) where
  pub table-none : (table : List Ends)
      → ((place : ℕ) → place ≤ top → EnclosesChance (cond (passes_at exact place 0) 1 0) 1 0 (entry_at table place))
      → IsTable entries on exact top none table
  unfolding IsTable EnclosesMembers
  table-none table h place within n d w e = h place within

  pub table-more : (s : Tree) (ms : Trees) (i : Ends) (others table : List Ends)
      → IsTable entries on exact top ms others → EnclosesTree entries on s i → Grows i top others table
      → entry_at table 0 ≡ entry_at others 0
      → IsTable entries on exact top (more s ms) table
  unfolding IsTable EnclosesMembers EnclosesTree Grows
  table-more s ms i others table before member grows first zero within n d w e =
      rw (
        first,
        ap (λ test. weight_of_count n d on test ms) (fun_ext (passes-first exact)),
        whole-share (weight_of n d on s) (whole_of d s) (weight_of_count n d on (passes_at exact 0) ms) small,
      )
      (scaled (weight_of_count n d on (passes_at exact 0) ms) (whole_in d ms) (spread_in w ms)
      (spread w s + spread_in w ms + 1) (whole_of d s) (entry_at others 0) (omega arith)
      (before 0 within n d w (of-others n d w entries s ms e)))
    where
      small : weight_of n d on s ≤ whole_of d s
      small =
          proper (weight_of n d on s) (whole_of d s) (spread w s) i
          (whole-positive n d w entries s (of-first n d w entries s ms e))
          (member n d w (of-first n d w entries s ms e))
  table-more s ms i others table before member grows first (suc place) within n d w e =
      rw (ap (λ test. weight_of_count n d on test ms) (fun_ext (passes-with exact place)))
      (rw (one-more place) at (grows place (weight_of n d on s) (whole_of d s)
      (weight_of_count n d on (passes_at exact place) ms) (weight_of_count n d on (passes_at exact (suc place)) ms)
      (whole_in d ms) (spread w s) (spread_in w ms) (omega arith)
      (wholes-positive n d w entries ms others-enclosed) (member n d w (of-first n d w entries s ms e))
      (before place (omega arith) n d w others-enclosed)
      (rw (one-more place) (before (suc place) within n d w others-enclosed))))
    where
      others-enclosed : AreEnclosed n d w entries (λ a. any_names_life a ms)
      others-enclosed = of-others n d w entries s ms e

      one-more : (n : ℕ) → n + 1 ≡ suc n
      one-more n = omega arith

  pub table-at : (ms : Trees) (table : List Ends) → IsTable entries on exact top ms table
      → EnclosesMembers entries ms (λ n d. weight_of_count n d on (passes_at exact top) ms) (entry_at table top)
  unfolding IsTable
  table-at ms table is = is top (omega arith)

-- what no number of members passes has no weight
no-weight : (n d : ℕ → ℕ) (on passes : ℕ → Bool) (ms : Trees)
    → ((count : ℕ) → count ≤ member_count ms → passes count ≡ false) → weight_of_count n d on passes ms ≡ 0
no-weight n d on passes none h = rw (h 0 (omega arith))
no-weight n d on passes (more s ms) h =
    rw (
      no-weight n d on (λ count. passes (suc count)) ms (λ count k. h (suc count) (omega arith)),
      no-weight n d on passes ms (λ count k. h count (omega arith)),
    )
    (omega arith)

passes-above : (exact : Bool) (place count : ℕ) → count + 1 < place → passes_at exact place count ≡ false
passes-above false place count h = grind (arith, nat_tests)
passes-above true zero count h = refl
passes-above true (suc place) count h = grind (arith, nat_tests)

pub encloses-above : (entries : List Ends) (on : ℕ → Bool) (exact : Bool) (place : ℕ) (ms : Trees) (i : Ends)
    → member_count ms + 1 < place → i.lo ≡ pos 0 → i.hi ≡ pos 0
    → EnclosesMembers entries ms (λ n d. weight_of_count n d on (passes_at exact place) ms) i
unfolding EnclosesMembers
encloses-above entries on exact place ms i h e f n d w a =
    rw (no-weight n d on (passes_at exact place) ms (λ count k. passes-above exact place count (omega arith))) (record {
      encloses = record { low = rw e (omega (arith, ints)); high = rw f (omega (arith, ints)) };
      narrow = record { near = rw (e, f) (omega (arith, ints)) };
      within = record { low = rw e (omega (arith, ints)); high = rw f (omega (arith, ints)) };
    })
