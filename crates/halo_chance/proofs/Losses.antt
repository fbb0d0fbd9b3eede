-- What a status loses with a life: the difference of two chances, and the entries of the two.
use Rattle.std.proofs.Common.{◌≡◌, ◌≢◌, ℕ, zero, suc, ◌+◌, ◌-◌, ◌*◌, ◌<◌, ◌≤◌, arith, refl, ap, sym, ◌∙◌, Bool, List, length, set, get_or-set_other, get_or-set_same, ⊎_elim, ℤ, pos, ◌+ℤ◌, ◌-ℤ◌, ◌*ℤ◌, ◌≤ℤ◌}
use Rattle.std.specs.Int.{int_max, int_min}
use Rattle.std.proofs.lemmas.Int.{clamps, ints}
use Rattle.std.proofs.lemmas.Bool.{cases_eq}
use Rattle.halo_num.specs.Ends.{Ends, fine}
use Rattle.halo_num.specs.Enclosure.{Encloses}
use Rattle.halo_num.specs.Chance.{EnclosesChance}
use Rattle.halo_num.proofs.Chances.{chance_wider}
use Rattle.halo_num.proofs.Enclosures.{encloses_sub}
use Rattle.halo_sums.proofs.Integers.{le_of_mul_pos, le_trans}
use Rattle.halo_status.specs.Tree.{Tree}
use Rattle.halo_status.specs.Naming.{names_life}
use Rattle.halo_status.specs.Nodes.{nodes}
use Rattle.halo_model.specs.Life.{after_first}
use Rattle.halo_model.specs.ByTree.{weight_of, whole_of}
use Rattle.halo_model.specs.PartsByTree.{put_for}
use Rattle.halo_chance.specs.Enclosed.{AreEnclosed, life_widths}
use Rattle.halo_chance.specs.Loss.{EnclosesLoss, loss_of}
use Rattle.halo_chance.proofs.Enclosing.{proper, whole-positive}

-- a chance that falls to one that is not greater does not fall below 0
pub falls-far : (n m d v w : ℕ) (from to : Ends) → 0 < d → m ≤ n → EnclosesChance n d v from → EnclosesChance m d w to
    → to.lo ≤ℤ from.hi
falls-far n m d v w from to positive small a b =
    let middle : (pos m *ℤ pos fine) ≤ℤ (pos n *ℤ pos fine) = order m n small in
    le_of_mul_pos to.lo from.hi d positive (le_trans _ _ _ b.encloses.low (le_trans _ _ _ middle a.encloses.high))
  where
    order : (m n : ℕ) → m ≤ n → (pos m *ℤ pos fine) ≤ℤ (pos n *ℤ pos fine)
    order m n h = omega (arith, ints)

-- the fall, cut to what lies from 0 to 1
pub fall-clamped : (n m d v w : ℕ) (from to difference r : Ends) → 0 < d → m ≤ n → EnclosesChance n d v from
    → EnclosesChance m d w to
    → difference.lo ≡ from.lo -ℤ to.hi → difference.hi ≡ from.hi -ℤ to.lo → r.lo ≡ int_max difference.lo (pos 0)
    → r.hi ≡ int_min difference.hi (pos fine)
    → ((z : ℤ) (e : ℕ) → Encloses difference z e → (pos 0 *ℤ pos e) ≤ℤ (z *ℤ pos fine)
    → (z *ℤ pos fine) ≤ℤ (pos fine *ℤ pos e) → Encloses r z e)
    → EnclosesChance (n - m) d (v + w) r
fall-clamped n m d v w from to difference r positive small a b low high lo hi clamped = record {
  encloses =
      rw (rest n m small)
      (clamped (pos n -ℤ pos m) d (encloses_sub from to difference (pos n) (pos m) d low high a.encloses b.encloses)
      (rw (sym (rest n m small)) (omega (arith, ints)))
      (rw (sym (rest n m small)) (part (n - m) d (omega (arith, proper n d v from positive a)))));
  narrow =
      record {
        near =
            narrower r.lo r.hi difference.lo difference.hi (v + w) lo hi
            (omega (arith, ints, low, high, a.narrow.near, b.narrow.near))
            (omega (arith, ints, high, falls-far n m d v w from to positive small a b))
            (omega (
              arith,
              ints,
              low,
              a.within.high,
              b.within.low,
              falls-far n n d v v from from positive (omega arith) a a,
              falls-far m m d w w to to positive (omega arith) b b,
            ));
      };
  within = record { low = rw lo (omega (arith, ints, clamps)); high = rw hi (omega (arith, ints, clamps)) };
}
  where
    rest : (n m : ℕ) → m ≤ n → pos (n - m) ≡ pos n -ℤ pos m
    rest n m h = omega (arith, ints)

    part : (k d : ℕ) → k ≤ d → (pos k *ℤ pos fine) ≤ℤ (pos fine *ℤ pos d)
    part k d h = omega (arith, ints)

    narrower : (rl rh dl dh : ℤ) (k : ℕ) → rl ≡ int_max dl (pos 0) → rh ≡ int_min dh (pos fine) → dh ≤ℤ (dl +ℤ pos k)
        → pos 0 ≤ℤ dh → dl ≤ℤ pos fine → rh ≤ℤ (rl +ℤ pos k)
    narrower rl rh dl dh k e f g h j = rw (e, f) (omega (arith, ints, clamps))

put-same : (a m : ℕ) (f : ℕ → ℕ) → put_for a m f a ≡ m
put-same zero m f = refl
put-same (suc a) m f = put-same a m (after_first f)

pub put-other : (a i m : ℕ) (f : ℕ → ℕ) → i ≢ a → put_for a m f i ≡ f i
put-other zero zero m f other = absurd (other refl)
put-other zero (suc i) m f other = refl
put-other (suc a) zero m f other = refl
put-other (suc a) (suc i) m f other = put-other a i m (after_first f) (λ e. other (ap suc e))

-- the entries with a sure life
pub enclosed-put : (n d w : ℕ → ℕ) (entries : List Ends) (names : ℕ → Bool) (a m : ℕ) (r : Ends) → m ≤ 1
    → a < length entries → r.lo ≡ pos (m * fine) → r.hi ≡ pos (m * fine) → AreEnclosed n d w entries names
    → AreEnclosed (put_for a m n) (put_for a 1 d) (put_for a 0 w) (set entries a r) names
enclosed-put n d w entries names a m r small within lo hi e = record {
  some = λ i h.
      ⊎_elim
      (λ (q : i ≡ a). rw (q, put-same a 1 d) (omega arith))
      (λ (q : i ≢ a). rw (put-other a i 1 d q) (e.some i h))
      (cases_eq i a);
  each = λ i h.
      ⊎_elim
      (λ (q : i ≡ a).
      rw (
        q,
        put-same a m n,
        put-same a 1 d,
        put-same a 0 w,
        get_or-set_same entries a r (record { lo = pos 0; hi = pos 0 }) within,
      )
      sure)
      (λ (q : i ≢ a).
      rw (
        put-other a i m n q,
        put-other a i 1 d q,
        put-other a i 0 w q,
        get_or-set_other entries a i r (record { lo = pos 0; hi = pos 0 }) q,
      )
      (e.each i h))
      (cases_eq i a);
}
  where
    sure : EnclosesChance m 1 0 r
    sure = record {
      encloses = record { low = rw lo (omega (arith, ints)); high = rw hi (omega (arith, ints)) };
      narrow = record { near = rw (lo, hi) (omega (arith, ints)) };
      within = record { low = rw lo (omega (arith, ints)); high = rw hi (omega (arith, ints)) };
    }

-- the loss, from the two chances
pub loss-enclosed : (entries : List Ends) (on : ℕ → Bool) (a : ℕ) (s : Tree) (one none with without r : Ends)
    → a < length entries
    → one.lo ≡ pos fine → one.hi ≡ pos fine → none.lo ≡ pos 0 → none.hi ≡ pos 0
    → ((n d w : ℕ → ℕ) → AreEnclosed n d w (set entries a one) (λ j. names_life j s)
    → EnclosesChance (weight_of n d on s) (whole_of d s) (life_widths w s + nodes s) with)
    → ((n d w : ℕ → ℕ) → AreEnclosed n d w (set entries a none) (λ j. names_life j s)
    → EnclosesChance (weight_of n d on s) (whole_of d s) (life_widths w s + nodes s) without)
    → ((n m d v w : ℕ) → 0 < d → m ≤ n → EnclosesChance n d v with → EnclosesChance m d w without
    → EnclosesChance (n - m) d (v + w) r)
    → EnclosesLoss entries on a s r
unfolding EnclosesLoss
loss-enclosed entries on a s one none with without r within lo hi low high along_with along_without fall n d w e falls =
    let there =
    enclosed-put n d w entries (λ j. names_life j s) a 1 one (omega arith) within (lo ∙ single) (hi ∙ single) e in
    let gone =
    enclosed-put n d w entries (λ j. names_life j s) a 0 none (omega arith) within (low ∙ nothing) (high ∙ nothing)
    e in
    let width = life_widths (put_for a 0 w) s + nodes s in
    chance_wider (loss_of n d on a s) (whole_of (put_for a 1 d) s) (width + width) (2 * width) r (omega arith)
    (fall (weight_of (put_for a 1 n) (put_for a 1 d) on s) (weight_of (put_for a 0 n) (put_for a 1 d) on s)
    (whole_of (put_for a 1 d) s) width width
    (whole-positive (put_for a 1 n) (put_for a 1 d) (put_for a 0 w) (set entries a one) s there) falls
    (along_with (put_for a 1 n) (put_for a 1 d) (put_for a 0 w) there)
    (along_without (put_for a 0 n) (put_for a 1 d) (put_for a 0 w) gone))
  where
    single : pos fine ≡ pos (1 * fine)
    single = refl

    nothing : pos 0 ≡ pos (0 * fine)
    nothing = refl
