-- The chance of a status is enclosed where those of its parts are.
use Rattle.std.proofs.Common.{◌≡◌, ℕ, suc, ◌+◌, ◌-◌, ◌*◌, ◌<◌, ◌≤◌, arith, lit<, Bool, true, false, cond, ◌||◌, List, pos, ◌-ℤ◌, ◌*ℤ◌, ◌≤ℤ◌}
use Rattle.std.specs.Prelude.{IsTrue}
use Rattle.std.proofs.lemmas.Int.{ints}
use Rattle.std.proofs.Math.Nat.{mul-pos}
use Rattle.halo_num.specs.Ends.{Ends, fine}
use Rattle.halo_num.specs.Chance.{EnclosesChance}
use Rattle.halo_num.proofs.Enclosures.{encloses_sub}
use Rattle.halo_sums.proofs.Integers.{le_of_mul_pos, le_trans, mul_le_pos}
use Rattle.halo_status.specs.Tree.{Tree, Trees, life, term, joint, last, at_least, exactly, after, none, more}
use Rattle.halo_status.specs.Naming.{any_names_life, names_life}
use Rattle.halo_model.specs.ByTree.{weight_of, weight_of_all, weight_of_count, weight_of_none, whole_in, whole_of}
use Rattle.halo_status.proofs.Agreement.{or-left, or-right, same}
use Rattle.halo_chance.specs.Enclosed.{AreEnclosed, EnclosesMembers, EnclosesTree, entry_at, spread, spread_in}
use Rattle.halo_chance.specs.Table.{passes_at}

-- a chance that is enclosed within 0 and 1 is proper
pub proper : (n d w : ℕ) (i : Ends) → 0 < d → EnclosesChance n d w i → n ≤ d
proper n d w i positive c =
    let top : (i.hi *ℤ pos d) ≤ℤ (pos fine *ℤ pos d) = mul_le_pos i.hi (pos fine) d c.within.high in
    let all : (pos n *ℤ pos fine) ≤ℤ (pos d *ℤ pos fine) = le_trans _ _ _ c.encloses.high (omega (arith, ints, top)) in
    let small : pos n ≤ℤ pos d = le_of_mul_pos (pos n) (pos d) fine (lit< tt) all in
    omega (arith, ints, small)

-- the contrary of a chance: 1 less it
pub contrary-enclosed : (n d w : ℕ) (i one r : Ends) → 0 < d → EnclosesChance n d w i → one.lo ≡ pos fine
    → one.hi ≡ pos fine
    → r.lo ≡ one.lo -ℤ i.hi → r.hi ≡ one.hi -ℤ i.lo → EnclosesChance (d - n) d w r
contrary-enclosed n d w i one r positive c e f lo hi = record {
  encloses =
      rw (rest n d (proper n d w i positive c))
      (encloses_sub one i r (pos d) (pos n) d lo hi
      (record { low = rw e (omega (arith, ints)); high = rw f (omega (arith, ints)) }) c.encloses);
  narrow = record { near = rw (lo, hi, e, f) (omega (arith, ints, c.narrow.near)) };
  within =
      record {
        low =
            rw (lo, e) (omega (arith, ints, c.within.high));
        high =
            rw (hi, f) (omega (arith, ints, c.within.low));
      };
}
  where
    rest : (n d : ℕ) → n ≤ d → pos (d - n) ≡ pos d -ℤ pos n
    rest n d h = omega (arith, ints)

module _ (n d w : ℕ → ℕ) (entries : List Ends) where
  pub narrower : (some all : ℕ → Bool) → ((i : ℕ) → IsTrue (some i) → IsTrue (all i)) → AreEnclosed n d w entries all
      → AreEnclosed n d w entries some
  narrower some all within e = record { some = λ i h. e.some i (within i h); each = λ i h. e.each i (within i h) }

  pub of-first : (s : Tree) (ms : Trees) → AreEnclosed n d w entries (λ a. any_names_life a (more s ms))
      → AreEnclosed n d w entries (λ a. names_life a s)
  of-first s ms e = narrower _ (λ a. any_names_life a (more s ms)) (λ a h. or-left _ _ h) e

  pub of-others : (s : Tree) (ms : Trees) → AreEnclosed n d w entries (λ a. any_names_life a (more s ms))
      → AreEnclosed n d w entries (λ a. any_names_life a ms)
  of-others s ms e = narrower _ (λ a. any_names_life a (more s ms)) (λ a h. or-right (names_life a s) _ h) e

  mutual
    pub whole-positive : (s : Tree) → AreEnclosed n d w entries (λ a. names_life a s) → 0 < whole_of d s
    whole-positive (life i) e = e.some i (same i)
    whole-positive (term m) e = omega arith
    whole-positive (joint ms) e = wholes-positive ms e
    whole-positive (last ms) e = wholes-positive ms e
    whole-positive (at_least r ms) e = wholes-positive ms e
    whole-positive (exactly r ms) e = wholes-positive ms e
    whole-positive (after s t) e =
        mul-pos
        (whole-positive t
        (narrower (λ a. names_life a t) (λ a. names_life a s || names_life a t)
        (λ a h. or-right (names_life a s) _ h) e))
        (whole-positive s
        (narrower (λ a. names_life a s) (λ a. names_life a s || names_life a t) (λ a h. or-left _ _ h) e))

    pub wholes-positive : (ms : Trees) → AreEnclosed n d w entries (λ a. any_names_life a ms) → 0 < whole_in d ms
    wholes-positive none e = omega arith
    wholes-positive (more s ms) e = mul-pos (whole-positive s (of-first s ms e)) (wholes-positive ms (of-others s ms e))

-- the clauses of the calls for the contrary and for a product
abbrev pub IsContrary : Ends → Ends → Type 0
IsContrary i r = (n d w : ℕ) → 0 < d → EnclosesChance n d w i → EnclosesChance (d - n) d w r

abbrev pub IsProduct : Ends → Ends → Ends → Type 0
IsProduct i j r =
    (n m d e v w : ℕ) → EnclosesChance n d v i → EnclosesChance m e w j → EnclosesChance (n * m) (d * e) (v + w + 1) r

module _ (entries : List Ends) (on : ℕ → Bool) where
  pub encloses-life : (i : ℕ) → EnclosesTree entries on (life i) (entry_at entries i)
  unfolding EnclosesTree
  encloses-life i n d w e = e.each i (same i)

  pub encloses-term : (m : ℕ) (i : Ends) → EnclosesChance (cond (on m) 1 0) 1 0 i → EnclosesTree entries on (term m) i
  unfolding EnclosesTree
  encloses-term m i c n d w e = c

  pub encloses-joint : (ms : Trees) (i : Ends) → EnclosesMembers entries ms (λ n d. weight_of_all n d on ms) i
      → EnclosesTree entries on (joint ms) i
  unfolding EnclosesTree EnclosesMembers
  encloses-joint ms i c = c

  pub encloses-last : (ms : Trees) (i r : Ends) → EnclosesMembers entries ms (λ n d. weight_of_none n d on ms) i
      → IsContrary i r → EnclosesTree entries on (last ms) r
  unfolding EnclosesTree EnclosesMembers
  encloses-last ms i r c contrary n d w e =
      contrary (weight_of_none n d on ms) (whole_in d ms) (spread_in w ms) (wholes-positive n d w entries ms e)
      (c n d w e)

  pub encloses-at_least : (r : ℕ) (ms : Trees) (i : Ends)
      → EnclosesMembers entries ms (λ n d. weight_of_count n d on (passes_at false r) ms) i
      → EnclosesTree entries on (at_least r ms) i
  unfolding EnclosesTree EnclosesMembers
  encloses-at_least r ms i c = c

  pub encloses-exactly : (r : ℕ) (ms : Trees) (i : Ends)
      → EnclosesMembers entries ms (λ n d. weight_of_count n d on (passes_at true (r + 1)) ms) i
      → EnclosesTree entries on (exactly r ms) i
  unfolding EnclosesTree EnclosesMembers
  encloses-exactly r ms i c n d w e = rw (one-more r) at (c n d w e)
    where
      one-more : (n : ℕ) → n + 1 ≡ suc n
      one-more n = omega arith

  pub encloses-after : (s t : Tree) (i x y r : Ends) → EnclosesTree entries on s i → IsContrary i x
      → EnclosesTree entries on t y → IsProduct y x r → EnclosesTree entries on (after s t) r
  unfolding EnclosesTree
  encloses-after s t i x y r c contrary b product n d w e =
      let first =
      narrower n d w entries (λ a. names_life a s) (λ a. names_life a s || names_life a t) (λ a h. or-left _ _ h)
      e in
      let then =
      narrower n d w entries (λ a. names_life a t) (λ a. names_life a s || names_life a t)
      (λ a h. or-right (names_life a s) _ h) e in
      product (weight_of n d on t) (whole_of d s - weight_of n d on s) (whole_of d t) (whole_of d s) (spread w t)
      (spread w s) (b n d w then)
      (contrary (weight_of n d on s) (whole_of d s) (spread w s) (whole-positive n d w entries s first) (c n d w first))

  -- of no members, and of one more
  pub encloses-none : (i : Ends) → i.lo ≡ pos fine → i.hi ≡ pos fine → EnclosesMembers entries none (λ n d. 1) i
  unfolding EnclosesMembers
  encloses-none i e f n d w a = record {
    encloses = record { low = rw e (omega (arith, ints)); high = rw f (omega (arith, ints)) };
    narrow = record { near = rw (e, f) (omega (arith, ints)) };
    within = record { low = rw e (omega (arith, ints)); high = rw f (omega (arith, ints)) };
  }

  pub all-more : (s : Tree) (ms : Trees) (i j r : Ends) → EnclosesTree entries on s i
      → EnclosesMembers entries ms (λ n d. weight_of_all n d on ms) j → IsProduct i j r
      → EnclosesMembers entries (more s ms) (λ n d. weight_of_all n d on (more s ms)) r
  unfolding EnclosesTree EnclosesMembers
  all-more s ms i j r a b product n d w e =
      product (weight_of n d on s) (weight_of_all n d on ms) (whole_of d s) (whole_in d ms) (spread w s)
      (spread_in w ms) (a n d w (of-first n d w entries s ms e)) (b n d w (of-others n d w entries s ms e))

  pub none-more : (s : Tree) (ms : Trees) (i x j r : Ends) → EnclosesTree entries on s i → IsContrary i x
      → EnclosesMembers entries ms (λ n d. weight_of_none n d on ms) j → IsProduct x j r
      → EnclosesMembers entries (more s ms) (λ n d. weight_of_none n d on (more s ms)) r
  unfolding EnclosesTree EnclosesMembers
  none-more s ms i x j r a contrary b product n d w e =
      product (whole_of d s - weight_of n d on s) (weight_of_none n d on ms) (whole_of d s) (whole_in d ms) (spread w s)
      (spread_in w ms)
      (contrary (weight_of n d on s) (whole_of d s) (spread w s)
      (whole-positive n d w entries s (of-first n d w entries s ms e)) (a n d w (of-first n d w entries s ms e)))
      (b n d w (of-others n d w entries s ms e))
