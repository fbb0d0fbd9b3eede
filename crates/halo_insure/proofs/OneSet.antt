-- The recursion for one set, a year at a time.
use Rattle.std.proofs.Common.{◌≡◌, ℕ, zero, suc, ◌+◌, ◌*◌, ◌<◌, ◌≤◌, arith, refl, pos, mul-le-mul_left}
use Rattle.std.proofs.lemmas.Int.{ints}
use Rattle.halo_num.specs.Chance.{EnclosesChance}
use Rattle.halo_num.specs.Ends.{Ends, HasWidth}
use Rattle.halo_num.specs.Enclosure.{Encloses}
use Rattle.halo_model.specs.Basis.{Basis, accumulated}
use Rattle.halo_insure.specs.declared.due.Due.{Due}
use Rattle.halo_insure.specs.OneSet.{EnclosesDues, EndWithNobody, GoesBack, most_due, worth_of_dues}
use Rattle.halo_compile.proofs.Interest.{accumulated-year}
use Rattle.halo_compile.proofs.Sums.{wider}

module _ (b : Basis) (leaving alive : ℕ → ℕ) (ended : (k : ℕ) → EndWithNobody leaving alive k) (due : ℕ → Due) where
  -- where nobody is left nothing is worth anything
  nothing-worth : (years k : ℕ) → alive k ≡ 0 → worth_of_dues b leaving alive due k years ≡ 0
  nothing-worth zero k none = refl
  nothing-worth (suc years) k none =
      let no_leaving : leaving k ≡ 0 = (ended k).leaves none in
      let no_survivor : alive (suc k) ≡ 0 = (ended k).survives none in
      rw (no_leaving, no_survivor, nothing-worth years (suc k) no_survivor) (omega arith)

  years-wide : (d years less more : ℕ)
      → less ≤ more → years * ((d + 3) * less) + (d + 3) * more ≤ suc years * ((d + 3) * more)
  years-wide d years less more h =
      let a : (d + 3) * less ≤ (d + 3) * more = mul-le-mul_left (d + 3) h in
      let c : years * ((d + 3) * less) ≤ years * ((d + 3) * more) = mul-le-mul_left years a in
      omega (arith, c)

  -- a year back
  pub year-more : (d k years v w : ℕ) (later result leave survive discount : Ends) → k < b.last_time → v ≤ d → w ≤ d
      → EnclosesChance (leaving k) (alive k) v leave → EnclosesChance (alive (suc k)) (alive k) w survive
      → Encloses discount (pos (b.q k)) (b.p k + b.q k)
      → HasWidth discount 1 → GoesBack later leave survive discount (due k) result
      → EnclosesDues b leaving alive due d (suc k) years later → EnclosesDues b leaving alive due d k (suc years) result
  year-more d k years v
      w later result leave survive discount within narrow_v narrow_w leaves survives enclosed one back after = record {
        encloses = rw (accumulated-year b k within) (back.encloses (leaving k)
            (alive (suc k)) (alive k) (worth_of_dues b leaving alive due (suc k) years) (accumulated b (suc k)) (b.q k)
            (b.p k + b.q k) leaves.encloses survives.encloses enclosed after.encloses (nothing-worth years (suc k)));
        from = back.from;
        bound = back.bound (most_due due (suc k) years) after.bound;
        narrow =
            wider result _ _
            (years-wide d years (most_due due (suc k) years) (most_due due k (suc years)) (omega arith))
            (back.narrow (most_due due (suc k) years) (years * ((d + 3) * most_due due (suc k) years)) d after.bound
            after.narrow (wider leave v d narrow_v leaves.narrow) (wider survive w d narrow_w survives.narrow) one);
      }

-- exactly nothing is what is worth nothing
module _ (b : Basis) (leaving alive : ℕ → ℕ) (due : ℕ → Due) where
  pub worthless : (d k years : ℕ) (i : Ends) → worth_of_dues b leaving alive due k years ≡ 0
      → i.lo ≡ pos 0 → i.hi ≡ pos 0 → EnclosesDues b leaving alive due d k years i
  worthless d k years i none low high = record {
    encloses = rw none (record { low = rw low (omega (arith, ints)); high = rw high (omega (arith, ints)) });
    from = omega (arith, ints, low);
    bound = omega (arith, ints, high);
    narrow = record { near = rw (low, high) (omega (arith, ints)) };
  }

  -- and so it is where nothing is due
  pub no-worth : (years k : ℕ) → most_due due k years ≡ 0 → worth_of_dues b leaving alive due k years ≡ 0
  no-worth zero k none = refl
  no-worth (suc years) k none =
      let now : (due k).on_leaving ≡ 0 = omega (arith, none) in
      let end : (due k).at_end ≡ 0 = omega (arith, none) in
      let later = no-worth years (suc k) (omega (arith, none)) in
      rw (now, end, later) (omega arith)

  pub nothing-due : (d k years : ℕ) (i : Ends)
      → most_due due k years ≡ 0 → i.lo ≡ pos 0 → i.hi ≡ pos 0 → EnclosesDues b leaving alive due d k years i
  nothing-due d k years i none low high = worthless d k years i (no-worth years k none) low high
