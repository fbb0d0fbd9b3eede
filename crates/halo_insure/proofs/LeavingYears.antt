-- What is due for a set in some years, a year later, and on the leaving of one life alone.
use Rattle.std.proofs.Common.{◌≡◌, ℕ, zero, suc, ◌+◌, ◌*◌, ◌-◌, ◌≤◌, arith, ap, ◌∙◌, pos, mul-le-mul_left, mul-le-mul_right}
use Rattle.std.proofs.lemmas.Int.{ints}
use Rattle.halo_sums.specs.Sums.{numbers_from, product_over}
use Rattle.halo_num.specs.Chance.{EnclosesChance}
use Rattle.halo_num.specs.Ends.{Ends, fine}
use Rattle.halo_num.proofs.Enclosures.{encloses_at}
use Rattle.halo_model.specs.Basis.{Basis, accumulated}
use Rattle.halo_compile.proofs.Sums.{wider}
use Rattle.halo_insure.specs.declared.due.Due.{Due}
use Rattle.halo_endowment.specs.Payments.{AddsPayments}
use Rattle.halo_insure.specs.OneSet.{EnclosesDues, most_due, worth_of_dues}

module _ (b : Basis) (leaving alive : ℕ → ℕ) (due : ℕ → Due) where
  -- what is worth in the last of some years
  abbrev last_worth : ℕ → ℕ → ℕ → ℕ
  last_worth T years k = product_over (numbers_from T (suc years)) b.q
      * (((due k).on_leaving * leaving k + (due k).at_end * alive (suc k)) * accumulated b (suc k))

  worth-later : (years T k : ℕ) → k ≡ T + years → worth_of_dues b leaving alive due T (suc years)
      ≡ worth_of_dues b leaving alive due T years + last_worth T years k
  worth-later zero T k here = let now : k ≡ T = omega (arith, here) in rw now (omega arith)
  worth-later (suc years) T k here =
      let later = worth-later years (suc T) k (omega (arith, here)) in
      rw later (omega arith)

  most-later : (years T k : ℕ) → k ≡ T + years
      → most_due due T (suc years) ≡ most_due due T years + ((due k).on_leaving + (due k).at_end)
  most-later zero T k here = let now : k ≡ T = omega (arith, here) in rw now (omega arith)
  most-later (suc years) T k here = omega (arith, most-later years (suc T) k (omega (arith, here)))

  module _ (d T k : ℕ) (from : T ≤ k) (no-end : (due k).at_end ≡ 0) where
    abbrev years : ℕ
    years = k - T

    here : k ≡ T + years
    here = omega (arith, from)

    worth-is : worth_of_dues b leaving alive due T (suc years) ≡ worth_of_dues b leaving alive due T years
        + product_over (numbers_from T (suc years)) b.q * ((due k).on_leaving * leaving k) * accumulated b (suc k)
    worth-is = worth-later years T k here ∙ rw no-end (omega arith)

    most-is : most_due due T (suc years) ≡ most_due due T years + (due k).on_leaving
    most-is = most-later years T k here ∙ rw no-end (omega arith)

    wide : (less w more : ℕ) → more ≡ less + (due k).on_leaving → w ≤ suc years * (d + 3)
        → years * ((d + 3) * less) + (due k).on_leaving * w ≤ suc years * ((d + 3) * more)
    wide less w more is few =
        let all : (due k).on_leaving * w ≤ (due k).on_leaving * (suc years * (d + 3)) =
        mul-le-mul_left (due k).on_leaving few in
        rw is (omega (arith, all))

    -- a year in which nothing is due for those who leave
    pub same-later : (i : Ends) → (due k).on_leaving * leaving k ≡ 0
        → EnclosesDues b leaving alive due d T years i → EnclosesDues b leaving alive due d T (suc years) i
    same-later i none held = record {
      encloses = rw (
        worth-is,
        none,
        nothing (product_over (numbers_from T (suc years)) b.q)
            (worth_of_dues b leaving alive due T years) (accumulated b (suc k)),
      ) held.encloses;
      from = held.from;
      bound = let more : most_due due T years * fine ≤ most_due due T (suc years) * fine =
          mul-le-mul_right fine (omega (arith, most-is)) in omega (arith, ints, held.bound, more);
      narrow = wider i _ _ (wide-enough) held.narrow;
    }
      where
        nothing : (q w c : ℕ) → w + q * 0 * c ≡ w
        nothing q w c = omega arith

        wide-enough : years * ((d + 3) * most_due due T years) ≤ suc years * ((d + 3) * most_due due T (suc years))
        wide-enough =
            let e = wide (most_due due T years) 0 (most_due due T (suc years)) most-is (omega arith) in
            omega (arith, e)

    -- and one with so many payments more
    pub paid-later : (chance before r : Ends) (n e w c : ℕ) → EnclosesChance n e w chance
        → AddsPayments (due k).on_leaving chance before r
        → product_over (numbers_from T (suc years)) b.q * leaving k * accumulated b (suc k) ≡ n * c
        → alive T * accumulated b T ≡ e * c
        → w ≤ suc years * (d + 3)
        → EnclosesDues b leaving alive due d T years before → EnclosesDues b leaving alive due d T (suc years) r
    paid-later chance before r n e w c one paid weight whole few held = record {
      encloses = rw (worth-is, regroup _ _ _ _) (paid.encloses (worth_of_dues b leaving alive due T years)
          (product_over (numbers_from T (suc years)) b.q * leaving k * accumulated b (suc k))
          (alive T * accumulated b T)
          held.encloses (encloses_at chance _ _ _ _ c one.encloses (ap pos weight) whole));
      from = paid.from;
      bound = rw most-is (paid.bound (most_due due T years) held.bound);
      narrow = wider r _ _ (wide (most_due due T years) w (most_due due T (suc years)) most-is few)
          (paid.narrow _ w held.narrow one.narrow);
    }
      where
        regroup : (q o l c : ℕ) → q * (o * l) * c ≡ o * (q * l * c)
        regroup q o l c = omega arith
