-- The fractions of an interest line that passes all checks are those of an interest.
use Rattle.std.proofs.Common.{◌≡◌, ◌+◌, ◌<◌, ◌≤◌, ℕ, zero, suc, List, [], ◌∷◌, length, get_or, map, refl, ap, arith}
use Rattle.std.proofs.lemmas.List.{get_or-map, length-map}
use Rattle.halo_interest.specs.Rates.{IsFraction, IsInterest, no_interest, rate_at}
use Rattle.halo_interest.specs.declared.rate.Rate.{Rate}
use Rattle.halo_table.specs.DecrementTable.{TableFile}
use Rattle.halo_text.specs.Number.{number}
use Rattle.halo_check.specs.Checks.{PassesAll, year_at}
use Rattle.halo_check.specs.Draft.{Draft, rate_from}
use Rattle.halo_syntax.specs.Line.{LaterRate, interest}
use Rattle.halo_check.specs.declared.fault.ContractKind.TheVariants as kind

-- no digits, as they stand past the last fraction
no_digits : LaterRate
no_digits = record { year = []; p = []; q = [] }

module _ (tables : TableFile) (d : Draft) (p q : List ℕ) (rates : List LaterRate)
    (passes : PassesAll tables d (interest p q rates)) where
  first : Rate
  first = record { year = 0; p = number p; q = number q }

  fractions : List Rate
  fractions = first ∷ map rate_from rates

  later : (i : ℕ) → i < length rates → rate_at fractions (suc i) ≡ rate_from (get_or rates i no_digits)
  unfolding fractions
  later i within = get_or-map rate_from rates i no_digits no_interest within

  year_of_later : (i : ℕ) → i < length rates → year_at rates i ≡ number (get_or rates i no_digits).year
  year_of_later i within = ap number (get_or-map (λ (rate : LaterRate). rate.year) rates i no_digits [] within)

  count : length fractions ≡ suc (length rates)
  unfolding fractions
  count = ap suc (length-map rates rate_from)

  fraction_in : (i : ℕ) → i < length fractions → IsFraction (rate_at fractions i).p (rate_at fractions i).q
  unfolding fractions first
  fraction_in zero within =
      let limits = passes kind.Magnitude in
      record { p_in = limits.0; q_from = (passes kind.Zero).0; q_in = limits.1 }
  fraction_in (suc i) within =
      let inside : i < length rates = omega (arith, count) in
      let limits = (passes kind.Magnitude).2 i no_digits inside in
      let some = (passes kind.Zero).1 i no_digits inside in
      rw (later i inside) (record { p_in = limits.p; q_from = some.1; q_in = limits.q })

  year_in : (i : ℕ) → i < length fractions → (rate_at fractions i).year ≤ 199
  unfolding fractions first
  year_in zero within = omega arith
  year_in (suc i) within =
      let inside : i < length rates = omega (arith, count) in
      rw (later i inside) ((passes kind.Magnitude).2 i no_digits inside).year

  rising : (i : ℕ) → suc i < length fractions → (rate_at fractions i).year < (rate_at fractions (suc i)).year
  unfolding fractions first
  rising zero within =
      let inside : 0 < length rates = omega (arith, count) in
      rw (later 0 inside) ((passes kind.Zero).1 0 no_digits inside).0
  rising (suc i) within =
      let inside : suc i < length rates = omega (arith, count) in
      let before : i < length rates = omega arith in
      let next : i + 1 ≡ suc i = omega arith in
      let up = rw next at ((passes kind.Years) i (rw next inside)) in
      rw (later i before, later (suc i) inside) (rw (year_of_later i before, year_of_later (suc i) inside) at up)

  pub valid_interest : IsInterest (record { year = 0; p = number p; q = number q } ∷ map rate_from rates)
  unfolding fractions first
  valid_interest = record {
    some = omega arith;
    room = omega (arith, count, (passes kind.Magnitude).3);
    start = refl;
    fractions = fraction_in;
    years = year_in;
    increasing = λ i within. let next : i + 1 ≡ suc i = omega arith in rw next (rising i (rw next at within));
  }
