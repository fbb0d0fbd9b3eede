-- Commutation columns give the values on one life.
use Rattle.std.proofs.Common.{◌≡◌, ℕ, zero, suc, ◌+◌, ◌*◌, ◌-◌, ◌^◌, ◌<◌, ◌≤◌, arith, refl, ap, sym, ◌∙◌, List, [], ◌∷◌, cond, nat_le, pow-add}
use Rattle.std.proofs.Math.Nat.{pow-succ', pow-zero}
use Rattle.std.proofs.lemmas.Bool.Decides.{nat_tests}
use Rattle.halo_sums.specs.Sums.{numbers_from, product_over, sum_over}
use Rattle.halo_sums.proofs.Numbers.{numbers_from-split, sum_over-numbers_ext, sum_over-numbers_next, sum_over-numbers_none}
use Rattle.halo_sums.proofs.Sums.{sum_over-append, sum_over-ext, sum_over-scale_right}
use Rattle.halo_status.specs.Tree.{life}
use Rattle.halo_status.specs.declared.pay.Kind.TheVariants.{Due, Insurance}
use Rattle.halo_table.specs.DecrementTable.{TableFile, HasRow}
use Rattle.halo_table.specs.Sound.{IsSound}
use Rattle.halo_model.specs.Basis.{Basis, accumulated, discounted}
use Rattle.halo_model.specs.Columns.{ColumnBasis, ColumnsAgree, ColumnsAgreeOnOneLife, column_c, column_d, discount_power, end_age, leavers, sum_from, survivors}
use Rattle.halo_model.specs.FromTables.{life_of}
use Rattle.halo_model.specs.Life.{IsLife, PlainLife}
use Rattle.halo_contract.specs.declared.ties.Ties.{Ties}
use Rattle.halo_contract.specs.declared.ties.Ties.TheVariants.{Declared}
use Rattle.halo_contract.specs.Premium.{all_lives}
use Rattle.halo_model.specs.SmallBasis.{plain}
use Rattle.halo_model.specs.Value.{denominator, numerator}
use Rattle.halo_model.proofs.DueOnOneLife.{due-on-one-life}
use Rattle.halo_model.proofs.FromTables.{life_of-IsLife}
use Rattle.halo_model.proofs.InsuranceOnOneLife.{insurance-on-one-life}

-- a product of equal factors is a power
product-constant : (c count first : ℕ) → product_over (numbers_from first count) (λ k. c) ≡ c ^ count
product-constant c zero first = sym (pow-zero c)
product-constant c (suc count) first = ap (λ n. c * n) (product-constant c count (suc first)) ∙ sym (pow-succ' c count)

-- sums over numbers from a later first one
sum-later : (first count : ℕ) (f : ℕ → ℕ)
    → sum_over (numbers_from first count) f ≡ sum_over (numbers_from 0 count) (λ t. f (first + t))
sum-later zero count f = sum_over-ext (numbers_from 0 count) _ _ (λ t. ap f (omega arith))
sum-later (suc first) count f = sum_over-numbers_next count first f
    ∙ sum-later first count (λ i. f (suc i)) ∙ sum_over-ext (numbers_from 0 count) _ _ (λ t. ap f (omega arith))

-- with one fraction of interest, discounts and interest are powers
module _ (p q last_time : ℕ) (lives : List PlainLife) (ties : Ties) where
  abbrev level_basis : Basis
  level_basis = record { p = λ k. p; q = λ k. q; last_time = last_time; lives = lives; ties = ties }

  discounted-is : (t : ℕ) → discounted level_basis 0 t ≡ q ^ t * (p + q) ^ (last_time - t)
  discounted-is t = let years : t - 0 ≡ t = omega arith in
      rw (years, product-constant q t 0, product-constant (p + q) (last_time - t) t) refl

  accumulated-is : accumulated level_basis 0 ≡ (p + q) ^ last_time
  accumulated-is = let years : last_time - 0 ≡ last_time = omega arith in
      rw (years, product-constant (p + q) last_time 0) refl

-- discounts from age x for t years, in two kinds of parts
powers-meet : (q s last_time end x t : ℕ) → t ≤ last_time → x + t ≤ end
    → q ^ t * s ^ (last_time - t) * (q ^ x * s ^ (end - x)) ≡ q ^ (x + t) * s ^ (end - (x + t)) * s ^ last_time
powers-meet q s last_time end x t within on_table =
    let after : end - x ≡ end - (x + t) + t = omega arith in
    let whole : last_time ≡ last_time - t + t = omega arith in
    let a : s ^ (end - x) ≡ s ^ (end - (x + t)) * s ^ t = ap (λ n. s ^ n) after ∙ pow-add s (end - (x + t)) t in
    let b : s ^ last_time ≡ s ^ (last_time - t) * s ^ t = ap (λ n. s ^ n) whole ∙ pow-add s (last_time - t) t in
    let c : q ^ (x + t) ≡ q ^ x * q ^ t = pow-add q x t in
    rw (a, b, c) (omega arith)

module _ (p q : ℕ) (file : TableFile) (table age last_time : ℕ) (ties : Ties) where
  abbrev x : PlainLife
  x = life_of file table age

  abbrev b : Basis
  b = level_basis p q last_time (x ∷ []) ties

  abbrev c : ColumnBasis
  c = record { p = λ k. p; q = λ k. q; file = file; table = table }

  discounts-meet : (t : ℕ) → t ≤ last_time
      → age + t ≤ end_age c → discounted b 0 t * discount_power c age ≡ discount_power c (age + t) * accumulated b 0
  unfolding discount_power
  discounts-meet t within on_table =
      rw (
        discounted-is p q last_time (x ∷ []) ties t,
        accumulated-is p q last_time (x ∷ []) ties,
        discounted-is p q
            (end_age c) [] Declared age,
        discounted-is p q (end_age c) [] Declared (age + t),
      )
      (powers-meet q (p + q) last_time (end_age c) age t within on_table)

  -- a sum of present values over some years is the sum of the column from the age on
  sums-meet : (present column : ℕ → ℕ) (d den : ℕ)
      → ((t : ℕ) → t < x.years_left → present t * d ≡ column (age + t) * den)
      → sum_over (numbers_from 0 x.years_left) present * d ≡ sum_from c column age * den
  sums-meet present column d den each =
      sym (sum_over-scale_right (numbers_from 0 x.years_left) d present)
      ∙ sum_over-numbers_ext x.years_left 0 _ _ (λ t from to. each t (omega arith))
      ∙ sum_over-scale_right (numbers_from 0 x.years_left) den (λ t. column (age + t))
      ∙ ap (λ n. n * den) (sym (sum-later age x.years_left column))

  module _ (sound : IsSound file) (row : HasRow file table age) (within : x.years_left ≤ last_time) where
    from-start : (t n : ℕ) → cond (nat_le 0 t) n 0 ≡ n
    from-start t n = grind (arith, nat_tests)

    rule : IsLife x
    rule = life_of-IsLife file sound table age row.table_in row.from_first

    start : x.survivors 0 ≡ survivors c age
    start = ap (survivors c) (omega arith)

    due-sum : numerator b (plain Due (life 0)) 0 all_lives
        ≡ sum_over (numbers_from 0 x.years_left) (λ t. discounted b 0 t * x.survivors t)
    due-sum =
        let years : x.years_left + (suc last_time - x.years_left) ≡ suc last_time = omega arith in
        (due-on-one-life b x refl rule (plain Due (life 0)) refl refl refl).num
        ∙ sum_over-ext (numbers_from 0 (suc last_time)) _ (λ t. discounted b 0 t * x.survivors t)
        (λ t. from-start t (1 * 1 * discounted b 0 t * x.survivors t) ∙ omega arith)
        ∙ ap (λ n. sum_over (numbers_from 0 n) (λ t. discounted b 0 t * x.survivors t)) (sym years)
        ∙ ap (λ ts. sum_over ts (λ t. discounted b 0 t * x.survivors t))
        (numbers_from-split x.years_left (suc last_time - x.years_left))
        ∙ sum_over-append (numbers_from 0 x.years_left) (numbers_from x.years_left (suc last_time - x.years_left)) _
        ∙ omega (
          arith,
          sum_over-numbers_none (suc last_time - x.years_left) x.years_left
              (λ t. discounted b 0 t * x.survivors t) (λ t from. rw (rule.ends t from) (omega arith)),
        )

    insurance-sum : numerator b (plain Insurance (life 0)) 0 all_lives
        ≡ sum_over (numbers_from 0 x.years_left) (λ k. discounted b 0 (suc k) * leavers c (age + k))
    insurance-sum =
        (insurance-on-one-life b x refl (plain Insurance (life 0)) refl refl refl).num
        ∙ sum_over-ext (numbers_from 0 x.years_left) _ _
        (λ k. from-start k (1 * 1 * discounted b 0 (suc k) * leavers c (age + k)) ∙ omega arith)

    den-is : denominator b 0 all_lives ≡ survivors c age * accumulated b 0
    den-is = (due-on-one-life b x refl rule (plain Due (life 0)) refl refl refl).den
        ∙ ap (λ n. n * accumulated b 0) start

    columns-agree : ColumnsAgree b c age
    columns-agree = record {
      due = rw (due-sum, den-is) (sums-meet
          (λ t. discounted b 0 t * x.survivors t) (column_d c) (column_d c age) (survivors c age * accumulated b 0)
          (λ t before. let e = discounts-meet t (omega arith) (omega arith) in
          omega (arith, ap (λ n. n * (survivors c (age + t) * survivors c age)) e)));
      insurance = rw (insurance-sum, den-is) (sums-meet (λ k. discounted b 0 (suc k) * leavers c (age + k))
          (column_c c) (column_d c age) (survivors c age * accumulated b 0)
          (λ k before.
          let next : age + suc k ≡ age + k + 1 = omega arith in
          let e : discounted b 0 (suc k) * discount_power c age ≡ discount_power c (age + k + 1) * accumulated b 0
          = rw next at (discounts-meet (suc k) (omega arith) (omega arith)) in
          omega (arith, ap (λ n. n * (leavers c (age + k) * survivors c age)) e)));
    }

pub columns-agree-on-one-life : ColumnsAgreeOnOneLife
columns-agree-on-one-life p q file table age last_time ties sound row within =
    columns-agree p q file table age last_time ties sound row within
