-- The denominators of values are at least 1.
use Rattle.std.proofs.Common.{◌≡◌, ℕ, zero, suc, ◌+◌, ◌-◌, ◌<◌, ◌≤◌, arith, refl, ◌∙◌, List, [], ◌∷◌, map, length, Bool, true, false, cond, Option, Some, None}
use Rattle.std.specs.Prelude.{IfSome, slice_get}
use Rattle.std.specs.Option.{option_map}
use Rattle.std.proofs.Math.Nat.{mul-pos}
use Rattle.std.proofs.lemmas.List.Elements.{All-get_or, All-weaker, All-map}
use Rattle.std.proofs.lemmas.List.{length-map}
use Rattle.std.proofs.lemmas.Option.{slice_get_within, get_or_from_slice_get}
use Rattle.halo_sums.specs.Masks.{has_bit}
use Rattle.halo_sums.specs.Sums.{numbers_from, product_over}
use Rattle.halo_sums.proofs.Sums.{sum_over-const}
use Rattle.halo_interest.proofs.InForce.{in_force_is}
use Rattle.halo_status.specs.Pay.{PlainPay}
use Rattle.halo_status.specs.Tree.{Tree}
use Rattle.halo_table.specs.DecrementTable.{HasRow, TableFile, empty_table, table_of}
use Rattle.halo_table.specs.Sound.{IsSound, IsSoundTable}
use Rattle.halo_table.proofs.LookUps.{sound_row}
use Rattle.halo_contract.specs.PlainContract.{PlainContract}
use Rattle.halo_contract.specs.Premium.{all_lives, premium_pay}
use Rattle.halo_contract.specs.ValidContract.{IsValidContract, IsValidPremium, IsValidReserve}
use Rattle.halo_contract.specs.declared.contract.LifeLine.{LifeLine}
use Rattle.halo_contract.specs.declared.contract.ReserveLine.{ReserveLine}
use Rattle.halo_contract.specs.declared.ties.Ties.{Ties}
use Rattle.halo_contract.specs.declared.ties.Ties.TheVariants.{Even, Declared}
use Rattle.halo_model.specs.ContractBasis.{contract_basis, premium_status}
use Rattle.halo_model.specs.FromTables.{life_of, lives_of}
use Rattle.halo_model.specs.Life.{AreLives, PlainLife, after_first}
use Rattle.halo_model.specs.Order.{orders, orders_taken}
use Rattle.halo_model.specs.Outcome.{joint_survivors}
use Rattle.halo_model.specs.PositiveLaws.{ContractsHavePositiveDenominators, DenominatorIsPositive, HasInterestFrom, HasPositivePremium, HasPositiveReserve, HaveSurvivors, PremiumIsWorthOne}
use Rattle.halo_model.specs.Premium.{premium_denominator, reserve_denominator}
use Rattle.halo_model.specs.Value.{denominator}
use Rattle.halo_model.proofs.AnnuityBounds.{due-is-worth-one}
use Rattle.halo_model.proofs.EvenTies.{factorial-some}
use Rattle.halo_model.proofs.FromTables.{lives_of-AreLives, some-rows}
use Rattle.halo_model.proofs.Orders.{orders-count}

-- there is an order of some lives
pub some-orders : (ties : Ties) (n : ℕ) → 0 < length (orders_taken ties n)
some-orders Declared n = omega arith
some-orders Even n =
    let count = orders-count (numbers_from 0 n) 1 in
    let each = sum_over-const (orders (numbers_from 0 n)) 1 in
    omega (arith, count, each, factorial-some (length (numbers_from 0 n)))

-- lives that each have a survivor have some together
some-survive : (T : ℕ) (S : ℕ → Bool) (lives : List PlainLife)
    → HaveSurvivors T S lives → 0 < joint_survivors T S lives
some-survive T S [] have = omega arith
some-survive T S (x ∷ lives) have = mul-pos (one (S 0) (have 0 x refl))
    (some-survive T (after_first S) lives (λ i y. have (suc i) y))
  where
    one : (alive : Bool) → (alive ≡ true → 1 ≤ x.survivors T) → 0 < cond alive (x.survivors T) 1
    one true survives = survives refl
    one false survives = omega arith

-- 1 is worth something with the interest of some years
pub some-interest : (p q : ℕ → ℕ) (count first : ℕ) → ((k : ℕ) → first ≤ k → k < first + count → 1 ≤ p k + q k)
    → 0 < product_over (numbers_from first count) (λ k. p k + q k)
some-interest p q zero first each = omega arith
some-interest p q (suc count) first each = mul-pos (each first (omega arith) (omega arith))
    (some-interest p q count (suc first) (λ k from below. each k (omega arith) (omega arith)))

pub denominator-is-positive : DenominatorIsPositive
unfolding denominator
denominator-is-positive b T S survivors interest = mul-pos (some-orders b.ties (length b.lives))
    (mul-pos (some-survive T S b.lives survivors)
    (some-interest b.p b.q (b.last_time - T) T (λ k from below. interest k from (omega arith))))

pub premium-is-worth-one : PremiumIsWorthOne
unfolding premium_denominator
premium-is-worth-one b rule status below exists =
    due-is-worth-one b rule (premium_pay status) refl refl refl refl refl below 0 (omega arith) all_lives exists

module _ (tables : TableFile) (sound : IsSound tables) where
  -- a life that has a row at its age then has a survivor
  some-survivor : (table age T : ℕ) → HasRow tables table (age + T) → 1 ≤ (life_of tables table age).survivors T
  some-survivor table age T row =
      let is_sound : IsSoundTable (length tables.causes) (table_of tables table) =
      All-get_or (IsSoundTable (length tables.causes)) tables.tables table empty_table row.table_in sound.tables in
      let some : 0 < length (table_of tables table).rows =
      some-rows (length tables.causes) (table_of tables table).rows is_sound.rows in
      (sound_row (length tables.causes) (table_of tables table).rows
      (age + T - (table_of tables table).first_age) is_sound.rows (omega (arith, some))).some

  -- declared lives of a set that each have a row at their age then have survivors
  have-survivors : (T : ℕ) (S : ℕ → Bool) (lives : List LifeLine)
      → ((i : ℕ) (declared : LifeLine) → slice_get lives i ≡ Some declared → S i ≡ true
      → HasRow tables declared.life.table (declared.life.age + T))
      → HaveSurvivors T S (lives_of tables (map (λ declared. declared.life) lives))
  have-survivors T S [] rows i x at alive = absurd (cc)
  have-survivors T S (line ∷ lives) rows zero x at alive =
      let is : life_of tables line.life.table line.life.age ≡ x = cc in
      rw (← is) (some-survivor line.life.table line.life.age T (rows 0 line refl alive))
  have-survivors T S (line ∷ lives) rows (suc i) x at alive =
      have-survivors T (after_first S) lives (λ j. rows (suc j)) i x at alive

  module _ (contract : PlainContract) (valid : IsValidContract tables contract) where
    has-interest : (T : ℕ) → HasInterestFrom T (contract_basis tables contract)
    has-interest T k from below = omega (arith, (in_force_is contract.interest valid.interest k).q_from)

    positive : (T : ℕ) (S : ℕ → Bool) → ((i : ℕ) (declared : LifeLine) → slice_get contract.lives i ≡ Some declared
        → S i ≡ true → HasRow tables declared.life.table (declared.life.age + T))
        → 1 ≤ denominator (contract_basis tables contract) T S
    positive T S rows = denominator-is-positive (contract_basis tables contract) T S
        (have-survivors T S contract.lives rows) (has-interest T)

    at-start : 1 ≤ denominator (contract_basis tables contract) 0 all_lives
    at-start = positive 0 all_lives row
      where
        row : (i : ℕ) (declared : LifeLine) → slice_get contract.lives i ≡ Some declared → true ≡ true
            → HasRow tables declared.life.table (declared.life.age + 0)
        row i declared at alive =
            let here : HasRow tables declared.life.table declared.life.age =
            rw (get_or_from_slice_get contract.lives i declared declared at) at
            (All-get_or (λ line. HasRow tables line.life.table line.life.age) contract.lives i declared
            (slice_get_within contract.lives i declared at) valid.rows) in
            record { table_in = here.table_in; from_first = omega arith; to_last = omega arith }

    premium-positive : (pay : PlainPay) → IsValidPremium (length contract.lives) (length tables.causes) pay
        → HasPositivePremium tables contract pay.body
    premium-positive pay premium = record { worth_one = worth; of_premium = omega (arith, at-start, worth) }
      where
        rule : AreLives (contract_basis tables contract).lives
        rule = lives_of-AreLives tables sound (map (λ declared. declared.life) contract.lives)
            (All-map (λ life. HasRow tables life.table life.age) (λ declared. declared.life) contract.lives valid.rows)

        count : length (contract_basis tables contract).lives ≡ length contract.lives
        count = length-map (map (λ declared. declared.life) contract.lives)
            (λ life. life_of tables life.table life.age) ∙ length-map contract.lives (λ declared. declared.life)

        worth : denominator (contract_basis tables contract) 0 all_lives
            ≤ premium_denominator (contract_basis tables contract) pay.body
        worth = premium-is-worth-one (contract_basis tables contract) rule pay.body
            (λ i named. omega (arith, count, premium.among.named i named)) premium.at_start

    premium-by : (premium : Option PlainPay) → IfSome premium (IsValidPremium (length contract.lives)
        (length tables.causes)) → IfSome (option_map (λ pay. pay.body) premium) (HasPositivePremium tables contract)
    premium-by None is = tt
    premium-by (Some pay) is = premium-positive pay is

    -- with and without a premium
    reserve-by : (premium : Option Tree) → IfSome premium (HasPositivePremium tables contract)
        → (T : ℕ) (S : ℕ → Bool) → 1 ≤ denominator (contract_basis tables contract) T S
        → 1 ≤ reserve_denominator (contract_basis tables contract) premium T S
    unfolding reserve_denominator
    reserve-by None is T S of_values = of_values
    reserve-by (Some status) is T S of_values = mul-pos of_values is.of_premium

    premium : IfSome (premium_status contract) (HasPositivePremium tables contract)
    premium = premium-by contract.premium valid.premium

    reserve-positive : (reserve : ReserveLine)
        → IsValidReserve tables contract.lives reserve → HasPositiveReserve tables contract reserve
    reserve-positive reserve is =
        let of_values = positive reserve.time (has_bit reserve.alive) is.alive in record {
          of_values = of_values;
          of_reserve = reserve-by (premium_status contract) premium reserve.time (has_bit reserve.alive) of_values;
        }

pub contracts-have-positive-denominators : ContractsHavePositiveDenominators
contracts-have-positive-denominators tables sound contract valid = record {
  at_start = at-start tables sound contract valid;
  premium = premium tables sound contract valid;
  reserves = All-weaker (IsValidReserve tables contract.lives) (HasPositiveReserve tables contract)
      (reserve-positive tables sound contract valid) contract.reserves valid.reserves;
}
