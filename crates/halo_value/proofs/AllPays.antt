-- The values of all pays at one time, and that they have room together.
use Rattle.std.proofs.Common.{ℕ, ◌<◌, Bool, List, Option, Some, None, [], ◌∷◌, length, pos, subst, arith}
use Rattle.std.specs.Prelude.{All, IfSome}
use Rattle.std.specs.List.{AllZip}
use Rattle.std.proofs.lemmas.Int.{ints}
use Rattle.std.proofs.lemmas.List.Elements.{All-cons}
use Rattle.std.proofs.lemmas.Slice.Zip.{AllZip-long}
use Rattle.halo_sums.specs.Masks.{has_bit}
use Rattle.halo_num.specs.Ends.{Ends, IsWithin}
use Rattle.halo_num.specs.declared.limits.TheConstants.{GREATEST_DIVISOR}
use Rattle.halo_status.specs.Pay.{PlainPay}
use Rattle.halo_contract.specs.Premium.{all_lives, premium_pay}
use Rattle.halo_contract.specs.declared.contract.ReserveLine.{ReserveLine}
use Rattle.halo_model.specs.Basis.{Basis}
use Rattle.halo_model.specs.Enclosed.{EnclosesOne}
use Rattle.halo_model.specs.EnclosureLaws.{IsShortPay}
use Rattle.halo_model.proofs.Sizes.{due-fits}
use Rattle.halo_life.specs.Lists.{entry, nothing}
use Rattle.halo_lines.specs.Values.{AreValues, HaveRoom}
use Rattle.halo_lines.proofs.Room.{values-have-room}
use Rattle.halo_value.specs.ContractValues.{AreContractValues, CanBeAddedAt, CanDivide}
use Rattle.halo_value.specs.ContractValues.{CanMultiplyAt, starts_of, values_at}
use Rattle.halo_value.specs.PayValues.{AreDueValues, ArePremiumValues, AreValuesOf}
use Rattle.halo_value.specs.Reading.{reserve_at}
use Rattle.halo_value.specs.declared.pass.PayValues.{PayValues}
use Rattle.halo_value.proofs.Zips.{zip-at}

module _ (b : Basis) (reserves : List ReserveLine) where
  abbrev pub AreAll : List PlainPay → List PayValues → Type 0
  AreAll pays values = AllZip (AreValuesOf b reserves) pays values

  pub all-short : (pays : List PlainPay) (values : List PayValues) → AreAll pays values → All (IsShortPay b) pays
  all-short [] [] are = λ k d within. absurd (omega arith)
  all-short (pay ∷ pays) (value ∷ values) are =
      All-cons (IsShortPay b) pay pays are.0.short (all-short pays values are.1)
  all-short [] (value ∷ values) are = absurd are
  all-short (pay ∷ pays) [] are = absurd are

  -- at the start with all lives alive
  pub starts-are : (pays : List PlainPay) (values : List PayValues) → AreAll pays values
      → AreValues b 0 all_lives pays (starts_of values)
  starts-are [] [] are = tt
  starts-are (pay ∷ pays) (value ∷ values) are = (are.0.start, starts-are pays values are.1)
  starts-are [] (value ∷ values) are = absurd are
  starts-are (pay ∷ pays) [] are = absurd are

  module _ (place : ℕ) (within : place < length reserves) where
    -- the value of one pay at the reserve of a place
    pub later-at : (pay : PlainPay) (values : List Ends)
        → AllZip (λ reserve value. EnclosesOne b pay reserve.time (has_bit reserve.alive) value) reserves values
        → EnclosesOne b pay (reserve_at reserves place).time (has_bit (reserve_at reserves place).alive) (entry
        values place)
    later-at pay values are =
        zip-at (λ reserve value. EnclosesOne b pay reserve.time (has_bit reserve.alive) value)
        reserves values place (record { time = 0; alive = 0 }) nothing are within

    -- at the reserve of a place
    pub later-are : (pays : List PlainPay) (values : List PayValues) → AreAll pays values
        → AreValues b (reserve_at reserves place).time (has_bit (reserve_at reserves place).alive)
        pays (values_at values place)
    later-are [] [] are = tt
    later-are (pay ∷ pays) (value ∷ values) are =
        (later-at pay value.later.items are.0.later, later-are pays values are.1)
    later-are [] (value ∷ values) are = absurd are
    later-are (pay ∷ pays) [] are = absurd are

    pub all-read : (pays : List PlainPay) (values : List PayValues) → AreAll pays values
        → All (λ (value : PayValues). place < length value.later.items) values
    all-read [] [] are = λ k d below. absurd (omega arith)
    all-read (pay ∷ pays) (value ∷ values) are =
        All-cons (λ (value : PayValues). place < length value.later.items) value values
        (omega (
          arith,
          within,
          AllZip-long (λ reserve value. EnclosesOne b pay reserve.time (has_bit reserve.alive) value) reserves
              value.later.items
              are.0.later,
        )) (all-read pays values are.1)
    all-read [] (value ∷ values) are = absurd are
    all-read (pay ∷ pays) [] are = absurd are

-- the values of a premium of 1 are small
module _ (b : Basis) (reserves : List ReserveLine) (pay : PlainPay) (due : PayValues) (are : AreDueValues b reserves
    pay due) where
  premium-small : (T : ℕ) (S : ℕ → Bool) (i : Ends) → EnclosesOne b pay T S i
      → IsWithin i (pos 0) (pos GREATEST_DIVISOR)
  premium-small T S i is =
      let level : EnclosesOne b (premium_pay pay.body) T S i =
      subst (λ (p : PlainPay). EnclosesOne b p T S i) are.level is in
      record {
        low = level.within.low;
        high = omega (arith, ints, level.within.high, due-fits b pay.body are.of_pay.short.years);
      }

  pub can-divide : CanDivide due
  can-divide = record { from = are.one; to = (premium-small 0 all_lives due.start are.of_pay.start).high }

  pub can-multiply : (place : ℕ) → place < length reserves → CanMultiplyAt place due.later.items
  can-multiply place within = record {
    read = omega (
      arith,
      within,
      AllZip-long (λ reserve value. EnclosesOne b pay reserve.time (has_bit reserve.alive) value) reserves
          due.later.items
          are.of_pay.later,
    );
    within = premium-small (reserve_at reserves place).time (has_bit (reserve_at reserves place).alive)
        (entry due.later.items place) (later-at b reserves place within pay due.later.items are.of_pay.later);
  }

-- what is asked of the values of a contract
module _ (b : Basis) (pays : List PlainPay) (premium : Option PlainPay) (reserves : List ReserveLine)
    (values : List PayValues) (due : Option PayValues) (are : AreContractValues b pays premium reserves values due)
  where
    pub start-room : HaveRoom pays (starts_of values)
    start-room = values-have-room b 0 all_lives pays (starts_of values) (all-short b reserves pays values are.of_pays)
        are.amounts (starts-are b reserves pays values are.of_pays)

    pub can-be-added : (place : ℕ) → place < length reserves → CanBeAddedAt pays values place
    can-be-added place within = record {
      read = all-read b reserves place within pays values are.of_pays;
      room = values-have-room b (reserve_at reserves place).time (has_bit (reserve_at reserves place).alive) pays
          (values_at values place) (all-short b reserves pays values are.of_pays) are.amounts
          (later-are b reserves place within pays values are.of_pays);
    }

pub some-divide : (b : Basis) (reserves : List ReserveLine) (premium : Option PlainPay) (due : Option PayValues)
    → ArePremiumValues b reserves premium due → IfSome due CanDivide
some-divide b reserves None None are = tt
some-divide b reserves (Some pay) (Some due) are = can-divide b reserves pay due are
some-divide b reserves None (Some due) are = absurd are
some-divide b reserves (Some pay) None are = tt

pub some-multiply : (b : Basis) (reserves : List ReserveLine) (premium : Option PlainPay) (due : Option PayValues)
    → ArePremiumValues b reserves premium due → (place : ℕ) → place < length reserves
    → IfSome due (λ values. CanMultiplyAt place values.later.items)
some-multiply b reserves None None are place within = tt
some-multiply b reserves (Some pay) (Some due) are place within = can-multiply b reserves pay due are place within
some-multiply b reserves None (Some due) are place within = absurd are
some-multiply b reserves (Some pay) None are place within = tt
