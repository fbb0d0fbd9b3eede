-- What holds of each contract that a file without fault writes, so that it can be valued.
use Rattle.std.specs.Prelude.{◌≡◌, ℕ, ◌+◌, ◌<◌, ◌≤◌, ◌^◌, All, IfSome, List, Some, length, slice_get, true}
use Rattle.halo_sums.specs.Masks.{has_bit}
use Rattle.halo_interest.specs.Rates.{IsInterest}
use Rattle.halo_status.specs.Exists.{exists}
use Rattle.halo_status.specs.Naming.{NamesLivesBelow}
use Rattle.halo_status.specs.Pay.{PlainPay}
use Rattle.halo_status.specs.ValidPay.{IsValidPay}
use Rattle.halo_status.specs.View.{is_on}
use Rattle.halo_status.specs.declared.view.View.TheVariants.{Due}
use Rattle.halo_table.specs.DecrementTable.{HasRow, TableFile}
use Rattle.halo_contract.specs.PlainContract.{PlainContract, amount_of_all}
use Rattle.halo_contract.specs.Premium.{all_lives, premium_pay}
use Rattle.halo_contract.specs.declared.contract.LifeLine.{LifeLine}
use Rattle.halo_contract.specs.declared.contract.ReserveLine.{ReserveLine}
use Rattle.halo_contract.specs.declared.limits.TheConstants.{LAST_RESERVE, LARGEST_TOTAL, MOST_LIVES, MOST_PAYS, MOST_RESERVES}

-- a valid pay that names none but so many lives and so many causes
pub record IsValidAmong (lives causes : ℕ) (p : PlainPay) : Type 0 where
  pub valid : IsValidPay p
  pub named : NamesLivesBelow lives p.body
  pub by_cause : IfSome p.causes (λ mask. mask < 2 ^ causes)

-- what a premium of 1 pays on a status that exists at time 0 with all lives alive
pub record IsValidPremium (lives causes : ℕ) (p : PlainPay) : Type 0 where
  pub among : IsValidAmong lives causes p
  pub level : p ≡ premium_pay p.body
  pub at_start : exists all_lives (is_on Due 0) p.body ≡ true

-- a life that has a row in its table at its age plus t: it can be alive at time t
abbrev pub CanBeAlive : TableFile → ℕ → LifeLine → Type 0
CanBeAlive tables t declared = HasRow tables declared.life.table (declared.life.age + t)

-- a reserve is for a set of declared lives, each of which can be alive at its time
pub record IsValidReserve (tables : TableFile) (lives : List LifeLine) (reserve : ReserveLine)
    : Type 0 where
  pub time_in : reserve.time ≤ LAST_RESERVE
  pub declared : reserve.alive < 2 ^ length lives
  pub alive : (i : ℕ) (declared : LifeLine) → slice_get lives i ≡ Some declared
      → has_bit reserve.alive i ≡ true → CanBeAlive tables reserve.time declared

-- the interest is one, each life has a row at its age, and each pay, the premium and each reserve
-- is valid with these lives and the causes of the tables
pub record IsValidContract (tables : TableFile) (contract : PlainContract) : Type 0 where
  pub interest : IsInterest contract.interest
  pub some_lives : 1 ≤ length contract.lives
  pub few_lives : length contract.lives ≤ MOST_LIVES
  pub rows : All (λ declared. HasRow tables declared.life.table declared.life.age) contract.lives
  pub some_pays : 1 ≤ length contract.pays
  pub few_pays : length contract.pays ≤ MOST_PAYS
  pub amounts : amount_of_all contract.pays ≤ LARGEST_TOTAL
  pub pays : All (IsValidAmong (length contract.lives) (length tables.causes)) contract.pays
  pub premium : IfSome contract.premium
      (IsValidPremium (length contract.lives) (length tables.causes))
  pub few_reserves : length contract.reserves ≤ MOST_RESERVES
  pub reserves : All (IsValidReserve tables contract.lives) contract.reserves
