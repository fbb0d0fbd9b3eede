-- A contract as plain data.
use Rattle.std.specs.Prelude.{ℕ, List, Option, map, sum_by}
use Rattle.std.specs.Option.{option_map}
use Rattle.halo_interest.specs.declared.rate.Rate.{Rate}
use Rattle.halo_status.specs.Pay.{PlainPay, pay_of}
use Rattle.halo_contract.specs.declared.contract.Contract.{Contract}
use Rattle.halo_contract.specs.declared.contract.LifeLine.{LifeLine}
use Rattle.halo_contract.specs.declared.contract.ReserveLine.{ReserveLine}
use Rattle.halo_contract.specs.declared.ties.Ties.{Ties}

pub record PlainContract : Type 0 where
  -- the fractions of interest, each from its year on
  pub interest : List Rate
  -- the lives, in the order in which they are declared
  pub lives : List LifeLine
  -- in which order the lives of one year leave
  pub ties : Ties
  pub pays : List PlainPay
  -- what a premium of 1 pays, if a premium is asked for
  pub premium : Option PlainPay
  pub reserves : List ReserveLine

-- a contract in memory as plain data
abbrev pub contract_of : Contract → PlainContract
contract_of contract = record {
  interest = contract.interest;
  lives = contract.lives.items;
  ties = contract.ties;
  pays = map pay_of contract.pays.items;
  premium = option_map pay_of contract.premium;
  reserves = contract.reserves.items;
}

-- the names of some lives
abbrev pub life_names : List LifeLine → List (List ℕ)
life_names lives = map (λ line. line.name) lives

-- the amounts of some pays together
abbrev pub amount_of_all : List PlainPay → ℕ
amount_of_all pays = sum_by (λ pay. pay.amount) pays
