-- What the lines of a contract file have said, and what a line adds to those before it.
use Rattle.std.specs.Prelude.{ℕ, List, [], ◌∷◌, ◌++◌, Bool, Option, None, Some, bytes_eq, map, unwrap_or}
use Rattle.std.specs.List.{list_any, position_or_len}
use Rattle.halo_sums.specs.SetMasks.{mask_of}
use Rattle.halo_text.specs.Number.{number}
use Rattle.halo_interest.specs.declared.rate.Rate.{Rate}
use Rattle.halo_status.specs.Pay.{PlainPay}
use Rattle.halo_status.specs.declared.pay.Vary.{Vary}
use Rattle.halo_status.specs.declared.pay.Vary.TheVariants as paid
use Rattle.halo_status.specs.declared.pay.Mark.{Mark}
use Rattle.halo_contract.specs.Premium.{premium_pay}
use Rattle.halo_table.specs.DecrementTable.{TableFile, names_of}
use Rattle.halo_table.specs.declared.lives.Life.{Life}
use Rattle.halo_symbol.specs.Symbol as written
use Rattle.halo_symbol.specs.Symbol.{Names, Symbol, level, increasing, decreasing}
use Rattle.halo_symbol.specs.StatusOf.{tree_of_body, tree_of_symbol}
use Rattle.halo_syntax.specs.Line.{Line, interest, life, ties, pay, premium, reserve, LaterRate}
use Rattle.halo_contract.specs.declared.contract.LifeLine.{LifeLine}
use Rattle.halo_contract.specs.declared.contract.ReserveLine.{ReserveLine}
use Rattle.halo_contract.specs.PlainContract.{PlainContract, life_names}
use Rattle.halo_contract.specs.declared.ties.Ties.{Ties}
use Rattle.halo_contract.specs.declared.ties.Ties.TheVariants.{Declared}

-- what some lines of a contract have said so far
pub record Draft : Type 0 where
  -- the fractions of interest, if a line has said them
  pub interest : Option (List Rate)
  -- the lives, in the order in which they are declared
  pub lives : List LifeLine
  -- the rule for ties, if a line has said one
  pub ties : Option Ties
  pub pays : List PlainPay
  -- what a premium of 1 pays, if a line has said on which status
  pub premium : Option PlainPay
  pub reserves : List ReserveLine

-- what is said before the first line
abbrev pub empty_draft : Draft
empty_draft = record {
  interest = None;
  lives = [];
  ties = None;
  pays = [];
  premium = None;
  reserves = [];
}

-- whether a name is one of some names
abbrev pub is_among : List (List ℕ) → List ℕ → Bool
is_among names name = list_any (λ other. bytes_eq other name) names

-- the place of a name among some names, from 0, and how many there are where it is none of them
abbrev pub place_of : List (List ℕ) → List ℕ → ℕ
place_of names name = position_or_len (λ other. bytes_eq other name) names

-- which of all names are among some names, as bits
abbrev pub mask_of_names : List (List ℕ) → List (List ℕ) → ℕ
mask_of_names all names = mask_of (map (is_among names) all)

-- the fraction P/Q from a year on
abbrev pub rate_from : LaterRate → Rate
rate_from rate = record { year = number rate.year; p = number rate.p; q = number rate.q }

-- how the payments of a symbol vary
abbrev pub vary_of : written.Vary → Vary
vary_of level = paid.Level
vary_of increasing = paid.Increasing
vary_of (decreasing count) = paid.Decreasing (number count)

-- the years of a deferral, 0 where none is written
abbrev pub defer_of : Option (List ℕ) → ℕ
defer_of None = 0
defer_of (Some years) = number years

-- all names of a set
abbrev pub all_names : Names → List (List ℕ)
all_names names = names.first ∷ names.others

-- the causes of a set, by their places in the tables file
abbrev pub causes_of : List (List ℕ) → Option Names → Option ℕ
causes_of causes None = None
causes_of causes (Some names) = Some (mask_of_names causes (all_names names))

-- the mark of a symbol
abbrev pub mark_of : Option written.Mark → Option Mark
mark_of None = None
mark_of (Some mark) = Some (record { member = mark.member; rank = number mark.rank })

-- the pay that an amount and a symbol write, where the lives and the causes have these names
abbrev pub pay_written : List (List ℕ) → List (List ℕ) → List ℕ → Symbol → PlainPay
pay_written lives causes amount s = record {
  amount = number amount;
  vary = vary_of s.vary;
  kind = s.kind;
  defer = defer_of s.defer;
  causes = causes_of causes s.causes;
  body = tree_of_symbol (place_of lives) s;
  mark = mark_of s.mark;
}

-- what some lines say with one more
unfoldable pub with_line : TableFile → Draft → Line → Draft
with_line tables d (interest p q rates) =
    let first : Rate = record { year = 0; p = number p; q = number q } in
    record d { interest = Some (first ∷ map rate_from rates) }
with_line tables d (life name table age) =
    let place = place_of (names_of tables.tables) table in
    let declared : Life = record { table = place; age = number age } in
    record d { lives = d.lives ++ record { name = name; life = declared } ∷ [] }
with_line tables d (ties r) = record d { ties = Some r }
with_line tables d (pay amount symbol) =
    record d { pays = d.pays ++ pay_written (life_names d.lives) tables.causes amount symbol ∷ [] }
with_line tables d (premium status) =
    record d { premium = Some (premium_pay (tree_of_body (place_of (life_names d.lives)) status)) }
with_line tables d (reserve time names) =
    let alive : ℕ = mask_of_names (life_names d.lives) names in
    record d { reserves = d.reserves ++ record { time = number time; alive = alive } ∷ [] }

-- the contract that some lines make: where no line says a rule for ties, the declared order settles
-- them
abbrev pub contract_made : Draft → PlainContract
contract_made d = record {
  interest = unwrap_or d.interest [];
  lives = d.lives;
  ties = unwrap_or d.ties Declared;
  pays = d.pays;
  premium = d.premium;
  reserves = d.reserves;
}
