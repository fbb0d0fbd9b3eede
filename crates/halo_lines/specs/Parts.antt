-- The explanation of a contract: the parts of each pay, each with an enclosure.
use Rattle.std.specs.Prelude.{◌≡◌, ◌<◌, ◌^◌, ⊤, ℕ, List, length, map}
use Rattle.std.specs.Global.{Vec}
use Rattle.std.specs.List.{AllZip}
use Rattle.halo_sums.specs.Masks.{bits}
use Rattle.halo_num.specs.declared.nano.Nano.{Nano}
use Rattle.halo_status.specs.Pay.{PlainPay}
use Rattle.halo_table.specs.DecrementTable.{TableFile}
use Rattle.halo_contract.specs.PlainContract.{PlainContract}
use Rattle.halo_model.specs.Basis.{Basis}
use Rattle.halo_model.specs.Coefficient.{form}
use Rattle.halo_model.specs.ContractBasis.{contract_basis}
use Rattle.halo_model.specs.PayPart.{ArePartsOf, IsPartLine, PayPart, by_set, on_life, on_term}
use Rattle.halo_lines.specs.Printable.{IsPrintable}
use Rattle.halo_lines.specs.declared.parts.Part.{Part}
use Rattle.halo_lines.specs.declared.parts.Part.TheVariants as part

-- a part in memory is what it is of a pay: the same times, coefficient and set of lives, the same
-- life, or the same length of a term; and its ends enclose what it is worth
abbrev pub TellsPart : Basis → PlainPay → PayPart → Part → Type 0
TellsPart b pay (by_set run s) (part.Term from to coefficient set worth) =
    (run ≡ record { first = from; last = to }) × (s ≡ bits (length b.lives) set)
    × (coefficient ≡ form pay from s) × IsPartLine b pay (by_set run s) worth
TellsPart b pay (on_life a) (part.OnLife life worth) =
    (a ≡ life) × IsPartLine b pay (on_life a) worth
TellsPart b pay (on_term n) (part.OnTerm years worth) =
    (n ≡ years) × IsPartLine b pay (on_term n) worth
TellsPart b pay _ _ = ⊥

-- what a part is worth
abbrev pub worth_of : Part → Nano
worth_of (part.Term from to coefficient set worth) = worth
worth_of (part.OnLife life worth) = worth
worth_of (part.OnTerm years worth) = worth

-- the lives that a part names are below a number
abbrev pub HasLivesBelow : ℕ → Part → Type 0
HasLivesBelow n (part.Term from to coefficient set worth) = set < 2 ^ n
HasLivesBelow n (part.OnLife life worth) = life < n
HasLivesBelow n (part.OnTerm years worth) = ⊤

-- a part of n lives that can be printed
pub record IsPrintablePart (n : ℕ) (p : Part) : Type 0 where
  pub lives : HasLivesBelow n p
  pub worth : IsPrintable (worth_of p)

-- lists of parts in memory as plain data
abbrev pub parts_of : List (Vec Part) → List (List Part)
parts_of lists = map (λ parts. parts.items) lists

-- the parts of a pay, in their order, and no other
abbrev pub ExplainsPay : Basis → PlainPay → List Part → Type 0
ExplainsPay b pay told = (parts : List PayPart) × ArePartsOf b pay parts
    × AllZip (TellsPart b pay) parts told

-- the explanation of a contract: of each of its pays, in their order
abbrev pub ExplainsContract : TableFile → PlainContract → List (List Part) → Type 0
ExplainsContract tables contract told =
    AllZip (ExplainsPay (contract_basis tables contract)) contract.pays told
