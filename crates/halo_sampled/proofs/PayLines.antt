-- The lines of the pays of a sample pass all checks.
use Rattle.std.proofs.Common.{◌≡◌, ℕ, zero, suc, ◌+◌, ◌*◌, ◌≤◌, ◌<◌, List, [], ◌∷◌, ◌++◌, arith, length, refl, subst, sym, ◌∙◌}
use Rattle.std.specs.Fmt.{decimal, digits}
use Rattle.std.proofs.lemmas.List.{length_push}
use Rattle.std.proofs.lemmas.List.Sums.{sum_by_push}
use Rattle.halo_interest.specs.declared.rate.Rate.{Rate}
use Rattle.halo_status.specs.Pay.{PlainPay}
use Rattle.halo_text.specs.Number.{number}
use Rattle.halo_symbol.specs.Symbol.{Symbol}
use Rattle.halo_contract.specs.PlainContract.{amount_of_all, life_names}
use Rattle.halo_contract.specs.declared.contract.LifeLine.{LifeLine}
use Rattle.halo_check.specs.Checks.{PassesAll}
use Rattle.halo_check.specs.Draft.{pay_written, with_line}
use Rattle.halo_syntax.specs.Line.{Line}
use Rattle.halo_check.specs.declared.fault.ContractKind.TheVariants as kind
use Rattle.halo_spell.proofs.NumbersBack.{IsNumber-decimal, number-decimal}
use Rattle.halo_sample.specs.declared.contract.TheConstants.{AMOUNTS, LIVES, PAYS, SYMBOLS}
use Rattle.halo_sample.specs.Generator.{drawn, drawn_second, next_state, state_behind_two}
use Rattle.halo_sample.proofs.SampleTables.{drawn-below}
use Rattle.halo_sampled.specs.DrawnLines.{first_reserve, lines_drawn, pay_drawn, symbol_at}
use Rattle.halo_sampled.specs.DrawnTables.{drawn_tables}
use Rattle.halo_sampled.proofs.KnownNames.{sample_causes}
use Rattle.halo_sampled.proofs.LifeLines.{AreLives}
use Rattle.halo_sampled.proofs.SampleDrafts.{Ends, IsGoodLine, drafted, ends-line, pay-in-order}
use Rattle.halo_sampled.proofs.SampleNames.{names_from}
use Rattle.halo_sampled.proofs.SampleSymbols.{IsSoundSymbol, symbol-is-sound}

-- so many pays of a sample
pub record ArePays (count : ℕ) (pays : List PlainPay) : Type 0 where
  pub count_is : length pays ≡ count
  pub amounts : amount_of_all pays ≤ count * AMOUNTS

-- at first there are none
pub no-pays : ArePays 0 []
no-pays = record { count_is = refl; amounts = omega arith }

-- the names of all lives
pub all-names : names_from 1 LIVES ≡ first_reserve
unfolding names_from digits
all-names = refl

-- the line of the pay behind so many
module _ (sample : ℕ) (rates : List Rate) (lives : List LifeLine) (alive : AreLives LIVES lives)
    (pays : List PlainPay) (count s : ℕ) (few : count < PAYS) (are : ArePays count pays) where
  -- its amount and its symbol
  abbrev amount : ℕ
  amount = 1 + drawn AMOUNTS s

  abbrev symbol : Symbol
  symbol = symbol_at (drawn_second SYMBOLS s)

  -- the symbol passes its checks
  sound : IsSoundSymbol (life_names lives) symbol
  sound =
      subst (λ names. IsSoundSymbol names symbol) (sym (alive.names ∙ all-names))
      (symbol-is-sound (drawn_second SYMBOLS s) (drawn-below SYMBOLS (next_state s) (omega arith)))

  -- the amount is not high
  amount-is-low : amount ≤ AMOUNTS
  amount-is-low = omega (arith, drawn-below AMOUNTS s (omega arith))

  -- and its digits write it
  amount-is : number (decimal amount) ≡ amount
  amount-is = number-decimal amount (omega (arith, amount-is-low))

  -- it passes all checks
  passes-pay : PassesAll (drawn_tables sample) (drafted rates lives pays) (pay_drawn s)
  passes-pay kind.Magnitude = (
    omega (arith, amount-is, amount-is-low),
    sound.within,
    omega (arith, few, are.count_is),
    omega (arith, few, are.amounts, amount-is, amount-is-low),
  )
  passes-pay kind.Zero = (omega (arith, amount-is), sound.falls, sound.years)
  passes-pay kind.Order = pay-in-order rates lives pays
  passes-pay kind.Twice = sound.once
  passes-pay kind.NoLife = sound.lives
  passes-pay kind.NoCause = sound.causes
  passes-pay kind.Rank = (sound.ranks, sound.mark)
  passes-pay kind.NotLasting = sound.lasting
  passes-pay kind.Shared = sound.apart
  passes-pay k = tt

  -- so it is a good line
  good-pay : IsGoodLine (drawn_tables sample) (drafted rates lives pays) (pay_drawn s)
  good-pay = record {
    proper = (IsNumber-decimal amount (omega (arith, amount-is-low)), sound.proper);
    depth = sound.depth;
    passes = passes-pay;
  }

  -- what it promises
  abbrev promised : PlainPay
  promised = pay_written (life_names lives) sample_causes (decimal amount) symbol

  -- the pays with that one
  pays-push : ArePays (suc count) (pays ++ promised ∷ [])
  pays-push = record {
    count_is = length_push pays promised ∙ omega (arith, are.count_is);
    amounts = omega (
      arith,
      are.amounts,
      sum_by_push (λ (pay : PlainPay). pay.amount) pays promised,
      amount-is,
      amount-is-low,
    );
  }

  -- where the lines behind it have no fault, neither have they with it
  ends-pay : (lines : List Line)
      → ((more : List PlainPay) → ArePays (suc count) more
      → Ends (drawn_tables sample) (drafted rates lives more) lines)
      → Ends (drawn_tables sample) (drafted rates lives pays) (pay_drawn s ∷ lines)
  unfolding with_line
  ends-pay lines rest =
      ends-line (drawn_tables sample) (drafted rates lives pays) (pay_drawn s) lines good-pay
      (rest (pays ++ promised ∷ []) pays-push)

-- and so for all pays that are left
module _ (sample : ℕ) (rates : List Rate) (lives : List LifeLine) (alive : AreLives LIVES lives) (lines : List Line)
    (rest : (all : List PlainPay) → ArePays PAYS all → Ends (drawn_tables sample) (drafted rates lives all) lines) where
  pub ends-pays : (left count s : ℕ) (pays : List PlainPay) → count + left ≡ PAYS → ArePays count pays
      → Ends (drawn_tables sample) (drafted rates lives pays)
      (lines_drawn (λ _. pay_drawn) left (suc count) s ++ lines)
  unfolding lines_drawn
  ends-pays zero count s pays sum are =
      let all : count ≡ PAYS = omega (arith, sum) in rest pays (subst (λ n. ArePays n pays) all are)
  ends-pays (suc left) count s pays sum are =
      ends-pay sample rates lives alive pays count s (omega (arith, sum)) are
      (lines_drawn (λ _. pay_drawn) left (suc (suc count)) (state_behind_two s) ++ lines)
      (λ more are_more. ends-pays left (suc count) (state_behind_two s) more (omega (arith, sum)) are_more)
