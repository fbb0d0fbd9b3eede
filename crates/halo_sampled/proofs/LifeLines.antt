-- The lines of the interest and the lives of a sample pass all checks.
use Rattle.std.proofs.Common.{◌≡◌, ℕ, zero, suc, ◌+◌, ◌≤◌, ◌<◌, List, [], ◌∷◌, ◌++◌, ap, arith, length, refl, subst, sym, ◌∙◌}
use Rattle.std.specs.Prelude.{All, codes}
use Rattle.std.specs.Fmt.{decimal, digits}
use Rattle.std.proofs.lemmas.List.{length-map, map_push}
use Rattle.std.proofs.lemmas.List.Elements.{All-nil, All-push}
use Rattle.halo_interest.specs.declared.rate.Rate.{Rate}
use Rattle.halo_text.specs.Number.{IsNumber, number}
use Rattle.halo_table.specs.DecrementTable.{TableFile, names_of}
use Rattle.halo_contract.specs.PlainContract.{life_names}
use Rattle.halo_contract.specs.declared.contract.LifeLine.{LifeLine}
use Rattle.halo_check.specs.Checks.{IsSome, PassesAll}
use Rattle.halo_check.specs.Draft.{empty_draft, place_of, with_line}
use Rattle.halo_check.specs.Limits.{IsRateWithin}
use Rattle.halo_syntax.specs.Line.{LaterRate, Line}
use Rattle.halo_syntax.specs.ProperLine.{IsProperRate}
use Rattle.halo_check.specs.declared.fault.ContractKind.TheVariants as kind
use Rattle.halo_spell.proofs.NumbersBack.{IsNumber-decimal, number-decimal}
use Rattle.halo_sample.specs.declared.contract.TheConstants.{AGES, LIVES, RATES, YOUNGEST}
use Rattle.halo_sample.specs.declared.tables.TheConstants.{TABLES}
use Rattle.halo_sample.specs.Generator.{drawn, drawn_second, next_state, state_behind_two}
use Rattle.halo_sample.proofs.SampleTables.{drawn-below}
use Rattle.halo_sampled.specs.DrawnLines.{interest_drawn, life_drawn, life_name, lines_drawn, table_name}
use Rattle.halo_sampled.specs.DrawnTables.{drawn_tables}
use Rattle.halo_sampled.proofs.DrawnAges.{age-is-there, place-is-low, table-is-known}
use Rattle.halo_sampled.proofs.SampleDrafts.{Ends, IsGoodLine, drafted, ends-line, interest-in-order, life-in-order}
use Rattle.halo_sampled.proofs.SampleNames.{count-of-names, life-is-name, life-is-short, name-is-new, names-push, names_from, table-is-name, table-is-short}

-- a life of a sample: its table is one of those that are drawn, and it is not old
pub record IsSampleLife (declared : LifeLine) : Type 0 where
  pub table : declared.life.table < TABLES
  pub age : declared.life.age < YOUNGEST + AGES

-- so many lives of a sample
pub record AreLives (count : ℕ) (lives : List LifeLine) : Type 0 where
  pub names : life_names lives ≡ names_from 1 count
  pub each : All IsSampleLife lives

-- at first there are none
pub no-lives : AreLives 0 []
unfolding names_from
no-lives = record { names = refl; each = All-nil IsSampleLife }

-- they are so many
pub count-of-lives : (count : ℕ) (lives : List LifeLine) → AreLives count lives → length lives ≡ count
count-of-lives count lives are =
    sym (length-map lives (λ (declared : LifeLine). declared.name)) ∙ ap length are.names ∙ count-of-names 1 count

-- the line of the interest
module _ (s : ℕ) where
  -- how many hundredths it is
  abbrev rate : ℕ
  rate = 1 + drawn RATES s

  -- at most nine
  rate-is-low : rate ≤ 9
  rate-is-low = omega (arith, drawn-below RATES s (omega arith))

  -- and its digits write it
  rate-is : number (decimal rate) ≡ rate
  rate-is = number-decimal rate (omega (arith, rate-is-low))

  -- the digits of the other number write one
  hundred-is-number : IsNumber (codes "100")
  unfolding digits
  hundred-is-number = IsNumber-decimal 100 (omega arith)

  -- it passes all checks
  passes-interest : (tables : TableFile) → PassesAll tables empty_draft (interest_drawn s)
  passes-interest tables kind.Magnitude =
      (omega (arith, rate-is, rate-is-low), omega arith, All-nil IsRateWithin, omega arith)
  passes-interest tables kind.Zero =
      (omega arith, All-nil (λ (later : LaterRate). IsSome later.year × IsSome later.q))
  passes-interest tables kind.Years = λ i within. absurd (omega (arith, within))
  passes-interest tables kind.Order = interest-in-order
  passes-interest tables kind.Twice = λ came. came refl
  passes-interest tables k = tt

  -- so it is a good line
  pub good-interest : (tables : TableFile) → IsGoodLine tables empty_draft (interest_drawn s)
  good-interest tables = record {
    proper = (IsNumber-decimal rate (omega (arith, rate-is-low)), hundred-is-number, All-nil IsProperRate);
    depth = omega arith;
    passes = passes-interest tables;
  }

-- the line of the life behind so many
module _ (sample : ℕ) (rates : List Rate) (lives : List LifeLine) (count s : ℕ)
    (few : count < LIVES) (are : AreLives count lives) where
  -- its table, its age, and the line
  abbrev table : ℕ
  table = drawn TABLES s

  abbrev age : ℕ
  age = YOUNGEST + drawn_second AGES s

  abbrev line : Line
  line = life_drawn (suc count) s

  -- the place of its table in the file
  abbrev place : ℕ
  place = place_of (names_of (drawn_tables sample).tables) (table_name table)

  -- the table is one of those that are drawn
  table-is-low : table < TABLES
  table-is-low = drawn-below TABLES s (omega arith)

  -- the age is not high
  age-is-low : age < YOUNGEST + AGES
  age-is-low = omega (arith, drawn-below AGES (next_state s) (omega arith))

  -- and its digits write it
  age-is : number (decimal age) ≡ age
  age-is = number-decimal age (omega (arith, age-is-low))

  -- the place is one of the file's
  place-low : place < TABLES
  place-low = place-is-low sample table table-is-low

  -- it passes all checks
  passes-life : PassesAll (drawn_tables sample) (drafted rates lives []) line
  passes-life kind.Magnitude = (
    life-is-short (suc count) (omega (arith, few)),
    table-is-short table (omega (arith, table-is-low)),
    omega (arith, age-is, age-is-low),
    omega (arith, few, count-of-lives count lives are),
  )
  passes-life kind.Order = life-in-order rates lives
  passes-life kind.Twice = rw are.names (λ among.
      let next : suc count ≡ 1 + count = omega arith in
      name-is-new 1 count (omega (arith, few)) (rw next at among))
  passes-life kind.NoTable = table-is-known sample table table-is-low
  passes-life kind.NoAge =
      rw age-is (age-is-there sample place age place-low (omega (arith, age-is-low)))
  passes-life k = tt

  -- so it is a good line
  good-life : IsGoodLine (drawn_tables sample) (drafted rates lives []) line
  good-life = record {
    proper = (
      life-is-name (suc count) (omega (arith, few)),
      table-is-name table (omega (arith, table-is-low)),
      IsNumber-decimal age (omega (arith, age-is-low)),
    );
    depth = omega arith;
    passes = passes-life;
  }

  -- what it declares
  abbrev declared : LifeLine
  declared = record { name = life_name (suc count); life = record { table = place; age = number (decimal age) } }

  -- the lives with that one
  lives-push : AreLives (suc count) (lives ++ declared ∷ [])
  lives-push =
      let next : 1 + count ≡ suc count = omega arith in
      record {
        names = map_push (λ (l : LifeLine). l.name) lives declared
            ∙ ap (λ names. names ++ life_name (suc count) ∷ []) are.names
            ∙ ap (λ n. names_from 1 count ++ life_name n ∷ []) (sym next) ∙ sym (names-push 1 count);
        each = All-push IsSampleLife lives declared are.each
            (record { table = place-low; age = omega (arith, age-is, age-is-low) });
      }

  -- where the lines behind it have no fault, neither have they with it
  pub ends-life : (lines : List Line)
      → ((more : List LifeLine) → AreLives (suc count) more → Ends (drawn_tables sample) (drafted rates more []) lines)
      → Ends (drawn_tables sample) (drafted rates lives []) (line ∷ lines)
  unfolding with_line
  ends-life lines rest =
      ends-line (drawn_tables sample) (drafted rates lives []) line lines good-life
      (rest (lives ++ declared ∷ []) lives-push)

-- and so for all lives that are left
pub ends-lives : (sample : ℕ) (rates : List Rate) (lines : List Line) (left count s : ℕ) (lives : List LifeLine)
    → count + left ≡ LIVES → AreLives count lives
    → ((all : List LifeLine) → AreLives LIVES all → Ends (drawn_tables sample) (drafted rates all []) lines)
    → Ends (drawn_tables sample) (drafted rates lives []) (lines_drawn life_drawn left (suc count) s ++ lines)
unfolding lines_drawn
ends-lives sample rates lines zero count s lives sum are rest =
    let all : count ≡ LIVES = omega (arith, sum) in rest lives (subst (λ n. AreLives n lives) all are)
ends-lives sample rates lines (suc left) count s lives sum are rest =
    ends-life sample rates lives count s (omega (arith, sum)) are
    (lines_drawn life_drawn left (suc (suc count)) (state_behind_two s) ++ lines)
    (λ more are_more.
    ends-lives sample rates lines left (suc count) (state_behind_two s) more (omega (arith, sum)) are_more rest)
