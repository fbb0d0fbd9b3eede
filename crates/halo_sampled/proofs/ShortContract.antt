-- The contract file of a sample is short.
use Rattle.std.proofs.Common.{ℕ, zero, suc, ◌+◌, ◌*◌, ◌<◌, ◌≤◌, List, [], ◌++◌, arith, length, length-append, lit<, rules}
use Rattle.std.specs.Fmt.{decimal}
use Rattle.std.proofs.lemmas.Fmt.{length-decimal-le}
use Rattle.std.proofs.lemmas.List.Elements.{All-from_recursion, All-get_or}
use Rattle.halo_sample.specs.declared.contract.TheConstants.{AGES, AMOUNTS, LIVES, PAYS, RATES, SYMBOLS, YOUNGEST}
use Rattle.halo_sample.specs.declared.tables.TheConstants.{LAST_AGE, TABLES}
use Rattle.halo_sample.specs.Contract.{contract_text, interest_line, last_lines, life_line, lines_from, pay_line, symbol_text, symbols}
use Rattle.halo_sample.specs.Generator.{drawn, drawn_second, next_state, state_behind_pairs, state_behind_two}
use Rattle.halo_sample.specs.Sample.{sample_contract}
use Rattle.halo_sample.proofs.SampleTables.{drawn-below}

-- the digits of a small number are few
pub few-digits : (n : ℕ) → n < 1000000 → length (decimal n) ≤ 6
few-digits n small = length-decimal-le 6 n (lit< tt) small (omega arith)

-- a symbol is short
short-symbol : (choice : ℕ) → choice < SYMBOLS → length (symbol_text choice) ≤ 40
unfolding symbol_text
short-symbol choice known =
    All-get_or (λ text. length text ≤ 40) symbols choice [] known
    (All-from_recursion (λ text. length text ≤ 40) symbols (search rules))

-- so is the line of the interest
short-interest : (s : ℕ) → length (interest_line s) ≤ 100
short-interest s =
    let rate = few-digits (1 + drawn RATES s) (omega (arith, drawn-below RATES s (omega arith))) in
    simp length-append (omega (arith, rate))

-- and that of a life
short-life : (number s : ℕ) → number < 1000 → length (life_line number s) ≤ 100
short-life number s low =
    let name = few-digits number (omega (arith, low)) in
    let table = few-digits (drawn TABLES s) (omega (arith, drawn-below TABLES s (omega arith))) in
    let age = few-digits (YOUNGEST + drawn_second AGES s)
    (omega (arith, drawn-below AGES (next_state s) (omega arith))) in
    simp length-append (omega (arith, name, table, age))

-- and that of a pay
short-pay : (s : ℕ) → length (pay_line s) ≤ 100
short-pay s =
    let amount = few-digits (1 + drawn AMOUNTS s) (omega (arith, drawn-below AMOUNTS s (omega arith))) in
    let symbol = short-symbol (drawn_second SYMBOLS s) (drawn-below SYMBOLS (next_state s) (omega arith)) in
    simp length-append (omega (arith, amount, symbol))

-- so many lines are so short
short-lines : (line : ℕ → ℕ → List ℕ) → ((number s : ℕ) → number < 1000 → length (line number s) ≤ 100)
    → (left number s : ℕ) → number + left ≤ 1000 → length (lines_from line left number s) ≤ left * 100
unfolding lines_from
short-lines line each zero number s low = omega arith
short-lines line each (suc left) number s low =
    let here = each number s (omega (arith, low)) in
    let rest = short-lines line each left (suc number) (state_behind_two s) (omega (arith, low)) in
    simp length-append (omega (arith, here, rest))

-- so the file is short, from whichever state it is drawn
short-contract : (s : ℕ) → length (contract_text s) ≤ 65536
short-contract s =
    let behind = state_behind_pairs LIVES (next_state s) in
    let lives = lines_from life_line LIVES 1 (next_state s) in
    let pays = lines_from (λ _. pay_line) PAYS 1 behind in
    let short_lives = short-lines life_line short-life LIVES 1 (next_state s) (omega arith) in
    let short_pays = short-lines (λ _. pay_line) (λ _ t low. short-pay t) PAYS 1 behind (omega arith) in
    omega (
      arith,
      short-interest s,
      short_lives,
      short_pays,
      length-append (interest_line s) lives,
      length-append (interest_line s ++ lives) pays,
      length-append (interest_line s ++ lives ++ pays) last_lines,
    )

-- and for whichever number
pub contract-is-short : (number : ℕ) → length (sample_contract number) ≤ 65536
contract-is-short number = short-contract (state_behind_pairs (TABLES * LAST_AGE) number)
