-- The contract file of a sample is the text of the lines that are drawn for it.
use Rattle.std.proofs.Common.{◌≡◌, ℕ, zero, suc, ◌+◌, ◌*◌, ◌<◌, List, [], ◌∷◌, ◌++◌, append_assoc, ap, ap₂, arith, map, refl, sym, ◌∙◌}
use Rattle.std.specs.Prelude.{codes, flat_map}
use Rattle.std.specs.Fmt.{decimal}
use Rattle.std.proofs.lemmas.List.{get_or-map, map-append}
use Rattle.std.proofs.lemmas.List.Folds.{flat_map-map}
use Rattle.halo_symbol.specs.Bytes.{symbol_bytes}
use Rattle.halo_symbol.specs.Symbol.{Symbol}
use Rattle.halo_syntax.specs.Line.{Line, line_words}
use Rattle.halo_spell.specs.ContractText.{lines_text}
use Rattle.halo_sample.specs.declared.contract.TheConstants.{AMOUNTS, LIVES, PAYS, RATES, SYMBOLS}
use Rattle.halo_sample.specs.declared.tables.TheConstants.{LAST_AGE, TABLES}
use Rattle.halo_sample.specs.Contract.{symbol_text}
use Rattle.halo_sample.specs.Generator.{drawn, drawn_second, next_state, state_behind_pairs, state_behind_two}
use Rattle.halo_sample.specs.Sample.{sample_contract}
use Rattle.halo_sample.specs.Words.{contract_words, interest_words, last_words, life_words, pay_words, word_line, words_from}
use Rattle.halo_sample.proofs.SampleTables.{drawn-below}
use Rattle.halo_sample.proofs.SampleWords.{contract-is-words}
use Rattle.halo_sampled.specs.DrawnLines.{contract_drawn, drawn_lines, drawn_symbols, interest_drawn, last_drawn, life_drawn, lines_drawn, on_last, pay_drawn, symbol_at}

-- the symbol that is drawn is written so
symbol-written : (choice : ℕ) → choice < SYMBOLS → symbol_bytes (symbol_at choice) ≡ symbol_text choice
unfolding symbol_text
symbol-written choice known = sym (get_or-map symbol_bytes drawn_symbols choice on_last [] known)

-- the words of the line of the interest are those of the sample
interest-written : (s : ℕ) → line_words (interest_drawn s) ≡ interest_words s
interest-written s =
    ap (λ word. codes "interest" ∷ word ∷ [])
    (append_assoc (decimal (1 + drawn RATES s)) (codes "/") (codes "100"))

-- and so are those of a pay
pay-written : (s : ℕ) → line_words (pay_drawn s) ≡ pay_words s
pay-written s =
    ap (λ word. codes "pay" ∷ decimal (1 + drawn AMOUNTS s) ∷ word ∷ [])
    (symbol-written (drawn_second SYMBOLS s) (drawn-below SYMBOLS (next_state s) (omega arith)))

-- so are those of so many lines
lines-written : (line : ℕ → ℕ → Line) (words : ℕ → ℕ → List (List ℕ))
    → ((number s : ℕ) → line_words (line number s) ≡ words number s) → (left number s : ℕ)
    → map line_words (lines_drawn line left number s) ≡ words_from words left number s
unfolding lines_drawn words_from
lines-written line words each zero number s = refl
lines-written line words each (suc left) number s =
    ap₂ (λ w ws. w ∷ ws) (each number s) (lines-written line words each left (suc number) (state_behind_two s))

-- and those of all lines
words-written : (s : ℕ) → map line_words (contract_drawn s) ≡ contract_words s
words-written s =
    let behind = state_behind_pairs LIVES (next_state s) in
    let lives = lines_drawn life_drawn LIVES 1 (next_state s) in
    let pays = lines_drawn (λ _. pay_drawn) PAYS 1 behind in
    let life_lines = words_from life_words LIVES 1 (next_state s) in
    let pay_lines = words_from (λ _. pay_words) PAYS 1 behind in
    let same_lives : map line_words lives ≡ life_lines =
    lines-written life_drawn life_words (λ number t. refl) LIVES 1 (next_state s) in
    let same_pays : map line_words pays ≡ pay_lines =
    lines-written (λ _. pay_drawn) (λ _. pay_words) (λ number t. pay-written t) PAYS 1 behind in
    ap₂ (λ w ws. w ∷ ws) (interest-written s)
    (map-append line_words lives (pays ++ last_drawn)
    ∙ ap (λ ws. map line_words lives ++ ws) (map-append line_words pays last_drawn)
    ∙ ap₂ (λ ls ps. ls ++ (ps ++ last_words)) same_lives same_pays
    ∙ sym (append_assoc life_lines pay_lines last_words))

-- so the contract file is the text of these lines
pub contract-is-lines : (number : ℕ) → sample_contract number ≡ lines_text (drawn_lines number)
contract-is-lines number =
    contract-is-words number
    ∙ ap (flat_map word_line) (sym (words-written (state_behind_pairs (TABLES * LAST_AGE) number)))
    ∙ flat_map-map word_line line_words (drawn_lines number)
