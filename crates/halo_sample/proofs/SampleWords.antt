-- The lines of the contract file are those of its words.
use Rattle.std.proofs.Common.{◌≡◌, ℕ, zero, suc, ◌+◌, ◌*◌, List, [], ◌∷◌, ◌++◌, append_assoc, ap, refl, sym, ◌∙◌}
use Rattle.std.specs.Prelude.{codes, flat_map}
use Rattle.std.specs.Fmt.{decimal}
use Rattle.std.proofs.lemmas.Grind.{flat_map-append}
use Rattle.halo_sample.specs.declared.contract.TheConstants.{AGES, LIVES, PAYS, YOUNGEST}
use Rattle.halo_sample.specs.declared.tables.TheConstants.{LAST_AGE, TABLES}
use Rattle.halo_sample.specs.Generator.{drawn, drawn_second, next_state, state_behind_pairs, state_behind_two}
use Rattle.halo_sample.specs.Contract.{contract_text, interest_line, last_lines, life_line, lines_from, pay_line}
use Rattle.halo_sample.specs.Laws.{ContractIsWords}
use Rattle.halo_sample.specs.Words.{contract_words, interest_words, last_words, life_words, pay_words, word_line, words_from}

interest-words : (s : ℕ) → interest_line s ≡ word_line (interest_words s)
interest-words s = simp append_assoc refl

four-words : (a b c d : List ℕ)
    → a ++ codes " " ++ b ++ codes " " ++ c ++ codes " " ++ d ++ codes "\n" ≡ word_line (a ∷ b ∷ c ∷ d ∷ [])
four-words a b c d = simp append_assoc refl

-- a word that begins behind a space
behind-space : (before word : List ℕ)
    → before ++ codes " t" ++ word ≡ before ++ codes " " ++ (codes "t" ++ word)
behind-space before word =
    append_assoc before (codes " t") word ∙ sym (append_assoc before (codes " ") (codes "t" ++ word))

life-words : (number s : ℕ) → life_line number s ≡ word_line (life_words number s)
life-words number s =
    let table = decimal (drawn TABLES s) in
    let age = decimal (YOUNGEST + drawn_second AGES s) in
    ap (λ text. text ++ codes " " ++ age ++ codes "\n") (behind-space (codes "life p" ++ decimal number) table)
    ∙ four-words (codes "life") (codes "p" ++ decimal number) (codes "t" ++ table) age

pay-words : (s : ℕ) → pay_line s ≡ word_line (pay_words s)
pay-words s = simp append_assoc refl

-- so many lines
lines-words : (line : ℕ → ℕ → List ℕ) (words : ℕ → ℕ → List (List ℕ))
    → ((number s : ℕ) → line number s ≡ word_line (words number s)) → (left number s : ℕ)
    → lines_from line left number s ≡ flat_map word_line (words_from words left number s)
unfolding lines_from words_from
lines-words line words each zero number s = refl
lines-words line words each (suc left) number s =
    ap (λ text. text ++ lines_from line left (suc number) (state_behind_two s)) (each number s)
    ∙ ap (λ text. word_line (words number s) ++ text)
    (lines-words line words each left (suc number) (state_behind_two s))

text-words : (s : ℕ) → contract_text s ≡ flat_map word_line (contract_words s)
text-words s =
    let behind = state_behind_pairs LIVES (next_state s) in
    let lives = words_from life_words LIVES 1 (next_state s) in
    let pays = words_from (λ _. pay_words) PAYS 1 behind in
    let begun = interest_words s ∷ lives in
    let pay_lines = lines_from (λ _. pay_line) PAYS 1 behind in
    ap (λ text. text ++ lines_from life_line LIVES 1 (next_state s) ++ pay_lines ++ last_lines) (interest-words s)
    ∙ ap (λ text. word_line (interest_words s) ++ text ++ pay_lines ++ last_lines)
    (lines-words life_line life_words life-words LIVES 1 (next_state s))
    ∙ ap (λ text. flat_map word_line begun ++ text ++ last_lines)
    (lines-words (λ _. pay_line) (λ _. pay_words) (λ _. pay-words) PAYS 1 behind)
    ∙ ap (λ text. text ++ last_lines) (sym (flat_map-append word_line begun pays))
    ∙ sym (flat_map-append word_line (begun ++ pays) last_words)

pub contract-is-words : ContractIsWords
contract-is-words number = text-words (state_behind_pairs (TABLES * LAST_AGE) number)
