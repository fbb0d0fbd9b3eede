-- The lines of the contract file of a sample, each with its words.
use Rattle.std.specs.Prelude.{ℕ, zero, suc, ◌+◌, ◌*◌, List, [], ◌∷◌, ◌++◌, codes}
use Rattle.std.specs.Fmt.{decimal}
use Rattle.std.specs.List.{join_with_byte}
use Rattle.halo_sample.specs.declared.contract.TheConstants.{AGES, AMOUNTS, LIVES, PAYS, RATES, SYMBOLS, YOUNGEST}
use Rattle.halo_sample.specs.declared.tables.TheConstants.{LAST_AGE, TABLES}
use Rattle.halo_sample.specs.Contract.{symbol_text}
use Rattle.halo_sample.specs.Generator.{drawn, drawn_second, next_state, state_behind_pairs, state_behind_two}

-- the line of some words, with a space between each two
abbrev pub word_line : List (List ℕ) → List ℕ
word_line words = join_with_byte 32 words ++ codes "\n"

-- the words of the interest, of the life with a number, and of a pay
abbrev pub interest_words : ℕ → List (List ℕ)
interest_words s = codes "interest" ∷ (decimal (1 + drawn RATES s) ++ codes "/100") ∷ []

abbrev pub life_words : ℕ → ℕ → List (List ℕ)
life_words number s =
    codes "life" ∷ (codes "p" ++ decimal number) ∷ (codes "t" ++ decimal (drawn TABLES s))
    ∷ decimal (YOUNGEST + drawn_second AGES s) ∷ []

abbrev pub pay_words : ℕ → List (List ℕ)
pay_words s =
    codes "pay" ∷ decimal (1 + drawn AMOUNTS s) ∷ symbol_text (drawn_second SYMBOLS s) ∷ []

-- the words of so many lines from a number on, for each of which two numbers are drawn
unfoldable pub words_from : (ℕ → ℕ → List (List ℕ)) → ℕ → ℕ → ℕ → List (List (List ℕ))
words_from words zero number s = []
words_from words (suc left) number s =
    words number s ∷ words_from words left (suc number) (state_behind_two s)

-- the words of the premium and of the reserves
abbrev pub last_words : List (List (List ℕ))
last_words =
    (codes "premium" ∷ codes "bar(p1:p2):<30>" ∷ [])
    ∷ (codes "reserve" ∷ codes "5" ∷ codes "p1" ∷ codes "p2" ∷ codes "p3" ∷ codes "p4"
    ∷ codes "p5" ∷ codes "p6" ∷ codes "p7" ∷ codes "p8" ∷ [])
    ∷ (codes "reserve" ∷ codes "10" ∷ codes "p2" ∷ codes "p3" ∷ codes "p4" ∷ [])
    ∷ []

-- the words of the contract file whose first draw is from this state
abbrev pub contract_words : ℕ → List (List (List ℕ))
contract_words s =
    (interest_words s ∷ words_from life_words LIVES 1 (next_state s))
    ++ words_from (λ _. pay_words) PAYS 1 (state_behind_pairs LIVES (next_state s))
    ++ last_words

-- and of that of a number
abbrev pub sample_words : ℕ → List (List (List ℕ))
sample_words number = contract_words (state_behind_pairs (TABLES * LAST_AGE) number)
