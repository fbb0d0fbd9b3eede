-- Why words are no line.
use Rattle.std.proofs.Common.{◌≡◌, ◌≢◌, ℕ, ◌+◌, ◌*◌, ◌≤◌, List, [], ◌∷◌, ap, arith, get_or}
use Rattle.std.specs.Prelude.{All, codes}
use Rattle.halo_text.specs.Number.{IsNumber}
use Rattle.halo_lex.specs.Lexeme.{IsLongName}
use Rattle.halo_symbol.specs.Bytes.{body_bytes, symbol_bytes}
use Rattle.halo_symbol.specs.Nesting.{nest_body}
use Rattle.halo_symbol.specs.Proper.{IsPlainName, IsProperBody, IsProperSymbol}
use Rattle.halo_symbol.specs.Symbol.{Symbol}
use Rattle.halo_symbol.specs.Tree.{Body}
use Rattle.halo_syntax.specs.Line.{LaterRate, Line, interest, life, ties, pay, premium, reserve, fraction_word, line_words, rate_words, rule_word}
use Rattle.halo_syntax.specs.LineReading.{NoLineTo, keyword, nest_line}
use Rattle.halo_syntax.specs.ProperLine.{IsProperLine, IsProperRate}
use Rattle.halo_syntax.specs.declared.form.Form.{Form}
use Rattle.halo_syntax.specs.declared.form.Form.TheVariants as form
use Rattle.halo_contract.specs.declared.ties.Ties.{Ties}

-- a number for the first word of a line, which differs where lines begin differently
abbrev pub word_code : List (List ℕ) → ℕ
word_code [] = 0
word_code (word ∷ words) = get_or word 0 0 * 256 + get_or word 1 0

-- what stands behind the first word
pub behind : {v w : List ℕ} {vs ws : List (List ℕ)} → v ∷ vs ≡ w ∷ ws → vs ≡ ws
behind e = cc

-- the first word
pub first_is : {v w : List ℕ} {vs ws : List (List ℕ)} → v ∷ vs ≡ w ∷ ws → v ≡ w
first_is e = cc

-- a line begins with the word of its form
pub no_keyword : (depth : ℕ) (first : List ℕ) (words : List (List ℕ)) → ((f : Form) → first ≢ keyword f)
    → NoLineTo depth (first ∷ words)
unfolding NoLineTo
no_keyword depth first words none line deep s = go line s.words_are
  where
    go : (l : Line) → first ∷ words ≡ line_words l → ⊥
    go (interest p q rates) e = none form.Interest (first_is e)
    go (life name table age) e = none form.Life (first_is e)
    go (ties r) e = none form.Ties (first_is e)
    go (pay amount symbol) e = none form.Pay (first_is e)
    go (premium status) e = none form.Premium (first_is e)
    go (reserve time names) e = none form.Reserve (first_is e)

-- behind `interest` a fraction and pairs have to come
pub no_interest : (depth : ℕ) (words : List (List ℕ))
    → ((p q : List ℕ) (rates : List LaterRate) → IsNumber p → IsNumber q → All IsProperRate rates → words
    ≡ fraction_word p q ∷ rate_words rates → ⊥)
    → NoLineTo depth (keyword form.Interest ∷ words)
unfolding NoLineTo
no_interest depth words none line deep s = go line s.proper s.words_are
  where
    go : (l : Line) → IsProperLine l → codes "interest" ∷ words ≡ line_words l → ⊥
    go (interest p q rates) proper e = none p q rates proper.0 proper.1 proper.2 (behind e)
    go l proper e = absurd (omega (arith, ap word_code e))

-- behind `life` two names and a number have to come
pub no_life : (depth : ℕ) (words : List (List ℕ))
    → ((name table age : List ℕ) → IsPlainName name → IsLongName table → IsNumber age → words
    ≡ name ∷ table ∷ age ∷ [] → ⊥)
    → NoLineTo depth (keyword form.Life ∷ words)
unfolding NoLineTo
no_life depth words none line deep s = go line s.proper s.words_are
  where
    go : (l : Line) → IsProperLine l → codes "life" ∷ words ≡ line_words l → ⊥
    go (life name table age) proper e = none name table age proper.0 proper.1 proper.2 (behind e)
    go l proper e = absurd (omega (arith, ap word_code e))

-- behind `ties` a rule has to come
pub no_ties : (depth : ℕ) (words : List (List ℕ)) → ((r : Ties) → words ≡ rule_word r ∷ [] → ⊥)
    → NoLineTo depth (keyword form.Ties ∷ words)
unfolding NoLineTo
no_ties depth words none line deep s = go line s.words_are
  where
    go : (l : Line) → codes "ties" ∷ words ≡ line_words l → ⊥
    go (ties r) e = none r (behind e)
    go l e = absurd (omega (arith, ap word_code e))

-- behind `pay` a number and a symbol have to come
pub no_pay : (depth : ℕ) (words : List (List ℕ))
    → ((amount : List ℕ) (symbol : Symbol) → nest_body symbol.body ≤ depth → IsNumber amount → IsProperSymbol symbol →
    words ≡ amount ∷ symbol_bytes symbol ∷ [] → ⊥)
    → NoLineTo depth (keyword form.Pay ∷ words)
unfolding NoLineTo
no_pay depth words none line deep s = go line deep s.proper s.words_are
  where
    go : (l : Line) → nest_line l ≤ depth → IsProperLine l → codes "pay" ∷ words ≡ line_words l → ⊥
    go (pay amount symbol) deep proper e = none amount symbol deep proper.0 proper.1 (behind e)
    go l deep proper e = absurd (omega (arith, ap word_code e))

-- behind `premium` a status has to come
pub no_premium : (depth : ℕ) (words : List (List ℕ))
    → ((status : Body) → nest_body status ≤ depth → IsProperBody status → words ≡ body_bytes status ∷ [] → ⊥)
    → NoLineTo depth (keyword form.Premium ∷ words)
unfolding NoLineTo
no_premium depth words none line deep s = go line deep s.proper s.words_are
  where
    go : (l : Line) → nest_line l ≤ depth → IsProperLine l → codes "premium" ∷ words ≡ line_words l → ⊥
    go (premium status) deep proper e = none status deep proper (behind e)
    go l deep proper e = absurd (omega (arith, ap word_code e))

-- behind `reserve` a number and names have to come
pub no_reserve : (depth : ℕ) (words : List (List ℕ))
    → ((time : List ℕ) (names : List (List ℕ)) → IsNumber time → All IsLongName names → words ≡ time ∷ names → ⊥)
    → NoLineTo depth (keyword form.Reserve ∷ words)
unfolding NoLineTo
no_reserve depth words none line deep s = go line s.proper s.words_are
  where
    go : (l : Line) → IsProperLine l → codes "reserve" ∷ words ≡ line_words l → ⊥
    go (reserve time names) proper e = none time names proper.0 proper.1 (behind e)
    go l proper e = absurd (omega (arith, ap word_code e))
